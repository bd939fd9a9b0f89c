-- What a step of the access-matrix machine writes: a fact about a state that the writes of a step keep is kept by the step. Such a fact
-- has to be kept by writes of an own part, of the words of threads, of objects, permissions, memory, pools and domains, of who waits, and of
-- time, each only where
-- the step makes one.
use Rattle.um_refinement.proofs.Words.{◌==◌, ◌||◌, Waiter, ◌≡◌, ne_eqb, arith, ap, ℕ, suc, Bool, true, false, List, ◌∷◌, [], Option, Some, None, refl, ◌∙◌, ◌&&◌, if◌then◌else◌, slice_set, Kind, Mode, Partitions, Object, Pending, Life, Thread, Edit, Effect, effect, wrote, Next, gone, held, went, Given, with_bytes, Steps, to_addr, to_thread, State, vacant, object_at, thread_at, with_object, with_thread, list_all, bytes-leave, OfEach, effects_of, next_of, woken-by, Act, addr_of, Status, Leftover, Cost, is_gone, all-wrote, changed-same, held-same}
use Rattle.um_base.specs.declared.limits.TheConstants.{FUTEX_CELL, JOIN_CELL}
use Rattle.um_machine.specs.State.{no_image, with_waiters}
use Rattle.um_machine.specs.Writes.{Effects, drops, edited, only, was_given}
use Rattle.um_machine.specs.Table as T
pub use Rattle.um_invariants.proofs.Facts.{each-of}
use Rattle.um_machine.specs.Table.{effects, continues, came_with}

-- what the word of a thread says of it
pub record Said : Type 0 where
  pub life : Life
  pub doomed : Bool
  pub mode : Mode
  pub domain : ℕ
  pub aborted : Bool
  pub suspended : Bool

abbrev pub said_of : Thread → Said
said_of me = record { life = me.life; doomed = me.doomed; mode = me.mode; domain = me.domain; aborted = me.aborted; suspended = me.suspended }

-- what an object keeps in all its life
pub record Lasting : Type 0 where
  pub kind : Option Kind
  pub cost : Option Cost

abbrev pub lasting_of : Object → Lasting
lasting_of o = record { kind = o.kind; cost = o.cost }

-- what a step may write beside the own part of its thread: of an object its marks and contents, its status, or all of it
pub data Part : Type 0 where
  words : Part
  objects : Part
  statuses : Part
  births : Part
  pairs : Part
  memory : Part
  pools : Part
  domains : Part
  queues : Part
  times : Part

-- a pair is given, unless the object is gone; and one is dropped
abbrev pub with_given_if : Bool → State → ℕ → ℕ → State
with_given_if gone s who x = wrote (only (was_given (if gone then Given.Gone else Given.Done)) (Effect.pair who x true) ∷ []) s

abbrev pub with_given : State → ℕ → ℕ → State
with_given s who x = with_given_if (is_gone (object_at s x).status) s who x

abbrev pub with_left : Leftover → State → ℕ → ℕ → State
with_left left s who x = wrote (drops who x left) s

abbrev pub with_dropped : State → ℕ → ℕ → State
with_dropped s who x = with_left (T.dropped s who x) s who x

-- an object, with the thread that cleans it
abbrev pub with_cleaner : State → ℕ → ℕ → State
with_cleaner s t x = effect (Effect.object x (Edit.cleaned (to_thread t))) s

-- the state after a step that says this
abbrev pub after_saying : State → ℕ → ℕ → Pending → Act → Steps → State
after_saying s t x q act rest = went rest (wrote (effects s t x q act) s) t (continues s.image t (thread_at s t) x q act (came_with s t q))

-- an object is reserved
abbrev pub reserves_at : State → ℕ → ℕ → Kind → Steps → State
reserves_at m t x kind rest = after_saying m t x (Pending.Reserve kind) (Act.Reserve kind (Some (to_addr (addr_of m.image x)))) rest

pub reserved-is : (m : State) (t n : ℕ) (kind : Kind) (rest : Steps) → T.after m t (suc n) (Pending.Reserve kind) rest ≡ reserves_at m t (suc n) kind rest
reserved-is m t n kind rest =
    ap (λ b. after_saying m t (suc n) (Pending.Reserve kind) (Act.Reserve kind (if b then None else Some (to_addr (addr_of m.image (suc n))))) rest) (ne_eqb (suc n) 0 (λ e. absurd (omega arith)))

pub reserved-objects : (m : State) (t n : ℕ) (kind : Kind) (rest : Steps)
    → (T.after m t (suc n) (Pending.Reserve kind) rest).objects ≡ slice_set m.objects (suc n) (record vacant { kind = Some kind; status = Status.Reserved; cost = T.cost_of (thread_at m t).pool 64 })
reserved-objects m t n kind rest = ap (λ (s : State). s.objects) (reserved-is m t n kind rest)

-- Facts of what threads share: each step keeps what its writes keep.

-- each of these writes is one of some kinds
abbrev pub AreAll : (Effect → Bool) → Effects → Type 0
AreAll is ws = list_all (λ (w : Bool × Effect). is w.1) ws ≡ true

-- how a thread goes on writes threads alone
went-so : (Same : State → Type 0) → ((s : State) (threads : List Thread) → Same s → Same (record s { threads = threads }))
    → (left : Steps) (s : State) (t : ℕ) (next : Next) → Same s → Same (went left s t next)
went-so Same on left s t Next.stays k = k
went-so Same on left s t (Next.begins None) k = k
went-so Same on left s t (Next.resumes None) k = k
went-so Same on left s t next k = on s (slice_set s.threads t (gone left s t next (thread_at s t))) k

pub shared-after : (Same : State → Type 0) (F : Effect → Type 0) → ((e : Effect) (s : State) → F e → Same s → Same (effect e s))
    → ((s : State) (threads : List Thread) → Same s → Same (record s { threads = threads }))
    → (m : State) (t x : ℕ) (q : Pending) (rest : Steps) → OfEach F (effects_of m t x q) → Same m → Same (T.after m t x q rest)
shared-after Same F keeps on m t x q rest each first =
    let ws = effects_of m t x q in went-so Same on rest (wrote ws m) t (next_of m t x q) (all-wrote Same F keeps ws m each first)

-- what is read of a state stays at a step whose writes all leave it
pub reads-after : {A : Type 0} (read : State → A) (leaves : Effect → Bool) → ((a : A) (e : Effect) (s : State) → leaves e ≡ true → read s ≡ a → read (effect e s) ≡ a)
    → ((s : State) (threads : List Thread) → read (record s { threads = threads }) ≡ read s)
    → (m : State) (t x : ℕ) (q : Pending) (rest : Steps) → AreAll leaves (effects_of m t x q) → read (T.after m t x q rest) ≡ read m
reads-after read leaves keeps on m t x q rest h =
    shared-after (λ s. read s ≡ read m) (λ e. leaves e ≡ true) (keeps (read m)) (λ s threads k. on s threads ∙ k) m t x q rest
    (each-of leaves (λ e. leaves e ≡ true) (λ e h. h) (effects_of m t x q) h) refl

-- whether a cell is that of the joins or of the futexes
abbrev pub is_queue : ℕ → Bool
is_queue c = (c == JOIN_CELL) || (c == FUTEX_CELL)

-- a Bool as a fact, which computes
abbrev pub Yes : Bool → Type 0
Yes true = Unit {0}
Yes false = ⊥

-- what a step writes is the same kinds of write in each state, and so in this one
abbrev sample : State
sample = record { image = no_image; threads = []; objects = []; pairs = []; domains = []; memory = []; stacks = []; pools = []; now = 0; armed = []; joins = []; futexes = [] }

module _ (may : Part → Bool) where
  -- a write that may be made
  abbrev may_edit : Edit → Bool
  may_edit (Edit.becomes status) = may statuses
  may_edit (Edit.reserved kind cost) = may births
  may_edit Edit.vacates = may births
  may_edit edit = may objects

  -- those who wait in a cell, which is of the joins, of the futexes, or of an object
  abbrev may_cell : Bool → Bool
  may_cell queue = if queue then may queues else may objects

  abbrev may_make : Effect → Bool
  may_make (Effect.wakes woken) = true
  may_make (Effect.moves who d) = may words
  may_make (Effect.dooms who) = may words
  may_make (Effect.flags who flag) = may words
  may_make (Effect.cuts who) = true
  may_make (Effect.starts who thread) = may words
  may_make (Effect.pair who x there) = may pairs
  may_make (Effect.object x edit) = may_edit edit
  may_make (Effect.bytes a bs) = may memory
  may_make (Effect.takes pool size) = may pools
  may_make (Effect.returns cost) = may pools
  may_make (Effect.edits d ps) = may domains
  may_make (Effect.waiters c ws) = may_cell (is_queue c)
  may_make (Effect.arms deadline) = may times
  may_make (Effect.passes now) = may times

  abbrev may_all : Effects → Bool
  may_all ws = list_all (λ (w : Bool × Effect). may_make w.1) ws

  -- the word of a thread that it writes as it goes on
  abbrev may_go : Next → Bool
  may_go (Next.enters script) = may words
  may_go Next.exits = may words
  may_go (Next.fatal reason) = may words
  may_go next = true

  -- the writes that a step makes are those that may be made: of a timeout or a cut in any cell
  abbrev pub Makes : Pending → Type 0
  Makes (Pending.TimeOut who) = Yes (may queues && may objects)
  Makes (Pending.Cut who) = Yes (may queues && may objects)
  Makes q = Yes (may_all (effects_of sample 0 0 q) && may_go (next_of sample 0 0 q))

  -- a fact about states that these writes keep
  pub record Keeping (Same : State → Type 0) : Type 0 where
    pub own : (s : State) (u : ℕ) (th : Thread) → said_of th ≡ said_of (thread_at s u) → Same s → Same (with_thread s u th)
    pub word : Yes (may words) → (s : State) (u : ℕ) (th : Thread) → Same s → Same (with_thread s u th)
    pub object : Yes (may objects) → (s : State) (x : ℕ) (o : Object) → lasting_of o ≡ lasting_of (object_at s x) → o.status ≡ (object_at s x).status → Same s → Same (with_object s x o)
    pub status : Yes (may statuses) → (s : State) (x : ℕ) (o : Object) → lasting_of o ≡ lasting_of (object_at s x) → Same s → Same (with_object s x o)
    pub birth : Yes (may births) → (s : State) (x : ℕ) (o : Object) → Same s → Same (with_object s x o)
    pub pair : Yes (may pairs) → (s : State) (u x : ℕ) (there : Bool) → Same s → Same (T.paired s u x there)
    pub bytes : Yes (may memory) → (s : State) (a : ℕ) (bs : List ℕ) → Same s → Same (with_bytes s a bs)
    pub pool : Yes (may pools) → (s : State) (left : List ℕ) → Same s → Same (record s { pools = left })
    pub queue : Yes (may queues) → (s : State) (joins futexes : List Waiter) → Same s → Same (record s { joins = joins; futexes = futexes })
    pub clock : Yes (may times) → (s : State) (now : ℕ) (armed : List ℕ) → Same s → Same (record s { now = now; armed = armed })
    pub parts : Yes (may domains) → (s : State) (d : ℕ) (ps : Option Partitions) → Same s → Same (record s { domains = slice_set s.domains d ps })

-- what is read of a state stays, where it is read of no thread, object or memory, and the other writes that may be made leave it
pub reads-keeping : {A : Type 0} (may : Part → Bool) (read : State → A) (v : A)
    → ((s : State) (threads : List Thread) → read (record s { threads = threads }) ≡ read s) → ((s : State) (objects : List Object) → read (record s { objects = objects }) ≡ read s)
    → ((s : State) (bytes : List ℕ) → (read (record s { memory = bytes }) ≡ read s) × (read (record s { stacks = bytes }) ≡ read s))
    → (Yes (may pairs) → (s : State) (u x : ℕ) (there : Bool) → read (T.paired s u x there) ≡ read s) → (Yes (may pools) → (s : State) (left : List ℕ) → read (record s { pools = left }) ≡ read s)
    → (Yes (may domains) → (s : State) (d : ℕ) (ps : Option Partitions) → read (record s { domains = slice_set s.domains d ps }) ≡ read s)
    → (Yes (may queues) → (s : State) (joins futexes : List Waiter) → read (record s { joins = joins; futexes = futexes }) ≡ read s)
    → (Yes (may times) → (s : State) (now : ℕ) (armed : List ℕ) → read (record s { now = now; armed = armed }) ≡ read s)
    → Keeping may (λ s. read s ≡ v)
reads-keeping may read v own held stored paired pooled parted queued timed =
    record {
      own = λ s u th e k. own s (slice_set s.threads u th) ∙ k;
      word = λ may s u th k. own s (slice_set s.threads u th) ∙ k;
      object = λ may s x o e q k. held s (slice_set s.objects x o) ∙ k;
      status = λ may s x o e k. held s (slice_set s.objects x o) ∙ k;
      birth = λ may s x o k. held s (slice_set s.objects x o) ∙ k;
      pair = λ may s u x there k. paired may s u x there ∙ k;
      bytes = λ may s a bs k. bytes-leave read (λ z bytes. (stored z bytes).0) (λ z bytes. (stored z bytes).1) s a bs ∙ k;
      pool = λ may s left k. pooled may s left ∙ k;
      parts = λ may s d ps k. parted may s d ps ∙ k;
      queue = λ may s joins futexes k. queued may s joins futexes ∙ k;
      clock = λ may s now armed k. timed may s now armed ∙ k;
    }

module _ (may : Part → Bool) where
  abbrev MayMake : Effect → Type 0
  MayMake e = Yes (may_make may e)

  both : (a b : Bool) → Yes (a && b) → Yes a × Yes b
  both true b h = (tt, h)
  both false b h = absurd h

  yes-and : (a : Bool) → Yes a → Yes ((a && true) && true)
  yes-and true h = tt
  yes-and false h = absurd h

  each-made : (ws : Effects) → Yes (may_all may ws) → OfEach MayMake ws
  each-made [] h = tt
  each-made (w ∷ ws) h = let parts = both (may_make may w.1) (may_all may ws) h in (parts.0, each-made ws parts.1)

  any-cell : (queue : Bool) → Yes (may queues) × Yes (may objects) → Yes ((may_cell may queue && true) && true)
  any-cell true h = yes-and (may queues) h.0
  any-cell false h = yes-and (may objects) h.1

  makes-so : (m : State) (t x : ℕ) (q : Pending) → Makes may q → Yes (may_all may (effects_of m t x q) && may_go may (next_of m t x q))
  makes-so m t x Pending.Begin h = h
  makes-so m t x (Pending.TimeOut who) h = any-cell (is_queue x) (both (may queues) (may objects) h)
  makes-so m t x (Pending.Cut who) h = any-cell (is_queue x) (both (may queues) (may objects) h)
  makes-so m t x q h = h

  module _ (Same : State → Type 0) (kept : Keeping may Same) where
    cell-kept : (c : ℕ) (ws : List Waiter) (s : State) → Yes (may_cell may (is_queue c)) → Same s → Same (with_waiters s c ws)
    cell-kept c ws s h k = by (c == JOIN_CELL) (c == FUTEX_CELL) h
      where
        by : (joins futexes : Bool) → Yes (may_cell may (joins || futexes))
            → Same (record s {
              objects = if joins || futexes then s.objects else slice_set s.objects c (record (object_at s c) { waiters = ws });
              joins = if joins then ws else s.joins;
              futexes = if futexes then ws else s.futexes;
            })
        by true futexes h = kept.queue h s ws (if futexes then ws else s.futexes) k
        by false true h = kept.queue h s s.joins ws k
        by false false h = kept.object h s c _ refl refl k

    effect-kept : (e : Effect) (s : State) → MayMake e → Same s → Same (effect e s)
    effect-kept (Effect.wakes woken) s h k = woken-by Same (λ s u told k. kept.own s u _ refl k) woken s k
    effect-kept (Effect.moves who d) s h k = kept.word h s who _ k
    effect-kept (Effect.dooms who) s h k = kept.word h s who _ k
    effect-kept (Effect.flags who flag) s h k = kept.word h s who _ k
    effect-kept (Effect.cuts who) s h k = kept.own s who _ refl k
    effect-kept (Effect.starts who thread) s h k = kept.word h s who thread k
    effect-kept (Effect.pair who x there) s h k = kept.pair h s who x there k
    effect-kept (Effect.object x (Edit.becomes status)) s h k = kept.status h s x _ refl k
    effect-kept (Effect.object x (Edit.reserved kind cost)) s h k = kept.birth h s x _ k
    effect-kept (Effect.object x Edit.vacates) s h k = kept.birth h s x _ k
    effect-kept (Effect.object x edit) s h k = kept.object h s x (edited edit (object_at s x)) refl refl k
    effect-kept (Effect.bytes a bs) s h k = kept.bytes h s a bs k
    effect-kept (Effect.takes pool size) s h k = kept.pool h s _ k
    effect-kept (Effect.returns cost) s h k = kept.pool h s _ k
    effect-kept (Effect.edits d ps) s h k = kept.parts h s d ps k
    effect-kept (Effect.waiters c ws) s h k = cell-kept c ws s h k
    effect-kept (Effect.arms deadline) s h k = kept.clock h s s.now _ k
    effect-kept (Effect.passes now) s h k = kept.clock h s now s.armed k

    went-kept : (left : Steps) (s : State) (t : ℕ) (next : Next) → Yes (may_go may next) → Same s → Same (went left s t next)
    went-kept left s t Next.stays h k = k
    went-kept left s t (Next.begins None) h k = k
    went-kept left s t (Next.resumes None) h k = k
    went-kept left s t (Next.on change way) h k = kept.own s t _ (changed-same said_of (λ me registers reply buffer until. refl) change (thread_at s t)) k
    went-kept left s t (Next.checks x v way) h k = kept.own s t _ (held-same said_of (λ me checked. refl) x v (thread_at s t)) k
    went-kept left s t (Next.enters script) h k = kept.word h s t _ k
    went-kept left s t Next.exits h k = kept.word h s t _ k
    went-kept left s t (Next.fatal reason) h k = kept.word h s t _ k
    went-kept left s t next h k = kept.own s t (gone left s t next (thread_at s t)) refl k

pub after-kept : (may : Part → Bool) (Same : State → Type 0) → Keeping may Same → (m : State) (t : ℕ) → Same m → (x : ℕ) (q : Pending) (rest : Steps) → Makes may q → Same (T.after m t x q rest)
after-kept may Same kept m t first x q rest h =
    let ws = effects_of m t x q in
    let may-so = both may (may_all may ws) (may_go may (next_of m t x q)) (makes-so may m t x q h) in
    went-kept may Same kept rest (wrote ws m) t (next_of m t x q) may-so.1 (all-wrote Same (MayMake may) (effect-kept may Same kept) ws m (each-made may ws may-so.0) first)

-- what is read of a state stays at a step that makes none of the writes that it shows
pub read-same : {A : Type 0} (may : Part → Bool) (read : State → A) (m : State) → Keeping may (λ s. read s ≡ read m) → (t x : ℕ) (q : Pending) (rest : Steps) → Makes may q → read (T.after m t x q rest) ≡ read m
read-same may read m keeping t x q rest = after-kept may (λ s. read s ≡ read m) keeping m t refl x q rest
