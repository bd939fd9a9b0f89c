-- What a thread has still to pass on or to drop is due: behind each way to go on, and after each change of a permission.
use Rattle.std.proofs.Common.{Bool, List, None, Option, Some, [], ap, arith, false, length, map, refl, subst, suc, sym, true, zero, ℕ, ◌+◌, ◌<◌, ◌∙◌, ◌∷◌, ◌≡◌, ◌≢◌, ◌≤◌}
use Rattle.std.proofs.lemmas.Bool.{eqb-false, eqb-true, false≢true, true≢false}
use Rattle.std.proofs.lemmas.List.{get_or-set_other, get_or-set_same}
use Rattle.std.specs.Prelude.{if◌then◌else◌, nat_lt, not, slice_index_or, slice_set, ◌&&◌, ◌==◌}
use Rattle.um_base.specs.Places.{own_row}
use Rattle.um_base.specs.declared.act.Act.{Act}
use Rattle.um_base.specs.declared.act.Leftover.{Leftover}
use Rattle.um_base.specs.declared.ask.Told.{Told}
use Rattle.um_base.specs.declared.image.Image.{Image}
use Rattle.um_base.specs.declared.limits.TheConstants.{THREADS}
use Rattle.um_base.specs.declared.names.Policy.{Policy}
use Rattle.um_base.specs.declared.names.ThreadIx.{ThreadIx}
use Rattle.um_machine.proofs.EffectLemmas.{effects_of}
use Rattle.um_machine.specs.Goes.{Next, at_end, gone, went, told_way}
use Rattle.um_machine.specs.Order.{Steps, end_steps, fatal_steps, steps_of}
use Rattle.um_machine.specs.State.{State, nobody, pair_at, thread_at, with_pair, with_thread}
use Rattle.um_machine.specs.Writes.{Effect, drops as drop_writes, only, was_given, wrote}
use Rattle.um_machine.specs.declared.pending.Pending.{Pending}
use Rattle.um_machine.specs.declared.thread.Thread.{Thread}
use Rattle.um_invariants.proofs.ThreadSteps.{plain-steps}
use Rattle.um_invariants.proofs.ThreadWords.{are_plain}
use Rattle.um_fine.specs.Context.{Context, as_thread}
use Rattle.um_fine.specs.Continues.{came_in, continues, gone_part, resumed_at}
use Rattle.um_fine.specs.Scheduler.{waits}
use Rattle.um_fine.specs.Steps.{Exchange}
use Rattle.um_refinement.proofs.ChildSteps.{Creates, InOrder, order-steps}
use Rattle.um_refinement.proofs.ChildrenKnown.{AllCreate, Stands}
use Rattle.um_refinement.proofs.DuesFilled.{created, still-steps, way-still}
use Rattle.um_refinement.proofs.ThreadLists.{at-here, dues-long}
use Rattle.um_refinement.proofs.WordsKept.{IsShown}
use Rattle.um_refinement.specs.Dues.{is_visiting}
use Rattle.um_order.proofs.Standing.{IsFull}
use Rattle.um_machine.specs.Table as T

-- These steps don't begin with permissions to pass on or to drop.

abbrev pub Quiet : Steps → Type 0
Quiet steps = is_visiting steps ≡ false

pub still-full : (m : State) (t : ℕ) (steps : Steps) → Quiet steps → IsFull m t steps
still-full m t [] h = tt
still-full m t (Pending.Inherit who ∷ rest) h = absurd (true≢false h)
still-full m t (Pending.Drops from ∷ rest) h = absurd (true≢false h)
still-full m t (q ∷ rest) h = tt

pub waits-quiet : (steps : Steps) → waits steps ≡ true → is_visiting steps ≡ false
waits-quiet (Pending.Resume ∷ rest) h = refl
waits-quiet steps h = absurd (false≢true h)

abbrev pub is_begin : Pending → Bool
is_begin Pending.Begin = true
is_begin q = false

-- the steps behind which permissions are passed on or dropped
abbrev pub opens_visits : Pending → Bool
opens_visits (Pending.Own who) = true
opens_visits Pending.Exit = true
opens_visits Pending.Killed = true
opens_visits (Pending.Fatal reason cause) = true
opens_visits q = false

module _ (image : Image) (c : Context) where
  -- the ways to go on behind which no permissions are passed on or dropped
  abbrev IsPlain : Next → Type 0
  IsPlain (Next.begins instr) = Quiet c.pending
  IsPlain (Next.creates who) = ⊥
  IsPlain (Next.resumes told) = ⊥
  IsPlain (Next.inherits who) = ⊥
  IsPlain (Next.drops from) = ⊥
  IsPlain Next.exits = ⊥
  IsPlain (Next.fatal reason) = ⊥
  IsPlain Next.stays = ⊥
  IsPlain next = Unit {0}

  doom-quiet : (from : ℕ) → Quiet (T.next_doom from)
  doom-quiet from = elim (nat_lt (from + 1) THREADS) as (λ b. Quiet (if b then Pending.Dooms (from + 1) ∷ [] else [])) [ true ↦ refl | false ↦ refl ]

  gone-quiet : (rest : Steps) (next : Next) → IsPlain next → are_plain rest ≡ true → InOrder rest → Quiet (gone_part image rest next c).pending
  gone-quiet rest (Next.on change way) fits h o = way-still image c rest way h o
  gone-quiet rest (Next.checks x v way) fits h o = way-still image c rest way h o
  gone-quiet rest (Next.answers to reply) fits h o = still-steps image c rest h o
  gone-quiet rest (Next.owns keeps) fits h o = still-steps image c rest h o
  gone-quiet rest Next.starts fits h o = still-steps image c rest h o
  gone-quiet rest (Next.begins None) fits h o = fits
  gone-quiet rest (Next.begins (Some instr)) fits h o =
      still-steps image c (steps_of image c.thread (as_thread c) instr) (plain-steps image c.thread (as_thread c) instr) (order-steps image c.thread (as_thread c) instr)
  gone-quiet rest (Next.dooms from) fits h o = doom-quiet from
  gone-quiet rest (Next.enters script) fits h o = refl
  gone-quiet rest next fits h o = absurd fits

  next-plain : (q : Pending) (act : Act) (came : List ℕ) → IsShown q → opens_visits q ≡ false → (q ≡ Pending.Begin → Quiet c.pending)
      → IsPlain (T.continues image c.thread (as_thread c) 0 q act came)
  next-plain Pending.Begin act came shown plain was = was refl
  next-plain Pending.Exit act came shown plain was = absurd (true≢false plain)
  next-plain (Pending.Own who) act came shown plain was = absurd (true≢false plain)
  next-plain (Pending.Fatal reason cause) act came shown plain was = absurd (true≢false plain)
  next-plain Pending.Resume act came shown plain was = absurd shown
  next-plain (Pending.Inherit who) act came shown plain was = absurd shown
  next-plain (Pending.Drops from) act came shown plain was = absurd shown
  next-plain (Pending.CleanPair who) act came shown plain was = absurd shown
  next-plain Pending.Recycle act came shown plain was = absurd shown
  next-plain Pending.Killed act came shown plain was = absurd (true≢false plain)
  next-plain Pending.Left act came shown plain was = absurd shown
  next-plain Pending.Tick act came shown plain was = absurd shown
  next-plain (Pending.TimeOut who) act came shown plain was = absurd shown
  next-plain Pending.Expire act came shown plain was = absurd shown
  next-plain (Pending.Cut who) act came shown plain was = absurd shown
  next-plain q act came shown plain was = tt

  pub continued-quiet : (q : Pending) (rest : Steps) (act : Act) (moved : Exchange) → IsShown q → opens_visits q ≡ false → (q ≡ Pending.Begin → Quiet c.pending) → are_plain rest ≡ true → InOrder rest
      → Quiet (continues image c 0 q rest act moved).pending
  continued-quiet q rest act moved shown plain was h o =
      let came = came_in q moved in gone-quiet rest (T.continues image c.thread (as_thread c) 0 q act came) (next-plain q act came shown plain was) h o

-- The end of a thread makes each of its permissions due.

mapped : (f : List Bool → Bool) (pairs : List (List Bool)) (x : ℕ) → f (slice_index_or pairs x []) ≡ true → (f [] ≡ false) → slice_index_or (map f pairs) x false ≡ true
mapped f [] x h none = absurd (true≢false (sym h ∙ none))
mapped f (flags ∷ pairs) zero h none = h
mapped f (flags ∷ pairs) (suc x) h none = mapped f pairs x h none

pub order-of : (child : Option ThreadIx) (q : Pending) (rest : Steps) → IsShown q → opens_visits q ≡ false → Creates child (q ∷ rest) → InOrder rest
order-of child (Pending.Own who) rest shown plain h = absurd (true≢false plain)
order-of child Pending.Exit rest shown plain h = absurd (true≢false plain)
order-of child (Pending.Fatal reason cause) rest shown plain h = absurd (true≢false plain)
order-of child Pending.Resume rest shown plain h = absurd shown
order-of child (Pending.Inherit who) rest shown plain h = absurd shown
order-of child (Pending.Drops from) rest shown plain h = absurd shown
order-of child (Pending.CleanPair who) rest shown plain h = absurd shown
order-of child Pending.Recycle rest shown plain h = absurd shown
order-of child Pending.Killed rest shown plain h = absurd (true≢false plain)
order-of child Pending.Left rest shown plain h = absurd shown
order-of child Pending.Tick rest shown plain h = absurd shown
order-of child (Pending.TimeOut who) rest shown plain h = absurd shown
order-of child Pending.Expire rest shown plain h = absurd shown
order-of child (Pending.Cut who) rest shown plain h = absurd shown
order-of child q rest shown plain h = h.1

pub stands-creates : (m : State) (t x : ℕ) (all : AllCreate m) (q : Pending) (rest : Steps) → IsShown q → Stands m t x all q rest → Creates (thread_at m t).child (q ∷ rest)
stands-creates m t x all (Pending.CleanPair who) rest shown h = absurd shown
stands-creates m t x all Pending.Recycle rest shown h = absurd shown
stands-creates m t x all Pending.Left rest shown h = absurd shown
stands-creates m t x all Pending.Tick rest shown h = absurd shown
stands-creates m t x all (Pending.TimeOut who) rest shown h = absurd shown
stands-creates m t x all Pending.Expire rest shown h = absurd shown
stands-creates m t x all (Pending.Cut who) rest shown h = absurd shown
stands-creates m t x all q rest shown h = h

module _ (m : State) (t : ℕ) (few : t < length m.threads) where
  -- so it does where the thread drops them all next
  pub ended-full : (steps left : Steps) → IsFull (with_thread m t (at_end m t (thread_at m t) steps)) t (Pending.Drops 0 ∷ left)
  ended-full steps left x low has =
      ap (λ (z : Thread). slice_index_or z.due x false) (at-here m.threads t (at_end m t (thread_at m t) steps) few) ∙ mapped (λ (flags : List Bool). slice_index_or flags t false) m.pairs x has refl

  pub fatal-full : (image : Image) (c : Context) (reason : ℕ) (policy : Policy) (steps : Steps)
      → IsFull (with_thread m t (at_end m t (thread_at m t) steps)) t (fatal_steps image c.thread (as_thread c) reason policy)
  fatal-full image c reason Policy.Halt steps = tt
  fatal-full image c reason Policy.Abort steps = by (reason == 4)
    where
      by : (b : Bool) → IsFull (with_thread m t (at_end m t (thread_at m t) steps)) t (if b then Pending.Dooms 0 ∷ [] else end_steps image c.thread (as_thread c))
      by true = tt
      by false = ended-full steps []

  -- when the new thread has got the permission on its own object, each permission that it may inherit is due
  own-due : (s : State) → t < length s.threads → (who w : ThreadIx) → w ≡ who → (rest more : Steps) → IsFull (went rest s t (Next.creates who)) t (Pending.Inherit w ∷ more)
  own-due s room who w same rest more x has lacks apart =
      let lacking : pair_at s who.0 x ≡ false = ap (λ (z : ThreadIx). pair_at s z.0 x) (sym same) ∙ lacks in
      ap (λ (z : Thread). slice_index_or z.due x false) (at-here s.threads t (gone rest s t (Next.creates who) (thread_at s t)) room)
      ∙ (get_or-set_other (T.rows_to_pass s t who.0) (own_row s.image t) x false false apart
      ∙ mapped (λ (holders : List Bool). slice_index_or holders t false && not (slice_index_or holders who.0 false)) s.pairs x (λ i. has i && not (lacking i)) refl)

  pub given-full : (who : ThreadIx) (rest : Steps) → InOrder (Pending.Own who ∷ rest) → IsFull (T.after m t 0 (Pending.Own who) rest) t rest
  given-full who (Pending.Inherit w ∷ Pending.Start u script stack priority mode ∷ rest) h =
      own-due (wrote (effects_of m t 0 (Pending.Own who)) m) (room (was_given (T.given m y))) who w h.0 (Pending.Inherit w ∷ Pending.Start u script stack priority mode ∷ rest)
      (Pending.Start u script stack priority mode ∷ rest)
    where
      y : ℕ
      y = own_row m.image who.0

      room : (b : Bool) → t < length (wrote (only b (Effect.pair who.0 y true) ∷ []) m).threads
      room false = few
      room true = let long = dues-long y 0 (slice_index_or (with_pair m who.0 y true).pairs y []) m.threads in omega (arith, few, long)
  given-full who (Pending.Inherit w ∷ rest) h = absurd h
  given-full who (Pending.Start u script stack priority mode ∷ rest) h = tt
  given-full who rest h = absurd h

-- A change of a permission on one row changes no permission on another row, and nothing that is due there.

due-else : (x y i : ℕ) (holders : List Bool) (ts : List Thread) (t : ℕ) → y ≢ x → slice_index_or (slice_index_or (T.with_dues x i holders ts) t nobody).due y false ≡ slice_index_or (slice_index_or ts t nobody).due y false
due-else x y i holders [] t ne = refl
due-else x y i holders (me ∷ ts) zero ne = get_or-set_other me.due x y _ false ne
due-else x y i holders (me ∷ ts) (suc t) ne = due-else x y (i + 1) holders ts t ne

pair-else : (s : State) (u x v y : ℕ) (b : Bool) → y ≢ x → pair_at (with_pair s u x b) v y ≡ pair_at s v y
pair-else s u x v y b ne = ap (λ (row : List Bool). slice_index_or row v false) (get_or-set_other s.pairs x y _ [] ne)

-- the state after a drop
abbrev pub dropped : State → ℕ → ℕ → Leftover → State
dropped s u x l = wrote (drop_writes u x l) s

record IsElse (s z : State) (v y : ℕ) : Type 0 where
  pair : pair_at z v y ≡ pair_at s v y
  due : slice_index_or (thread_at z v).due y false ≡ slice_index_or (thread_at s v).due y false
  long : length z.threads ≡ length s.threads

dropped-else : (s : State) (u x v y : ℕ) (l : Leftover) → y ≢ x → IsElse s (dropped s u x l) v y
dropped-else s u x v y Leftover.NoPair ne = record { pair = refl; due = refl; long = refl }
dropped-else s u x v y Leftover.Kept ne =
    record { pair = pair-else s u x v y false ne; due = due-else x y 0 _ s.threads v ne; long = dues-long x 0 (slice_index_or (with_pair s u x false).pairs x []) s.threads }
dropped-else s u x v y Leftover.Gone ne =
    record { pair = pair-else s u x v y false ne; due = due-else x y 0 _ s.threads v ne; long = dues-long x 0 (slice_index_or (with_pair s u x false).pairs x []) s.threads }

pub same-full : (m s : State) (t : ℕ) (steps : Steps) → s.pairs ≡ m.pairs → s.threads ≡ m.threads → s.image ≡ m.image → IsFull m t steps → IsFull s t steps
same-full m s t steps pairs threads image h =
    subst (λ (z : List (List Bool) × List Thread × Image). IsFull (record s { pairs = z.0; threads = z.1; image = z.2 }) t steps) (λ i. (sym pairs i, sym threads i, sym image i)) (there steps h)
  where
    there : (steps : Steps) → IsFull m t steps → IsFull (record s { pairs = m.pairs; threads = m.threads; image = m.image }) t steps
    there [] h = tt
    there (Pending.Inherit who ∷ rest) h = h
    there (Pending.Drops from ∷ rest) h = h
    there (q ∷ rest) h = tt

module _ (m : State) (t : ℕ) (few : t < length m.threads) where
  -- a thread drops a permission at its end
  pub drops-full : (x from : ℕ) (rest left : Steps) → IsFull m t (Pending.Drops from ∷ rest) → from ≤ x → IsFull (T.after m t x (Pending.Drops from) rest) t (Pending.Drops (x + 1) ∷ left)
  drops-full x from rest left full low y more has =
      let ne : y ≢ x = λ q. absurd (omega (arith, more, q)) in
      let is = dropped-else m t x t y (T.dropped m t x) ne in
      let s = dropped m t x (T.dropped m t x) in
      let was = full y (omega (arith, low, more)) (sym is.pair ∙ has) in
      ap (λ (z : Thread). slice_index_or z.due y false) (at-here s.threads t (record (thread_at s t) { pending = Pending.Drops (x + 1) ∷ rest }) (let long = is.long in omega (arith, long, few))) ∙ (is.due ∙ was)

  -- a permission is inherited: the child has it then
  pub passes-full : (who : ThreadIx) (x : ℕ) (rest left : Steps) → x < length m.pairs → who.0 < length (slice_index_or m.pairs x []) → IsFull m t (Pending.Inherit who ∷ left)
      → IsFull (T.after m t x (Pending.Inherit who) rest) t (Pending.Inherit who ∷ left)
  passes-full who x rest left wide child full y has lacks apart = by (y == x) refl
    where
      s : State
      s = T.paired m who.0 x true

      gives : pair_at (with_pair m who.0 x true) who.0 x ≡ true
      gives = ap (λ (row : List Bool). slice_index_or row who.0 false) (get_or-set_same m.pairs x (slice_set (slice_index_or m.pairs x []) who.0 true) [] wide) ∙ get_or-set_same (slice_index_or m.pairs x []) who.0 true false child

      by : (b : Bool) → (y == x) ≡ b → slice_index_or (thread_at (T.after m t x (Pending.Inherit who) rest) t).due y false ≡ true
      by true e = absurd (true≢false (sym gives ∙ (ap (λ z. pair_at (with_pair m who.0 x true) who.0 z) (sym (eqb-true y x e)) ∙ lacks)))
      by false e =
          let ne = eqb-false y x e in
          let was = full y (sym (pair-else m who.0 x t y true ne) ∙ has) (sym (pair-else m who.0 x who.0 y true ne) ∙ lacks) apart in
          let z = T.paired m who.0 x true in
          let long = dues-long x 0 (slice_index_or (with_pair m who.0 x true).pairs x []) m.threads in
          ap (λ (th : Thread). slice_index_or th.due y false) (at-here z.threads t (record (thread_at z t) { pending = Pending.Inherit who ∷ rest }) (omega (arith, long, few)))
          ∙ (due-else x y 0 (slice_index_or (with_pair m who.0 x true).pairs x []) m.threads t ne ∙ was)

-- A permission of another thread is dropped, whose object is cleaned.

set-at : (xs : List Bool) (x : ℕ) (b : Bool) → slice_index_or xs x false ≡ true → slice_index_or (slice_set xs x b) x false ≡ b
set-at [] x b h = absurd (false≢true h)
set-at (a ∷ xs) zero b h = refl
set-at (a ∷ xs) (suc x) b h = set-at xs x b h

set-false : (xs : List Bool) (x : ℕ) → slice_index_or (slice_set xs x false) x false ≡ false
set-false [] x = refl
set-false (a ∷ xs) zero = refl
set-false (a ∷ xs) (suc x) = set-false xs x

due-here : (x i : ℕ) (holders : List Bool) (ts : List Thread) (t : ℕ) → slice_index_or (slice_index_or ts t nobody).due x false ≡ true → T.stays_due (i + t) (slice_index_or ts t nobody).child holders ≡ true
    → slice_index_or (slice_index_or (T.with_dues x i holders ts) t nobody).due x false ≡ true
due-here x i holders [] t d s = d
due-here x i holders (me ∷ ts) zero d s =
    let same : i + 0 ≡ i = omega arith in
    set-at me.due x _ d ∙ λ j. d j && (subst (λ n. T.stays_due n me.child holders ≡ true) same s) j
due-here x i holders (me ∷ ts) (suc t) d s =
    let same : i + suc t ≡ i + 1 + t = omega arith in
    due-here x (i + 1) holders ts t d (subst (λ n. T.stays_due n (slice_index_or ts t nobody).child holders ≡ true) same s)

module _ (s : State) (u x : ℕ) (wide : x < length s.pairs) where
  row-is : slice_index_or (with_pair s u x false).pairs x [] ≡ slice_set (slice_index_or s.pairs x []) u false
  row-is = get_or-set_same s.pairs x (slice_set (slice_index_or s.pairs x []) u false) [] wide

  -- a thread that has the permission after the drop had it before
  pair-before : (v : ℕ) → pair_at (with_pair s u x false) v x ≡ true → pair_at s v x ≡ true
  pair-before v has = by (v == u) refl
    where
      now : slice_index_or (slice_set (slice_index_or s.pairs x []) u false) v false ≡ true
      now = ap (λ (row : List Bool). slice_index_or row v false) (sym row-is) ∙ has

      by : (b : Bool) → (v == u) ≡ b → pair_at s v x ≡ true
      by true e = absurd (false≢true (sym (set-false (slice_index_or s.pairs x []) u) ∙ (ap (λ n. slice_index_or (slice_set (slice_index_or s.pairs x []) u false) n false) (sym (eqb-true v u e)) ∙ now)))
      by false e = sym (get_or-set_other (slice_index_or s.pairs x []) u v false false (eqb-false v u e)) ∙ now

  pair-other : (v : ℕ) → v ≢ u → pair_at (with_pair s u x false) v x ≡ pair_at s v x
  pair-other v ne = ap (λ (row : List Bool). slice_index_or row v false) row-is ∙ get_or-set_other (slice_index_or s.pairs x []) u v false false ne

  -- what a thread has to drop at its end stays due, and so does what it passes on to a child other than u
  drops-left : (t from : ℕ) (rest : Steps) (l : Leftover) → (thread_at s t).child ≡ None → IsFull s t (Pending.Drops from ∷ rest) → IsFull (dropped s u x l) t (Pending.Drops from ∷ rest)
  drops-left t from rest l none full y low has = by (y == x) refl
    where
      paired-row : pair_at (with_pair s u x false) t x ≡ true → from ≤ x → slice_index_or (thread_at (T.paired s u x false) t).due x false ≡ true
      paired-row k few =
          due-here x 0 (slice_index_or (with_pair s u x false).pairs x []) s.threads t (full x few (pair-before t k)) (ap (λ o. T.stays_due (0 + t) o (slice_index_or (with_pair s u x false).pairs x [])) none ∙ at k)
        where
          at : pair_at (with_pair s u x false) t x ≡ true → slice_index_or (slice_index_or (with_pair s u x false).pairs x []) (0 + t) false ≡ true
          at k = let same : 0 + t ≡ t = omega arith in ap (λ n. slice_index_or (slice_index_or (with_pair s u x false).pairs x []) n false) same ∙ k

      at-row : (l : Leftover) → pair_at (dropped s u x l) t x ≡ true → from ≤ x → slice_index_or (thread_at (dropped s u x l) t).due x false ≡ true
      at-row Leftover.NoPair k few = full x few k
      at-row Leftover.Kept k few = paired-row k few
      at-row Leftover.Gone k few = paired-row k few

      by : (b : Bool) → (y == x) ≡ b → slice_index_or (thread_at (dropped s u x l) t).due y false ≡ true
      by true e =
          let same = eqb-true y x e in
          subst (λ n. slice_index_or (thread_at (dropped s u x l) t).due n false ≡ true) (sym same) (at-row l (subst (λ n. pair_at (dropped s u x l) t n ≡ true) same has) (subst (λ n. from ≤ n) same low))
      by false e = let is = dropped-else s u x t y l (eqb-false y x e) in is.due ∙ full y low (sym is.pair ∙ has)

  inherits-left : (t : ℕ) (w : ThreadIx) (rest : Steps) (l : Leftover) → (thread_at s t).child ≡ Some w → w.0 ≢ u → IsFull s t (Pending.Inherit w ∷ rest) → IsFull (dropped s u x l) t (Pending.Inherit w ∷ rest)
  inherits-left t w rest l child other full y has lacks apart = by (y == x) refl
    where
      image-is : (l : Leftover) → (dropped s u x l).image ≡ s.image
      image-is Leftover.NoPair = refl
      image-is Leftover.Kept = refl
      image-is Leftover.Gone = refl

      apart-there : y ≢ own_row s.image t
      apart-there q = apart (q ∙ ap (λ (i : Image). own_row i t) (sym (image-is l)))

      paired-row : pair_at (with_pair s u x false) t x ≡ true → pair_at (with_pair s u x false) w.0 x ≡ false → x ≢ own_row s.image t
          → slice_index_or (slice_index_or (T.with_dues x 0 (slice_index_or (with_pair s u x false).pairs x []) s.threads) t nobody).due x false ≡ true
      paired-row k none ne =
          due-here x 0 (slice_index_or (with_pair s u x false).pairs x []) s.threads t (full x (pair-before t k) (sym (pair-other w.0 other) ∙ none) ne)
          (ap (λ o. T.stays_due (0 + t) o (slice_index_or (with_pair s u x false).pairs x [])) child ∙ at t k)
        where
          at : (t : ℕ) → pair_at (with_pair s u x false) t x ≡ true
              → (slice_index_or (slice_index_or (with_pair s u x false).pairs x []) (0 + t) false && not (slice_index_or (slice_index_or (with_pair s u x false).pairs x []) w.0 false)) ≡ true
          at t k =
              let same : 0 + t ≡ t = omega arith in
              ap (λ n. slice_index_or (slice_index_or (with_pair s u x false).pairs x []) n false && not (slice_index_or (slice_index_or (with_pair s u x false).pairs x []) w.0 false)) same ∙ λ i. k i && not (none i)

      at-row : (l : Leftover) → pair_at (dropped s u x l) t x ≡ true → pair_at (dropped s u x l) w.0 x ≡ false → x ≢ own_row s.image t → slice_index_or (thread_at (dropped s u x l) t).due x false ≡ true
      at-row Leftover.NoPair k none ne = full x k none ne
      at-row Leftover.Kept k none ne = paired-row k none ne
      at-row Leftover.Gone k none ne = paired-row k none ne

      by : (b : Bool) → (y == x) ≡ b → slice_index_or (thread_at (dropped s u x l) t).due y false ≡ true
      by true e =
          let same = eqb-true y x e in
          subst (λ n. slice_index_or (thread_at (dropped s u x l) t).due n false ≡ true) (sym same)
          (at-row l (subst (λ n. pair_at (dropped s u x l) t n ≡ true) same has) (subst (λ n. pair_at (dropped s u x l) w.0 n ≡ false) same lacks) (λ q. apart-there (same ∙ q)))
      by false e =
          let ne = eqb-false y x e in
          let is = dropped-else s u x t y l ne in
          let child-is = dropped-else s u x w.0 y l ne in is.due ∙ full y (sym is.pair ∙ has) (sym child-is.pair ∙ lacks) apart-there

  pub cleans-full : (t : ℕ) (steps : Steps) (l : Leftover) → Creates (thread_at s t).child steps → ((w : ThreadIx) (rest : Steps) → steps ≡ Pending.Inherit w ∷ rest → w.0 ≢ u) → IsFull s t steps → IsFull (dropped s u x l) t steps
  cleans-full t [] l c other full = tt
  cleans-full t (Pending.Inherit w ∷ rest) l c other full = inherits-left t w rest l (created (thread_at s t).child w rest c) (other w rest refl) full
  cleans-full t (Pending.Drops from ∷ rest) l c other full = drops-left t from rest l c.0 full
  cleans-full t (q ∷ rest) l c other full = tt

-- a woken thread doesn't pass on or drop permissions next
pub resumed-quiet : (image : Image) (c : Context) (told : Told) (rest : Steps) → are_plain rest ≡ true → InOrder rest → Quiet (resumed_at image c told (Pending.Resume ∷ rest)).pending
resumed-quiet image c told rest plain order = way-still image c rest (told_way told.reply) plain order
