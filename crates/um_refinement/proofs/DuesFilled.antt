-- Where a thread's next step is expanded, what is due of it isn't visited yet; and what a thread goes on with after an event is no visit, or
-- begins one at a row that there is.
use Rattle.um_refinement.proofs.Words.{◌≡◌, ◌⊎◌, inl, inr, ℕ, ◌+◌, ◌<◌, ◌≤◌, Bool, true, false, List, [], ◌∷◌, Option, Some, None, refl, sym, ap, ◌∙◌, subst, arith, eq-eqb, eq-or-lt_of_le, ◌==◌, if◌then◌else◌, nat_lt, and_parts, eqb-true, false≢true, true≢false, Act, Image, Instr, ROWS, THREADS, Mode, Policy, ThreadIx, IsLawful, own_row, Pending, Thread, Next, Way, steps_by, told_way, Steps, fatal_steps, privileged, steps_of, Offers, begins, exits, goes, skips_drops, skips_inherit, State, pair_at, thread_at, way-left, claims, Call, call_is, real-below, AreKept, are_orderly, Context, as_thread, came_in, continues, gone_part, but, fine_steps, next_steps, Exchange, is_visiting, has_steps, visited, behind_shown, DueFrom, MayPass, are_plain, clears_one, starts_one, tends, Todos, FineStep, Answer, act_in, answer_in}
use Rattle.um_base.specs.declared.names.Timeout.{Timeout}
use Rattle.um_machine.specs.Order.{arms}
use Rattle.um_machine.specs.Run.{leaves, stops}
use Rattle.um_fine.specs.Follows.{rereads, waits_behind}
use Rattle.um_fine.specs.Places.{noted_cell}
use Rattle.um_machine.specs.Table as T
use Rattle.um_invariants.proofs.ThreadSteps.{plain-way}
use Rattle.um_refinement.proofs.ChildSteps.{Creates, InOrder}
use Rattle.um_refinement.proofs.ChildrenKnown.{AllCreate, Stands, order-ways}
use Rattle.um_refinement.proofs.DuesKept.{is_due}
use Rattle.um_refinement.proofs.ListDues.{drops-visited, fine-visited, passes-visited}
use Rattle.um_refinement.proofs.Reachable.{IsSound}
use Rattle.um_refinement.proofs.WordsKept.{IsShown}
use Rattle.um_refinement.proofs.StepsLeft.{fatal-left}

-- what is due of a thread is at or above this row
abbrev pub Passed : State → Context → ℕ → Type 0
Passed s c v = is_visiting c.pending ≡ true → (x : ℕ) → is_due s c.thread x ≡ true → v ≤ x

-- its drops begin at or below it
abbrev pub Begun : Context → ℕ → Type 0
Begun c v = (from : ℕ) (rest : Steps) → c.pending ≡ Pending.Drops from ∷ rest → from ≤ v

-- they begin at one of the rows, or behind the last
abbrev pub IsFew : Steps → Type 0
IsFew (Pending.Drops from ∷ rest) = from ≤ ROWS
IsFew steps = Unit {0}

pub still-passed : (s : State) (c : Context) (v : ℕ) → is_visiting c.pending ≡ false → Passed s c v
still-passed s c v still visiting x d = absurd (true≢false (sym visiting ∙ still))

pub still-begun : (c : Context) (v : ℕ) → is_visiting c.pending ≡ false → Begun c v
still-begun c v still from rest e = absurd (true≢false (sym (ap is_visiting e) ∙ still))

abbrev is_drops : Steps → Bool
is_drops (Pending.Drops from ∷ rest) = true
is_drops steps = false

-- who inherits drops nothing
pub inherit-begun : (c : Context) (v : ℕ) (who : ThreadIx) (more : Steps) → c.pending ≡ Pending.Inherit who ∷ more → Begun c v
inherit-begun c v who more h from rest e = absurd (false≢true (ap is_drops (sym h ∙ e)))

-- who inherits has the one as its child that starts next
pub created : (child : Option ThreadIx) (who : ThreadIx) (steps : Steps) → Creates child (Pending.Inherit who ∷ steps) → child ≡ Some who
created child who (Pending.Start u script stack priority mode ∷ rest) h = h.0
created child who steps h = absurd h

starts-claimed : (image : Image) (child : Option ThreadIx) (who : ThreadIx) (steps : Steps) → Creates child (Pending.Inherit who ∷ steps) → claims image who.0 (Pending.Inherit who ∷ steps) ≡ true
starts-claimed image child who (Pending.Start u script stack priority mode ∷ rest) h = eq-eqb u.0 who.0 (ap (λ (z : ThreadIx). z.0) h.1)
starts-claimed image child who steps h = absurd h

-- and its index is one
pub child-below : (m : State) → IsSound m → IsLawful m.image → AllCreate m → (t : ℕ) (who : ThreadIx) (steps : Steps) → (thread_at m t).pending ≡ Pending.Inherit who ∷ steps → who.0 < THREADS
child-below m sound lawful all t who steps e =
    real-below m.image lawful who.0
    (sound.known.claimed.claimed t who.0
    (ap (λ (c : Call). claims m.image who.0 c.pending) (call_is m t)
    ∙ (ap (claims m.image who.0) e ∙ starts-claimed m.image (thread_at m t).child who steps (subst (Creates (thread_at m t).child) e (all t)))))

pub but-below : (own x y : ℕ) → x ≤ y → (y ≡ own → ⊥) → but own x ≤ y
but-below own x y l ne = by (x == own) refl
  where
    by : (b : Bool) → (x == own) ≡ b → (if b then x + 1 else x) ≤ y
    by false k = l
    by true k = which (eq-or-lt_of_le l)
      where
        which : (x ≡ y) ⊎ (x < y) → x + 1 ≤ y
        which (inl same) = absurd (ne (sym same ∙ eqb-true x own k))
        which (inr less) = omega (arith, less)

-- The steps behind one that a thread is offered.

plain-rest : (q : Pending) (rest : Steps) → are_plain (q ∷ rest) ≡ true → are_plain rest ≡ true
plain-rest (Pending.Inherit who) rest h = (and_parts (starts_one rest) (are_plain rest) h).1
plain-rest (Pending.Drops from) rest h = absurd (false≢true h)
plain-rest (Pending.CleanPair who) rest h = absurd (false≢true h)
plain-rest Pending.Recycle rest h = absurd (false≢true h)
plain-rest q rest h = h

orderly-rest : (q : Pending) (rest : Steps) → are_orderly (q ∷ rest) ≡ true → are_plain rest ≡ true
orderly-rest (Pending.Drops from) rest h = (and_parts (clears_one rest) (are_plain rest) h).1
orderly-rest q rest h = plain-rest q rest h

-- it is a step of its own, and those behind it are plain
pub offers-plain : (m : State) → AreKept m → (t : ℕ) (q : Pending) (rest : Steps) → IsShown q → Offers m t q rest → are_plain rest ≡ true
offers-plain m kept t q rest shown (goes e) = orderly-rest q rest (subst (λ (steps : Steps). are_orderly steps ≡ true) e (kept.orderly t).steps)
offers-plain m kept t q rest shown (skips_inherit {who} e due) =
    plain-rest q rest (orderly-rest (Pending.Inherit who) (q ∷ rest) (subst (λ (steps : Steps). are_orderly steps ≡ true) e (kept.orderly t).steps))
offers-plain m kept t q rest shown (skips_drops {from} e due) =
    plain-rest q rest (orderly-rest (Pending.Drops from) (q ∷ rest) (subst (λ (steps : Steps). are_orderly steps ≡ true) e (kept.orderly t).steps))
offers-plain m kept t _ _ shown (begins e lives doomed there) = refl
offers-plain m kept t _ _ shown (exits e lives doomed there) = refl
offers-plain m kept t _ _ shown (stops e lives must) = refl
offers-plain m kept t _ _ shown (leaves ending) = absurd shown
offers-plain m kept t Pending.Tick _ shown (tends is started) = absurd shown
offers-plain m kept t (Pending.TimeOut who) _ shown (tends is started) = absurd shown
offers-plain m kept t Pending.Expire _ shown (tends is started) = absurd shown
offers-plain m kept t (Pending.Cut who) _ shown (tends is started) = absurd shown
offers-plain m kept t (Pending.CleanPair who) _ shown (tends is started) = absurd shown
offers-plain m kept t Pending.Recycle _ shown (tends is started) = absurd shown
offers-plain m kept t q _ shown (tends is started) = cc

-- a thread that is woken goes on with plain steps
pub resumes-plain : (m : State) → AreKept m → (t : ℕ) (rest : Steps) → (thread_at m t).pending ≡ Pending.Resume ∷ rest → are_plain rest ≡ true
resumes-plain m kept t rest e = orderly-rest Pending.Resume rest (subst (λ (steps : Steps). are_orderly steps ≡ true) e (kept.orderly t).steps)

-- what is due is held, and who is to inherit it has no permission on it
pub due-held : (s : State) → AreKept s → (t x : ℕ) → is_due s t x ≡ true → pair_at s t x ≡ true
due-held s kept t x d = by (thread_at s t).child (kept.due t x d)
  where
    by : (child : Option ThreadIx) → MayPass s.image s.pairs t child x → pair_at s t x ≡ true
    by None h = h
    by (Some who) h = h.0

pub due-passed : (s : State) → AreKept s → AllCreate s → (t : ℕ) (who : ThreadIx) (rest : Steps) → (thread_at s t).pending ≡ Pending.Inherit who ∷ rest → (x : ℕ) → is_due s t x ≡ true
    → (pair_at s who.0 x ≡ false) × (x ≡ own_row s.image t → ⊥)
due-passed s kept all t who rest e x d =
    let child = created (thread_at s t).child who rest (subst (Creates (thread_at s t).child) e (all t)) in
    let may : MayPass s.image s.pairs t (Some who) x = subst (λ (o : Option ThreadIx). MayPass s.image s.pairs t o x) child (kept.due t x d) in (may.1, may.2)

-- The next step of a thread is expanded.

module _ (image : Image) (s : State) (same : s.image ≡ image) (kept : AreKept s) (all : AllCreate s) (c : Context) (has : c.pending ≡ (thread_at s c.thread).pending) where
  pub next-passed : Passed s c (visited (next_steps image c c.pending))
  next-passed visiting x d = by c.pending refl
    where
      stands : (steps : Steps) → c.pending ≡ steps → (thread_at s c.thread).pending ≡ steps
      stands steps e = sym has ∙ e

      by : (steps : Steps) → c.pending ≡ steps → visited (next_steps image c steps) ≤ x
      by (Pending.Inherit who ∷ q ∷ rest) e =
          let apart = (due-passed s kept all c.thread who (q ∷ rest) (stands (Pending.Inherit who ∷ q ∷ rest) e) x d).1 in
          let most = (passes-visited image who.0 (but (own_row image c.thread) 0) (fine_steps image c q rest) (fine-visited image c q rest)).1 in
          let least = but-below (own_row image c.thread) 0 x (omega arith) (λ k. apart (k ∙ ap (λ (i : Image). own_row i c.thread) (sym same))) in
          omega (arith, most, least)
      by (Pending.Inherit who ∷ []) e = absurd (subst (Creates (thread_at s c.thread).child) (stands (Pending.Inherit who ∷ []) e) (all c.thread))
      by (Pending.Drops from ∷ q ∷ rest) e =
          let least : from ≤ x = subst (λ (steps : Steps). DueFrom steps (thread_at s c.thread).due) (stands (Pending.Drops from ∷ q ∷ rest) e) (kept.orderly c.thread).from x d in
          let most = (drops-visited image from (fine_steps image c q rest) (fine-visited image c q rest)).1 in omega (arith, most, least)
      by (Pending.Drops from ∷ []) e = absurd (false≢true (subst (λ (steps : Steps). are_orderly steps ≡ true) (stands (Pending.Drops from ∷ []) e) (kept.orderly c.thread).steps))
      by steps e = absurd (false≢true (sym (ap is_visiting e) ∙ visiting))

  pub next-begun : IsFew c.pending → Begun c (visited (next_steps image c c.pending))
  next-begun few from rest e = subst (λ (steps : Steps). from ≤ visited (next_steps image c steps)) (sym e) (by rest)
    where
      most : from ≤ ROWS
      most = subst IsFew e few

      by : (rest : Steps) → from ≤ visited (next_steps image c (Pending.Drops from ∷ rest))
      by [] = most
      by (q ∷ rest) = let at = (drops-visited image from (fine_steps image c q rest) (fine-visited image c q rest)).0 most in omega (arith, at)

-- What a thread goes on with.

plain-few : (steps : Steps) → are_plain steps ≡ true → IsFew steps
plain-few [] h = tt
plain-few (Pending.Drops from ∷ rest) h = absurd (false≢true h)
plain-few (q ∷ rest) h = tt

privileged-few : (mode : Mode) (steps : Steps) → IsFew steps → IsFew (privileged mode steps)
privileged-few Mode.User steps h = tt
privileged-few Mode.Supervisor steps h = h

arms-few : (timeout : Timeout) (steps : Steps) → IsFew steps → IsFew (arms timeout steps)
arms-few Timeout.NoWait steps h = h
arms-few (Timeout.Ticks ticks) steps h = tt
arms-few Timeout.Forever steps h = h

steps-few : (image : Image) (t : ℕ) (me : Thread) (instr : Instr) → IsFew (steps_of image t me instr)
steps-few image t me (Instr.DomainInit domain parts) = privileged-few me.mode _ tt
steps-few image t me (Instr.DomainAdd domain part) = privileged-few me.mode _ tt
steps-few image t me (Instr.DomainRemove domain part) = privileged-few me.mode _ tt
steps-few image t me (Instr.DomainMove domain thread) = privileged-few me.mode _ tt
steps-few image t me (Instr.UserMode script) = privileged-few me.mode _ tt
steps-few image t me (Instr.AllGrant object) = privileged-few me.mode _ tt
steps-few image t me (Instr.Revoke object thread) = privileged-few me.mode _ tt
steps-few image t me (Instr.FutexWait addr value timeout) = arms-few timeout _ tt
steps-few image t me instr = tt

pub way-few : (rest : Steps) (way : Way) → are_plain rest ≡ true → IsFew (steps_by rest way)
way-few rest way h = plain-few (steps_by rest way) (plain-way rest way h)

doom-few : (from : ℕ) → IsFew (T.next_doom from)
doom-few from = elim (nat_lt (from + 1) THREADS) as (λ b. IsFew (if b then Pending.Dooms (from + 1) ∷ [] else [])) [ true ↦ tt | false ↦ tt ]

module _ (image : Image) (c : Context) where
  abbrev Few : Context → Type 0
  Few d = IsFew d.pending

  fatal-few : (reason : ℕ) (policy : Policy) → IsFew (fatal_steps image c.thread (as_thread c) reason policy)
  fatal-few reason policy = fatal-left IsFew image c.thread (as_thread c) tt (omega arith) reason policy

  -- it drops from one of the rows on, or behind the last
  abbrev DropsFew : Next → Type 0
  DropsFew (Next.drops from) = from ≤ ROWS
  DropsFew next = Unit {0}

  gone-few : (rest : Steps) (next : Next) → DropsFew next → Few c → are_plain rest ≡ true → Few (gone_part image rest next c)
  gone-few rest (Next.on change way) fits was h = way-few rest way h
  gone-few rest (Next.checks x v way) fits was h = way-few rest way h
  gone-few rest (Next.begins None) fits was h = was
  gone-few rest (Next.begins (Some instr)) fits was h = steps-few image c.thread (as_thread c) instr
  gone-few rest (Next.resumes None) fits was h = was
  gone-few rest (Next.resumes (Some told)) fits was h = way-few rest (told_way told.reply) h
  gone-few rest (Next.inherits who) fits was h = tt
  gone-few rest (Next.drops from) fits was h = fits
  gone-few rest (Next.dooms from) fits was h = doom-few from
  gone-few rest (Next.enters script) fits was h = tt
  gone-few rest Next.exits fits was h = omega arith
  gone-few rest (Next.fatal reason) fits was h = fatal-few reason image.policy
  gone-few rest Next.stays fits was h = was
  gone-few rest next fits was h = plain-few rest h

  drops-few : (q : Pending) (act : Act) (came : List ℕ) → DropsFew (T.continues image c.thread (as_thread c) 0 q act came)
  drops-few (Pending.Drops from) act came = omega arith
  drops-few q act came = tt

  pub continued-few : (q : Pending) (rest : Steps) (act : Act) (moved : Exchange) → Few c → are_plain rest ≡ true → Few (continues image c 0 q rest act moved)
  continued-few q rest act moved was h =
      let came = came_in q moved in
      gone-few rest (T.continues image c.thread (as_thread c) 0 q act came) (drops-few q act came) was h

  -- Behind an access to memory, or a start, comes no visit.

  abbrev Still : Context → Type 0
  Still d = is_visiting d.pending ≡ false

  pub still-steps : (steps : Steps) → are_plain steps ≡ true → InOrder steps → is_visiting steps ≡ false
  still-steps [] h o = refl
  still-steps (Pending.Inherit who ∷ rest) h o = absurd o
  still-steps (Pending.Drops from ∷ rest) h o = absurd (false≢true h)
  still-steps (q ∷ rest) h o = refl

  pub way-still : (rest : Steps) (way : Way) → are_plain rest ≡ true → InOrder rest → is_visiting (steps_by rest way) ≡ false
  way-still rest way h o = still-steps (steps_by rest way) (plain-way rest way h) (way-left InOrder order-ways rest way o)

  -- it goes on in its call, or has started its child
  abbrev IsInCall : Next → Type 0
  IsInCall (Next.on change way) = Unit {0}
  IsInCall Next.starts = Unit {0}
  IsInCall next = ⊥

  gone-still : (rest : Steps) (next : Next) → IsInCall next → are_plain rest ≡ true → InOrder rest → Still (gone_part image rest next c)
  gone-still rest (Next.on change way) is h o = way-still rest way h o
  gone-still rest Next.starts is h o = still-steps rest h o
  gone-still rest next is h o = absurd is

  -- what is left behind an event, with a second read of the word where it is to wait
  abbrev pub left_behind : Pending → FineStep → Todos
  left_behind q e = waits_behind image q e (behind_shown image c q)

  rereads-none : (answer : Answer) (todo : Todos) → rereads image answer None todo ≡ todo
  rereads-none Answer.Wait todo = refl
  rereads-none (Answer.Now reply) todo = refl

  pub left-none : (q : Pending) (e : FineStep) → noted_cell image (q ∷ []) ≡ None → left_behind q e ≡ behind_shown image c q
  left-none q e none = ap (λ o. rereads image (answer_in (act_in e.act)) o (behind_shown image c q)) none ∙ rereads-none (answer_in (act_in e.act)) (behind_shown image c q)

  behind-on : (q : Pending) (e : FineStep) (act : Act) (came : List ℕ) → has_steps (left_behind q e) ≡ true → IsInCall (T.continues image c.thread (as_thread c) 0 q act came)
  behind-on (Pending.Load to a n) e act came some = tt
  behind-on (Pending.Store a n value) e act came some = tt
  behind-on (Pending.Fetch a) e act came some = tt
  behind-on (Pending.Probe a amount) e act came some = tt
  behind-on (Pending.CopyIn a amount) e act came some = tt
  behind-on (Pending.CopyOut a) e act came some = tt
  behind-on (Pending.CopyStr a) e act came some = tt
  behind-on (Pending.Start who script stack priority mode) e act came some = tt
  behind-on (Pending.Work a ask) e act came some = tt
  behind-on (Pending.Join who timeout) e act came some = tt
  behind-on (Pending.FutexWait a value timeout) e act came some = tt
  behind-on (Pending.FutexWake a all) e act came some = tt
  behind-on q e act came some = absurd (false≢true (sym (ap has_steps (left-none q e refl)) ∙ some))

  pub behind-still : (q : Pending) (rest : Steps) (e : FineStep) → has_steps (left_behind q e) ≡ true → are_plain rest ≡ true → InOrder rest
      → Still (continues image c 0 q rest (act_in e.act) e.moved)
  behind-still q rest e some h o =
      let came = came_in q e.moved in
      gone-still rest (T.continues image c.thread (as_thread c) 0 q (act_in e.act) came) (behind-on q e (act_in e.act) came some) h o

-- and the steps behind these are in order
pub behind-order : (image : Image) (c : Context) (m : State) (t x : ℕ) (all : AllCreate m) (q : Pending) (rest : Steps) (e : FineStep) → has_steps (left_behind image c q e) ≡ true → Stands m t x all q rest → InOrder rest
behind-order image c m t x all (Pending.Load to a n) rest e some h = h.1
behind-order image c m t x all (Pending.Store a n value) rest e some h = h.1
behind-order image c m t x all (Pending.Fetch a) rest e some h = h.1
behind-order image c m t x all (Pending.Probe a amount) rest e some h = h.1
behind-order image c m t x all (Pending.CopyIn a amount) rest e some h = h.1
behind-order image c m t x all (Pending.CopyOut a) rest e some h = h.1
behind-order image c m t x all (Pending.CopyStr a) rest e some h = h.1
behind-order image c m t x all (Pending.Start who script stack priority mode) rest e some h = h.1
behind-order image c m t x all (Pending.Work a ask) rest e some h = h.1
behind-order image c m t x all (Pending.Join who timeout) rest e some h = h.1
behind-order image c m t x all (Pending.FutexWait a value timeout) rest e some h = h.1
behind-order image c m t x all (Pending.FutexWake a every) rest e some h = h.1
behind-order image c m t x all q rest e some h = absurd (false≢true (sym (ap has_steps (left-none image c q e refl)) ∙ some))
