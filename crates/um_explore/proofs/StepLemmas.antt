-- A list of events has all steps of a state.
use Rattle.std.proofs.Common.{◌≡◌, inl, inr, ℕ, zero, suc, ◌+◌, ◌<◌, ◌≤◌, true, false, List, [], ◌∷◌, ◌++◌, length, drop, refl, sym, ◌∙◌, subst, arith, Option, Some, None, Result, Ok, Err, slice_get, slice_index_or, Bool}
use Rattle.std.specs.Prelude.{◌&&◌, ◌||◌, ◌==◌, not, IfOk, IsTrue, All, nat_lt, is_some}
use Rattle.std.proofs.Math.ListN.{get_or-eq_default}
use Rattle.std.proofs.lemmas.Bool.{and_parts, le-ltb}
use Rattle.std.proofs.lemmas.List.Elements.{All-push}
use Rattle.um_base.specs.declared.act.Act.{Act}
use Rattle.um_base.specs.declared.act.Event.{Event}
use Rattle.um_base.specs.declared.limits.TheConstants.{THREADS, ROWS, FUTEX_CELL, JOIN_CELL}
use Rattle.um_base.specs.declared.instr.Instr.{Instr}
use Rattle.std.proofs.lemmas.Bool.Decides.{nat_tests}
use Rattle.um_base.specs.declared.names.Kind.{Kind}
use Rattle.um_base.specs.declared.names.ThreadIx.{ThreadIx}
use Rattle.um_machine.specs.declared.pending.Pending.{Pending}
use Rattle.um_machine.specs.Joins.{is_ending}
use Rattle.um_machine.specs.Objects.{is_gone}
use Rattle.um_machine.specs.Order.{Steps, to_thread}
use Rattle.um_machine.specs.Run.{MayChoose, begins, exits, goes, leaves, skips_drops, skips_inherit, stops, tends, none_due, waits_at, may_go, must_stop}
use Rattle.um_machine.specs.State.{State, instruction_at, is_living, is_waiting, object_at, pair_at, thread_at, vacant, is_started}
use Rattle.um_machine.specs.Table.{act_of}
use Rattle.um_machine.specs.Time.{has_come, has_run_out}
use Rattle.um_base.specs.Places.{own_row}
use Rattle.um_matrix.specs.Offered.{ChoosesNone, IsStep, event_of, first_step, is_tending, rest_act, rest_step, row_count, second_step, line_step}
use Rattle.um_matrix.proofs.OfferLemmas.{below-next, cons, cut-past, late-past, le-or-lt, nobody-more, not-gone-past, past-no-step, rest-says, skips-offer, skips-of, still-cut, still-late}
use Rattle.um_explore.specs.Steps.{AreSteps, GoesOn, Has, HasOthers, HasPair, HasStep, HasThread, IsOffered}

-- Lists.

get-front : {A : Type 0} (xs : List A) (y : A) → slice_get (xs ++ y ∷ []) (length xs) ≡ Some y
get-front [] y = refl
get-front (x ∷ xs) y = get-front xs y

get-more : {A : Type 0} (xs ys : List A) (k : ℕ) (y : A) → slice_get xs k ≡ Some y → slice_get (xs ++ ys) k ≡ Some y
get-more [] ys k y h = cc
get-more (x ∷ xs) ys zero y h = h
get-more (x ∷ xs) ys (suc k) y h = get-more xs ys k y h

pub has-last : (events : List Event) (event : Event) → Has (events ++ event ∷ []) event
has-last events event = (length events, get-front events event)

pub stays : (s : State) (events : List Event) → GoesOn s events events
stays s events = record { each = λ h. h; keeps = λ event h. h }

pub pushed : (s : State) (events : List Event) (event : Event) → IsStep s event → GoesOn s events (events ++ event ∷ [])
pushed s events event step = record {
  each = λ h. All-push (IsStep s) events event h step;
  keeps = λ e h. (h.0, get-more events (event ∷ []) h.0 e h.1);
}

pub further : (s : State) (a b c : List Event) → GoesOn s a b → GoesOn s b c → GoesOn s a c
further s a b c first second = record { each = λ h. second.each (first.each h); keeps = λ e h. second.keeps e (first.keeps e h) }

pub step-kept : (s : State) (t : ℕ) (a b : List Event) (p : Pending) → GoesOn s a b → HasStep s t a p → HasStep s t b p
step-kept s t a b p on has x m = on.keeps _ (has x m)

-- what follows from what an Ok says
pub ok-so : {A E : Type 0} (P Q : Type 0) (r : Result A E) → IfOk r (λ _. P) → (P → Q) → IfOk r (λ _. Q)
ok-so P Q (Ok x) h so = so h
ok-so P Q (Err e) h so = tt

pub both-so : {A E : Type 0} (P Q R : Type 0) (r : Result A E) → IfOk r (λ _. P) → IfOk r (λ _. Q) → (P → Q → R) → IfOk r (λ _. R)
both-so P Q R (Ok x) h k so = so h k
both-so P Q R (Err e) h k so = tt

-- Rows.

-- a step that is offered, with a row that it may choose
pub row-step : (s : State) (t x : ℕ) (p : Pending) → IsOffered s t p → MayChoose s t x p → IsStep s (event_of t (act_of s t x p))
row-step s t x p offered m = (_, record { step = p; rest = offered.0; row = x; offered = offered.1; chosen = m; says = refl; leaves = refl })

-- no row past the tables may be chosen
no-pair-past : (s : State) (t x : ℕ) → length s.pairs ≡ ROWS → ROWS ≤ x → IsTrue (pair_at s t x) → ⊥
no-pair-past s t x whole past h = let none : pair_at s t x ≡ false = rw (get_or-eq_default s.pairs [] {n = x} (omega arith)) refl in cc

inside-of : (a b c d : Bool) → IsTrue (a && b && c && d) → IsTrue b
inside-of a b c d h = (and_parts a b (and_parts (a && b) c (and_parts (a && b && c) d h).0).0).1

reserve-past : (s : State) (t x : ℕ) (kind : Kind) → ROWS ≤ x → MayChoose s t x (Pending.Reserve kind) → ⊥
reserve-past s t x kind past (inl m) = let within : IsTrue (nat_lt x ROWS) = inside-of _ _ _ _ m.1 in let outside : nat_lt x ROWS ≡ false = le-ltb x ROWS past in cc
reserve-past s t x kind past (inr m) = omega arith

expire-past : (s : State) (x : ℕ) → length s.objects ≡ ROWS → ROWS ≤ x → IsTrue (has_run_out s.now (object_at s x).contents) → ⊥
expire-past s x whole past h =
    let none : has_run_out s.now (object_at s x).contents ≡ false = rw (get_or-eq_default s.objects vacant {n = x} (omega arith)) refl in cc

and-none : (b : Bool) → (b && false) ≡ false
and-none true = refl
and-none false = refl

-- nobody waits past the cells
none-waits : (s : State) (t x : ℕ) → length s.objects ≡ ROWS → FUTEX_CELL < x → waits_at s t x ≡ false
none-waits s t x whole past =
    let joins : (x == JOIN_CELL) ≡ false = grind (arith, nat_tests) in
    let futexes : (x == FUTEX_CELL) ≡ false = grind (arith, nat_tests) in
    rw (joins, futexes, get_or-eq_default s.objects vacant {n = x} (omega arith)) (and-none (is_waiting (thread_at s t)))

wait-past : (s : State) (t x : ℕ) (b : Bool) → length s.objects ≡ ROWS → FUTEX_CELL < x → IsTrue (b && waits_at s t x) → ⊥
wait-past s t x b whole past h =
    let waits : IsTrue (waits_at s t x) = (and_parts b (waits_at s t x) h).1 in let none = none-waits s t x whole past in cc

-- a row that is tried for a step, and with which it says the same as with this one
record Tried (s : State) (t x : ℕ) (p : Pending) : Type 0 where
  pub row : ℕ
  pub tried : row < row_count p
  pub chosen : MayChoose s t row p
  pub says : act_of s t x p ≡ act_of s t row p

itself : (s : State) (t x : ℕ) (p : Pending) (n : ℕ) → n ≡ row_count p → (n ≤ x → ⊥) → MayChoose s t x p → Tried s t x p
itself s t x p n is past m = record { row = x; tried = (elim (le-or-lt x n) [ inl within ↦ rw is at within | inr more ↦ absurd (past more) ]); chosen = m; says = refl }

tried-of : (s : State) (t x : ℕ) (p : Pending) → length s.objects ≡ ROWS → length s.pairs ≡ ROWS → MayChoose s t x p → Tried s t x p
tried-of s t x (Pending.Inherit who) o w m = itself s t x (Pending.Inherit who) ROWS refl (λ past. no-pair-past s t x w past m.0) m
tried-of s t x (Pending.Drops from) o w m = itself s t x (Pending.Drops from) ROWS refl (λ past. no-pair-past s t x w past m.1) m
tried-of s t x (Pending.Reserve kind) o w m = itself s t x (Pending.Reserve kind) ROWS refl (λ past. reserve-past s t x kind past m) m
tried-of s t x (Pending.CleanPair who) o w m = itself s t x (Pending.CleanPair who) ROWS refl (λ past. no-pair-past s who.0 x w past m.1) m
tried-of s t x Pending.Recycle o w m = itself s t x Pending.Recycle ROWS refl (λ past. not-gone-past s x o past m.0.0) m
tried-of s t x Pending.Expire o w m = itself s t x Pending.Expire ROWS refl (λ past. expire-past s x o past m) m
tried-of s t x (Pending.TimeOut who) o w m =
    itself s t x (Pending.TimeOut who) (FUTEX_CELL + 1) refl (λ past. wait-past s who.0 x (has_come s.now (thread_at s who.0).until) o (omega arith) m) m
tried-of s t x (Pending.Cut who) o w m = itself s t x (Pending.Cut who) (FUTEX_CELL + 1) refl (λ past. wait-past s who.0 x (thread_at s who.0).aborted o (omega arith) m) m
tried-of s t zero (Pending.Join who timeout) o w m = record { row = 0; tried = omega arith; chosen = m; says = refl }
tried-of s t (suc n) (Pending.Join who timeout) o w m = record { row = 1; tried = omega arith; chosen = m; says = refl }
tried-of s t x _ o w m = record { row = 0; tried = omega arith; chosen = m; says = refl }

-- where each row that is tried is there, each row is
pub rows-tried : (s : State) (t : ℕ) (events : List Event) (p : Pending) → length s.objects ≡ ROWS → length s.pairs ≡ ROWS
    → ((x : ℕ) → x < row_count p → MayChoose s t x p → Has events (event_of t (act_of s t x p))) → HasStep s t events p
rows-tried s t events p o w all x m =
    let one = tried-of s t x p o w m in
    let has = all one.row one.tried one.chosen in
    subst (λ (act : Act). Has events (event_of t act)) (sym one.says) has

-- A thread.

pub rest-has : (s : State) (t : ℕ) (events : List Event) (act : Act) → rest_act s t ≡ Some act → Has events (event_of t act)
    → (p : Pending) → rest_step s t ≡ Some p → HasStep s t events p
rest-has s t events act says has p e x m =
    let here : rest_act s t ≡ Some (act_of s t x p) = rest-says s t x p e in
    let same : act ≡ act_of s t x p = (let both : Some act ≡ Some (act_of s t x p) = sym says ∙ here in cc) in
    subst (λ (a : Act). Has events (event_of t a)) same has

pub rest-has-none : (s : State) (t : ℕ) (events : List Event) → rest_act s t ≡ None → (p : Pending) → rest_step s t ≡ Some p → HasStep s t events p
rest-has-none s t events none p e x m = let bad : None ≡ Some (act_of s t x p) = sym none ∙ rest-says s t x p e in cc

-- a thread has its next step first
pub first-offer : (s : State) (t : ℕ) (p : Pending) → slice_get (thread_at s t).pending 0 ≡ Some p → IsOffered s t p
first-offer s t p head = (drop 1 (thread_at s t).pending, goes (cons (thread_at s t).pending p head))

pub second-offer : (s : State) (t : ℕ) (p : Pending) → second_step s t ≡ Some p → IsOffered s t p
second-offer s t p next =
    let both = skips-of (thread_at s t).pending (none_due (thread_at s t)) p next in
    (drop 2 (thread_at s t).pending, skips-offer s t p both.0 both.1)

-- what holds of the only step holds of each
pub only-has : (s : State) (t : ℕ) (events : List Event) (o : Option Pending) (q : Pending) → o ≡ Some q → HasStep s t events q → (p : Pending) → o ≡ Some p → HasStep s t events p
only-has s t events o q e has p f = let same : q ≡ p = (let both : Some q ≡ Some p = sym e ∙ f in cc) in subst (λ (r : Pending). HasStep s t events r) same has

pub none-has : (s : State) (t : ℕ) (events : List Event) (o : Option Pending) → o ≡ None → (p : Pending) → o ≡ Some p → HasStep s t events p
none-has s t events o e p f = let bad : None ≡ Some p = sym e ∙ f in cc

-- a step that can choose no row
pub chooses-none : (s : State) (t : ℕ) (events : List Event) (p : Pending) → ChoosesNone s t p → HasStep s t events p
chooses-none s t events p none x m = absurd (none x m)

-- Steps that tend to another thread.

pub late-none : (s : State) (t who : ℕ) (events : List Event) → is_waiting (thread_at s who) ≡ false → HasStep s t events (Pending.TimeOut (to_thread who))
late-none s t who events still = chooses-none s t events (Pending.TimeOut (to_thread who)) (still-late s t (to_thread who) still)

pub cut-none : (s : State) (t who : ℕ) (events : List Event) → is_waiting (thread_at s who) ≡ false → HasStep s t events (Pending.Cut (to_thread who))
cut-none s t who events still = chooses-none s t events (Pending.Cut (to_thread who)) (still-cut s t (to_thread who) still)

-- where no object is gone, nothing is cleaned
pub cleans-none : (s : State) (t : ℕ) (who : ThreadIx) (events : List Event) → ((x : ℕ) → is_gone (object_at s x).status ≡ false) → HasStep s t events (Pending.CleanPair who)
cleans-none s t who events alive x m = let none = alive (own_row s.image who.0) in let gone : is_gone (object_at s (own_row s.image who.0)).status ≡ true = m.0.0 in cc

pub recycles-none : (s : State) (t : ℕ) (events : List Event) → ((x : ℕ) → is_gone (object_at s x).status ≡ false) → HasStep s t events Pending.Recycle
recycles-none s t events alive x m = let none = alive x in let gone : is_gone (object_at s x).status ≡ true = m.0.0 in cc

-- no row past the tables is gone
pub all-alive : (s : State) (n : ℕ) → length s.objects ≡ ROWS → ROWS ≤ n → ((x : ℕ) → x < n → is_gone (object_at s x).status ≡ false) → (x : ℕ) → is_gone (object_at s x).status ≡ false
all-alive s n whole all alive x = elim (le-or-lt x n) [ inl within ↦ alive x within | inr past ↦ (rw (get_or-eq_default s.objects vacant {n = x} (omega (arith, past, all, whole))) refl) ]

-- a thread that isn't among the holders has no pair
pub pair-past : (s : State) (t x : ℕ) (events : List Event) (n : ℕ) → length (slice_index_or s.pairs x []) ≤ n
    → ((who : ℕ) → who < n → HasPair s t events (to_thread who) x) → (who : ThreadIx) → HasPair s t events who x
pair-past s t x events n few has who m = elim (le-or-lt who.0 n) [ inl within ↦ has who.0 within m | inr past ↦ absurd (nobody-more s t x who (omega (arith, few, past)) m) ]

-- nor has a row past the tables any
pub pairs-rows : (s : State) (t : ℕ) (events : List Event) (n : ℕ) → length s.pairs ≡ ROWS → ROWS ≤ n
    → ((x : ℕ) → x < n → (who : ThreadIx) → HasPair s t events who x) → (who : ThreadIx) → HasStep s t events (Pending.CleanPair who)
pairs-rows s t events n whole all has who x m = elim (le-or-lt x n) [ inl within ↦ has x within who m | inr past ↦ absurd (no-pair-past s who.0 x whole (omega (arith, past, all)) m.1) ]

pub none-below : (n : ℕ) → n < 0 → ⊥
none-below n h = omega arith

pub no-others : (s : State) (t : ℕ) (events : List Event) → HasOthers s t 0 events
no-others s t events = record { times = λ who h. absurd (none-below who h); cuts = λ who h. absurd (none-below who h) }

pub others-kept : (s : State) (t n : ℕ) (a b : List Event) → GoesOn s a b → HasOthers s t n a → HasOthers s t n b
others-kept s t n a b on has = record {
  times = λ who h. step-kept s t a b (Pending.TimeOut (to_thread who)) on (has.times who h);
  cuts = λ who h. step-kept s t a b (Pending.Cut (to_thread who)) on (has.cuts who h);
}

pub one-more : (s : State) (t n : ℕ) (events : List Event) → HasOthers s t n events → HasStep s t events (Pending.TimeOut (to_thread n)) → HasStep s t events (Pending.Cut (to_thread n)) → HasOthers s t (n + 1) events
one-more s t n events has times cuts = record {
  times = below-next (λ (who : ℕ). HasStep s t events (Pending.TimeOut (to_thread who))) n has.times times;
  cuts = below-next (λ (who : ℕ). HasStep s t events (Pending.Cut (to_thread who))) n has.cuts cuts;
}

pub all-tend : (s : State) (t : ℕ) (events : List Event) → length s.threads ≡ THREADS → ((who : ThreadIx) → HasStep s t events (Pending.CleanPair who)) → HasStep s t events Pending.Recycle
    → HasStep s t events Pending.Tick → HasStep s t events Pending.Expire → HasOthers s t THREADS events → (p : Pending) → IsTrue (is_tending p) → HasStep s t events p
all-tend s t events whole pairs recycles ticks expires others (Pending.CleanPair who) h x m = pairs who x m
all-tend s t events whole pairs recycles ticks expires others Pending.Recycle h x m = recycles x m
all-tend s t events whole pairs recycles ticks expires others Pending.Tick h x m = ticks x m
all-tend s t events whole pairs recycles ticks expires others (Pending.TimeOut who) h x m =
    elim (le-or-lt who.0 THREADS) [ inl within ↦ others.times who.0 within x m | inr past ↦ absurd (late-past s t x who whole past m) ]
all-tend s t events whole pairs recycles ticks expires others Pending.Expire h x m = expires x m
all-tend s t events whole pairs recycles ticks expires others (Pending.Cut who) h x m =
    elim (le-or-lt who.0 THREADS) [ inl within ↦ others.cuts who.0 within x m | inr past ↦ absurd (cut-past s t x who whole past m) ]
all-tend s t events whole pairs recycles ticks expires others _ h x m = cc

-- The steps of a thread, and those of all threads.

line-is-begin : (o : Option Instr) → IsTrue (is_some o) → line_step o ≡ Pending.Begin
line-is-begin None h = cc
line-is-begin (Some instr) h = refl

first-goes : (s : State) (t : ℕ) {p : Pending} {rest : Steps} → (thread_at s t).pending ≡ p ∷ rest → first_step s t ≡ Some p
first-goes s t e = rw e refl

first-begins : (s : State) (t : ℕ) → (thread_at s t).pending ≡ [] → is_living (thread_at s t).life ≡ true → may_go (thread_at s t) ≡ true → IsTrue (is_some (instruction_at s.image (thread_at s t).place))
    → first_step s t ≡ Some Pending.Begin
first-begins s t e l d some = rw (e, l, d, line-is-begin (instruction_at s.image (thread_at s t).place) some) refl

first-exits : (s : State) (t : ℕ) → (thread_at s t).pending ≡ [] → is_living (thread_at s t).life ≡ true → may_go (thread_at s t) ≡ true → instruction_at s.image (thread_at s t).place ≡ None → first_step s t ≡ Some Pending.Exit
first-exits s t e l d i = rw (e, l, d, i) refl

-- one that must stop may not go
stopped-by : (doomed aborted suspended : Bool) → IsTrue (not doomed && aborted) → not (doomed || aborted || suspended) ≡ false
stopped-by true aborted suspended h = cc
stopped-by false true suspended h = refl
stopped-by false false suspended h = cc

first-stops : (s : State) (t : ℕ) → (thread_at s t).pending ≡ [] → is_living (thread_at s t).life ≡ true → must_stop (thread_at s t) ≡ true → first_step s t ≡ Some Pending.Killed
first-stops s t e l m =
    let me = thread_at s t in let stays : may_go me ≡ false = stopped-by me.doomed me.aborted me.suspended m in rw (e, l, stays, m) refl

second-inherit : (s : State) (t : ℕ) {who : ThreadIx} {p : Pending} {rest : Steps} → (thread_at s t).pending ≡ Pending.Inherit who ∷ p ∷ rest → none_due (thread_at s t) ≡ true → second_step s t ≡ Some p
second-inherit s t e due = rw (e, due) refl

second-drops : (s : State) (t : ℕ) {from : ℕ} {p : Pending} {rest : Steps} → (thread_at s t).pending ≡ Pending.Drops from ∷ p ∷ rest → none_due (thread_at s t) ≡ true → second_step s t ≡ Some p
second-drops s t e due = rw (e, due) refl

pub thread-has : (s : State) (t : ℕ) (events : List Event) → ((p : Pending) → first_step s t ≡ Some p → HasStep s t events p) → ((p : Pending) → second_step s t ≡ Some p → HasStep s t events p)
    → (IsTrue (is_ending (thread_at s t)) → HasStep s t events Pending.Left)
    → (IsTrue (is_started (thread_at s t).life) → (p : Pending) → IsTrue (is_tending p) → HasStep s t events p) → HasThread s t events
thread-has s t events first second left tending p rest (goes e) = first p (first-goes s t e)
thread-has s t events first second left tending p rest (skips_inherit e due) = second p (second-inherit s t e due)
thread-has s t events first second left tending p rest (skips_drops e due) = second p (second-drops s t e due)
thread-has s t events first second left tending _ _ (begins e l may some) = first Pending.Begin (first-begins s t e l may some)
thread-has s t events first second left tending _ _ (exits e l may none) = first Pending.Exit (first-exits s t e l may none)
thread-has s t events first second left tending _ _ (stops e l must) = first Pending.Killed (first-stops s t e l must)
thread-has s t events first second left tending _ _ (leaves ending) = left ending
thread-has s t events first second left tending p rest (tends is l) = tending l p is

pub thread-kept : (s : State) (t : ℕ) (a b : List Event) → GoesOn s a b → HasThread s t a → HasThread s t b
thread-kept s t a b on has p rest offer = step-kept s t a b p on (has p rest offer)

pub all-steps : (s : State) (events : List Event) → length s.threads ≡ THREADS → All (IsStep s) events → ((t : ℕ) → t < THREADS → HasThread s t events) → AreSteps s events
all-steps s events whole each has = record {
  each = each;
  all = λ event s2 step.
      elim (le-or-lt event.thread.0 THREADS) [
        | inl within ↦ (let there = has event.thread.0 within step.step step.rest step.offered step.row step.chosen in subst (λ (act : Act). Has events (event_of event.thread.0 act)) (sym step.says) there)
        | inr past ↦ absurd (past-no-step s event whole past s2 step)
      ];
}

-- How steps are offered.

pub first-is : (s : State) (t : ℕ) (p : Pending) → slice_get (thread_at s t).pending 0 ≡ Some p → first_step s t ≡ Some p
first-is s t p head = rw head refl

pub first-rests : (s : State) (t : ℕ) → slice_get (thread_at s t).pending 0 ≡ None → first_step s t ≡ rest_step s t
first-rests s t none = rw none refl

pub leaving-offer : (s : State) (t : ℕ) → is_ending (thread_at s t) ≡ true → IsOffered s t Pending.Left
leaving-offer s t ending = ((thread_at s t).pending, leaves ending)

pub tending-offer : (s : State) (t : ℕ) (p : Pending) → IsTrue (is_tending p) → IsTrue (is_started (thread_at s t).life) → IsOffered s t p
tending-offer s t p is started = ((thread_at s t).pending, tends is started)
