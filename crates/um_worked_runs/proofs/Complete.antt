-- Where the evaluation finds no step left, the machine has none.
use Rattle.std.specs.Prelude.{◌≡◌, ◌≢◌, ◌⊎◌, ◌≤◌, ◌<◌, ℕ, zero, suc, ◌+◌, Bool, true, false, ◌==◌, ◌&&◌, ◌||◌, not, nat_lt, nat_le, if◌then◌else◌, IsTrue, List, [], ◌∷◌, length, Option, Some, None, is_some, slice_index_or, refl}
use Rattle.std.specs.List.{list_all, list_any}
use Rattle.std.proofs.Common.{arith, ap, le_trans, eq-or-lt_of_le, sym, ◌∙◌}
use Rattle.std.proofs.lemmas.Bool.{true≢false, false≢true, ne_eqb, and_parts, and_from, or_parts, not-true, not_from_false, false_from_ne_true, leb-true, le-leb, ltb-true, ltb-false, eq-eqb, eqb-true}
use Rattle.std.proofs.lemmas.List.{get_or_past}
use mathlib.Core.Logic.{inl, inr}
use Rattle.um_base.specs.declared.ask.Waiter.{Waiter}
use Rattle.um_base.specs.declared.names.Kind.{Kind}
use Rattle.um_base.specs.declared.names.ThreadIx.{ThreadIx}
use Rattle.um_base.specs.declared.limits.TheConstants.{ROWS, THREADS, STATIC_ROWS, JOIN_CELL, FUTEX_CELL}
use Rattle.um_base.specs.Places.{own_row}
use Rattle.um_machine.specs.declared.object.Object.{Object}
use Rattle.um_machine.specs.declared.pending.Pending.{Pending}
use Rattle.um_machine.specs.declared.thread.Thread.{Thread}
use Rattle.um_machine.specs.State.{State, nobody, vacant, waiters_in, thread_at, object_at, pair_at, is_living, is_started}
use Rattle.um_machine.specs.Objects.{is_gone}
use Rattle.um_machine.specs.Order.{Steps, to_thread}
use Rattle.um_machine.specs.Table.{pays}
use Rattle.um_machine.specs.Time.{next_deadline, has_come, has_run_out}
use Rattle.um_machine.specs.Joins.{is_ending}
use Rattle.um_machine.specs.Run.{may_go, must_stop, is_tending, stands_in, is_free_for, Offers, MayChoose, MayClean, NoPairsOf, IsComplete}
use Rattle.um_worked_runs.specs.Evaluate.{Way, goes, skips, begins, exits, stops, leaves, offer_if, next_offer, later_offer, unless_due, rests, is_at_rest, is_at_stop, offered, numbers, all_rows, all_cells, all_threads, is_over, is_due, is_tendable, is_cleaner, may_clean, no_pairs_of, may_reserve, may_choose, can_take, can_go, is_stuck, is_cleanable, keeps_limits, is_complete}
use Rattle.um_worked_runs.proofs.Sound.{any-numbers, first-or-later}

-- A state that keeps the limits.
record Small (s : State) : Type 0 where
  threads : length s.threads ≤ THREADS
  objects : length s.objects ≤ ROWS
  pairs : length s.pairs ≤ ROWS

small-of : (s : State) → IsTrue (keeps_limits s) → Small s
small-of s h =
    let all = and_parts _ _ h in
    let both = and_parts _ _ all.0 in
    record { threads = leb-true _ THREADS both.0; objects = leb-true _ ROWS both.1; pairs = leb-true _ ROWS all.1 }

lt-or-le : (a b : ℕ) → (a < b) ⊎ (b ≤ a)
lt-or-le a b = by-test (nat_lt a b) refl where
  by-test : (c : Bool) → nat_lt a b ≡ c → (a < b) ⊎ (b ≤ a)
  by-test true e = inl (ltb-true a b e)
  by-test false e = inr (ltb-false a b e)

-- what a limit says of an index that stands
below : (a b : ℕ) → (b ≤ a → ⊥) → a < b
below a b h = by-order (lt-or-le a b) where
  by-order : (a < b) ⊎ (b ≤ a) → a < b
  by-order (inl l) = l
  by-order (inr l) = absurd (h l)

beyond : (s : State) → Small s → (t : ℕ) → THREADS ≤ t → thread_at s t ≡ nobody
beyond s small t l = get_or_past s.threads t nobody (le_trans small.threads l)

pair-row : (s : State) → Small s → (t x : ℕ) → IsTrue (pair_at s t x) → x < ROWS
pair-row s small t x h = below x ROWS λ l.
    true≢false (sym h ∙ ap (λ (flags : List Bool). slice_index_or flags t false) (get_or_past s.pairs x [] (le_trans small.pairs l)))

gone-row : (s : State) → Small s → (x : ℕ) → IsTrue (is_gone (object_at s x).status) → x < ROWS
gone-row s small x h = below x ROWS λ l. true≢false (sym h ∙ ap (λ o. is_gone o.status) (get_or_past s.objects x vacant (le_trans small.objects l)))

started-index : (s : State) → Small s → (t : ℕ) → IsTrue (is_started (thread_at s t).life) → t < THREADS
started-index s small t h = below t THREADS λ l. true≢false (sym h ∙ ap (λ (me : Thread). is_started me.life) (beyond s small t l))

living-index : (s : State) → Small s → (t : ℕ) → IsTrue (is_living (thread_at s t).life) → t < THREADS
living-index s small t h = below t THREADS λ l. true≢false (sym h ∙ ap (λ (me : Thread). is_living me.life) (beyond s small t l))

abbrev some-pending : Steps → Bool
some-pending [] = false
some-pending (p ∷ rest) = true

pending-index : (s : State) → Small s → (t : ℕ) {p : Pending} {rest : Steps} → (thread_at s t).pending ≡ p ∷ rest → t < THREADS
pending-index s small t e = below t THREADS λ l. true≢false (sym (ap some-pending e) ∙ ap (λ (me : Thread). some-pending me.pending) (beyond s small t l))

all-numbers : (p : ℕ → Bool) (i n : ℕ) → list_all p (numbers i n) ≡ true → (k : ℕ) → i ≤ k → k < i + n → p k ≡ true
all-numbers p i zero h k low high = absurd (omega arith)
all-numbers p i (suc n) h k low high =
    let parts = and_parts (p i) (list_all p (numbers (i + 1) n)) h in
    first-or-later p true (eq-or-lt_of_le low) parts.0 λ l. all-numbers p (i + 1) n parts.1 k (omega (arith, l)) (omega (arith, high))

-- what the machine may choose passes the tests

cleaner-passes : (t : ℕ) (o : Option ThreadIx) → (o ≡ None) ⊎ (o ≡ Some (to_thread t)) → IsTrue (is_cleaner t o)
cleaner-passes t o (inl e) = ap (is_cleaner t) e
cleaner-passes t o (inr e) = ap (is_cleaner t) e ∙ eq-eqb t t refl

clean-passes : (s : State) (t x : ℕ) → MayClean s t x → IsTrue (may_clean s t x)
clean-passes s t x h = and_from _ _ (and_from _ _ h.0 h.1) (cleaner-passes t _ h.2)

-- a row or a cell that a step may choose, and that passes the test
abbrev Passes : State → ℕ → Pending → Type 0
Passes s t p = (y : ℕ) × (y < 130) × IsTrue (may_choose s t y p)

row-cell : (x : ℕ) → x < ROWS → x < 130
row-cell x l = omega (arith, l)

-- a cell in which somebody waits
beyond-cells : (s : State) → Small s → (x : ℕ) → 130 ≤ x → waiters_in s x ≡ []
beyond-cells s small x l =
    let no-join : (x == JOIN_CELL) ≡ false = ne_eqb x JOIN_CELL λ e. omega (arith, l, e) in
    let no-futex : (x == FUTEX_CELL) ≡ false = ne_eqb x FUTEX_CELL λ e. omega (arith, l, e) in
    let all : length s.objects ≤ x = omega (arith, small.objects, l) in
    ap (λ b. if b then s.joins else if x == FUTEX_CELL then s.futexes else (object_at s x).waiters) no-join
    ∙ ap (λ b. if b then s.futexes else (object_at s x).waiters) no-futex ∙ ap (λ (o : Object). o.waiters) (get_or_past s.objects x vacant all)

cut-cell : (s : State) → Small s → (x who : ℕ) → IsTrue (stands_in who (waiters_in s x)) → x < 130
cut-cell s small x who h = below x 130 λ l. true≢false (sym h ∙ ap (stands_in who) (beyond-cells s small x l))

out-row : (s : State) → Small s → (x : ℕ) → IsTrue (has_run_out s.now (object_at s x).contents) → x < ROWS
out-row s small x h = below x ROWS λ l. true≢false (sym h ∙ ap (λ (o : Object). has_run_out s.now o.contents) (get_or_past s.objects x vacant (le_trans small.objects l)))

-- numbers of which each fails a test
no-number : (p : ℕ → Bool) (i n : ℕ) → ((k : ℕ) → p k ≡ false) → list_any p (numbers i n) ≡ false
no-number p i zero h = refl
no-number p i (suc n) h = ap (λ b. b || list_any p (numbers (i + 1) n)) (h i) ∙ no-number p (i + 1) n h

free-row : (s : State) (kind : Kind) (x : ℕ) → IsTrue (is_free_for s kind x) → x < ROWS
free-row s kind x free = ltb-true x ROWS (and_parts (nat_le STATIC_ROWS x) (nat_lt x ROWS) (and_parts _ _ (and_parts _ _ free).0).0).1

reserve-passes : (s : State) (t x : ℕ) (kind : Kind) → MayChoose s t x (Pending.Reserve kind) → Passes s t (Pending.Reserve kind)
reserve-passes s t x kind (inl h) =
    (x, row-cell x (free-row s kind x h.1), ap (λ b. may_reserve s b kind x) h.0 ∙ ap (λ b. b || ((x == 0) && not (list_any (is_free_for s kind) all_rows))) h.1)
reserve-passes s t x kind (inr h) = (0, omega arith, by-pool (pays s (thread_at s t).pool 64) refl) where
  by-pool : (b : Bool) → pays s (thread_at s t).pool 64 ≡ b → IsTrue (may_reserve s (pays s (thread_at s t).pool 64) kind 0)
  by-pool false e = ap (λ b. may_reserve s b kind 0) e
  by-pool true e = ap (λ b. may_reserve s b kind 0) e ∙ not_from_false _ (no-number (is_free_for s kind) 0 ROWS (h.1 e))

differ-passes : (x y : ℕ) → x ≢ y → not (x == y) ≡ true
differ-passes x y h = not_from_false _ (false_from_ne_true _ λ e. h (eqb-true x y e))

pairs-pass : (s : State) (o : Option ℕ) → NoPairsOf s o → IsTrue (no_pairs_of s o)
pairs-pass s None h = refl
pairs-pass s (Some t) h = h

passes : (s : State) → Small s → (t x : ℕ) (p : Pending) → MayChoose s t x p → Passes s t p
passes s small t x (Pending.Inherit who) h = (x, row-cell x (pair-row s small t x h.0), and_from _ _ (and_from _ _ h.0 h.1) (differ-passes x _ h.2))
passes s small t x (Pending.Drops from) h = (x, row-cell x (pair-row s small t x h.1), and_from _ _ (and_from _ _ (le-leb from x h.0) h.1) h.2)
passes s small t x (Pending.Reserve kind) h = reserve-passes s t x kind h
passes s small t x (Pending.CleanPair who) h = (x, row-cell x (pair-row s small who.0 x h.1), and_from _ _ (clean-passes s t _ h.0) h.1)
passes s small t x Pending.Recycle h = (x, row-cell x (gone-row s small x h.0.0), and_from _ _ (clean-passes s t x h.0) (pairs-pass s _ h.1))
passes s small t x Pending.Resume h = (0, omega arith, ap is_some h.1)
passes s small t x (Pending.ClearInit a) h = (0, omega arith, h)
passes s small t zero (Pending.Join who timeout) h = (0, omega arith, h)
passes s small t (suc n) (Pending.Join who timeout) h = (1, omega arith, h)
passes s small t x Pending.Left h = (0, omega arith, h)
passes s small t x Pending.Tick h = (0, omega arith, h)
passes s small t x (Pending.TimeOut who) h = (x, cut-cell s small x who.0 (and_parts _ _ (and_parts _ _ h).1).1, h)
passes s small t x Pending.Expire h = (x, row-cell x (out-row s small x h), h)
passes s small t x (Pending.Cut who) h = (x, cut-cell s small x who.0 (and_parts _ _ (and_parts _ _ h).1).1, h)
passes s small t x _ h = (0, omega arith, refl)

-- a way that can't be gone offers no step that may be made
no-way : (s : State) → Small s → (t x : ℕ) (way : Way) (p : Pending) (rest : Steps) → can_go s t way ≡ false → offered s t way ≡ Some (p, rest) → MayChoose s t x p → ⊥
no-way s small t x way p rest h e may =
    let y = passes s small t x p may in
    let none : can_take s t (Some (p, rest)) ≡ false = sym (ap (can_take s t) e) ∙ h in
    true≢false (sym y.2 ∙ any-numbers (λ k. may_choose s t k p) 0 130 none y.0 (omega arith) y.1)

-- what a stuck thread can't do
record Stuck (s : State) (t : ℕ) : Type 0 where
  goes : can_go s t goes ≡ false
  skips : can_go s t skips ≡ false
  begins : can_go s t begins ≡ false
  exits : can_go s t exits ≡ false
  stops : can_go s t stops ≡ false
  leaves : can_go s t leaves ≡ false

stuck-of : (s : State) (t : ℕ) → IsTrue (is_stuck s t) → Stuck s t
stuck-of s t h =
    let fifth = or_parts _ _ (not-true _ h) in
    let fourth = or_parts _ _ fifth.0 in
    let last = or_parts _ _ fourth.0 in
    let third = or_parts _ _ last.0 in
    let second = or_parts _ _ third.0 in
    record { goes = second.0; skips = second.1; begins = third.1; exits = last.1; stops = fourth.1; leaves = fifth.1 }

no-cleaning : (s : State) → Small s → (t x : ℕ) → IsTrue (not (list_any (λ y. is_cleanable s (is_gone (object_at s y).status) y) all_rows)) → IsTrue (is_started (thread_at s t).life) → MayClean s t x → ⊥
no-cleaning s small t x h started may =
    let none = any-numbers (λ y. is_cleanable s (is_gone (object_at s y).status) y) 0 ROWS (not-true _ h) x (omega arith) (gone-row s small x may.0) in
    let cleans : is_cleanable s true x ≡ false = sym (ap (λ b. is_cleanable s b x) may.0) ∙ none in
    let fails = any-numbers (λ k. is_started (thread_at s k).life && may_clean s k x) 0 THREADS cleans t (omega arith) (started-index s small t started) in
    true≢false (sym (and_from _ _ started (clean-passes s t x may)) ∙ fails)

-- what is left of time and of aborts

-- nobody among these is over
nobody-over : (s : State) (who : ℕ) (ws : List Waiter) → list_any (is_over s) ws ≡ false → (has_come s.now (thread_at s who).until || (thread_at s who).aborted) ≡ true → stands_in who ws ≡ false
nobody-over s who [] h a = refl
nobody-over s who (w ∷ ws) h a =
    let parts = or_parts (is_over s w) (list_any (is_over s) ws) h in
    let other : (w.thread.0 == who) ≡ false = false_from_ne_true _ λ e. true≢false (sym a ∙ ap (λ n. has_come s.now (thread_at s n).until || (thread_at s n).aborted) (sym (eqb-true _ _ e)) ∙ parts.0) in
    ap (λ b. b || stands_in who ws) other ∙ nobody-over s who ws parts.1 a

or-right : (a b : Bool) → b ≡ true → (a || b) ≡ true
or-right true b h = refl
or-right false b h = h

some-started : (s : State) → Small s → (t : ℕ) → IsTrue (is_started (thread_at s t).life) → list_any (λ k. is_started (thread_at s k).life) all_threads ≡ true
some-started s small t h = by-test (list_any (λ k. is_started (thread_at s k).life) all_threads) refl where
  by-test : (b : Bool) → list_any (λ k. is_started (thread_at s k).life) all_threads ≡ b → list_any (λ k. is_started (thread_at s k).life) all_threads ≡ true
  by-test true e = e
  by-test false e = absurd (true≢false (sym h ∙ any-numbers (λ k. is_started (thread_at s k).life) 0 THREADS e t (omega arith) (started-index s small t h)))

-- where a thread was started and nothing is tended to, there is no deadline left, and no cell has anything due
record Calm (s : State) : Type 0 where
  ticks : is_some (next_deadline s.now s.armed) ≡ false
  cells : list_any (is_due s) all_cells ≡ false

calm-of : (s : State) → Small s → IsTrue (not (is_tendable s)) → (t : ℕ) → IsTrue (is_started (thread_at s t).life) → Calm s
calm-of s small h t started =
    let some = some-started s small t started in
    let none = sym (ap (λ b. (is_some (next_deadline s.now s.armed) || list_any (is_due s) all_cells) && b) some) ∙ not-true _ h in
    let parts = or_parts _ _ (and-true _ none) in record { ticks = parts.0; cells = parts.1 } where
      and-true : (b : Bool) → (b && true) ≡ false → b ≡ false
      and-true true e = e
      and-true false e = refl

calm-cell : (s : State) → Calm s → (x : ℕ) → x < 130 → is_due s x ≡ false
calm-cell s calm x l = any-numbers (is_due s) 0 130 calm.cells x (omega arith) (omega (arith, l))

no-tending : (s : State) → Small s → IsTrue (not (list_any (λ y. is_cleanable s (is_gone (object_at s y).status) y) all_rows)) → IsTrue (not (is_tendable s)) → (t x : ℕ) (p : Pending) → IsTrue (is_tending p) → IsTrue (is_started (thread_at s t).life) → MayChoose s t x p → ⊥
no-tending s small clean idle t x (Pending.CleanPair who) kind l may = no-cleaning s small t (own_row s.image who.0) clean l may.0
no-tending s small clean idle t x Pending.Recycle kind l may = no-cleaning s small t x clean l may.0
no-tending s small clean idle t x Pending.Tick kind l may = true≢false (sym may ∙ (calm-of s small idle t l).ticks)
no-tending s small clean idle t x (Pending.TimeOut who) kind l may =
    let both = and_parts _ _ may in
    let stands = (and_parts _ _ both.1).1 in
    let calm = calm-cell s (calm-of s small idle t l) x (cut-cell s small x who.0 stands) in
    true≢false (sym stands ∙ nobody-over s who.0 (waiters_in s x) (or_parts _ _ calm).0 (ap (λ b. b || (thread_at s who.0).aborted) both.0))
no-tending s small clean idle t x Pending.Expire kind l may =
    let calm = calm-cell s (calm-of s small idle t l) x (row-cell x (out-row s small x may)) in true≢false (sym may ∙ (or_parts _ _ calm).1)
no-tending s small clean idle t x (Pending.Cut who) kind l may =
    let both = and_parts _ _ may in
    let stands = (and_parts _ _ both.1).1 in
    let calm = calm-cell s (calm-of s small idle t l) x (cut-cell s small x who.0 stands) in
    true≢false (sym stands ∙ nobody-over s who.0 (waiters_in s x) (or_parts _ _ calm).0 (or-right _ _ both.0))
no-tending s small clean idle t x _ kind l may = absurd (false≢true kind)

at-rest : (s : State) (t : ℕ) → (thread_at s t).pending ≡ [] → IsTrue (is_living (thread_at s t).life) → IsTrue (may_go (thread_at s t)) → IsTrue (is_at_rest (thread_at s t))
at-rest s t e l d = ap (λ steps. rests steps (is_living (thread_at s t).life && may_go (thread_at s t))) e ∙ and_from _ _ l d

at-stop : (s : State) (t : ℕ) → (thread_at s t).pending ≡ [] → IsTrue (is_living (thread_at s t).life) → IsTrue (must_stop (thread_at s t)) → IsTrue (is_at_stop (thread_at s t))
at-stop s t e l d = ap (λ steps. rests steps (is_living (thread_at s t).life && must_stop (thread_at s t))) e ∙ and_from _ _ l d

ended-index : (s : State) → Small s → (t : ℕ) → IsTrue (is_ending (thread_at s t)) → t < THREADS
ended-index s small t h = below t THREADS λ l. true≢false (sym h ∙ ap is_ending (beyond s small t l))

no-offer : (s : State) → Small s → ((t : ℕ) → t < THREADS → Stuck s t) → IsTrue (not (list_any (λ y. is_cleanable s (is_gone (object_at s y).status) y) all_rows)) → IsTrue (not (is_tendable s)) → (t x : ℕ) {p : Pending} {rest : Steps} → Offers s t p rest → MayChoose s t x p → ⊥
no-offer s small stuck clean idle t x {p} {rest} (Offers.goes e) may =
    no-way s small t x goes p rest (stuck t (pending-index s small t e)).goes (ap next_offer e) may
no-offer s small stuck clean idle t x {p} {rest} (Offers.skips_inherit e d) may =
    no-way s small t x skips p rest (stuck t (pending-index s small t e)).skips (ap (λ b. unless_due b (later_offer (thread_at s t).pending)) d ∙ ap later_offer e) may
no-offer s small stuck clean idle t x {p} {rest} (Offers.skips_drops e d) may =
    no-way s small t x skips p rest (stuck t (pending-index s small t e)).skips (ap (λ b. unless_due b (later_offer (thread_at s t).pending)) d ∙ ap later_offer e) may
no-offer s small stuck clean idle t x (Offers.begins e l d i) may =
    no-way s small t x begins Pending.Begin [] (stuck t (living-index s small t l)).begins (ap (λ b. offer_if b (Pending.Begin, [])) (and_from _ _ (at-rest s t e l d) i)) may
no-offer s small stuck clean idle t x (Offers.exits e l d i) may =
    no-way s small t x exits Pending.Exit [] (stuck t (living-index s small t l)).exits (ap (λ b. offer_if b (Pending.Exit, [])) (and_from _ _ (at-rest s t e l d) (ap (λ o. not (is_some o)) i))) may
no-offer s small stuck clean idle t x (Offers.stops e l d) may =
    no-way s small t x stops Pending.Killed [] (stuck t (living-index s small t l)).stops (ap (λ b. offer_if b (Pending.Killed, [])) (at-stop s t e l d)) may
no-offer s small stuck clean idle t x (Offers.leaves l) may =
    no-way s small t x leaves Pending.Left (thread_at s t).pending (stuck t (ended-index s small t l)).leaves (ap (λ b. offer_if b (Pending.Left, (thread_at s t).pending)) l) may
no-offer s small stuck clean idle t x (Offers.tends {p = p} kind l) may = no-tending s small clean idle t x p kind l may

-- a state that passes the test has no step
pub complete : (s : State) → IsTrue (is_complete s) → IsComplete s
complete s h event s2 step =
    let ends = and_parts _ _ h in
    let all = and_parts _ _ ends.0 in
    let both = and_parts _ _ all.0 in
    let small = small-of s both.0 in
    no-offer s small (λ t l. stuck-of s t (all-numbers (is_stuck s) 0 THREADS both.1 t (omega arith) l)) all.1 ends.1 event.thread.0 step.row step.offered step.chosen
