-- What the evaluation accepts is a run of the machine.
use Rattle.std.specs.Prelude.{◌≡◌, ◌≢◌, ◌⊎◌, ◌≤◌, ◌<◌, ℕ, zero, suc, ◌+◌, Bool, true, false, ◌==◌, ◌&&◌, not, nat_lt, nat_le, IsTrue, List, [], ◌∷◌, Option, Some, None, is_some, refl}
use Rattle.std.specs.List.{list_any}
use Rattle.std.proofs.Common.{arith, ap, eq-or-lt_of_le, sym, ◌∙◌}
use Rattle.std.proofs.lemmas.Bool.{false≢true, true≢false, and_parts, or_parts, or_cases, not-true, leb-true, ltb-true, eqb-true, eq-eqb, false_from_ne_true}
use mathlib.Core.Logic.{inl, inr}
use Rattle.um_base.specs.declared.instr.Instr.{Instr}
use Rattle.um_base.specs.declared.names.Kind.{Kind}
use Rattle.um_base.specs.declared.names.ThreadIx.{ThreadIx}
use Rattle.um_base.specs.declared.image.Image.{Image}
use Rattle.um_base.specs.declared.limits.TheConstants.{ROWS, STATIC_ROWS}
use Rattle.um_machine.specs.declared.pending.Pending.{Pending}
use Rattle.um_machine.specs.State.{State, thread_at, is_living, is_started, instruction_at}
use Rattle.um_machine.specs.Order.{Steps, to_thread}
use Rattle.um_machine.specs.Table.{after, pays}
use Rattle.um_machine.specs.Joins.{is_ending}
use Rattle.um_machine.specs.Run.{none_due, may_go, is_tending, is_free_for, Offers, Runs, IsRun, MayChoose, MayClean, NoPairsOf, opening}
use Rattle.um_worked_runs.specs.Evaluate.{Way, goes, skips, begins, exits, stops, leaves, tends, Choice, Offer, offer_if, next_offer, later_offer, unless_due, rests, is_at_rest, is_at_stop, offered, numbers, all_rows, is_cleaner, may_clean, no_pairs_of, may_reserve, may_choose, Course, course_by, course, run_of}

-- an offer is one that the machine makes
abbrev pub OffersIt : State → ℕ → Offer → Type 0
OffersIt s t None = Unit {0}
OffersIt s t (Some step) = Offers s t step.0 step.1

next-sound : (s : State) (t : ℕ) (steps : Steps) → (thread_at s t).pending ≡ steps → OffersIt s t (next_offer steps)
next-sound s t [] h = tt
next-sound s t (p ∷ rest) h = Offers.goes h

later-sound : (s : State) (t : ℕ) (steps : Steps) → (thread_at s t).pending ≡ steps → IsTrue (none_due (thread_at s t)) → OffersIt s t (later_offer steps)
later-sound s t (Pending.Inherit who ∷ p ∷ rest) h d = Offers.skips_inherit h d
later-sound s t (Pending.Drops from ∷ p ∷ rest) h d = Offers.skips_drops h d
later-sound s t _ h d = tt

skip-sound : (s : State) (t : ℕ) (b : Bool) → none_due (thread_at s t) ≡ b → OffersIt s t (unless_due b (later_offer (thread_at s t).pending))
skip-sound s t true h = later-sound s t (thread_at s t).pending refl h
skip-sound s t false h = tt

-- what a thread at rest is
pending-parts : (steps : Steps) (b : Bool) → rests steps b ≡ true → (steps ≡ []) × (b ≡ true)
pending-parts [] b h = (refl, h)
pending-parts (p ∷ rest) b h = absurd (false≢true h)

rest-parts : (s : State) (t : ℕ) → IsTrue (is_at_rest (thread_at s t)) → ((thread_at s t).pending ≡ []) × IsTrue (is_living (thread_at s t).life) × IsTrue (may_go (thread_at s t))
rest-parts s t h =
    let both = pending-parts _ _ h in
    let lives = and_parts _ _ both.1 in (both.0, lives.0, lives.1)

no-instr : (i : Option Instr) → not (is_some i) ≡ true → i ≡ None
no-instr None h = refl
no-instr (Some i) h = absurd (false≢true h)

begin-sound : (s : State) (t : ℕ) (b : Bool) → (is_at_rest (thread_at s t) && is_some (instruction_at s.image (thread_at s t).place)) ≡ b → OffersIt s t (offer_if b (Pending.Begin, []))
begin-sound s t false h = tt
begin-sound s t true h = let both = and_parts _ _ h in let r = rest-parts s t both.0 in Offers.begins r.0 r.1 r.2 both.1

exit-sound : (s : State) (t : ℕ) (b : Bool) → (is_at_rest (thread_at s t) && not (is_some (instruction_at s.image (thread_at s t).place))) ≡ b → OffersIt s t (offer_if b (Pending.Exit, []))
exit-sound s t false h = tt
exit-sound s t true h = let both = and_parts _ _ h in let r = rest-parts s t both.0 in Offers.exits r.0 r.1 r.2 (no-instr _ both.1)

stop-sound : (s : State) (t : ℕ) (b : Bool) → is_at_stop (thread_at s t) ≡ b → OffersIt s t (offer_if b (Pending.Killed, []))
stop-sound s t false h = tt
stop-sound s t true h = let both = pending-parts _ _ h in let lives = and_parts _ _ both.1 in Offers.stops both.0 lives.0 lives.1

leave-sound : (s : State) (t : ℕ) (b : Bool) → is_ending (thread_at s t) ≡ b → OffersIt s t (offer_if b (Pending.Left, (thread_at s t).pending))
leave-sound s t false h = tt
leave-sound s t true h = Offers.leaves h

tend-sound : (s : State) (t : ℕ) (p : Pending) (b : Bool) → (is_tending p && is_started (thread_at s t).life) ≡ b → OffersIt s t (offer_if b (p, (thread_at s t).pending))
tend-sound s t p false h = tt
tend-sound s t p true h = let both = and_parts _ _ h in Offers.tends both.0 both.1

-- what is offered by a way, the machine offers
pub offered-sound : (s : State) (t : ℕ) (way : Way) → OffersIt s t (offered s t way)
offered-sound s t goes = next-sound s t (thread_at s t).pending refl
offered-sound s t skips = skip-sound s t (none_due (thread_at s t)) refl
offered-sound s t begins = begin-sound s t _ refl
offered-sound s t exits = exit-sound s t _ refl
offered-sound s t stops = stop-sound s t _ refl
offered-sound s t leaves = leave-sound s t _ refl
offered-sound s t (tends p) = tend-sound s t p _ refl

-- the first number, or one behind it
pub first-or-later : (p : ℕ → Bool) (b : Bool) {i k : ℕ} → (i ≡ k) ⊎ (i < k) → p i ≡ b → (i < k → p k ≡ b) → p k ≡ b
first-or-later p b (inl e) first later = rw (sym e) first
first-or-later p b (inr l) first later = later l

-- numbers that fail a test
pub any-numbers : (p : ℕ → Bool) (i n : ℕ) → list_any p (numbers i n) ≡ false → (k : ℕ) → i ≤ k → k < i + n → p k ≡ false
any-numbers p i zero h k low high = absurd (omega arith)
any-numbers p i (suc n) h k low high =
    let parts = or_parts (p i) (list_any p (numbers (i + 1) n)) h in
    first-or-later p false (eq-or-lt_of_le low) parts.0 λ l. any-numbers p (i + 1) n parts.1 k (omega (arith, l)) (omega (arith, high))

cleaner-sound : (t : ℕ) (o : Option ThreadIx) → IsTrue (is_cleaner t o) → (o ≡ None) ⊎ (o ≡ Some (to_thread t))
cleaner-sound t None h = inl refl
cleaner-sound t (Some cleaner) h = inr (ap (λ n. Some (to_thread n)) (eqb-true _ _ h))

clean-chosen : (s : State) (t x : ℕ) → IsTrue (may_clean s t x) → MayClean s t x
clean-chosen s t x h = let all = and_parts _ _ h in let both = and_parts _ _ all.0 in (both.0, both.1, cleaner-sound t _ all.1)

pairs-sound : (s : State) (o : Option ℕ) → IsTrue (no_pairs_of s o) → NoPairsOf s o
pairs-sound s None h = tt
pairs-sound s (Some t) h = h

none-free : (s : State) (kind : Kind) → not (list_any (is_free_for s kind) all_rows) ≡ true → (y : ℕ) → is_free_for s kind y ≡ false
none-free s kind h y = false_from_ne_true _ λ free. refused free (any-numbers (is_free_for s kind) 0 ROWS (not-true _ h) y (omega arith) (below free)) where
  below : is_free_for s kind y ≡ true → y < 128
  below free = ltb-true y 128 (and_parts (nat_le STATIC_ROWS y) (nat_lt y ROWS) (and_parts _ _ (and_parts _ _ free).0).0).1

  refused : is_free_for s kind y ≡ true → is_free_for s kind y ≡ false → ⊥
  refused is_so is_not = true≢false (sym is_so ∙ is_not)

reserve-sound : (s : State) (t x : ℕ) (kind : Kind) (b : Bool) → pays s (thread_at s t).pool 64 ≡ b → IsTrue (may_reserve s b kind x) → MayChoose s t x (Pending.Reserve kind)
reserve-sound s t x kind true e h = by-case (or_cases _ _ h) where
  by-case : (is_free_for s kind x ≡ true) ⊎ (((x == 0) && not (list_any (is_free_for s kind) all_rows)) ≡ true) → MayChoose s t x (Pending.Reserve kind)
  by-case (inl free) = inl (e, free)
  by-case (inr none) = let both = and_parts _ _ none in inr (eqb-true x 0 both.0, λ pay. none-free s kind both.1)
reserve-sound s t x kind false e h = inr (eqb-true x 0 h, λ pay. absurd (true≢false (sym pay ∙ e)))

not-equal : (x y : ℕ) → not (x == y) ≡ true → x ≢ y
not-equal x y h e = true≢false (sym (eq-eqb x y e) ∙ not-true _ h)

-- a row that passes the test is one that the step may choose
pub chosen-sound : (s : State) (t x : ℕ) (p : Pending) → IsTrue (may_choose s t x p) → MayChoose s t x p
chosen-sound s t x (Pending.Inherit who) h =
    let all = and_parts _ _ h in let both = and_parts _ _ all.0 in (both.0, both.1, not-equal x _ all.1)
chosen-sound s t x (Pending.Drops from) h =
    let all = and_parts _ _ h in let both = and_parts _ _ all.0 in (leb-true from x both.0, both.1, all.1)
chosen-sound s t x (Pending.Reserve kind) h = reserve-sound s t x kind _ refl h
chosen-sound s t x (Pending.CleanPair who) h = let both = and_parts _ _ h in (clean-chosen s t _ both.0, both.1)
chosen-sound s t x Pending.Recycle h = let both = and_parts _ _ h in (clean-chosen s t x both.0, pairs-sound s _ both.1)
chosen-sound s t x Pending.Resume h = told-sound (thread_at s t).told refl h where
  told-sound : (o : _) → (thread_at s t).told ≡ o → IsTrue (is_some o) → MayChoose s t x Pending.Resume
  told-sound None e h2 = absurd (false≢true h2)
  told-sound (Some told) e h2 = (told, e)
chosen-sound s t x (Pending.ClearInit a) h = h
chosen-sound s t x (Pending.Join who timeout) h = h
chosen-sound s t x Pending.Left h = h
chosen-sound s t x Pending.Tick h = h
chosen-sound s t x (Pending.TimeOut who) h = h
chosen-sound s t x Pending.Expire h = h
chosen-sound s t x (Pending.Cut who) h = h
chosen-sound s t x _ h = tt

-- what a choice comes to, where what goes on from there is a run
by-sound : (s : State) (c : Choice) (go : State → Course) → ((s2 : State) → IsTrue (go s2).is_lawful → Runs s2 (go s2).events (go s2).last) → (o : Offer) → OffersIt s c.thread o → IsTrue (course_by s c go o).is_lawful → Runs s (course_by s c go o).events (course_by s c go o).last
by-sound s c go runs None offers h = absurd (false≢true h)
by-sound s c go runs (Some step) offers h =
    let both = and_parts _ _ h in (
      after s c.thread c.row step.0 step.1,
      record { step = step.0; rest = step.1; row = c.row; offered = offers; chosen = chosen-sound s c.thread c.row step.0 both.0; says = refl; leaves = refl },
      runs _ both.1,
    )

pub course-runs : (cs : List Choice) (s : State) → IsTrue (course cs s).is_lawful → Runs s (course cs s).events (course cs s).last
course-runs [] s h = refl
course-runs (c ∷ cs) s h = by-sound s c (course cs) (λ s2 h2. course-runs cs s2 h2) (offered s c.thread c.way) (offered-sound s c.thread c.way) h

-- choices that pass the test make a run of the image
pub run-of : (image : Image) (cs : List Choice) → IsTrue (run_of image cs).is_lawful → IsRun image (run_of image cs).events (run_of image cs).last
run-of image cs h = course-runs cs (opening image) h
