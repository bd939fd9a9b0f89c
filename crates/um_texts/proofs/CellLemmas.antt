-- A thread waits in one cell, in each state of a run.
use Rattle.std.proofs.Common.{◌≡◌, ℕ, suc, ◌≤◌, Bool, true, false, refl, subst, arith, if◌then◌else◌}
use Rattle.std.specs.Prelude.{◌==◌}
use Rattle.std.proofs.lemmas.Bool.Decides.{nat_tests}
use Rattle.um_base.specs.declared.ask.Waiter.{Waiter}
use Rattle.um_base.specs.declared.limits.TheConstants.{FUTEX_CELL, JOIN_CELL}
use Rattle.std.proofs.Common.{List}
use Rattle.um_machine.specs.Run.{stands_in}
use Rattle.um_machine.specs.State.{State, waiters_in}
use Rattle.um_invariants.proofs.ThreadCells.{cell, cell-is, place_of}
use Rattle.um_invariants.proofs.ThreadCounts.{count-any}
use Rattle.um_invariants.proofs.ThreadWaits.{is_of, times}
use Rattle.um_invariants.proofs.ThreadWords.{AreKept}

there-at : (s : State) (u c : ℕ) → stands_in u (waiters_in s c) ≡ true → 1 ≤ times u (cell s (place_of c))
there-at s u c h = subst (λ (ws : List Waiter). 1 ≤ times u ws) (cell-is s c) (count-any (is_of u) (waiters_in s c) h)

place-one : (x y : ℕ) → place_of x ≡ place_of y → x ≡ y
place-one x y h = by (x == JOIN_CELL) (x == FUTEX_CELL) (y == JOIN_CELL) (y == FUTEX_CELL) refl refl refl refl h
  where
    by : (a b c d : Bool) → (x == JOIN_CELL) ≡ a → (x == FUTEX_CELL) ≡ b → (y == JOIN_CELL) ≡ c → (y == FUTEX_CELL) ≡ d
        → (if a then 0 else if b then 1 else suc (suc x)) ≡ (if c then 0 else if d then 1 else suc (suc y)) → x ≡ y
    by true b true d e f g k same = grind (arith, nat_tests)
    by true b false true e f g k same = cc
    by true b false false e f g k same = cc
    by false true true d e f g k same = cc
    by false true false true e f g k same = grind (arith, nat_tests)
    by false true false false e f g k same = cc
    by false false true d e f g k same = cc
    by false false false true e f g k same = cc
    by false false false false e f g k same = cc

pub sole-cell : (s : State) → AreKept s → (u x y : ℕ) → stands_in u (waiters_in s x) ≡ true → stands_in u (waiters_in s y) ≡ true → x ≡ y
sole-cell s kept u x y here there = place-one x y (kept.sole (place_of x) (place_of y) u (there-at s u x here) (there-at s u y there))
