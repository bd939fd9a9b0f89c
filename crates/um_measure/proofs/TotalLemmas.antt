-- Sums over lists, of which one item is written.
use Rattle.std.proofs.Common.{◌≡◌, ◌≤◌, ℕ, zero, suc, ◌+◌, List, [], ◌∷◌, arith, slice_index_or, slice_set}
use Rattle.um_measure.specs.Measure.{total}

-- an item is written, and what stood there counts no more
pub total-set : {A : Type 0} (f : A → ℕ) (d : A) → f d ≡ 0 → (xs : List A) (i : ℕ) (y : A) → total f (slice_set xs i y) + f (slice_index_or xs i d) ≤ total f xs + f y
total-set f d none [] i y = omega (arith, none)
total-set f d none (x ∷ xs) zero y = omega arith
total-set f d none (x ∷ xs) (suc i) y = omega (arith, total-set f d none xs i y)
