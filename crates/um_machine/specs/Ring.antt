-- A queue that is kept in a ring of slots.
use Rattle.std.specs.Prelude.{ℕ, List, ◌++◌, take, drop}

-- the n slots from the k-th on, round the end
abbrev pub window : {A : Type 0} → ℕ → ℕ → List A → List A
window k n xs = take n (drop k xs ++ take k xs)
