use Rattle.std.proofs.Common.{◌≡◌, ℕ, ◌<◌, Some, slice_get}
use Rattle.um_explore.specs.declared.ways.Way.{Way}
use Rattle.um_explore.proofs.ways.place_of.Given as goal

abbrev pub invariant-loop-i : goal.invariant-loop-i
invariant-loop-i l = (j : ℕ) → j < l.i → (w : Way) → slice_get l.ways j ≡ Some w → w.text.items ≡ l.text → ⊥
