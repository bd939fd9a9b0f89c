use Rattle.std.proofs.Common.{◌≡◌, ◌<◌, ℕ, Some}
use Rattle.um_base.specs.Places.{row_at, addr_of}
use Rattle.um_trace.proofs.indexed.are_apart.Given as goal

abbrev pub invariant-loop-x : goal.invariant-loop-x
invariant-loop-x l = (k : ℕ) → k < l.x → row_at l.image (addr_of l.image k) ≡ Some k
