use Rattle.std.proofs.Common.{ℕ, ◌<◌}
use Rattle.um_merge.specs.Merged.{IsNext}
use Rattle.um_merge.proofs.merging.next_of.Given as goal

abbrev pub invariant-loop-cpu : goal.invariant-loop-cpu
invariant-loop-cpu l = (k : ℕ) → k < l.cpu → IsNext l.logs l.places l.done k → ⊥
