use Rattle.std.proofs.Common.{ℕ, ◌<◌}
use Rattle.std.specs.Prelude.{All}
use Rattle.um_matrix.specs.Offered.{IsStep}
use Rattle.um_explore.specs.Steps.{HasThread}
use Rattle.um_explore.proofs.steps.steps_of.Given as goal

abbrev pub invariant-loop-t : goal.invariant-loop-t
invariant-loop-t l = record {
  each : All (IsStep l.tables) l.events.items;
  has : (t : ℕ) → t < l.t → HasThread l.tables t l.events.items;
}
