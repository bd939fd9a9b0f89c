use Rattle.std.proofs.Common.{subst}
use Rattle.std.specs.Prelude.{MatchOption}
use Rattle.um_machine.specs.Run.{IsComplete}
use Rattle.um_machine.specs.State.{State}
use Rattle.um_matrix.specs.Offered.{IsStep}
use Rattle.um_matrix.proofs.matrix.Matrix.next_event.Goals as goal

pub returns : goal.returns
returns c = subst (λ (s : State). MatchOption c.next_event.result (IsComplete s) (λ event. IsStep s event)) c.self.view_is c.next_event.ensures
