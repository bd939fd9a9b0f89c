use Rattle.std.proofs.Common.{subst}
use Rattle.um_machine.specs.State.{State}
use Rattle.um_audit.specs.Steps.{IsNoStepLine}
use Rattle.um_audit.proofs.steps.takes_line.Goals as goal

pub returns-in-None-clause-no : goal.returns-in-None-clause-no
returns-in-None-clause-no c = λ _. subst (λ (s : State). IsNoStepLine c.args.image.now c.args.line.now s) c.tables.ensures c.in-None.ensures.none
