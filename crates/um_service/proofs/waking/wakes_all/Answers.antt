use Rattle.std.proofs.Common.{◌∙◌}
use Rattle.um_machine.proofs.ServingLemmas.{unserved-none}
use Rattle.um_service.proofs.waking.wakes_all.Goals as goal

pub returns-clause-nobody : goal.returns-clause-nobody
returns-clause-nobody c = c.wake_all.ensures.others ∙ unserved-none c.args.waiters.now
