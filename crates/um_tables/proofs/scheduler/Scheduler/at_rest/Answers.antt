use Rattle.std.proofs.Common.{◌∙◌}
use Rattle.um_tables.proofs.scheduler.Scheduler.at_rest.Goals as goal

pub invariant_of-result : goal.invariant_of-result
invariant_of-result c = (c.in_ok-all_resting.ensures.all ∙ c.requires.all, c.requires.ready)
