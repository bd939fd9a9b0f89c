use Rattle.std.proofs.Common.{length}
use Rattle.um_description.proofs.weighing.+weigh.Given as goal

abbrev pub decreases-weigh : goal.decreases-weigh
decreases-weigh l = length l.scripts.now
