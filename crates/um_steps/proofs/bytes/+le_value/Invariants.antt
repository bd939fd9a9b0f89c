use Rattle.std.proofs.Common.{length}
use Rattle.um_steps.proofs.bytes.+le_value.Given as goal

abbrev pub decreases-le_value : goal.decreases-le_value
decreases-le_value l = length l.bytes.now
