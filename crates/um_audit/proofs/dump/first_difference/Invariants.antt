use Rattle.std.proofs.Common.{length}
use Rattle.um_audit.specs.Alike.{AreAlike}
use Rattle.um_audit.proofs.dump.first_difference.Given as goal

abbrev pub invariant-loop-rest : goal.invariant-loop-rest
invariant-loop-rest l = AreAlike l.text l.other l.rest l.others l.lines

abbrev pub decreases-loop-rest : goal.decreases-loop-rest
decreases-loop-rest l = length l.rest
