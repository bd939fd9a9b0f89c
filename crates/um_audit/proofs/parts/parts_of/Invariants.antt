use Rattle.std.proofs.Common.{length}
use Rattle.um_audit.specs.Parts.{IsBehind}
use Rattle.um_audit.proofs.parts.parts_of.Given as goal

abbrev pub invariant-loop-rest : goal.invariant-loop-rest
invariant-loop-rest l = IsBehind l.input l.rest

abbrev pub decreases-loop-rest : goal.decreases-loop-rest
decreases-loop-rest l = length l.rest
