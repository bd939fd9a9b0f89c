use Rattle.std.proofs.Common.{[], drop}
use Rattle.um_description.specs.Duplicates.{SameTexts, added}
use Rattle.um_description.proofs.unknown.set_of.Given as goal

abbrev pub invariant-loop-name : goal.invariant-loop-name
invariant-loop-name l = SameTexts (added l.known (drop l.name-index l.names)) (added [] l.names)
