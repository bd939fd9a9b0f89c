use Rattle.std.proofs.Common.{◌≡◌, take}
use Rattle.um_description.proofs.read.read_scripts.Given as goal

abbrev pub invariant-loop-entry : goal.invariant-loop-entry
invariant-loop-entry l = l.all.items ≡ take l.entry-index l.entries
