use Rattle.std.proofs.Common.{◌≡◌, map, take}
use Rattle.um_description.specs.Resolve.{boot_of}
use Rattle.um_description.proofs.resolve.boots.boots.Given as goal

abbrev pub invariant-loop-entry : goal.invariant-loop-entry
invariant-loop-entry l = l.all ≡ map (boot_of l.d) (take l.entry-index l.d.boots)
