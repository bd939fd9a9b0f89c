use Rattle.std.proofs.Common.{◌≡◌, map, take}
use Rattle.um_description.specs.Resolve.{script_of}
use Rattle.um_description.proofs.resolve.scripts.scripts.Given as goal

abbrev pub invariant-loop-script : goal.invariant-loop-script
invariant-loop-script l = l.all ≡ map (script_of l.image l.d) (take l.script-index l.read)
