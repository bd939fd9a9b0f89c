use Rattle.std.proofs.Common.{◌≡◌, map, take}
use Rattle.um_base.specs.declared.image.Script.{Script}
use Rattle.um_canonical.proofs.names.of_scripts.Given as goal

abbrev pub invariant-loop-script : goal.invariant-loop-script
invariant-loop-script l = l.names.items ≡ map (λ (script : Script). script.name) (take l.script-index l.scripts)
