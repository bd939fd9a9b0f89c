use Rattle.std.proofs.Common.{◌≡◌, ◌++◌, take}
use Rattle.std.specs.List.{flat_map}
use Rattle.um_canonical.specs.Tables.{script_by}
use Rattle.um_canonical.proofs.scripts.put_scripts.Given as goal

abbrev pub invariant-loop-script : goal.invariant-loop-script
invariant-loop-script l = l.text.items ≡ l.fn.text.items ++ flat_map (script_by l.names) (take l.script-index l.scripts)
