use Rattle.std.proofs.Common.{◌≡◌, map, take}
use Rattle.um_document.specs.declared.description.ScriptEntry.{ScriptEntry}
use Rattle.um_description.proofs.duplicates.script_names.Given as goal

abbrev pub invariant-loop-script : goal.invariant-loop-script
invariant-loop-script l = l.found.items ≡ map (λ (s : ScriptEntry). s.name) (take l.script-index l.scripts)
