use Rattle.std.proofs.Common.{◌≡◌, map, drop}
use Rattle.toml.specs.View.{table_view}
use Rattle.um_document.specs.First.{first_place}
use Rattle.um_document.specs.Parts.{variable_part, variable_keys}
use Rattle.um_document.proofs.check.broken_variable_key.Given as goal

abbrev pub invariant-loop-field : goal.invariant-loop-field
invariant-loop-field l =
    first_place l.check (map (variable_part l.partition l.index (table_view l.table)) (drop l.field-index l.field-items)) ≡ first_place l.check (variable_keys l.partition l.index (table_view l.table))
