use Rattle.std.proofs.Common.{◌≡◌, map, drop}
use Rattle.toml.specs.View.{table_view}
use Rattle.um_document.specs.First.{first_place}
use Rattle.um_document.specs.Parts.{top_part, top_parts}
use Rattle.um_document.proofs.check.broken_top.Given as goal

abbrev pub invariant-loop-field : goal.invariant-loop-field
invariant-loop-field l =
    first_place l.check (map (top_part (table_view l.table)) (drop l.field-index l.field-items)) ≡ first_place l.check (top_parts (table_view l.table))
