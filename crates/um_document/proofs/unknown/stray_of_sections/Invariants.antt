use Rattle.std.proofs.Common.{◌≡◌, flat_map, drop}
use Rattle.toml.specs.View.{table_view}
use Rattle.um_document.specs.First.{first_of}
use Rattle.um_document.specs.Unknown.{strays_of_section}
use Rattle.um_document.proofs.unknown.stray_of_sections.Given as goal

abbrev pub invariant-loop-section : goal.invariant-loop-section
invariant-loop-section l =
    first_of (flat_map (strays_of_section (table_view l.table)) (drop l.section-index l.sections)) ≡ first_of (flat_map (strays_of_section (table_view l.table)) l.sections)
