-- The kinds of flaws before those of the image: of the entries, and of the lines.
use Rattle.std.specs.Prelude.{List, ◌++◌, map}
use Rattle.um_document.specs.declared.description.Description.{Description}
use Rattle.um_description.specs.declared.flaw.Flaw.{Flaw}
use Rattle.um_description.specs.Duplicates.{duplicates}
use Rattle.um_description.specs.Limits.{limits}
use Rattle.um_description.specs.Lines.{unread_lines, blocks_of, unknown_in_script, misordered_script}
use Rattle.um_description.specs.Names.{each}
use Rattle.um_description.specs.Unknown.{unknown_names}

unfoldable pub entry_flaws : Description → List Flaw
entry_flaws d = map Flaw.Duplicate (duplicates d) ++ map Flaw.UnknownName (unknown_names d) ++ limits d

unfoldable pub line_flaws : Description → List Flaw
line_flaws d =
    each unread_lines 0 d.scripts
    ++ map Flaw.Block (each blocks_of 0 d.scripts)
    ++ each (unknown_in_script d) 0 d.scripts
    ++ map Flaw.ScriptOrder (each (misordered_script d) 0 d.scripts)
