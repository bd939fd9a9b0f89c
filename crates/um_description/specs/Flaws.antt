-- All flaws of a description, the kinds in their order, and of each kind the places in theirs: the first one is told.
use Rattle.std.specs.Prelude.{ℕ, Bool, true, false, List, [], ◌∷◌, ◌++◌, map, sum, nat_lt, if◌then◌else◌, Result, Ok, Err}
use Rattle.um_base.specs.declared.limits.TheConstants.{AREA_SIZE, MOST_WEIGHT}
use Rattle.um_base.specs.declared.image.Image.{Image}
use Rattle.um_base.specs.Weight.{weight}
use Rattle.um_document.specs.declared.description.Description.{Description}
use Rattle.um_description.specs.declared.flaw.Flaw.{Flaw}
use Rattle.um_description.specs.Duplicates.{duplicates}
use Rattle.um_description.specs.Limits.{limits}
use Rattle.um_description.specs.Lines.{unread_lines, blocks_of, unknown_in_script, misordered_script}
use Rattle.um_description.specs.Names.{each}
use Rattle.um_description.specs.Resolve.{partition_sizes, stack_sizes, image_of}
use Rattle.um_description.specs.Unknown.{unknown_names}

abbrev pub too_heavy : Description → List Flaw
too_heavy d = if nat_lt MOST_WEIGHT (weight (image_of d)) then Flaw.Weight ∷ [] else []

abbrev pub too_large : Bool → ℕ → List Flaw
too_large stacks need = if nat_lt AREA_SIZE need then Flaw.Layout stacks need AREA_SIZE ∷ [] else []

-- those of its image
abbrev pub image_flaws : Description → List Flaw
image_flaws d = too_heavy d ++ too_large false (sum (partition_sizes d)) ++ too_large true (sum (stack_sizes d))

abbrev pub flaws : Description → List Flaw
flaws d =
    map Flaw.Duplicate (duplicates d)
    ++ map Flaw.UnknownName (unknown_names d)
    ++ limits d
    ++ each unread_lines 0 d.scripts
    ++ map Flaw.Block (each blocks_of 0 d.scripts)
    ++ each (unknown_in_script d) 0 d.scripts
    ++ map Flaw.ScriptOrder (each (misordered_script d) 0 d.scripts)
    ++ image_flaws d

-- a description gives the first of its flaws, or its image
abbrev pub meaning_by : Description → List Flaw → Result Image Flaw
meaning_by d [] = Ok (image_of d)
meaning_by d (flaw ∷ _) = Err flaw

abbrev pub meaning : Description → Result Image Flaw
meaning d = meaning_by d (flaws d)
