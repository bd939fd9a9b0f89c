-- Names that are kept or not, one after the other.
use Rattle.std.specs.Prelude.{ℕ, ◌==◌, Bool, true, false, if◌then◌else◌, List, [], ◌++◌, codes}
use Rattle.std.specs.List.{flat_map, join_by}
use Rattle.um_gen.specs.Draws.{draw, drawn}
use Rattle.um_gen.specs.Pieces.{Piece}

-- what stands before a name: nothing before the first
abbrev pub lead : Bool → List ℕ
lead true = []
lead false = codes ", "

-- a name, where the next draw of 8 isn't 0
unfoldable pub name_text : Bool → List ℕ → Piece
name_text is_first name g = (if draw 8 g == 0 then [] else lead is_first ++ name, drawn g)

-- names that follow, the first of all among them or not
abbrev pub following : Bool → List (List ℕ) → List ℕ
following true names = join_by (λ (name : List ℕ). name) (codes ", ") names
following false names = flat_map (λ (name : List ℕ). codes ", " ++ name) names
