-- The first of a list, and the first part that a check finds broken.
use Rattle.std.specs.Prelude.{List, [], ◌∷◌, find, option_map, Option, Some, None}
use Rattle.um_document.specs.declared.check.Check.{Check}
use Rattle.um_document.specs.declared.place.Place.{Place}
use Rattle.um_document.specs.Broken.{is_broken}
use Rattle.um_document.specs.Parts.{Part}

-- the first of a list
abbrev pub first_of : {A : Type 0} → List A → Option A
first_of [] = None
first_of (x ∷ xs) = Some x

abbrev pub first_place : Check → List Part → Option Place
first_place check ps = option_map (λ (p : Part). p.place) (find (is_broken check) ps)
