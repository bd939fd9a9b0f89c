-- Numbers in a line: whoever joins it goes to the back.
use Rattle.std.specs.Prelude.{◌≡◌, ℕ, ◌<◌, Bool, false, ◌==◌, if◌then◌else◌, List, [], ◌∷◌, ◌++◌}
use Rattle.std.specs.List.{list_any}

abbrev pub stands : List ℕ → ℕ → Bool
stands line x = list_any (λ y. x == y) line

-- a number goes to the back, unless it stands in the line
abbrev pub joins : List ℕ → ℕ → List ℕ
joins line x = if stands line x then line else line ++ x ∷ []

-- numbers go to the back one after another
abbrev pub all_join : List ℕ → List ℕ → List ℕ
all_join line [] = line
all_join line (x ∷ xs) = all_join (joins line x) xs

-- no number stands twice, and each is below 256: so there is room for 256
abbrev pub IsLine : List ℕ → Type 0
IsLine [] = Unit {0}
IsLine (x ∷ xs) = (x < 256) × (stands xs x ≡ false) × IsLine xs
