-- The rows of a table, of which the last are blank.
use Rattle.std.specs.Prelude.{ℕ, ◌-◌, List, ◌++◌, length, replicate}

-- rows, and blank ones after them up to this many
abbrev pub padded : {A : Type 0} → A → ℕ → List A → List A
padded blank n rows = rows ++ replicate (n - length rows) blank
