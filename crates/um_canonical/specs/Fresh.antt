-- Names for variables that no other text has: `v` and a decimal number, the least ones that are free.
use Rattle.std.specs.Prelude.{ℕ, ◌+◌, Bool, not, ◌&&◌, if◌then◌else◌, nat_lt, List, [], ◌∷◌, ◌++◌, map, take, length, filter, decimal, bytes_eq}
use Rattle.std.specs.List.{list_any, range_with_len}

abbrev pub Names : Type 0
Names = List (List ℕ)

abbrev pub variable_name : ℕ → List ℕ
variable_name n = 118 ∷ decimal n

abbrev pub is_taken : Names → ℕ → Bool
is_taken taken n = list_any (bytes_eq (variable_name n)) taken

-- the first numbers whose names aren't taken; there are enough of them among as many as are wanted and taken
abbrev pub free_numbers : Names → ℕ → List ℕ
free_numbers taken count = take count (filter (λ n. not (is_taken taken n)) (range_with_len 0 (count + length taken)))

-- one more number, where more are wanted and its name isn't taken
abbrev pub with_free : Names → ℕ → List ℕ → ℕ → List ℕ
with_free taken count ns n = if nat_lt (length ns) count && not (is_taken taken n) then ns ++ n ∷ [] else ns

abbrev pub fresh_names : Names → ℕ → Names
fresh_names taken count = map variable_name (free_numbers taken count)

-- the first of some names
abbrev pub first_name : Names → List ℕ
first_name [] = []
first_name (name ∷ names) = name
