-- The numbers and ranges that words spell.
use Rattle.std.specs.Prelude.{ℕ, ◌+◌, ◌-◌, ◌*◌, ◌^◌, Bool, true, false, ◌&&◌, ◌||◌, nat_lt, nat_le, if◌then◌else◌, List, [], ◌∷◌, length, take, drop, codes, bytes_eq, Option, Some, None}
use Rattle.std.specs.List.{list_all}
use Rattle.um_base.specs.Lawful.{is_within}
use Rattle.um_base.specs.declared.names.Range.{Range}

-- 0 to 9, and in a hexadecimal number also a to f
abbrev pub is_digit : Bool → ℕ → Bool
is_digit hexadecimal b = is_within 48 57 b || (hexadecimal && is_within 97 102 b)

abbrev pub digit_value : ℕ → ℕ
digit_value b = if nat_lt b 97 then b - 48 else b - 87

abbrev pub base : Bool → ℕ
base hexadecimal = if hexadecimal then 16 else 10

-- so many digits
abbrev pub are_digits : Bool → ℕ → ℕ → List ℕ → Bool
are_digits hexadecimal fewest most word = is_within fewest most (length word) && list_all (is_digit hexadecimal) word

-- the number that digits spell behind the number `high`
abbrev pub value_from : Bool → ℕ → List ℕ → ℕ
value_from hexadecimal high [] = high
value_from hexadecimal high (b ∷ more) = value_from hexadecimal (base hexadecimal * high + digit_value b) more

-- the number below 2 ^ 32 that so many digits spell
abbrev pub below_limit : ℕ → Option ℕ
below_limit n = if nat_lt n (2 ^ 32) then Some n else None

abbrev pub number : Bool → ℕ → ℕ → List ℕ → Option ℕ
number hexadecimal fewest most word = if are_digits hexadecimal fewest most word then below_limit (value_from hexadecimal 0 word) else None

-- so many bytes from an address on, if there is one at least and none behind the last address
abbrev pub range_of : Option ℕ → Option ℕ → Option Range
range_of (Some start) (Some size) =
    if nat_le 1 size && nat_le (start + size) (2 ^ 32) then Some (record { start = record { 0 = start }; size = size }) else None
range_of _ _ = None

-- the range that a word spells: `0x` and the eight hexadecimal digits of its address, `/`, and its size in at most ten decimal digits
abbrev pub range_spelled : List ℕ → Option Range
range_spelled word =
    let digits = drop 2 word in
    let behind = drop 8 digits in
    if bytes_eq (take 2 word) (codes "0x") && bytes_eq (take 1 behind) (codes "/")
    then range_of (number true 8 8 (take 8 digits)) (number false 1 10 (drop 1 behind)) else None
