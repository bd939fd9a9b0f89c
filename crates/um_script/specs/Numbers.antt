-- Numbers as words spell them.
use Rattle.std.specs.Prelude.{ℕ, ◌+◌, ◌-◌, ◌*◌, ◌^◌, List, [], ◌∷◌, length, take, drop, codes, bytes_eq, Bool, true, false, ◌&&◌, ◌||◌, nat_lt, nat_le, if◌then◌else◌, Result, Ok, Err, ℤ, pos, neg_ℤ}
use Rattle.std.specs.List.{list_all}
use Rattle.um_base.specs.Lawful.{is_within}
use Rattle.um_script.specs.declared.fault.LineKind.{LineKind}
use Rattle.um_script.specs.Faults.{◌>>=◌}

-- 0 to 9, and in a hexadecimal number also a to f
abbrev pub is_digit : Bool → ℕ → Bool
is_digit hexadecimal b = is_within 48 57 b || (hexadecimal && is_within 97 102 b)

abbrev pub digit_value : ℕ → ℕ
digit_value b = if nat_lt b 97 then b - 48 else b - 87

abbrev pub base : Bool → ℕ
base hexadecimal = if hexadecimal then 16 else 10

-- 1 to `most` digits
abbrev pub are_digits : Bool → ℕ → List ℕ → Bool
are_digits hexadecimal most bs = nat_le 1 (length bs) && nat_le (length bs) most && list_all (is_digit hexadecimal) bs

-- the number that digits spell behind the number `high`
abbrev pub value_from : Bool → ℕ → List ℕ → ℕ
value_from hexadecimal high [] = high
value_from hexadecimal high (b ∷ bs) = value_from hexadecimal (base hexadecimal * high + digit_value b) bs

-- a number in its range
abbrev pub in_range : ℕ → ℕ → ℕ → Result ℕ LineKind
in_range low high n = if is_within low high n then Ok n else Err LineKind.Range

-- a number of 1 to `most` digits, of at most `limit`
abbrev pub digits : Bool → ℕ → ℕ → List ℕ → Result ℕ LineKind
digits hexadecimal most limit bs =
    if are_digits hexadecimal most bs then in_range 0 limit (value_from hexadecimal 0 bs) else Err LineKind.Operand

abbrev pub is_hexadecimal : List ℕ → Bool
is_hexadecimal word = bytes_eq (take 2 word) (codes "0x")

-- 1 to 10 decimal digits, or `0x` and 1 to 8 hexadecimal ones
abbrev pub is_number : List ℕ → Bool
is_number word = if is_hexadecimal word then are_digits true 8 (drop 2 word) else are_digits false 10 word

-- of at most 4,294,967,295
abbrev pub number : List ℕ → Result ℕ LineKind
number word = if is_hexadecimal word then digits true 8 (2 ^ 32 - 1) (drop 2 word) else digits false 10 (2 ^ 32 - 1) word

-- how often lines are repeated: 1 to 1,000
abbrev pub times : List ℕ → Result ℕ LineKind
times word = number word >>= in_range 1 1000

-- how many ticks a call waits: 1 to 7 digits, 1 to 1,000,000
abbrev pub ticks : List ℕ → Result ℕ LineKind
ticks bs = digits false 7 1000000 bs >>= in_range 1 1000000

abbrev pub is_negative : List ℕ → Bool
is_negative word = bytes_eq (take 1 word) (codes "-")

-- a priority: an optional `-` and 1 to 3 digits, -128 to 127
abbrev pub priority : List ℕ → Result ℤ LineKind
priority word =
    if is_negative word then (digits false 3 128 (drop 1 word) >>= λ n. Ok (neg_ℤ (pos n)))
    else (digits false 3 127 word >>= λ n. Ok (pos n))
