-- Hexadecimal digits, in lower case.
use Rattle.std.specs.Prelude.{ℕ, ◌+◌, ◌/◌, ◌%◌, List, [], ◌∷◌, ◌++◌, codes, drop, nat_lt, if◌then◌else◌}

-- a digit below 16
abbrev pub glyph_of : ℕ → ℕ
glyph_of d = if nat_lt d 10 then 48 + d else 87 + d

-- two digits of a byte
unfoldable pub hex2 : ℕ → List ℕ
hex2 n = glyph_of (n / 16) ∷ glyph_of (n % 16) ∷ []

-- eight digits of a number below 2 ^ 32
unfoldable pub hex8 : ℕ → List ℕ
hex8 n =
    glyph_of (n / 0x1000_0000) ∷ glyph_of (n / 0x100_0000 % 16) ∷ glyph_of (n / 0x10_0000 % 16) ∷ glyph_of (n / 0x1_0000 % 16) ∷ glyph_of (n / 0x1000 % 16)
    ∷ glyph_of (n / 0x100 % 16) ∷ glyph_of (n / 0x10 % 16) ∷ glyph_of (n % 16) ∷ []

-- how many of the eight are zeros in front: all but the last where the number is 0
abbrev pub leading : ℕ → ℕ
leading n =
    if nat_lt n 0x10 then 7 else if nat_lt n 0x100 then 6 else if nat_lt n 0x1000 then 5 else if nat_lt n 0x1_0000 then 4
    else if nat_lt n 0x10_0000 then 3 else if nat_lt n 0x100_0000 then 2 else if nat_lt n 0x1000_0000 then 1 else 0

-- an address: always eight digits
unfoldable pub address : ℕ → List ℕ
address a = codes "0x" ++ hex8 a

-- a value: no zeros in front
unfoldable pub value : ℕ → List ℕ
value n = codes "0x" ++ drop (leading n) (hex8 n)
