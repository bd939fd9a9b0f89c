-- Numbers of a description as an image has them.
use Rattle.std.specs.Prelude.{ℕ, ◌-◌, ◌^◌, min, ℤ, pos, negsuc}

abbrev pub natural : ℤ → ℕ
natural (pos n) = n
natural (negsuc n) = 0

-- a number as 32 bits hold it: in its limits it is itself
abbrev pub bounded : ℕ → ℕ
bounded n = min n (2 ^ 32 - 1)

-- a number as an image has it: in its limits it is itself
abbrev pub clamped : ℤ → ℕ
clamped z = bounded (natural z)
