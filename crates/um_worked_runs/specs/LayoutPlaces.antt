-- How sizes are rounded and placed under both profiles of the protection unit.
use Rattle.std.specs.Prelude.{◌≡◌, ℕ, List, [], ◌∷◌, map, sum, refl}
use Rattle.um_base.specs.declared.names.Mpu.{Mpu}
use Rattle.um_base.specs.Layout.{rounded, starts}

-- the starts of partitions of these sizes
abbrev pub placed : Mpu → List ℕ → List ℕ
placed mpu sizes = starts mpu 0x20000000 (map (rounded mpu) sizes)

-- larger ones first
pub seventh_version : placed Mpu.V7 (33 ∷ 100 ∷ 4096 ∷ 1 ∷ []) ≡ 0x20001080 ∷ 0x20001000 ∷ 0x20000000 ∷ 0x200010c0 ∷ []
seventh_version = refl

-- in their order
pub eighth_version : placed Mpu.V8 (33 ∷ 100 ∷ 4096 ∷ 1 ∷ []) ≡ 0x20000000 ∷ 0x20000040 ∷ 0x200000c0 ∷ 0x200010c0 ∷ []
eighth_version = refl

pub powers_of_two : map (rounded Mpu.V7) (1 ∷ 33 ∷ 97 ∷ 161 ∷ 65536 ∷ []) ≡ 32 ∷ 64 ∷ 128 ∷ 256 ∷ 65536 ∷ []
powers_of_two = refl

pub multiples : map (rounded Mpu.V8) (33 ∷ 97 ∷ 161 ∷ []) ≡ 64 ∷ 128 ∷ 192 ∷ []
multiples = refl

-- nine of the greatest size are more than the area has
pub too_many : sum (map (rounded Mpu.V7) (65536 ∷ 65536 ∷ 65536 ∷ 65536 ∷ 65536 ∷ 65536 ∷ 65536 ∷ 65536 ∷ 65536 ∷ [])) ≡ 589824
too_many = refl
