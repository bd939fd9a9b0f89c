-- The sizes that the memory protection unit guards.
use Rattle.std.specs.Prelude.{◌≡◌, ℕ, ◌^◌, ◌%◌, ◌≤◌, List, map, sum}
use Rattle.um_base.specs.declared.names.Mpu.{Mpu}
use Rattle.um_base.specs.Layout.{rounded}

-- powers of two from 32 on, or multiples of 32
abbrev pub IsGuarded : Mpu → ℕ → Type 0
IsGuarded Mpu.V7 size = (32 ≤ size) × ((k : ℕ) × (size ≡ 2 ^ k))
IsGuarded Mpu.V8 size = (32 ≤ size) × (size % 32 ≡ 0)

-- the least size that the unit guards and that is at least n
pub record IsLeastSize (mpu : Mpu) (n size : ℕ) : Type 0 where
  pub guarded : IsGuarded mpu size
  pub enough : n ≤ size
  pub least : (other : ℕ) → IsGuarded mpu other → n ≤ other → size ≤ other

-- how many bytes ranges for these sizes take
abbrev pub needed : Mpu → List ℕ → ℕ
needed mpu sizes = sum (map (rounded mpu) sizes)
