-- How ranges are rounded and laid out under the rules of the memory protection unit.
use Rattle.std.specs.Prelude.{ℕ, ◌+◌, ◌*◌, ◌/◌, Bool, ◌==◌, ◌&&◌, ◌||◌, nat_lt, nat_le, if◌then◌else◌, List, [], ◌∷◌}
use Rattle.um_base.specs.declared.names.Mpu.{Mpu}

-- the first of these sizes that is at least n
abbrev pub first_from : List ℕ → ℕ → ℕ
first_from [] n = 0
first_from (size ∷ sizes) n = if nat_le n size then size else first_from sizes n

-- the sizes that a unit of the seventh version guards, as far as a description's sizes go
abbrev pub powers : List ℕ
powers = 32 ∷ 64 ∷ 128 ∷ 256 ∷ 512 ∷ 1024 ∷ 2048 ∷ 4096 ∷ 8192 ∷ 16384 ∷ 32768 ∷ 65536 ∷ []

-- the least size that the unit guards and that is at least n, for n from 1 to 65,536
abbrev pub rounded : Mpu → ℕ → ℕ
rounded Mpu.V7 n = first_from powers n
rounded Mpu.V8 n = (n + 31) / 32 * 32

-- whether an entry of this size and number is placed before another: larger ones first under the seventh version, and else in order
abbrev pub is_before : Mpu → ℕ → ℕ → ℕ → ℕ → Bool
is_before Mpu.V7 size i other j = nat_lt other size || ((other == size) && nat_lt i j)
is_before Mpu.V8 size i other j = nat_lt i j

-- the bytes of the entries, numbered from i on, that are placed before the j-th, of this size
abbrev pub bytes_before : Mpu → List ℕ → ℕ → ℕ → ℕ → ℕ
bytes_before mpu [] i other j = 0
bytes_before mpu (size ∷ sizes) i other j = (if is_before mpu size i other j then size else 0) + bytes_before mpu sizes (i + 1) other j

-- where entries of all these sizes stand, those from the j-th on: one after another from the area's start
abbrev pub starts_from : Mpu → ℕ → List ℕ → List ℕ → ℕ → List ℕ
starts_from mpu area all [] j = []
starts_from mpu area all (size ∷ sizes) j = (area + bytes_before mpu all 0 size j) ∷ starts_from mpu area all sizes (j + 1)

abbrev pub starts : Mpu → ℕ → List ℕ → List ℕ
starts mpu area sizes = starts_from mpu area sizes sizes 0
