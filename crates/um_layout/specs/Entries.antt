-- Entries of a layout, on their way to their places.
use Rattle.std.specs.Prelude.{◌≡◌, ℕ, ◌+◌, ◌<◌, ◌≤◌, Bool, true, List, length, take, slice_index, slice_index_or}
use Rattle.std.specs.List.{sum_by}
use Rattle.um_base.specs.declared.names.Mpu.{Mpu}
use Rattle.um_base.specs.declared.names.Range.{Range}
use Rattle.um_base.specs.Layout.{rounded, is_before}
use Rattle.um_layout.specs.Sizes.{IsLeastSize}
use Rattle.um_layout.specs.declared.entries.Entry.{Entry}

abbrev pub entry_at : Mpu → List ℕ → ℕ → Entry
entry_at mpu sizes k = record { size = rounded mpu (slice_index sizes k); number = k }

-- each size's entry, in the order of the sizes
pub record AreEntriesOf (mpu : Mpu) (sizes : List ℕ) (entries : List Entry) : Type 0 where
  pub len : length entries ≡ length sizes
  pub each : (k : ℕ) (d : Entry) → k < length entries → slice_index_or entries k d ≡ entry_at mpu sizes k
  pub least : (k : ℕ) → k < length sizes → IsLeastSize mpu (slice_index sizes k) (rounded mpu (slice_index sizes k))
  pub small : (k : ℕ) → k < length sizes → rounded mpu (slice_index sizes k) ≤ 65536

abbrev pub before : Mpu → Entry → Entry → Bool
before mpu x y = is_before mpu x.size x.number y.size y.number

-- each entry is placed before those behind it
abbrev pub AreOrdered : Mpu → List Entry → Type 0
AreOrdered mpu entries = (i j : ℕ) (d : Entry) → i < j → j < length entries → before mpu (slice_index_or entries i d) (slice_index_or entries j d) ≡ true

abbrev pub bytes_of : List Entry → ℕ
bytes_of entries = sum_by (λ (e : Entry). e.size) entries

-- no two entries have one number
abbrev pub AreDistinct : List Entry → Type 0
AreDistinct entries =
    (i j : ℕ) (d : Entry) → i < length entries → j < length entries → (slice_index_or entries i d).number ≡ (slice_index_or entries j d).number → i ≡ j

-- the range of the k-th entry where they stand one after another from a on
abbrev pub range_of : ℕ → List Entry → ℕ → Entry → Range
range_of a entries k d = record { start = record { 0 = a + bytes_of (take k entries) }; size = (slice_index_or entries k d).size }

-- each range stands in the place of its entry's number
pub record AreStanding (a : ℕ) (entries : List Entry) (ranges : List Range) : Type 0 where
  pub len : length ranges ≡ length entries
  pub each : (k : ℕ) (d : Entry) (e : Range) → k < length entries → slice_index_or ranges (slice_index_or entries k d).number e ≡ range_of a entries k d
