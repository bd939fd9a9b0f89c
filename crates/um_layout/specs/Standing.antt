-- How the ranges of a layout stand in their area.
use Rattle.std.specs.Prelude.{◌≡◌, ℕ, ◌+◌, ◌%◌, ◌<◌, ◌≤◌, ◌⊎◌, true, List, [], ◌∷◌, length, map, slice_index, slice_index_or, All, sum}
use Rattle.std.specs.List.Sorted.{IsPermutation}
use Rattle.std.specs.List.{range_with_len}
use Rattle.um_base.specs.declared.names.Mpu.{Mpu}
use Rattle.um_base.specs.declared.names.Range.{Range}
use Rattle.um_base.specs.Layout.{rounded, starts, is_before}
use Rattle.um_base.specs.Lawful.{sizes_of, places_of}
use Rattle.um_layout.specs.Sizes.{IsGuarded, IsLeastSize}

-- what the start of a range of this size is a multiple of
abbrev pub alignment : Mpu → ℕ → ℕ
alignment Mpu.V7 size = size
alignment Mpu.V8 size = 32

-- a range that the unit guards
pub record IsLawfulRange (mpu : Mpu) (range : Range) : Type 0 where
  pub guarded : IsGuarded mpu range.size
  pub aligned : range.start.0 % alignment mpu range.size ≡ 0

abbrev pub end_of : Range → ℕ
end_of range = range.start.0 + range.size

abbrev pub IsInArea : Range → Range → Type 0
IsInArea area range = (area.start.0 ≤ range.start.0) × (end_of range ≤ end_of area)

-- one of them ends where the other begins, or before
abbrev pub AreApart : Range → Range → Type 0
AreApart r s = (end_of r ≤ s.start.0) ⊎ (end_of s ≤ r.start.0)

-- each two of them
abbrev pub AreDisjoint : List Range → Type 0
AreDisjoint ranges = (i j : ℕ) (d : Range) → i < j → j < length ranges → AreApart (slice_index_or ranges i d) (slice_index_or ranges j d)

-- each range has the least size that is enough for what was asked
abbrev pub AreLeast : Mpu → List ℕ → List Range → Type 0
AreLeast mpu asked ranges = (i : ℕ) (d : Range) → i < length ranges → IsLeastSize mpu (slice_index asked i) (slice_index_or ranges i d).size

-- each number of an order is placed before those behind it
abbrev pub IsOrder : Mpu → List ℕ → List ℕ → Type 0
IsOrder mpu sizes order =
    (i j : ℕ) → i < j → j < length order
    → is_before mpu (slice_index sizes (slice_index order i)) (slice_index order i) (slice_index sizes (slice_index order j)) (slice_index order j) ≡ true

-- the first of these numbers' ranges begins at a, and each other one where the one before it ends
abbrev pub Adjoin : List Range → ℕ → List ℕ → Type 0
Adjoin ranges a [] = Unit {0}
Adjoin ranges a (i ∷ order) = ((d : Range) → (slice_index_or ranges i d).start.0 ≡ a) × Adjoin ranges (a + slice_index (sizes_of ranges) i) order

-- The ranges stand one after another from a on without a gap, in the order of placing.
pub record StandInOrder (mpu : Mpu) (a : ℕ) (ranges : List Range) : Type 0 where
  pub order : List ℕ
  pub all_once : IsPermutation (range_with_len 0 (length ranges)) order
  pub ordered : IsOrder mpu (sizes_of ranges) order
  pub adjoin : Adjoin ranges a order

-- All that a layout in an area owes to these sizes.
pub record IsLayout (mpu : Mpu) (area : Range) (asked : List ℕ) (ranges : List Range) : Type 0 where
  pub sizes : sizes_of ranges ≡ map (rounded mpu) asked
  pub places : places_of ranges ≡ starts mpu area.start.0 (sizes_of ranges)
  pub room : sum (sizes_of ranges) ≤ area.size
  pub lawful : All (IsLawfulRange mpu) ranges
  pub least : AreLeast mpu asked ranges
  pub within : All (IsInArea area) ranges
  pub disjoint : AreDisjoint ranges
  pub in_order : StandInOrder mpu area.start.0 ranges
