-- Partitions in their ranges, and ranges in their area.
use Rattle.std.proofs.Common.{◌≡◌, ℕ, ◌+◌, ◌≤◌, Bool, ◌&&◌, nat_lt, nat_le, List, [], ◌∷◌, length, map, sum, IsTrue, refl, ap, sym, ◌∙◌, arith}
use Rattle.std.specs.List.{list_all}
use Rattle.std.proofs.lemmas.Bool.Decides.{nat_tests}
use Rattle.um_base.specs.declared.image.Partition.{Partition}
use Rattle.um_base.specs.declared.limits.TheConstants.{AREA_SIZE, PARTITIONS}
use Rattle.um_base.specs.declared.names.Mpu.{Mpu}
use Rattle.um_base.specs.declared.names.Range.{Range}
use Rattle.um_base.specs.Lawful.{is_rounded, is_given_attr, is_lawful_partition, places_of, sizes_of, ArePlaced}
use Rattle.um_base.specs.Layout.{rounded, starts, starts_from}
use Rattle.um_document.specs.declared.description.PartitionEntry.{PartitionEntry}
use Rattle.um_document.specs.declared.shape.Section.{Section}
use Rattle.um_description.specs.declared.flaw.Flaw.{Flaw}
use Rattle.um_description.specs.Flaws.{too_large}
use Rattle.um_document.specs.LawfulNames.{has_given_attr}
use Rattle.um_description.specs.Limits.{one_too_many, contents_limits, partition_limits}
use Rattle.um_description.specs.Names.{each}
use Rattle.um_description.specs.Resolve.{ranges_at, range_at, placed, placed_partitions}
use Rattle.um_description.specs.Packing.{asked_size, first_bytes}
use Rattle.um_description.proofs.LawfulLists.{no_front, no_back, and_true, both_true, none_if}
use Rattle.um_description.proofs.LawfulRanges.{rounded_size}
use Rattle.um_description.proofs.WithoutLimits.{contents_right}

-- ---- ranges in their area

length_starts : (mpu : Mpu) (area : ℕ) (all sizes : List ℕ) (j : ℕ) → length (starts_from mpu area all sizes j) ≡ length sizes
length_starts mpu area all [] j = refl
length_starts mpu area all (size ∷ sizes) j = omega (arith, length_starts mpu area all sizes (j + 1))

pub length_starting : (mpu : Mpu) (area : ℕ) (sizes : List ℕ) → length (starts mpu area sizes) ≡ length sizes
length_starting mpu area sizes = length_starts mpu area sizes sizes 0

places_again : (places sizes : List ℕ) → length places ≡ length sizes → places_of (ranges_at places sizes) ≡ places
places_again [] sizes h = refl
places_again (place ∷ places) [] h = absurd (omega (arith, h))
places_again (place ∷ places) (size ∷ sizes) h = ap (λ (ps : List ℕ). place ∷ ps) (places_again places sizes (omega (arith, h)))

sizes_again : (places sizes : List ℕ) → length places ≡ length sizes → sizes_of (ranges_at places sizes) ≡ sizes
sizes_again [] [] h = refl
sizes_again [] (size ∷ sizes) h = absurd (omega (arith, h))
sizes_again (place ∷ places) [] h = absurd (omega (arith, h))
sizes_again (place ∷ places) (size ∷ sizes) h = ap (λ (ss : List ℕ). size ∷ ss) (sizes_again places sizes (omega (arith, h)))

pub length_ranges : (places sizes : List ℕ) → length places ≡ length sizes → length (ranges_at places sizes) ≡ length sizes
length_ranges [] [] h = refl
length_ranges [] (size ∷ sizes) h = absurd (omega (arith, h))
length_ranges (place ∷ places) [] h = absurd (omega (arith, h))
length_ranges (place ∷ places) (size ∷ sizes) h = omega (arith, length_ranges places sizes (omega (arith, h)))

pub placed_lawful : (mpu : Mpu) (area : ℕ) (sizes : List ℕ) → sum sizes ≤ AREA_SIZE → ArePlaced mpu area (placed mpu area sizes)
placed_lawful mpu area sizes fits =
    let same = length_starting mpu area sizes in
    let again = sizes_again (starts mpu area sizes) sizes same in
    record {
      starts_are = places_again (starts mpu area sizes) sizes same ∙ ap (starts mpu area) (sym again);
      fit = omega (arith, fits, ap sum again);
    }

-- an area that has room
pub has_room : (stacks : Bool) (need : ℕ) → too_large stacks need ≡ [] → need ≤ AREA_SIZE
has_room stacks need h =
    let no = none_if (nat_lt AREA_SIZE need) (Flaw.Layout stacks need AREA_SIZE) h in grind (arith, nat_tests)

-- ---- partitions

pub ranges_of_partitions : (ranges : List Range) (ps : List PartitionEntry) → length ranges ≡ length ps → map (λ (p : Partition). p.range) (placed_partitions ranges ps) ≡ ranges
ranges_of_partitions [] ps h = refl
ranges_of_partitions (range ∷ ranges) [] h = absurd (omega (arith, h))
ranges_of_partitions (range ∷ ranges) (p ∷ ps) h = ap (λ (rs : List Range). range ∷ rs) (ranges_of_partitions ranges ps (omega (arith, h)))

partition_lawful : (mpu : Mpu) (start i : ℕ) (p : PartitionEntry) → partition_limits i p ≡ [] → IsTrue (is_given_attr p.attr)
    → IsTrue (is_lawful_partition mpu (record { name = p.name; range = range_at start (rounded mpu (asked_size p)); attr = p.attr; bytes = first_bytes p }))
unfolding partition_limits
partition_lawful mpu start i p h given =
    let c = contents_right i p.contents (no_back (one_too_many Section.Partition PARTITIONS i) (contents_limits i p.contents) h) in
    let room = rounded_size mpu (asked_size p) (record { least = c.0; most = c.1 }) in
    let few : length (first_bytes p) ≤ asked_size p = c.2 in
    let wide = room.room in
    let fits : length (first_bytes p) ≤ rounded mpu (asked_size p) = omega (arith, few, wide) in
    both_true (is_rounded mpu (rounded mpu (asked_size p)) && is_given_attr p.attr) (nat_le (length (first_bytes p)) (rounded mpu (asked_size p)))
    (both_true (is_rounded mpu (rounded mpu (asked_size p))) (is_given_attr p.attr) room.guarded given) (grind (arith, nat_tests, fits))

-- the rounded sizes that partitions ask for
abbrev pub sizes_asked : Mpu → List PartitionEntry → List ℕ
sizes_asked mpu ps = map (rounded mpu) (map asked_size ps)

pub partitions_lawful : (mpu : Mpu) (places : List ℕ) (i : ℕ) (ps : List PartitionEntry) → each partition_limits i ps ≡ [] → IsTrue (list_all has_given_attr ps)
    → IsTrue (list_all (is_lawful_partition mpu) (placed_partitions (ranges_at places (sizes_asked mpu ps)) ps))
partitions_lawful mpu [] i ps h given = refl
partitions_lawful mpu (place ∷ places) i [] h given = refl
partitions_lawful mpu (place ∷ places) i (p ∷ ps) h given =
    let both = and_true (has_given_attr p) (list_all has_given_attr ps) given in
    both_true (is_lawful_partition mpu (record { name = p.name; range = range_at place (rounded mpu (asked_size p)); attr = p.attr; bytes = first_bytes p }))
    (list_all (is_lawful_partition mpu) (placed_partitions (ranges_at places (sizes_asked mpu ps)) ps))
    (partition_lawful mpu place i p (no_front (partition_limits i p) (each partition_limits (i + 1) ps) h) both.0)
    (partitions_lawful mpu places (i + 1) ps (no_back (partition_limits i p) (each partition_limits (i + 1) ps) h) both.1)
