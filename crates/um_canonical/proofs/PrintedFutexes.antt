-- Futexes come back as they were. They lie in their partitions also where these have their rounded sizes.
use Rattle.std.proofs.Common.{◌≡◌, ℕ, ◌+◌, ◌-◌, ◌≤◌, Bool, true, false, not, nat_lt, List, [], ◌∷◌, map, drop, Some, bytes_eq, pos, refl, sym, ap, ◌∙◌, arith}
use Rattle.std.proofs.lemmas.Bool.{and_parts}
use Rattle.std.proofs.lemmas.Bool.Decides.{nat_tests}
use Rattle.um_base.specs.declared.limits.TheConstants.{FUTEXES}
use Rattle.um_base.specs.declared.names.Mpu.{Mpu}
use Rattle.um_base.specs.Layout.{rounded}
use Rattle.um_document.specs.declared.description.Description.{Description}
use Rattle.um_document.specs.declared.description.FutexEntry.{FutexEntry}
use Rattle.um_document.specs.declared.description.PartitionEntry.{PartitionEntry}
use Rattle.um_document.specs.declared.place.Place.{Place}
use Rattle.um_document.specs.declared.shape.Key.{Key}
use Rattle.um_document.specs.declared.shape.Section.{Section}
use Rattle.um_document.proofs.EmptyLists.{no_front, no_back}
use Rattle.um_description.specs.Duplicates.{spot_text, futexes_again}
use Rattle.um_description.specs.Limits.{one_too_many, partition_limits, size_named, offset_limits, futex_limits}
use Rattle.um_description.specs.Names.{Text, each, is_among, partition_names}
use Rattle.um_description.specs.Packing.{asked_size, first_bytes}
use Rattle.um_description.specs.Resolve.{futex_of}
use Rattle.um_description.specs.Unknown.{unknown_in_futex}
use Rattle.um_description.proofs.LawfulDistinct.{are_new}
use Rattle.um_description.proofs.LawfulFutexes.{LiesIn, AllLie, offset_is}
use Rattle.um_description.proofs.LawfulRanges.{rounded_size}
use Rattle.um_canonical.specs.Entries.{futex_entry}
use Rattle.um_canonical.specs.Fresh.{first_name}
use Rattle.um_canonical.proofs.DistinctNames.{none_again}
use Rattle.um_canonical.proofs.PrintedLines.{name_back}
use Rattle.um_canonical.proofs.RoundedPartitions.{entries_by, sized, size_kept, none_outside}

-- ---- the entries

futex_back : (d : Description) (f : FutexEntry) → LiesIn d f → futex_entry (partition_names d) (futex_of (partition_names d) f) ≡ f
futex_back d f h = rw (name_back (partition_names d) f.partition h.known, ap pos (offset_is d f h) ∙ sym h.is) refl

pub futexes_back : (d : Description) (fs : List FutexEntry) → AllLie d fs → map (futex_entry (partition_names d)) (map (futex_of (partition_names d)) fs) ≡ fs
futexes_back d [] h = refl
futexes_back d (f ∷ fs) h = rw (futex_back d f h.0, futexes_back d fs h.1) refl

-- ---- the partitions that they name

size_by : (mpu : Mpu) (variables : List Text) (p : PartitionEntry) (ps : List PartitionEntry) (text : Text) (size i : ℕ) (b : Bool) → bytes_eq text p.name ≡ b → partition_limits i p ≡ []
    → (size_named text ps ≡ Some size → size_named text (entries_by mpu (drop 1 variables) ps) ≡ Some (rounded mpu size))
    → size_named text (p ∷ ps) ≡ Some size → size_named text (entries_by mpu variables (p ∷ ps)) ≡ Some (rounded mpu size)
size_by mpu variables p ps text size i true is h later asked =
    let round = (sized mpu i p h).round in
    let here : Some (asked_size p) ≡ Some size = rw is at asked in
    let same : asked_size p ≡ size = cc in
    rw (is, size_kept (first_name variables) (rounded mpu (asked_size p)) (first_bytes p) round.most) (ap (λ (n : ℕ). Some (rounded mpu n)) same)
size_by mpu variables p ps text size i false is h later asked = rw is (later (rw is at asked))

size_again : (mpu : Mpu) (variables : List Text) (i : ℕ) (ps : List PartitionEntry) (text : Text) (size : ℕ) → each partition_limits i ps ≡ [] → size_named text ps ≡ Some size
    → size_named text (entries_by mpu variables ps) ≡ Some (rounded mpu size)
size_again mpu variables i [] text size h asked = cc
size_again mpu variables i (p ∷ ps) text size h asked =
    size_by mpu variables p ps text size i (bytes_eq text p.name) refl (no_front (partition_limits i p) (each partition_limits (i + 1) ps) h)
    (size_again mpu (drop 1 variables) (i + 1) ps text size (no_back (partition_limits i p) (each partition_limits (i + 1) ps) h)) asked

-- four bytes lie in a size, and so in a greater one
offset_again : (place : Place) (offset size : ℕ) → offset + 4 ≤ size → offset_limits place (pos offset) (Some size) ≡ []
offset_again place offset size h =
    let wide : nat_lt size 4 ≡ false = grind (arith, nat_tests, h) in
    rw (wide, none_outside Key.Offset 0 (size - 4) offset place (omega arith) (omega (arith, h))) refl

limit_again : (d : Description) (variables : List Text) (i : ℕ) (f : FutexEntry) → each partition_limits 0 d.partitions ≡ [] → LiesIn d f → futex_limits d.partitions i f ≡ []
    → futex_limits (entries_by d.mpu variables d.partitions) i f ≡ []
unfolding futex_limits
limit_again d variables i f within lies h =
    let place = Place.Field Section.Futex i Key.Offset in
    let size = lies.at.size in
    let fits = lies.fits in
    let small = lies.at.small in
    let first = no_front (one_too_many Section.Futex FUTEXES i) (offset_limits place f.offset (size_named f.partition d.partitions)) h in
    let room = (rounded_size d.mpu size (record { least = omega (arith, fits); most = small })).room in
    let enough : lies.offset + 4 ≤ rounded d.mpu size = omega (arith, fits, room) in
    rw (first, size_again d.mpu variables 0 d.partitions f.partition size within lies.at.asked, lies.is) (offset_again place lies.offset (rounded d.mpu size) enough)

pub futex_limits_again : (d : Description) (variables : List Text) (i : ℕ) (fs : List FutexEntry) → each partition_limits 0 d.partitions ≡ [] → AllLie d fs → each (futex_limits d.partitions) i fs ≡ []
    → each (futex_limits (entries_by d.mpu variables d.partitions)) i fs ≡ []
futex_limits_again d variables i [] within lie h = refl
futex_limits_again d variables i (f ∷ fs) within lie h =
    rw (limit_again d variables i f within lie.0 (no_front (futex_limits d.partitions i f) (each (futex_limits d.partitions) (i + 1) fs) h))
    (futex_limits_again d variables (i + 1) fs within lie.1 (no_back (futex_limits d.partitions i f) (each (futex_limits d.partitions) (i + 1) fs) h))

pub futexes_known : (e d : Description) → partition_names e ≡ partition_names d → (i : ℕ) (fs : List FutexEntry) → each (unknown_in_futex e) i fs ≡ each (unknown_in_futex d) i fs
futexes_known e d same i [] = refl
futexes_known e d same i (f ∷ fs) = rw (futexes_known e d same (i + 1) fs, same) refl

-- ---- they stand in no place that another one has

abbrev futex_name : FutexEntry → Text
futex_name f = f.name

pub no_futexes_again : (names spots : List Text) (i : ℕ) (fs : List FutexEntry) → are_new names (map futex_name fs) ≡ true → are_new spots (map spot_text fs) ≡ true → futexes_again names spots i fs ≡ []
no_futexes_again names spots i [] h k = refl
no_futexes_again names spots i (f ∷ fs) h k =
    let a = and_parts (not (is_among f.name names)) (are_new (f.name ∷ names) (map futex_name fs)) h in
    let b = and_parts (not (is_among (spot_text f) spots)) (are_new (spot_text f ∷ spots) (map spot_text fs)) k in
    rw (
      none_again names (Place.Field Section.Futex i Key.Name) f.name a.0,
      none_again spots (Place.Field Section.Futex i Key.Offset) (spot_text f) b.0,
      no_futexes_again (f.name ∷ names) (spot_text f ∷ spots) (i + 1) fs a.1 b.1,
    ) refl
