-- Futexes: each lies in its partition, and no two have one address.
use Rattle.std.proofs.Common.{◌≡◌, inl, inr, ℕ, ◌+◌, ◌-◌, ◌^◌, ◌<◌, ◌≤◌, min, Bool, true, false, not, ◌==◌, nat_lt, List, [], ◌∷◌, length, map, slice_get, slice_index, IsTrue, if◌then◌else◌, Option, Some, None, option_map, is_some, bytes_eq, ℤ, pos, negsuc, refl, sym, ap, ◌∙◌, add-one, arith}
use Rattle.std.specs.List.{list_any, list_all}
use Rattle.std.proofs.Math.Nat.{min-eq_left}
use Rattle.std.proofs.lemmas.Bool.{false≢true, true≢false, ne_eqb, or_parts, cases_lt}
use Rattle.std.proofs.lemmas.Bool.Decides.{nat_tests}
use Rattle.um_base.specs.declared.image.Futex.{Futex}
use Rattle.um_base.specs.declared.image.Partition.{Partition}
use Rattle.um_base.specs.declared.limits.TheConstants.{PARTITIONS, PARTITION_AREA, FUTEXES}
use Rattle.um_base.specs.declared.names.Mpu.{Mpu}
use Rattle.um_base.specs.Layout.{rounded, starts}
use Rattle.um_base.specs.Lawful.{are_distinct, are_distinct_names, futex_addr, is_lawful_futex}
use Rattle.um_document.specs.declared.description.Description.{Description}
use Rattle.um_document.specs.declared.description.FutexEntry.{FutexEntry}
use Rattle.um_document.specs.declared.description.PartitionEntry.{PartitionEntry}
use Rattle.um_document.specs.declared.place.Place.{Place}
use Rattle.um_document.specs.declared.shape.Key.{Key}
use Rattle.um_document.specs.declared.shape.Section.{Section}
use Rattle.um_description.specs.declared.flaw.Counted.TheVariants as counted
use Rattle.um_description.specs.declared.flaw.Flaw.{Flaw}
use Rattle.um_description.specs.Duplicates.{spot_text}
use Rattle.um_description.specs.Limits.{outside, one_too_many, contents_limits, partition_limits, size_named, offset_limits, futex_limits}
use Rattle.um_description.specs.Names.{Text, each, is_among, named, partition_names}
use Rattle.um_description.specs.Numbers.{clamped}
use Rattle.um_description.specs.Packing.{asked_size, first_bytes}
use Rattle.um_description.specs.Resolve.{ranges_at, range_at, placed_partitions, number_named, futex_of, partition_sizes, asked_partitions, image_of}
use Rattle.um_description.specs.Unknown.{unknown_in_futex}
use Rattle.um_description.proofs.LawfulDistinct.{is_known, not_false, partition_name, number_below, same_number}
use Rattle.um_description.proofs.LawfulLayout.{sizes_asked, length_starting}
use Rattle.um_description.proofs.LawfulLists.{no_front, no_back, and_true, both_true, not_true, none_unless, length_mapped, text_itself}
use Rattle.um_description.proofs.LawfulRanges.{rounded_size, natural_in}
use Rattle.um_description.proofs.PlacesApart.{Ends, places_apart}
use Rattle.um_description.proofs.WithoutLimits.{contents_right}

-- ---- the partition that a text names

abbrev pub placed_at : Mpu → List ℕ → List PartitionEntry → List Partition
placed_at mpu places ps = placed_partitions (ranges_at places (sizes_asked mpu ps)) ps

abbrev pub number_in : List PartitionEntry → Text → ℕ
number_in ps text = number_named (map partition_name ps) text

-- the size that it asks for, and where it stands, with at least as many bytes
pub record Stands (mpu : Mpu) (places : List ℕ) (ps : List PartitionEntry) (text : Text) : Type 0 where
  pub q : Partition
  pub size : ℕ
  pub found : slice_get (placed_at mpu places ps) (number_in ps text) ≡ Some q
  pub asked : size_named text ps ≡ Some size
  pub small : size ≤ 65536
  pub room : size ≤ q.range.size
  pub start : q.range.start.0 ≡ slice_index places (number_in ps text)
  pub wide : q.range.size ≡ slice_index (sizes_asked mpu ps) (number_in ps text)

stands_here : (mpu : Mpu) (place i : ℕ) (places : List ℕ) (p : PartitionEntry) (ps : List PartitionEntry) (text : Text) → bytes_eq text p.name ≡ true → partition_limits i p ≡ []
    → Stands mpu (place ∷ places) (p ∷ ps) text
unfolding partition_limits
stands_here mpu place i places p ps text is h =
    let c = contents_right i p.contents (no_back (one_too_many Section.Partition PARTITIONS i) (contents_limits i p.contents) h) in
    let room = rounded_size mpu (asked_size p) (record { least = c.0; most = c.1 }) in
    record {
      q = record { name = p.name; range = range_at place (rounded mpu (asked_size p)); attr = p.attr; bytes = first_bytes p };
      size = asked_size p;
      found = rw is refl;
      asked = rw is refl;
      small = c.1;
      room = room.room;
      start = rw is refl;
      wide = rw is refl;
    }

stands_later : (mpu : Mpu) (place k : ℕ) (places : List ℕ) (p : PartitionEntry) (ps : List PartitionEntry) (text : Text) → bytes_eq text p.name ≡ false → named (map partition_name ps) text ≡ Some k
    → Stands mpu places ps text → Stands mpu (place ∷ places) (p ∷ ps) text
stands_later mpu place k places p ps text other is rest =
    record {
      q = rest.q;
      size = rest.size;
      found = rw (other, is, add-one) (rw is at rest.found);
      asked = rw other rest.asked;
      small = rest.small;
      room = rest.room;
      start = rw (other, is, add-one) (rw is at rest.start);
      wide = rw (other, is, add-one) (rw is at rest.wide);
    }

stands_by : (mpu : Mpu) (place i : ℕ) (places : List ℕ) (p : PartitionEntry) (ps : List PartitionEntry) (text : Text) (b : Bool) (o : Option ℕ)
    → bytes_eq text p.name ≡ b → named (map partition_name ps) text ≡ o → IsTrue (is_some (if b then Some 0 else option_map (λ j. j + 1) o)) → partition_limits i p ≡ []
    → (IsTrue (is_known (map partition_name ps) text) → Stands mpu places ps text) → Stands mpu (place ∷ places) (p ∷ ps) text
stands_by mpu place i places p ps text true o is is_o known h later = stands_here mpu place i places p ps text is h
stands_by mpu place i places p ps text false None is is_o known h later = absurd (false≢true known)
stands_by mpu place i places p ps text false (Some k) is is_o known h later = stands_later mpu place k places p ps text is is_o (later (rw is_o refl))

stands : (mpu : Mpu) (places : List ℕ) (i : ℕ) (ps : List PartitionEntry) (text : Text) → length places ≡ length ps → IsTrue (is_known (map partition_name ps) text)
    → each partition_limits i ps ≡ [] → Stands mpu places ps text
stands mpu places i [] text same known h = absurd (false≢true known)
stands mpu [] i (p ∷ ps) text same known h = absurd (omega (arith, same))
stands mpu (place ∷ places) i (p ∷ ps) text same known h =
    stands_by mpu place i places p ps text (bytes_eq text p.name) (named (map partition_name ps) text) refl refl known (no_front (partition_limits i p) (each partition_limits (i + 1) ps) h)
    (λ there. stands mpu places (i + 1) ps text (omega (arith, same)) there (no_back (partition_limits i p) (each partition_limits (i + 1) ps) h))

-- ---- a futex in it

abbrev pub places_in : Description → List ℕ
places_in d = starts d.mpu PARTITION_AREA (partition_sizes d)

-- four bytes from its offset on lie in the partition that it names
pub record LiesIn (d : Description) (f : FutexEntry) : Type 0 where
  pub known : IsTrue (is_known (partition_names d) f.partition)
  pub at : Stands d.mpu (places_in d) d.partitions f.partition
  pub offset : ℕ
  pub is : f.offset ≡ pos offset
  pub fits : offset + 4 ≤ at.size

abbrev pub AllLie : Description → List FutexEntry → Type 0
AllLie d [] = Unit {0}
AllLie d (f ∷ fs) = LiesIn d f × AllLie d fs

-- an offset without a flaw
record Fits (size : ℕ) (z : ℤ) : Type 0 where
  offset : ℕ
  is : z ≡ pos offset
  fits : offset + 4 ≤ size

not_inside : (b : Bool) (x : Flaw) (rest : List Flaw) → (if b then x ∷ [] else rest) ≡ [] → (b ≡ false) × (rest ≡ [])
not_inside true x rest h = absurd cc
not_inside false x rest h = (refl, h)

fits_by : (place : Place) (z : ℤ) (size : ℕ) → 4 ≤ size → outside Key.Offset (pos 0) (pos (size - 4)) place z ≡ [] → Fits size z
fits_by place (pos n) size wide h =
    let in_it = natural_in Key.Offset 0 (size - 4) place (pos n) h in
    let most = in_it.most in record { offset = n; is = refl; fits = omega (arith, most, wide) }
fits_by place (negsuc n) size wide h = absurd cc

fits_in : (place : Place) (z : ℤ) (size : ℕ) → offset_limits place z (Some size) ≡ [] → Fits size z
fits_in place z size h =
    let both = not_inside (nat_lt size 4) (Flaw.Limit (counted.Key Key.Offset) (pos 0) place) (outside Key.Offset (pos 0) (pos (size - 4)) place z) h in
    fits_by place z size (grind (arith, nat_tests, both.0)) both.1

lies_in : (d : Description) (i : ℕ) (f : FutexEntry) → each partition_limits 0 d.partitions ≡ [] → unknown_in_futex d i f ≡ [] → futex_limits d.partitions i f ≡ [] → LiesIn d f
unfolding futex_limits
lies_in d i f within known h =
    let there : IsTrue (is_known (partition_names d) f.partition) = none_unless (is_known (partition_names d) f.partition) (Place.Field Section.Futex i Key.Partition) known in
    let same : length (places_in d) ≡ length d.partitions = length_starting d.mpu PARTITION_AREA (partition_sizes d) ∙ length_mapped (rounded d.mpu) (asked_partitions d) ∙ length_mapped asked_size d.partitions in
    let at = stands d.mpu (places_in d) 0 d.partitions f.partition same there within in
    let own = no_back (one_too_many Section.Futex FUTEXES i) (offset_limits (Place.Field Section.Futex i Key.Offset) f.offset (size_named f.partition d.partitions)) h in
    let asked = at.asked in
    let fits = fits_in (Place.Field Section.Futex i Key.Offset) f.offset at.size (rw asked at own) in
    record { known = there; at = at; offset = fits.offset; is = fits.is; fits = fits.fits }

pub all_lie : (d : Description) (i : ℕ) (fs : List FutexEntry) → each partition_limits 0 d.partitions ≡ [] → each (unknown_in_futex d) i fs ≡ [] → each (futex_limits d.partitions) i fs ≡ [] → AllLie d fs
all_lie d i [] within known h = tt
all_lie d i (f ∷ fs) within known h =
    let back_known = no_back (unknown_in_futex d i f) (each (unknown_in_futex d) (i + 1) fs) known in
    let back = no_back (futex_limits d.partitions i f) (each (futex_limits d.partitions) (i + 1) fs) h in (
      lies_in d i f within (no_front (unknown_in_futex d i f) (each (unknown_in_futex d) (i + 1) fs) known) (no_front (futex_limits d.partitions i f) (each (futex_limits d.partitions) (i + 1) fs) h),
      all_lie d (i + 1) fs within back_known back,
    )

-- ---- they are lawful

abbrev pub futex_in : Description → FutexEntry → Futex
futex_in d f = futex_of (partition_names d) f

pub offset_is : (d : Description) (f : FutexEntry) (h : LiesIn d f) → clamped f.offset ≡ h.offset
offset_is d f h =
    let is = h.is in
    let fits = h.fits in
    let small = h.at.small in
    let same : min h.offset (2 ^ 32 - 1) ≡ h.offset = min-eq_left (omega (arith, fits, small)) in rw is same

futex_lawful : (d : Description) (f : FutexEntry) → LiesIn d f → IsTrue (is_lawful_futex (image_of d) (futex_in d f))
futex_lawful d f h =
    let fits = h.fits in
    let room = h.at.room in
    let enough : h.offset + 4 ≤ h.at.q.range.size = omega (arith, fits, room) in
    rw (h.at.found, offset_is d f h) (grind (arith, nat_tests, enough))

pub futexes_lawful : (d : Description) (fs : List FutexEntry) → AllLie d fs → IsTrue (list_all (is_lawful_futex (image_of d)) (map (futex_of (partition_names d)) fs))
futexes_lawful d [] h = refl
futexes_lawful d (f ∷ fs) h =
    both_true (is_lawful_futex (image_of d) (futex_in d f)) (list_all (is_lawful_futex (image_of d)) (map (futex_of (partition_names d)) fs)) (futex_lawful d f h.0) (futexes_lawful d fs h.1)

-- ---- their addresses differ

addr_is : (d : Description) (f : FutexEntry) (h : LiesIn d f) → futex_addr (image_of d) (futex_in d f) ≡ slice_index (places_in d) (number_in d.partitions f.partition) + h.offset
addr_is d f h = rw (h.at.found, offset_is d f h, h.at.start) refl

-- two of one address lie at one offset of one partition
one_partition : (d : Description) (f g : FutexEntry) → LiesIn d f → LiesIn d g → f.partition ≡ g.partition → futex_addr (image_of d) (futex_in d f) ≡ futex_addr (image_of d) (futex_in d g) → spot_text f ≡ spot_text g
one_partition d f g a b same is =
    let first = addr_is d f a in
    let second = addr_is d g b in
    let places : slice_index (places_in d) (number_in d.partitions f.partition) ≡ slice_index (places_in d) (number_in d.partitions g.partition) = ap (λ text. slice_index (places_in d) (number_in d.partitions text)) same in
    let offsets : a.offset ≡ b.offset = omega (arith, first, second, places, is) in
    rw (same, a.is, b.is, offsets) refl

behind_it : (d : Description) (f g : FutexEntry) (a : LiesIn d f) (b : LiesIn d g) → Ends d.mpu PARTITION_AREA (partition_sizes d) (number_in d.partitions f.partition) (number_in d.partitions g.partition)
    → futex_addr (image_of d) (futex_in d f) < futex_addr (image_of d) (futex_in d g)
behind_it d f g a b ends =
    let first = addr_is d f a in
    let second = addr_is d g b in
    let fits = a.fits in
    let room = a.at.room in
    let wide = a.at.wide in
    omega (arith, first, second, fits, room, wide, ends)

below : (d : Description) (f : FutexEntry) → LiesIn d f → number_in d.partitions f.partition < length (partition_sizes d)
below d f h =
    let lt = number_below (partition_names d) f.partition h.known in
    let sizes = length_mapped (rounded d.mpu) (asked_partitions d) ∙ length_mapped asked_size d.partitions in
    let names = length_mapped partition_name d.partitions in omega (arith, lt, sizes, names)

same_spot : (d : Description) (f g : FutexEntry) → LiesIn d f → LiesIn d g → futex_addr (image_of d) (futex_in d f) ≡ futex_addr (image_of d) (futex_in d g) → spot_text f ≡ spot_text g
same_spot d f g a b is =
    let i = number_in d.partitions f.partition in
    let j = number_in d.partitions g.partition in
    elim (cases_lt i j) [
      | inl less ↦
          elim (places_apart d.mpu PARTITION_AREA (partition_sizes d) i j less (below d g b)) [
            | inl ends ↦ absurd (omega (arith, behind_it d f g a b ends, is))
            | inr ends ↦ absurd (omega (arith, behind_it d g f b a ends, is))
          ]
      | inr more ↦
          elim (cases_lt j i) [
            | inl less ↦
                elim (places_apart d.mpu PARTITION_AREA (partition_sizes d) j i less (below d f a)) [
                  | inl ends ↦ absurd (omega (arith, behind_it d g f b a ends, is))
                  | inr ends ↦ absurd (omega (arith, behind_it d f g a b ends, is))
                ]
            | inr no_more ↦ one_partition d f g a b (same_number (partition_names d) f.partition g.partition a.known b.known (omega (arith, more, no_more))) is
          ]
    ]

other_addr : (d : Description) (f g : FutexEntry) → LiesIn d f → LiesIn d g → bytes_eq (spot_text f) (spot_text g) ≡ false
    → (futex_addr (image_of d) (futex_in d f) == futex_addr (image_of d) (futex_in d g)) ≡ false
other_addr d f g a b other =
    ne_eqb (futex_addr (image_of d) (futex_in d f)) (futex_addr (image_of d) (futex_in d g))
    (λ is. true≢false (sym (text_itself (spot_text f)) ∙ ap (bytes_eq (spot_text f)) (same_spot d f g a b is) ∙ other))

abbrev pub addrs : Description → List FutexEntry → List ℕ
addrs d fs = map (futex_addr (image_of d)) (map (futex_of (partition_names d)) fs)

no_addr : (d : Description) (f : FutexEntry) (fs : List FutexEntry) → LiesIn d f → AllLie d fs → is_among (spot_text f) (map spot_text fs) ≡ false
    → list_any (λ y. futex_addr (image_of d) (futex_in d f) == y) (addrs d fs) ≡ false
no_addr d f [] a all gone = refl
no_addr d f (g ∷ fs) a all gone =
    let parts = or_parts (bytes_eq (spot_text f) (spot_text g)) (is_among (spot_text f) (map spot_text fs)) gone in
    rw (other_addr d f g a all.0 parts.0, no_addr d f fs a all.1 parts.1) refl

pub futexes_apart : (d : Description) (fs : List FutexEntry) → AllLie d fs → IsTrue (are_distinct_names (map spot_text fs)) → IsTrue (are_distinct (addrs d fs))
futexes_apart d [] all h = refl
futexes_apart d (f ∷ fs) all h =
    let both = and_true (not (is_among (spot_text f) (map spot_text fs))) (are_distinct_names (map spot_text fs)) h in
    both_true (not (list_any (λ y. futex_addr (image_of d) (futex_in d f) == y) (addrs d fs))) (are_distinct (addrs d fs))
    (not_true (list_any (λ y. futex_addr (image_of d) (futex_in d f) == y) (addrs d fs)) (no_addr d f fs all.0 all.1 (not_false (is_among (spot_text f) (map spot_text fs)) both.0)))
    (futexes_apart d fs all.1 both.1)
