-- The variables of a description lie in its image, packed.
use Rattle.std.proofs.Common.{◌≡◌, ℕ, ◌+◌, ◌-◌, ◌≤◌, List, [], ◌∷◌, ◌++◌, length, replicate, take, drop, map, Option, Some, None, Result, Ok, Err, append_assoc, refl, sym, ap, ◌∙◌, arith}
use Rattle.std.specs.Prelude.{IfOk}
use Rattle.std.proofs.Math.Seq.{take-append_seam, drop-append_seam}
use Rattle.std.proofs.lemmas.List.{append-nil, length-map, length-replicate, length-append}
use Rattle.um_base.specs.declared.image.Image.{Image}
use Rattle.um_base.specs.declared.image.Partition.{Partition}
use Rattle.um_base.specs.declared.limits.TheConstants.{PARTITION_AREA, PARTITIONS, AREA_ENTRY}
use Rattle.um_base.specs.declared.names.Mpu.{Mpu}
use Rattle.um_base.specs.Layout.{rounded, starts}
use Rattle.um_document.specs.declared.description.Description.{Description}
use Rattle.um_document.specs.declared.description.PartitionContents.{PartitionContents}
use Rattle.um_document.specs.declared.description.PartitionEntry.{PartitionEntry}
use Rattle.um_document.specs.declared.description.VariableEntry.{VariableEntry}
use Rattle.um_document.specs.declared.shape.Section.{Section}
use Rattle.um_document.specs.First.{first_of}
use Rattle.um_description.specs.declared.flaw.Flaw.{Flaw}
use Rattle.um_description.specs.Flaws.{image_flaws, meaning_by}
use Rattle.um_description.specs.Kinds.{entry_flaws}
use Rattle.um_description.specs.Limits.{one_too_many, variable_limits, contents_limits, partition_limits, most_parts, domain_limits, objects_limits, boot_limits, script_limits, futex_limits, limits}
use Rattle.um_description.specs.Names.{each, items}
use Rattle.um_description.specs.Packed.{StandsAt, LiesAt, LieAt, HasContents, HaveVariables}
use Rattle.um_description.specs.Packing.{offset_of, end_of, offsets_from, offsets, last_end, size_of, with_data, bytes_from, bytes_of, size_by, bytes_by, asked_size, first_bytes}
use Rattle.um_description.specs.Resolve.{ranges_at, range_at, placed_partitions, image_of, partition_sizes}
use Rattle.um_description.proofs.LawfulLayout.{length_starting, sizes_asked}
use Rattle.um_description.proofs.LawfulLists.{no_front, no_back}
use Rattle.um_description.proofs.LawfulRanges.{rounded_size}
use Rattle.um_description.proofs.PackingLemmas.{ends_grow, least_offset, packed}
use Rattle.um_description.proofs.KindLemmas.{limits_none}
use Rattle.um_description.proofs.WithoutLimits.{none_both, variable_right, data_ends, contents_right}

-- a variable's data comes behind the bytes so far
data_behind : (bytes : List ℕ) (offset : ℕ) (given : Option (List ℕ)) → (more : List ℕ) × (with_data bytes offset given ≡ bytes ++ more)
data_behind bytes offset None = ([], sym (append-nil bytes))
data_behind bytes offset (Some given) = (replicate (offset - length bytes) 0 ++ given, append_assoc bytes (replicate (offset - length bytes) 0) given)

-- and so do those of all variables
bytes_behind : (bytes : List ℕ) (e : ℕ) (vs : List VariableEntry) → (more : List ℕ) × (bytes_from bytes e vs ≡ bytes ++ more)
bytes_behind bytes e [] = ([], sym (append-nil bytes))
bytes_behind bytes e (v ∷ vs) =
    let here = data_behind bytes (offset_of e v) v.data in
    let rest = bytes_behind (with_data bytes (offset_of e v) v.data) (end_of e v) vs in
    (here.0 ++ rest.0, rest.1 ∙ ap (λ (xs : List ℕ). xs ++ rest.0) here.1 ∙ append_assoc bytes here.0 rest.0)

stands_in : (front given more : List ℕ) (offset : ℕ) → length front ≡ offset → take (length given) (drop offset (front ++ given ++ more)) ≡ given
stands_in front given more offset is =
    ap (λ (xs : List ℕ). take (length given) (drop offset xs)) (append_assoc front given more)
    ∙ ap (λ (n : ℕ). take (length given) (drop n (front ++ (given ++ more)))) (sym is)
    ∙ ap (λ (xs : List ℕ). take (length given) xs) (drop-append_seam front (given ++ more))
    ∙ take-append_seam given more

-- data stands where it was put, whatever comes behind it
data_stands : (bytes more : List ℕ) (offset : ℕ) (given : Option (List ℕ)) → length bytes ≤ offset → StandsAt offset given (with_data bytes offset given ++ more)
data_stands bytes more offset None few = tt
data_stands bytes more offset (Some given) few =
    let zero : ℕ = 0 in
    let zeros = length-replicate (offset - length bytes) zero in
    let front = length-append bytes (replicate (offset - length bytes) 0) in
    stands_in (bytes ++ replicate (offset - length bytes) 0) given more offset (omega (arith, few, zeros, front))

-- variables behind so many bytes lie where they are packed
variables_lie : (i j e : ℕ) (bytes : List ℕ) (vs : List VariableEntry) (partition : Partition) → each (variable_limits i) j vs ≡ [] → length bytes ≤ e
    → partition.bytes ≡ bytes_from bytes e vs → last_end e vs ≤ partition.range.size → LieAt partition (offsets_from e vs) vs
variables_lie i j e bytes [] partition h few is fits = refl
variables_lie i j e bytes (v ∷ vs) partition h few is fits =
    let t = none_both (variable_limits i j v) (each (variable_limits i) (j + 1) vs) h in
    let grows = ends_grow (end_of e v) vs in
    let behind = (least_offset e v.align).behind in
    let rest = bytes_behind (with_data bytes (offset_of e v) v.data) (end_of e v) vs in
    let short : length bytes ≤ offset_of e v = omega (arith, few, behind) in
    let stands = data_stands bytes rest.0 (offset_of e v) v.data short in (
      record { within = omega (arith, grows, fits); stands = rw (is ∙ rest.1) stands },
      variables_lie i (j + 1) (end_of e v) (with_data bytes (offset_of e v) v.data) vs partition t.1 (data_ends bytes e v v.data few (variable_right i j v t.0).1) is fits,
    )

variables_right : (i : ℕ) (vs : List VariableEntry) → contents_limits i (PartitionContents.Variables vs) ≡ [] → each (variable_limits i) 0 vs ≡ []
unfolding contents_limits
variables_right i vs h = (none_both _ _ h).1

-- the contents that a partition gives
contents_lie : (partition : Partition) (i : ℕ) (c : PartitionContents) → contents_limits i c ≡ [] → partition.bytes ≡ bytes_by c → size_by c ≤ partition.range.size → HasContents partition c
contents_lie partition i (PartitionContents.Whole size bytes) h is fits = tt
contents_lie partition i (PartitionContents.Variables vs) h is fits =
    let c = contents_right i (PartitionContents.Variables vs) h in
    let most : size_of vs ≤ AREA_ENTRY = c.1 in
    record {
      offsets = offsets vs;
      packed = packed 0 vs;
      lie = variables_lie i 0 0 [] vs partition (variables_right i vs h) (omega arith) is (omega (arith, most, fits));
    }

partition_right : (i : ℕ) (p : PartitionEntry) → partition_limits i p ≡ [] → contents_limits i p.contents ≡ []
unfolding partition_limits
partition_right i p h = no_back (one_too_many Section.Partition PARTITIONS i) (contents_limits i p.contents) h

partitions_lie : (mpu : Mpu) (places : List ℕ) (i : ℕ) (ps : List PartitionEntry) → length places ≡ length ps → each partition_limits i ps ≡ []
    → HaveVariables (placed_partitions (ranges_at places (sizes_asked mpu ps)) ps) ps
partitions_lie mpu [] i [] same h = refl
partitions_lie mpu (place ∷ places) i [] same h = absurd (omega (arith, same))
partitions_lie mpu [] i (p ∷ ps) same h = absurd (omega (arith, same))
partitions_lie mpu (place ∷ places) i (p ∷ ps) same h =
    let t = none_both (partition_limits i p) (each partition_limits (i + 1) ps) h in
    let right = partition_right i p t.0 in
    let c = contents_right i p.contents right in
    let room = (rounded_size mpu (asked_size p) (record { least = c.0; most = c.1 })).room in (
      contents_lie (record { name = p.name; range = range_at place (rounded mpu (asked_size p)); attr = p.attr; bytes = first_bytes p }) i p.contents right refl room,
      partitions_lie mpu places (i + 1) ps (omega (arith, same)) t.1,
    )

partitions_in_limits : (d : Description) → limits d ≡ [] → each partition_limits 0 d.partitions ≡ []
partitions_in_limits d h =
    let most = most_parts d.regions in
    let t7 = none_both _ (each (futex_limits d.partitions) 0 d.futexes) h in
    let t6 = none_both _ (each script_limits 0 d.scripts) t7.0 in
    let t5 = none_both _ (each boot_limits 0 d.boots) t6.0 in
    let t4 = none_both _ (objects_limits 0 0 d.objects) t5.0 in
    let t3 = none_both _ (each (domain_limits most) 0 d.domains) t4.0 in
    (none_both _ (each partition_limits 0 d.partitions) t3.0).1

-- a description that is in its limits has its variables in its image
image_has : (d : Description) → limits d ≡ [] → HaveVariables (image_of d).partitions d.partitions
image_has d h =
    let sizes = partition_sizes d in
    let asked = length-map d.partitions asked_size in
    let rounds = length-map (map asked_size d.partitions) (rounded d.mpu) in
    let count = length_starting d.mpu PARTITION_AREA sizes in
    partitions_lie d.mpu (starts d.mpu PARTITION_AREA sizes) 0 d.partitions (count ∙ rounds ∙ asked) (partitions_in_limits d h)

meant_has : (d : Description) (xs : List Flaw) (x : Result Image Flaw) → limits d ≡ [] → x ≡ meaning_by d xs → IfOk x (λ image. HaveVariables image.partitions d.partitions)
meant_has d [] (Ok image) h is = let same : image ≡ image_of d = cc in rw same (image_has d h)
meant_has d (flaw ∷ xs) (Ok image) h is = cc
meant_has d xs (Err flaw) h is = tt

-- what is told has them, where it is an image
pub told_has : {E : Type 0} (d : Description) (r : Result (Result Image Flaw) E) → None ≡ first_of (entry_flaws d) → IfOk r (λ x. x ≡ meaning_by d (image_flaws d))
    → IfOk r (λ x. IfOk x (λ image. HaveVariables image.partitions d.partitions))
told_has d (Err e) h is = tt
told_has d (Ok x) h is = meant_has d (image_flaws d) x (limits_none d h) is
