-- The image of a description without flaws is lawful.
use Rattle.std.proofs.Common.{◌≡◌, Ok, refl, ℕ, ◌-◌, ◌≤◌, min, true, false, nat_lt, List, [], ◌∷◌, ◌++◌, length, map, sum, IsTrue, ap, sym, ◌∙◌, subst, arith}
use Rattle.std.specs.List.{list_all}
use Rattle.std.proofs.lemmas.Bool.Decides.{nat_tests}
use Rattle.um_base.specs.declared.image.DomainDef.{DomainDef}
use Rattle.um_base.specs.declared.image.Image.{Image}
use Rattle.um_base.specs.declared.image.Partition.{Partition}
use Rattle.um_base.specs.declared.limits.TheConstants.{MOST_WEIGHT, PARTITION_AREA, STACK_AREA, DOMAIN_PARTITIONS}
use Rattle.um_base.specs.declared.names.Range.{Range}
use Rattle.um_base.specs.Lawful as lawful
use Rattle.um_base.specs.Lawful.{is_name, names_of, are_distinct_names, are_lawful_parts, ArePlaced, stack_ranges, IsLawful}
use Rattle.um_base.specs.Layout.{rounded, starts}
use Rattle.um_base.specs.Weight.{weight}
use Rattle.um_document.specs.declared.description.Description.{Description}
use Rattle.um_document.specs.declared.description.DomainEntry.{DomainEntry}
use Rattle.um_document.specs.declared.description.ScriptEntry.{ScriptEntry}
use Rattle.um_description.specs.declared.flaw.Flaw.{Flaw}
use Rattle.um_description.specs.Duplicates.{added, spot_text, duplicates}
use Rattle.um_description.specs.Flaws.{too_heavy, too_large, image_flaws, flaws, meaning_by, meaning}
use Rattle.um_document.specs.Faults.{ReadsDocument}
use Rattle.um_document.specs.LawfulNames.{AreLawfulNames}
use Rattle.um_document.proofs.LawfulForm.{read_lawful}
use Rattle.um_document.specs.declared.description.PartitionEntry.{PartitionEntry}
use Rattle.um_description.specs.Limits.{top_limits, pool_limits, partition_limits, domain_limits, objects_limits, boot_limits, script_limits, futex_limits, limits, most_parts}
use Rattle.um_description.specs.Lines.{unread_lines, blocks_of, unknown_in_script, misordered_script}
use Rattle.um_description.specs.Names.{each, names_within, pool_names, partition_names}
use Rattle.um_description.specs.Numbers.{natural}
use Rattle.um_description.specs.Packing.{asked_size}
use Rattle.um_description.specs.Resolve.{asked_partitions, asked_stacks, partition_sizes, stack_sizes, placed, placed_partitions, domain_of, script_of, without_scripts, image_of}
use Rattle.um_description.specs.Unknown.{unknown_in_domain, unknown_in_boot, unknown_in_futex, unknown_names}
use Rattle.um_description.proofs.LawfulBoots.{boots_lawful, threads_once, stacks_once}
use Rattle.um_description.proofs.LawfulDistinct.{distinct_names}
use Rattle.um_description.proofs.LawfulDomains.{domains_lawful}
use Rattle.um_description.proofs.LawfulFutexes.{all_lie, futexes_lawful, futexes_apart}
use Rattle.um_description.proofs.LawfulLayout.{length_starting, length_ranges, placed_lawful, has_room, ranges_of_partitions, partitions_lawful}
use Rattle.um_description.proofs.LawfulLines.{AreAsMany}
use Rattle.um_description.proofs.LawfulLists.{no_front, no_back, none_mapped, none_if, length_mapped}
use Rattle.um_description.proofs.LawfulNames.{names_again_in, names_lawful, names_distinct, no_duplicates}
use Rattle.um_description.proofs.LawfulObjects.{objects_lawful, indices_lawful, rows_lawful, ranges_of_stacks}
use Rattle.um_description.proofs.LawfulRanges.{IsIn, regions_lawful, regions_in, pools_lawful, rodata_lawful}
use Rattle.um_description.proofs.LawfulScripts.{scripts_lawful}

-- seven lists that are empty one behind the other
seven_empty : {A : Type 0} (a b c e f g k : List A) → a ++ b ++ c ++ e ++ f ++ g ++ k ≡ []
    → (a ≡ []) × (b ≡ []) × (c ≡ []) × (e ≡ []) × (f ≡ []) × (g ≡ []) × (k ≡ [])
seven_empty a b c e f g k h =
    let f5 = no_front (a ++ b ++ c ++ e ++ f ++ g) k h in
    let f4 = no_front (a ++ b ++ c ++ e ++ f) g f5 in
    let f3 = no_front (a ++ b ++ c ++ e) f f4 in
    let f2 = no_front (a ++ b ++ c) e f3 in
    let f1 = no_front (a ++ b) c f2 in (
      no_front a b f1,
      no_back a b f1,
      no_back (a ++ b) c f2,
      no_back (a ++ b ++ c) e f3,
      no_back (a ++ b ++ c ++ e) f f4,
      no_back (a ++ b ++ c ++ e ++ f) g f5,
      no_back (a ++ b ++ c ++ e ++ f ++ g) k h,
    )

-- ---- each kind of flaw is absent

pub record HasNoFlaws (d : Description) : Type 0 where
  pub names_new : duplicates d ≡ []
  pub names_known : unknown_names d ≡ []
  pub within : limits d ≡ []
  pub read : each unread_lines 0 d.scripts ≡ []
  pub blocks : each blocks_of 0 d.scripts ≡ []
  pub known : each (unknown_in_script d) 0 d.scripts ≡ []
  pub order : each (misordered_script d) 0 d.scripts ≡ []
  pub image : image_flaws d ≡ []

pub no_flaws : (d : Description) → flaws d ≡ [] → HasNoFlaws d
no_flaws d h =
    let a = map Flaw.Duplicate (duplicates d) in
    let b = map Flaw.UnknownName (unknown_names d) in
    let c = limits d in
    let e = each unread_lines 0 d.scripts in
    let f = map Flaw.Block (each blocks_of 0 d.scripts) in
    let g = each (unknown_in_script d) 0 d.scripts in
    let k = map Flaw.ScriptOrder (each (misordered_script d) 0 d.scripts) in
    let none = seven_empty a b c e f g k (no_front (a ++ b ++ c ++ e ++ f ++ g ++ k) (image_flaws d) h) in
    record {
      names_new = none_mapped Flaw.Duplicate (duplicates d) none.0;
      names_known = none_mapped Flaw.UnknownName (unknown_names d) none.1;
      within = none.2;
      read = none.3;
      blocks = none_mapped Flaw.Block (each blocks_of 0 d.scripts) none.4;
      known = none.5;
      order = none_mapped Flaw.ScriptOrder (each (misordered_script d) 0 d.scripts) none.6;
      image = no_back (a ++ b ++ c ++ e ++ f ++ g ++ k) (image_flaws d) h;
    }

pub record AreWithin (d : Description) : Type 0 where
  pub top : top_limits d ≡ []
  pub pools : each pool_limits 0 d.pools ≡ []
  pub partitions : each partition_limits 0 d.partitions ≡ []
  pub domains : each (domain_limits (most_parts d.regions)) 0 d.domains ≡ []
  pub objects : objects_limits 0 0 d.objects ≡ []
  pub boots : each boot_limits 0 d.boots ≡ []
  pub scripts : each script_limits 0 d.scripts ≡ []
  pub futexes : each (futex_limits d.partitions) 0 d.futexes ≡ []

pub all_within : (d : Description) → limits d ≡ [] → AreWithin d
all_within d h =
    let a = top_limits d in
    let b = each pool_limits 0 d.pools in
    let c = each partition_limits 0 d.partitions in
    let e = each (domain_limits (most_parts d.regions)) 0 d.domains in
    let f = objects_limits 0 0 d.objects in
    let g = each boot_limits 0 d.boots in
    let k = each script_limits 0 d.scripts in
    let l = each (futex_limits d.partitions) 0 d.futexes in
    let none = seven_empty a b c e f g k (no_front (a ++ b ++ c ++ e ++ f ++ g ++ k) l h) in
    record {
      top = none.0;
      pools = none.1;
      partitions = none.2;
      domains = none.3;
      objects = none.4;
      boots = none.5;
      scripts = none.6;
      futexes = no_back (a ++ b ++ c ++ e ++ f ++ g ++ k) l h;
    }

-- ---- the image

abbrev partition_ranges : Description → List Range
partition_ranges d = placed d.mpu PARTITION_AREA (partition_sizes d)

abbrev thread_stacks : Description → List Range
thread_stacks d = placed d.mpu STACK_AREA (stack_sizes d)

as_many_ranges : (d : Description) → length (partition_ranges d) ≡ length d.partitions
as_many_ranges d =
    length_ranges (starts d.mpu PARTITION_AREA (partition_sizes d)) (partition_sizes d) (length_starting d.mpu PARTITION_AREA (partition_sizes d))
    ∙ length_mapped (rounded d.mpu) (asked_partitions d) ∙ length_mapped asked_size d.partitions

as_many_places : (d : Description) → length (starts d.mpu STACK_AREA (stack_sizes d)) ≡ length (asked_stacks d)
as_many_places d = length_starting d.mpu STACK_AREA (stack_sizes d) ∙ length_mapped (rounded d.mpu) (asked_stacks d)

as_many_stacks : (d : Description) → length (thread_stacks d) ≡ length (asked_stacks d)
as_many_stacks d =
    length_ranges (starts d.mpu STACK_AREA (stack_sizes d)) (stack_sizes d) (length_starting d.mpu STACK_AREA (stack_sizes d)) ∙ length_mapped (rounded d.mpu) (asked_stacks d)

as_many : (d : Description) → AreAsMany d (partition_ranges d) (thread_stacks d)
as_many d =
    let ps = partition_ranges d in
    let same = as_many_ranges d in
    let partitions : length (placed_partitions ps d.partitions) ≡ length d.partitions =
    sym (length_mapped (λ (p : Partition). p.range) (placed_partitions ps d.partitions)) ∙ ap (length {A = Range}) (ranges_of_partitions ps d.partitions same) ∙ same in
    record {
      domains = length_mapped (λ (m : DomainEntry). m.name) d.domains ∙ sym (length_mapped (domain_of (partition_names d)) d.domains);
      partitions = length_mapped (λ (p : PartitionEntry). p.name) d.partitions ∙ sym partitions;
      scripts = length_mapped (λ (s : ScriptEntry). s.name) d.scripts ∙ sym (length_mapped (script_of (without_scripts d ps (thread_stacks d)) d) d.scripts);
    }

most_by : (n : ℕ) → IsIn 4 32 n → min DOMAIN_PARTITIONS (n - 3) ≡ min DOMAIN_PARTITIONS (min n 255 - 3)
most_by n h = let most = h.most in ap (λ (k : ℕ). min DOMAIN_PARTITIONS (k - 3)) (omega (arith, most))

light_by : (n : ℕ) → nat_lt MOST_WEIGHT n ≡ false → n ≤ MOST_WEIGHT
light_by n h = grind (arith, nat_tests)

known_before_futexes : (d : Description) → HasNoFlaws d → each (unknown_in_domain d) 0 d.domains ++ each (unknown_in_boot d) 0 d.boots ≡ []
known_before_futexes d h = no_front (each (unknown_in_domain d) 0 d.domains ++ each (unknown_in_boot d) 0 d.boots) (each (unknown_in_futex d) 0 d.futexes) h.names_known

domains_within : (d : Description) → AreWithin d → HasNoFlaws d → IsTrue (list_all (λ (m : DomainDef). are_lawful_parts (lawful.most_parts (image_of d)) (length (image_of d).partitions) m.parts) (image_of d).domains)
domains_within d w h =
    let before = added (added [] (pool_names d)) (names_within d.partitions) in
    let few = domains_lawful d (most_parts d.regions) (length (image_of d).partitions) 0 before d.domains (as_many d).partitions w.domains
    (no_front (each (unknown_in_domain d) 0 d.domains) (each (unknown_in_boot d) 0 d.boots) (known_before_futexes d h)) (no_duplicates d h.names_new).domains in
    subst (λ (most : ℕ). IsTrue (list_all (λ (m : DomainDef). are_lawful_parts most (length (image_of d).partitions) m.parts) (image_of d).domains)) (most_by (natural d.regions) (regions_in d w.top)) few

pub lawful_image : (d : Description) → AreLawfulNames d → flaws d ≡ [] → IsLawful (image_of d)
lawful_image d words none =
    let h = no_flaws d none in
    let w = all_within d h.within in
    let new = no_duplicates d h.names_new in
    let ps = partition_ranges d in
    let ss = thread_stacks d in
    let names = names_again_in d ps ss (as_many_ranges d) in
    let heavy = too_heavy d in
    let large = too_large false (sum (partition_sizes d)) in
    let high = too_large true (sum (stack_sizes d)) in
    let areas = no_front (heavy ++ large) high h.image in
    let booted = no_back (each (unknown_in_domain d) 0 d.domains) (each (unknown_in_boot d) 0 d.boots) (known_before_futexes d h) in
    let lie = all_lie d 0 d.futexes w.partitions (no_back (each (unknown_in_domain d) 0 d.domains ++ each (unknown_in_boot d) 0 d.boots) (each (unknown_in_futex d) 0 d.futexes) h.names_known) w.futexes in
    record {
      regions = regions_lawful d w.top;
      names = ap (list_all is_name) names ∙ names_lawful d words;
      distinct = ap are_distinct_names names ∙ names_distinct d new;
      rodata = rodata_lawful d w.top;
      pools = pools_lawful d.pools w.pools;
      partitions = partitions_lawful d.mpu (starts d.mpu PARTITION_AREA (partition_sizes d)) 0 d.partitions w.partitions words.attributes;
      partitions_placed = subst (λ (rs : List Range). ArePlaced d.mpu PARTITION_AREA rs) (sym (ranges_of_partitions ps d.partitions (as_many_ranges d)))
          (placed_lawful d.mpu PARTITION_AREA (partition_sizes d) (has_room false (sum (partition_sizes d)) (no_back heavy large areas)));
      domains = domains_within d w h;
      objects = objects_lawful d.mpu 0 0 d.objects w.objects (starts d.mpu STACK_AREA (stack_sizes d)) 0 0 (as_many_places d);
      indices = indices_lawful ss 0 0 0 d.objects (omega arith) w.objects;
      rows = rows_lawful ss 0 0 d.objects;
      stacks_placed = subst (λ (rs : List Range). ArePlaced d.mpu STACK_AREA rs) (sym (ranges_of_stacks d.objects ss 0 0 (as_many_stacks d)))
          (placed_lawful d.mpu STACK_AREA (stack_sizes d) (has_room true (sum (stack_sizes d)) (no_back (heavy ++ large) high h.image)));
      boots = boots_lawful d ps ss 0 d.boots w.boots booted;
      boot_threads = threads_once d d.boots booted new.boots;
      boot_stacks = stacks_once d d.boots booted new.boots;
      scripts = scripts_lawful d ps ss 0 d.scripts (as_many d) (record { limits = w.scripts; read = h.read; blocks = h.blocks; known = h.known; order = h.order });
      futexes = futexes_lawful d d.futexes lie;
      futexes_apart = futexes_apart d d.futexes lie (distinct_names [] (map spot_text d.futexes) new.spots);
      light = light_by (weight (image_of d)) (none_if (nat_lt MOST_WEIGHT (weight (image_of d))) Flaw.Weight (no_front heavy large areas));
    }

by_flaws : (d : Description) (image : Image) (fs : List Flaw) → flaws d ≡ fs → AreLawfulNames d → meaning_by d fs ≡ Ok image → IsLawful image
by_flaws d image [] none words is = let same : image_of d ≡ image = cc is in subst (λ (i : Image). IsLawful i) same (lawful_image d words none)
by_flaws d image (flaw ∷ fs) some words is = absurd (cc is)

-- an image that a description means is lawful
pub lawful_meaning : (d : Description) (image : Image) → AreLawfulNames d → meaning d ≡ Ok image → IsLawful image
lawful_meaning d image words is = by_flaws d image (flaws d) refl words is

-- an image that a text's description means is lawful
pub lawful_reading : (d : Description) (image : Image) (text : List ℕ) → ReadsDocument (Ok d) text → meaning d ≡ Ok image → IsLawful image
lawful_reading d image text read is = lawful_meaning d image (read_lawful d text read) is
