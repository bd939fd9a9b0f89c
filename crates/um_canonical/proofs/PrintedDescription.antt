-- The description that is printed is made of the image alone, and it is the one that means the same image.
use Rattle.std.proofs.Common.{◌≡◌, ℕ, ◌+◌, min, false, List, [], ◌∷◌, map, length, Option, IsTrue, Ok, ℤ, pos, negsuc, int_lt, refl, ap, ◌∙◌, subst, arith}
use Rattle.std.proofs.lemmas.Bool.{true≢false}
use Rattle.std.specs.List.{list_all}
use Rattle.um_base.specs.declared.image.DomainDef.{DomainDef}
use Rattle.um_base.specs.declared.image.Futex.{Futex}
use Rattle.um_base.specs.declared.image.Image.{Image}
use Rattle.um_base.specs.declared.image.Pool.{Pool}
use Rattle.um_base.specs.declared.image.Script.{Script}
use Rattle.um_base.specs.declared.limits.TheConstants.{PARTITION_AREA, STACK_AREA, AREA_ENTRY}
use Rattle.um_base.specs.declared.names.Range.{Range}
use Rattle.um_base.specs.Layout.{rounded, starts}
use Rattle.um_document.specs.declared.description.BootEntry.{BootEntry}
use Rattle.um_document.specs.declared.description.Description.{Description}
use Rattle.um_document.specs.declared.description.DomainEntry.{DomainEntry}
use Rattle.um_document.specs.declared.description.PartitionEntry.{PartitionEntry}
use Rattle.um_document.specs.declared.description.ScriptEntry.{ScriptEntry}
use Rattle.um_document.specs.declared.place.Place.{Place}
use Rattle.um_document.specs.declared.shape.Key.{Key}
use Rattle.um_document.specs.declared.shape.Section.{Section}
use Rattle.um_description.specs.Flaws.{flaws, meaning}
use Rattle.um_description.specs.Limits.{outside, longer, top_limits, boot_limits}
use Rattle.um_description.specs.Names.{Text, each, items, pool_names, partition_names, domain_names, object_names, script_names, futex_names}
use Rattle.um_description.specs.Numbers.{natural}
use Rattle.um_description.specs.Packing.{asked_size}
use Rattle.um_description.specs.Resolve.{partition_sizes, stack_sizes, placed, placed_partitions, domain_of, pool_of, boot_of, script_of, futex_of, image_of}
use Rattle.um_description.specs.Unknown.{unknown_in_domain, unknown_in_boot}
use Rattle.um_description.proofs.LawfulBoots.{known_boot}
use Rattle.um_description.proofs.LawfulDistinct.{is_known}
use Rattle.um_description.proofs.LawfulDomains.{all_known}
use Rattle.um_description.proofs.LawfulImage.{no_flaws, all_within}
use Rattle.um_description.proofs.LawfulLayout.{length_starting, length_ranges}
use Rattle.um_description.proofs.LawfulLists.{no_front, no_back, map_map, length_mapped}
use Rattle.um_description.proofs.LawfulNames.{all_names, partition_names_again, object_names_again}
use Rattle.um_description.proofs.LawfulRanges.{IsIn, inside, natural_in}
use Rattle.um_canonical.specs.Entries.{Packed, packed_by, domain_entry, boot_entry}
use Rattle.um_canonical.specs.Fresh.{fresh_names}
use Rattle.um_canonical.specs.Text.{pools_in, partitions_in, domains_in, objects_in, scripts_in, futexes_in, script_entry, names_by, names_in, packed_in, described_by, described}
use Rattle.um_canonical.proofs.PrintedEntries.{pools_back, objects_back, domain_back}
use Rattle.um_canonical.proofs.PrintedFutexes.{futexes_back}
use Rattle.um_canonical.proofs.PrintedMeaning.{variables_for, repacked, reprinted, scripts_again, base_of, entries_known, futexes_lie, means_again}
use Rattle.um_canonical.proofs.RoundedPartitions.{partitions_back, regranted, boot_back}

-- ---- parts

regions_kept : (z : ℤ) → int_lt z (pos 4) ≡ false → IsIn 4 32 (natural z) → pos (min (natural z) 255) ≡ z
regions_kept (pos n) h k = let most = k.most in ap pos (omega (arith, most))
regions_kept (negsuc n) h k = absurd (true≢false h)

regions_are : (d : Description) → top_limits d ≡ [] → pos (min (natural d.regions) 255) ≡ d.regions
unfolding top_limits
regions_are d h =
    let own = no_front (outside Key.Regions (pos 4) (pos 32) (Place.Top Key.Regions) d.regions) (longer Key.Rodata (pos AREA_ENTRY) (Place.Top Key.Rodata) (length d.rodata)) h in
    regions_kept d.regions (inside Key.Regions (pos 4) (pos 32) (Place.Top Key.Regions) d.regions own).0 (natural_in Key.Regions 4 32 (Place.Top Key.Regions) d.regions own)

as_many_sizes : (d : Description) → length (partition_sizes d) ≡ length d.partitions
as_many_sizes d = length_mapped (rounded d.mpu) (map asked_size d.partitions) ∙ length_mapped asked_size d.partitions

as_many_places : (d : Description) → length (starts d.mpu PARTITION_AREA (partition_sizes d)) ≡ length d.partitions
as_many_places d = length_starting d.mpu PARTITION_AREA (partition_sizes d) ∙ as_many_sizes d

as_many_ranges : (d : Description) → length (placed d.mpu PARTITION_AREA (partition_sizes d)) ≡ length d.partitions
as_many_ranges d = length_ranges (starts d.mpu PARTITION_AREA (partition_sizes d)) (partition_sizes d) (length_starting d.mpu PARTITION_AREA (partition_sizes d)) ∙ as_many_sizes d

domains_known : (d : Description) (i : ℕ) (ms : List DomainEntry) → each (unknown_in_domain d) i ms ≡ [] → map (domain_entry (partition_names d)) (map (domain_of (partition_names d)) ms) ≡ ms
domains_known d i [] h = refl
domains_known d i (m ∷ ms) h =
    let own = all_known (partition_names d) (λ j. Place.Item Section.Domain i Key.Partitions j) (items m.partitions) (no_front (unknown_in_domain d i m) (each (unknown_in_domain d) (i + 1) ms) h) in
    let here = domain_back (partition_names d) m.name m.partitions (λ ts same. subst (λ (o : Option (List Text)). IsTrue (list_all (is_known (partition_names d)) (items o))) same own) in
    let more = domains_known d (i + 1) ms (no_back (unknown_in_domain d i m) (each (unknown_in_domain d) (i + 1) ms) h) in
    rw (here, more) refl

boots_back : (d : Description) (i : ℕ) (bs : List BootEntry) → each boot_limits i bs ≡ [] → each (unknown_in_boot d) i bs ≡ []
    → map (boot_entry (object_names d) (script_names d) (domain_names d) (pool_names d)) (map (boot_of d) bs) ≡ map (regranted (object_names d)) bs
boots_back d i [] limits unknown = refl
boots_back d i (b ∷ bs) limits unknown =
    let here = boot_back d i b (no_front (boot_limits i b) (each boot_limits (i + 1) bs) limits) (known_boot d i b (no_front (unknown_in_boot d i b) (each (unknown_in_boot d) (i + 1) bs) unknown)) in
    let more = boots_back d (i + 1) bs (no_back (boot_limits i b) (each boot_limits (i + 1) bs) limits) (no_back (unknown_in_boot d i b) (each (unknown_in_boot d) (i + 1) bs) unknown) in
    rw (here, more) refl

scripts_back : (image : Image) (d : Description) (ss : List ScriptEntry)
    → map (script_entry (partition_names d) (domain_names d) (script_names d)) (map (script_of image d) ss) ≡ scripts_again image d ss
scripts_back image d [] = refl
scripts_back image d (s ∷ ss) = rw (scripts_back image d ss) refl

-- ---- the whole

described_by_names : (d : Description) → flaws d ≡ [] → described_by (image_of d) (repacked d) (pool_names d) (partition_names d) (domain_names d) (object_names d) (script_names d) ≡ reprinted d
described_by_names d none =
    let h = no_flaws d none in
    let w = all_within d h.within in
    let known = entries_known d h.names_known in
    let regions = regions_are d w.top in
    let pools = pools_back 0 d.pools w.pools in
    let domains = domains_known d 0 d.domains known.domains in
    let objects = objects_back (placed d.mpu STACK_AREA (stack_sizes d)) 0 0 0 d.objects w.objects in
    let boots = boots_back d 0 d.boots w.boots known.boots in
    let scripts = scripts_back (base_of d) d d.scripts in
    let futexes = futexes_back d d.futexes (futexes_lie d h.names_known h.within) in
    rw (regions, pools, domains, objects, boots, scripts, futexes) refl

-- the names of an image are those of its description
record AreNames (d : Description) : Type 0 where
  pools : pools_in (image_of d) ≡ pool_names d
  partitions : partitions_in (image_of d) ≡ partition_names d
  domains : domains_in (image_of d) ≡ domain_names d
  objects : objects_in (image_of d) ≡ object_names d
  scripts : scripts_in (image_of d) ≡ script_names d
  futexes : futexes_in (image_of d) ≡ futex_names d

names_are : (d : Description) → AreNames d
names_are d = record {
  pools = map_map pool_of (λ (p : Pool). p.name) d.pools;
  partitions = partition_names_again (placed d.mpu PARTITION_AREA (partition_sizes d)) d.partitions (as_many_ranges d);
  domains = map_map (domain_of (partition_names d)) (λ (m : DomainDef). m.name) d.domains;
  objects = object_names_again (placed d.mpu STACK_AREA (stack_sizes d)) 0 0 d.objects;
  scripts = map_map (script_of (base_of d) d) (λ (s : Script). s.name) d.scripts;
  futexes = map_map (futex_of (partition_names d)) (λ (f : Futex). f.name) d.futexes;
}

names_again : (d : Description) → names_in (image_of d) ≡ all_names d
names_again d =
    let n = names_are d in
    let i = image_of d in
    ap (λ (ns : List Text). names_by ns (partitions_in i) (domains_in i) (objects_in i) (scripts_in i) (futexes_in i)) n.pools
    ∙ ap (λ (ns : List Text). names_by (pool_names d) ns (domains_in i) (objects_in i) (scripts_in i) (futexes_in i)) n.partitions
    ∙ ap (λ (ns : List Text). names_by (pool_names d) (partition_names d) ns (objects_in i) (scripts_in i) (futexes_in i)) n.domains
    ∙ ap (λ (ns : List Text). names_by (pool_names d) (partition_names d) (domain_names d) ns (scripts_in i) (futexes_in i)) n.objects
    ∙ ap (λ (ns : List Text). names_by (pool_names d) (partition_names d) (domain_names d) (object_names d) ns (futexes_in i)) n.scripts
    ∙ ap (λ (ns : List Text). names_by (pool_names d) (partition_names d) (domain_names d) (object_names d) (script_names d) ns) n.futexes

length_placed : (ranges : List Range) (ps : List PartitionEntry) → length ranges ≡ length ps → length (placed_partitions ranges ps) ≡ length ps
length_placed [] [] h = refl
length_placed [] (p ∷ ps) h = absurd (omega (arith, h))
length_placed (range ∷ ranges) [] h = absurd (omega (arith, h))
length_placed (range ∷ ranges) (p ∷ ps) h = omega (arith, length_placed ranges ps (omega (arith, h)))

-- the partitions are printed as the description's would be
pub packed_again : (d : Description) → packed_in (image_of d) ≡ repacked d
packed_again d =
    let parts = (image_of d).partitions in
    let count : length parts ≡ length d.partitions = length_placed (placed d.mpu PARTITION_AREA (partition_sizes d)) d.partitions (as_many_ranges d) in
    ap (λ (ns : List Text). packed_by (fresh_names ns (length parts)) parts) (names_again d)
    ∙ ap (λ (n : ℕ). packed_by (fresh_names (all_names d) n) parts) count
    ∙ partitions_back d.mpu (variables_for d) (starts d.mpu PARTITION_AREA (partition_sizes d)) d.partitions (as_many_places d)

pub described_again : (d : Description) → flaws d ≡ [] → described (image_of d) ≡ reprinted d
described_again d none =
    let n = names_are d in
    let i = image_of d in
    ap (λ (ps : List Packed). described_by i ps (pools_in i) (partitions_in i) (domains_in i) (objects_in i) (scripts_in i)) (packed_again d)
    ∙ ap (λ (ns : List Text). described_by i (repacked d) ns (partitions_in i) (domains_in i) (objects_in i) (scripts_in i)) n.pools
    ∙ ap (λ (ns : List Text). described_by i (repacked d) (pool_names d) ns (domains_in i) (objects_in i) (scripts_in i)) n.partitions
    ∙ ap (λ (ns : List Text). described_by i (repacked d) (pool_names d) (partition_names d) ns (objects_in i) (scripts_in i)) n.domains
    ∙ ap (λ (ns : List Text). described_by i (repacked d) (pool_names d) (partition_names d) (domain_names d) ns (scripts_in i)) n.objects
    ∙ ap (λ (ns : List Text). described_by i (repacked d) (pool_names d) (partition_names d) (domain_names d) (object_names d) ns) n.scripts
    ∙ described_by_names d none

-- the description made of an image means that image
pub image_described : (d : Description) → flaws d ≡ [] → meaning (described (image_of d)) ≡ Ok (image_of d)
image_described d none = ap meaning (described_again d none) ∙ means_again d (image_of d) none refl
