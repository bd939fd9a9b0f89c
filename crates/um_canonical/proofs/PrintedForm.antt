-- The table that is printed for a description has no fault of its form, and is read as that description.
use Rattle.std.proofs.Common.{◌≡◌, ℕ, ◌+◌, Bool, true, false, not, ◌&&◌, List, [], ◌∷◌, ◌++◌, map, flat_map, filter, Option, refl, ap, ◌∙◌}
use Rattle.std.proofs.lemmas.Bool.{and_parts, false≢true}
use Rattle.std.specs.List.{list_all}
use Rattle.toml.specs.Data.{Data, Members}
use Rattle.um_base.specs.Lawful.{is_name, is_given_attr}
use Rattle.um_document.specs.declared.check.Check.{Check}
use Rattle.um_document.specs.declared.description.BootEntry.{BootEntry}
use Rattle.um_document.specs.declared.description.Description.{Description}
use Rattle.um_document.specs.declared.description.DomainEntry.{DomainEntry}
use Rattle.um_document.specs.declared.description.FutexEntry.{FutexEntry}
use Rattle.um_document.specs.declared.description.ObjectEntry.{ObjectEntry}
use Rattle.um_document.specs.declared.description.PoolEntry.{PoolEntry}
use Rattle.um_document.specs.declared.description.ScriptEntry.{ScriptEntry}
use Rattle.um_document.specs.declared.fault.ImageFault.TheVariants as fault
use Rattle.um_document.specs.declared.shape.Key.{Key}
use Rattle.um_document.specs.declared.shape.Section.{Section}
use Rattle.um_document.specs.Broken.{is_broken}
use Rattle.um_document.specs.Faults.{version_faults, fault_of, broken_parts, unknown_key_faults, form_faults}
use Rattle.um_document.specs.Parts.{Part, value_at, items_in, key_parts, entries_parts, top_parts, entry_sections, parts}
use Rattle.um_document.specs.Places.{place_text}
use Rattle.um_document.specs.Reading.{entries_of, pool_of, partition_of, domain_of, object_of, boot_of, script_of, futex_of, bytes_at, description_of}
use Rattle.um_document.specs.Shape.{section_key}
use Rattle.um_document.specs.Unknown.{strays_of_entry, strays_of_entries, strays_of_section, strays_of_sections}
use Rattle.um_vocabulary.proofs.Again.{mpu_again, policy_again}
use Rattle.um_canonical.specs.Printed.{Pairs, table_of, tables_of, document_table}
use Rattle.um_canonical.specs.Entries.{Packed, partition_entry}
use Rattle.um_canonical.specs.Text.{of_pool, of_partition, of_domain, of_object, of_boot, of_script, of_futex, top_of, sections_of}
use Rattle.um_canonical.proofs.PrintedObjects.{passes, AreSound, again_by, sound_by, known_by}
use Rattle.um_canonical.proofs.PrintedSections.{is_byte, decoded_again, pool_again, pool_sound, pool_known, partition_again, partition_sound, partition_known, domain_again, domain_sound, domain_known, script_again, script_sound, script_known, boot_again, boot_sound, boot_known, futex_again, futex_sound, futex_known}
use Rattle.um_canonical.proofs.PrintedTop.{packed_sections, AreValues, values_by, bytes_value, given_value, items_given, top_pass, entries_pass, no_stray_at_top}

-- the table of a description whose partitions are printed so
abbrev pub table_for : Description → List Packed → Members
table_for d ps = document_table (top_of d) (sections_of d ps)

-- ---- what each entry has

abbrev pub pool_is : PoolEntry → Bool
pool_is p = is_name p.name

abbrev pub partition_is : Packed → Bool
partition_is p = is_name p.name && (is_given_attr p.attr && (is_name p.variable && list_all is_byte p.bytes))

abbrev pub domain_is : DomainEntry → Bool
domain_is m = is_name m.name

abbrev pub object_is : ObjectEntry → Bool
object_is o = is_name o.name

abbrev pub boot_is : BootEntry → Bool
boot_is b = true

abbrev pub script_is : ScriptEntry → Bool
script_is s = is_name s.name

abbrev pub futex_is : FutexEntry → Bool
futex_is f = is_name f.name

pub record IsFormed (d : Description) (ps : List Packed) : Type 0 where
  pub rodata : list_all is_byte d.rodata ≡ true
  pub pools : list_all pool_is d.pools ≡ true
  pub partitions : list_all partition_is ps ≡ true
  pub domains : list_all domain_is d.domains ≡ true
  pub objects : list_all object_is d.objects ≡ true
  pub boots : list_all boot_is d.boots ≡ true
  pub scripts : list_all script_is d.scripts ≡ true
  pub futexes : list_all futex_is d.futexes ≡ true

-- ---- any section

all_again : {A : Type 0} (f : Members → A) (g : A → Pairs) (ok : A → Bool) → ((x : A) → ok x ≡ true → f (table_of (g x)) ≡ x) → (xs : List A) → list_all ok xs ≡ true → entries_of f (tables_of (map g xs)) ≡ xs
all_again f g ok same [] h = refl
all_again f g ok same (x ∷ xs) h =
    let both = and_parts (ok x) (list_all ok xs) h in
    rw (same x both.0, all_again f g ok same xs both.1) refl

joined_pass : (check : Check) (ps qs : List Part) → passes check ps ≡ true → passes check qs ≡ true → passes check (ps ++ qs) ≡ true
joined_pass check [] qs h k = k
joined_pass check (p ∷ ps) qs h k =
    let both = and_parts (not (is_broken check p)) (passes check ps) h in
    rw (both.0, joined_pass check ps qs both.1 k) refl

all_sound : {A : Type 0} (s : Section) (g : A → Pairs) (ok : A → Bool) → ((i : ℕ) (x : A) → ok x ≡ true → AreSound s i (key_parts s i (table_of (g x)))) → (i : ℕ) (xs : List A) → list_all ok xs ≡ true
    → AreSound s i (entries_parts s i (tables_of (map g xs)))
all_sound s g ok sound i [] h = record { missing = refl; wrong = refl; bad = refl }
all_sound s g ok sound i (x ∷ xs) h =
    let both = and_parts (ok x) (list_all ok xs) h in
    let here = sound i x both.0 in
    let more = all_sound s g ok sound (i + 1) xs both.1 in
    let ps = key_parts s i (table_of (g x)) in
    let qs = entries_parts s (i + 1) (tables_of (map g xs)) in
    record {
      missing = joined_pass Check.Missing ps qs here.missing more.missing;
      wrong = joined_pass Check.WrongType ps qs here.wrong more.wrong;
      bad = joined_pass Check.BadName ps qs here.bad more.bad;
    }

all_keys_known : {A : Type 0} (s : Section) (g : A → Pairs) → ((i : ℕ) (x : A) → strays_of_entry s i (table_of (g x)) ≡ []) → (i : ℕ) (xs : List A) → strays_of_entries s i (tables_of (map g xs)) ≡ []
all_keys_known s g known i [] = refl
all_keys_known s g known i (x ∷ xs) = rw (known i x) (all_keys_known s g known (i + 1) xs)

-- ---- no fault

none_by : (check : Check) (p : Part) (ps : List Part) (b : Bool) → is_broken check p ≡ b → not b ≡ true → filter (is_broken check) ps ≡ [] → filter (is_broken check) (p ∷ ps) ≡ []
none_by check p ps true is h more = absurd (false≢true h)
none_by check p ps false is h more = rw is more

none_broken : (check : Check) (ps : List Part) → passes check ps ≡ true → filter (is_broken check) ps ≡ []
none_broken check [] h = refl
none_broken check (p ∷ ps) h =
    let both = and_parts (not (is_broken check p)) (passes check ps) h in
    none_by check p ps (is_broken check p) refl both.0 (none_broken check ps both.1)

no_broken : (check : Check) (t : Members) → passes check (parts t) ≡ true → broken_parts check t ≡ []
unfolding broken_parts
no_broken check t h = ap (λ (ps : List Part). map (fault_of check) (map (λ (p : Part). place_text p.place) ps)) (none_broken check (parts t) h)

-- a partition, from what it has
partition_parts : (p : Packed) → partition_is p ≡ true → (is_name p.name ≡ true) × (is_given_attr p.attr ≡ true) × (is_name p.variable ≡ true) × (list_all is_byte p.bytes ≡ true)
partition_parts p h =
    let a = and_parts (is_name p.name) (is_given_attr p.attr && (is_name p.variable && list_all is_byte p.bytes)) h in
    let b = and_parts (is_given_attr p.attr) (is_name p.variable && list_all is_byte p.bytes) a.1 in
    let c = and_parts (is_name p.variable) (list_all is_byte p.bytes) b.1 in
    (a.0, b.0, c.0, c.1)

-- the parts of all sections
record AllSound (d : Description) (ps : List Packed) : Type 0 where
  pools : AreSound Section.Pool 0 (entries_parts Section.Pool 0 (tables_of (map of_pool d.pools)))
  partitions : AreSound Section.PackedPartition 0 (entries_parts Section.PackedPartition 0 (tables_of (map of_partition ps)))
  domains : AreSound Section.Domain 0 (entries_parts Section.Domain 0 (tables_of (map of_domain d.domains)))
  objects : AreSound Section.Object 0 (entries_parts Section.Object 0 (tables_of (map of_object d.objects)))
  boots : AreSound Section.Boot 0 (entries_parts Section.Boot 0 (tables_of (map of_boot d.boots)))
  scripts : AreSound Section.Script 0 (entries_parts Section.Script 0 (tables_of (map of_script d.scripts)))
  futexes : AreSound Section.Futex 0 (entries_parts Section.Futex 0 (tables_of (map of_futex d.futexes)))

sound : (d : Description) (ps : List Packed) → IsFormed d ps → AllSound d ps
sound d ps h = record {
  pools = all_sound Section.Pool of_pool pool_is (λ i p k. pool_sound i p.name p.size k) 0 d.pools h.pools;
  partitions = all_sound Section.PackedPartition of_partition partition_is (λ i p k. let q = partition_parts p k in partition_sound i p.name p.attr p.variable p.size p.bytes q.0 q.1 q.2 q.3) 0 ps h.partitions;
  domains = all_sound Section.Domain of_domain domain_is (λ i m k. domain_sound i m.name m.partitions k) 0 d.domains h.domains;
  objects = all_sound Section.Object of_object object_is (λ i o k. sound_by i o.name o.public o.details k) 0 d.objects h.objects;
  boots = all_sound Section.Boot of_boot boot_is (λ i b k. boot_sound i b.thread b.stack b.script b.priority b.domain b.mode b.pool b.grants) 0 d.boots h.boots;
  scripts = all_sound Section.Script of_script script_is (λ i s k. script_sound i s.name s.lines k) 0 d.scripts h.scripts;
  futexes = all_sound Section.Futex of_futex futex_is (λ i f k. futex_sound i f.name f.partition f.offset k) 0 d.futexes h.futexes;
}

values : (d : Description) (ps : List Packed) → AreValues (table_for d ps) d.mpu d.regions d.policy d.rodata (map of_pool d.pools) (map of_partition ps) (map of_domain d.domains) (map of_object d.objects) (map of_boot d.boots) (map of_script d.scripts) (map of_futex d.futexes)
values d ps = values_by d.mpu d.regions d.policy d.rodata (map of_pool d.pools) (map of_partition ps) (map of_domain d.domains) (map of_object d.objects) (map of_boot d.boots) (map of_script d.scripts) (map of_futex d.futexes)

at_check : {s : Section} {i : ℕ} {ps : List Part} (check : Check) → AreSound s i ps → passes check ps ≡ true
at_check Check.Missing h = h.missing
at_check Check.WrongType h = h.wrong
at_check Check.BadName h = h.bad

pass_all : (check : Check) (d : Description) (ps : List Packed) → IsFormed d ps → passes check (parts (table_for d ps)) ≡ true
pass_all check d ps h =
    let t = table_for d ps in
    let v = values d ps in
    let s = sound d ps h in
    joined_pass check (top_parts t) (entry_sections t) (top_pass check t d.mpu d.regions d.policy d.rodata (map of_pool d.pools) (map of_partition ps) (map of_domain d.domains) (map of_object d.objects) (map of_boot d.boots) (map of_script d.scripts) (map of_futex d.futexes) v h.rodata)
    (entries_pass check t d.mpu d.regions d.policy d.rodata (map of_pool d.pools) (map of_partition ps) (map of_domain d.domains) (map of_object d.objects) (map of_boot d.boots) (map of_script d.scripts) (map of_futex d.futexes) v (at_check check s.pools) (at_check check s.partitions) (at_check check s.domains) (at_check check s.objects) (at_check check s.boots) (at_check check s.scripts) (at_check check s.futexes))

section_strays : (s : Section) (t : Members) (es : List Pairs) → value_at (section_key s) t ≡ given_value es → strays_of_entries s 0 (tables_of es) ≡ [] → strays_of_section t s ≡ []
section_strays s t es is h = ap (λ (o : Option Data). strays_of_entries s 0 (items_in o)) is ∙ ap (strays_of_entries s 0) (items_given es) ∙ h

no_strays : (d : Description) (ps : List Packed) → strays_of_sections (table_for d ps) ≡ []
unfolding strays_of_sections
no_strays d ps =
    let t = table_for d ps in
    let v = values d ps in
    let s0 = section_strays Section.Pool t (map of_pool d.pools) v.pools_are (all_keys_known Section.Pool of_pool (λ i p. pool_known i p.name p.size) 0 d.pools) in
    let s1 = section_strays Section.PackedPartition t (map of_partition ps) v.partitions_are (all_keys_known Section.PackedPartition of_partition (λ i p. partition_known i p.name p.attr p.variable p.size p.bytes) 0 ps) in
    let s2 = section_strays Section.Domain t (map of_domain d.domains) v.domains_are (all_keys_known Section.Domain of_domain (λ i p. domain_known i p.name p.partitions) 0 d.domains) in
    let s3 = section_strays Section.Object t (map of_object d.objects) v.objects_are (all_keys_known Section.Object of_object (λ i p. known_by i p.name p.public p.details) 0 d.objects) in
    let s4 = section_strays Section.Boot t (map of_boot d.boots) v.boots_are (all_keys_known Section.Boot of_boot (λ i p. boot_known i p.thread p.stack p.script p.priority p.domain p.mode p.pool p.grants) 0 d.boots) in
    let s5 = section_strays Section.Script t (map of_script d.scripts) v.scripts_are (all_keys_known Section.Script of_script (λ i p. script_known i p.name p.lines) 0 d.scripts) in
    let s6 = section_strays Section.Futex t (map of_futex d.futexes) v.futexes_are (all_keys_known Section.Futex of_futex (λ i p. futex_known i p.name p.partition p.offset) 0 d.futexes) in
    ap (λ (ss : List Section). flat_map (strays_of_section t) ss) (packed_sections t v.version) ∙ rw (s0, s1, s2, s3, s4, s5, s6) refl

no_unknown : (d : Description) (ps : List Packed) → unknown_key_faults (table_for d ps) ≡ []
unfolding unknown_key_faults
no_unknown d ps =
    let top = no_stray_at_top d.mpu d.regions d.policy d.rodata (map of_pool d.pools) (map of_partition ps) (map of_domain d.domains) (map of_object d.objects) (map of_boot d.boots) (map of_script d.scripts) (map of_futex d.futexes) in
    ap (λ (xs : List (List ℕ)). map fault.UnknownKey xs) (ap (λ (xs : List (List ℕ)). xs ++ strays_of_sections (table_for d ps)) top ∙ no_strays d ps)

known_version : (d : Description) (ps : List Packed) → version_faults (table_for d ps) ≡ []
unfolding version_faults
known_version d ps = let v = (values d ps).version in rw v refl

pub no_form_faults : (d : Description) (ps : List Packed) → IsFormed d ps → form_faults (table_for d ps) ≡ []
no_form_faults d ps h =
    let t = table_for d ps in
    let a = known_version d ps in
    let b = no_broken Check.Missing t (pass_all Check.Missing d ps h) in
    let c = no_broken Check.WrongType t (pass_all Check.WrongType d ps h) in
    let e = no_unknown d ps in
    let f = no_broken Check.BadName t (pass_all Check.BadName d ps h) in
    rw (a, b, c, e, f) refl

-- ---- the description

rodata_back : (t : Members) (bytes : List ℕ) → value_at Key.Rodata t ≡ bytes_value bytes → list_all is_byte bytes ≡ true → bytes_at Key.Rodata t ≡ bytes
rodata_back t [] is h = rw is refl
rodata_back t (b ∷ bs) is h = rw is (decoded_again (b ∷ bs) h)

section_back : {A : Type 0} (s : Section) (f : Members → A) (t : Members) (es : List Pairs) (xs : List A) → value_at (section_key s) t ≡ given_value es → entries_of f (tables_of es) ≡ xs → entries_of f (items_in (value_at (section_key s) t)) ≡ xs
section_back s f t es xs is h = ap (λ (o : Option Data). entries_of f (items_in o)) is ∙ ap (entries_of f) (items_given es) ∙ h

partitions_again : (ps : List Packed) → list_all partition_is ps ≡ true → entries_of partition_of (tables_of (map of_partition ps)) ≡ map partition_entry ps
partitions_again [] h = refl
partitions_again (p ∷ ps) h =
    let both = and_parts (partition_is p) (list_all partition_is ps) h in
    let q = partition_parts p both.0 in
    rw (partition_again p.name p.attr p.variable p.size p.bytes q.0 q.1 q.2 q.3, partitions_again ps both.1) refl

pub description_again : (d : Description) (ps : List Packed) → IsFormed d ps → description_of (table_for d ps) ≡ record d { partitions = map partition_entry ps }
description_again d ps h =
    let t = table_for d ps in
    let v = values d ps in
    let mpu = v.mpu_is in
    let regions = v.regions_are in
    let policy = v.policy_is in
    let rodata = rodata_back t d.rodata v.rodata_is h.rodata in
    let pools = section_back Section.Pool pool_of t (map of_pool d.pools) d.pools v.pools_are (all_again pool_of of_pool pool_is (λ p k. pool_again p.name p.size k) d.pools h.pools) in
    let partitions = section_back Section.Partition partition_of t (map of_partition ps) (map partition_entry ps) v.partitions_are (partitions_again ps h.partitions) in
    let domains = section_back Section.Domain domain_of t (map of_domain d.domains) d.domains v.domains_are (all_again domain_of of_domain domain_is (λ m k. domain_again m.name m.partitions k) d.domains h.domains) in
    let objects = section_back Section.Object object_of t (map of_object d.objects) d.objects v.objects_are (all_again object_of of_object object_is (λ o k. again_by o.name o.public o.details k) d.objects h.objects) in
    let boots = section_back Section.Boot boot_of t (map of_boot d.boots) d.boots v.boots_are
    (all_again boot_of of_boot boot_is (λ b k. boot_again b.thread b.stack b.script b.priority b.domain b.mode b.pool b.grants) d.boots h.boots) in
    let scripts = section_back Section.Script script_of t (map of_script d.scripts) d.scripts v.scripts_are (all_again script_of of_script script_is (λ s k. script_again s.name s.lines k) d.scripts h.scripts) in
    let futexes = section_back Section.Futex futex_of t (map of_futex d.futexes) d.futexes v.futexes_are (all_again futex_of of_futex futex_is (λ f k. futex_again f.name f.partition f.offset k) d.futexes h.futexes) in
    rw (mpu, mpu_again d.mpu, regions, policy, policy_again d.policy, rodata, pools, partitions, domains, objects, boots, scripts, futexes) refl
