-- The text that is printed for an image.
use Rattle.std.specs.Prelude.{ℕ, ℤ, pos, List, [], ◌∷◌, ◌++◌, map, length}
use Rattle.um_base.specs.declared.image.DomainDef.{DomainDef}
use Rattle.um_base.specs.declared.image.Futex.{Futex}
use Rattle.um_base.specs.declared.image.Image.{Image}
use Rattle.um_base.specs.declared.image.ObjectDef.{ObjectDef}
use Rattle.um_base.specs.declared.image.Partition.{Partition}
use Rattle.um_base.specs.declared.image.Pool.{Pool}
use Rattle.um_base.specs.declared.image.Script.{Script}
use Rattle.um_base.specs.declared.instr.Instr.{Instr}
use Rattle.um_base.specs.declared.names.Mpu.{Mpu}
use Rattle.um_base.specs.declared.names.Policy.{Policy}
use Rattle.um_document.specs.declared.description.BootEntry.{BootEntry}
use Rattle.um_document.specs.declared.description.Description.{Description}
use Rattle.um_document.specs.declared.description.DomainEntry.{DomainEntry}
use Rattle.um_document.specs.declared.description.FutexEntry.{FutexEntry}
use Rattle.um_document.specs.declared.description.ObjectEntry.{ObjectEntry}
use Rattle.um_document.specs.declared.description.PoolEntry.{PoolEntry}
use Rattle.um_document.specs.declared.description.ScriptEntry.{ScriptEntry}
use Rattle.um_document.specs.declared.shape.Key.{Key}
use Rattle.um_document.specs.Shape.{word}
use Rattle.um_vocabulary.specs.Words.{mpu_word, policy_word}
use Rattle.um_script.specs.Canonical.{canonical}
use Rattle.um_canonical.specs.Printed as printed
use Rattle.um_canonical.specs.Printed.{Pairs, document_text}
use Rattle.um_canonical.specs.Entries.{Packed, partition_entry, packed_by, pool_entry, domain_entry, object_entry, boot_entry, futex_entry}
use Rattle.um_canonical.specs.Fresh.{fresh_names}
use Rattle.um_canonical.specs.Named.{shown}
use Rattle.um_canonical.specs.Objects.{number_pair, text_pair, pairs_by}
use Rattle.um_canonical.specs.Sections.{bytes_pairs, pool_by, partition_by, domain_by, boot_by, script_by, futex_by}

abbrev pub Text : Type 0
Text = List ℕ

abbrev pub pools_in : Image → List Text
pools_in image = map (λ (p : Pool). p.name) image.pools

abbrev pub partitions_in : Image → List Text
partitions_in image = map (λ (p : Partition). p.name) image.partitions

abbrev pub domains_in : Image → List Text
domains_in image = map (λ (m : DomainDef). m.name) image.domains

abbrev pub objects_in : Image → List Text
objects_in image = map (λ (o : ObjectDef). o.name) image.objects

abbrev pub scripts_in : Image → List Text
scripts_in image = map (λ (s : Script). s.name) image.scripts

abbrev pub futexes_in : Image → List Text
futexes_in image = map (λ (f : Futex). f.name) image.futexes

abbrev pub script_entry : List Text → List Text → List Text → Script → ScriptEntry
script_entry partitions domains scripts s = record { name = s.name; lines = map (λ (line : Instr). canonical (shown partitions domains scripts line)) s.lines }

-- the partitions as they are printed: the names of their variables stand for no other thing
abbrev pub packed_among : List Text → Image → List Packed
packed_among names image = packed_by (fresh_names names (length image.partitions)) image.partitions

abbrev pub described_by : Image → List Packed → List Text → List Text → List Text → List Text → List Text → Description
described_by image packed pools partitions domains objects scripts =
    record {
      mpu = image.mpu;
      regions = pos image.regions;
      policy = image.policy;
      rodata = image.rodata_bytes;
      pools = map pool_entry image.pools;
      partitions = map partition_entry packed;
      domains = map (domain_entry partitions) image.domains;
      objects = map object_entry image.objects;
      boots = map (boot_entry objects scripts domains pools) image.boots;
      scripts = map (script_entry partitions domains scripts) image.scripts;
      futexes = map (futex_entry partitions) image.futexes;
    }

-- all names of an image
abbrev pub names_by : List Text → List Text → List Text → List Text → List Text → List Text → List Text
names_by pools partitions domains objects scripts futexes = pools ++ partitions ++ domains ++ objects ++ scripts ++ futexes

abbrev pub names_in : Image → List Text
names_in image = names_by (pools_in image) (partitions_in image) (domains_in image) (objects_in image) (scripts_in image) (futexes_in image)

abbrev pub packed_in : Image → List Packed
packed_in image = packed_among (names_in image) image

-- the description that is printed for an image
abbrev pub described : Image → Description
described image = described_by image (packed_in image) (pools_in image) (partitions_in image) (domains_in image) (objects_in image) (scripts_in image)

abbrev pub top_by : Mpu → ℤ → Policy → List ℕ → Pairs
top_by mpu regions policy rodata =
    number_pair Key.Version (pos 2) ∷ text_pair Key.Mpu (mpu_word mpu) ∷ number_pair Key.Regions regions ∷ text_pair Key.Oops (policy_word policy) ∷ bytes_pairs Key.Rodata rodata

abbrev pub sections_by : List Pairs → List Pairs → List Pairs → List Pairs → List Pairs → List Pairs → List Pairs → List printed.Section
sections_by a b c e f g h =
    (word Key.Pool, a) ∷ (word Key.Partition, b) ∷ (word Key.Domain, c) ∷ (word Key.Object, e) ∷ (word Key.Boot, f) ∷ (word Key.Script, g) ∷ (word Key.Futex, h) ∷ []

abbrev pub of_pool : PoolEntry → Pairs
of_pool p = pool_by p.name p.size

abbrev pub of_partition : Packed → Pairs
of_partition p = partition_by p.name p.attr p.variable p.size p.bytes

abbrev pub of_domain : DomainEntry → Pairs
of_domain m = domain_by m.name m.partitions

abbrev pub of_object : ObjectEntry → Pairs
of_object o = pairs_by o.name o.public o.details

abbrev pub of_boot : BootEntry → Pairs
of_boot b = boot_by b.thread b.stack b.script b.priority b.domain b.mode b.pool b.grants

abbrev pub of_script : ScriptEntry → Pairs
of_script s = script_by s.name s.lines

abbrev pub of_futex : FutexEntry → Pairs
of_futex f = futex_by f.name f.partition f.offset

abbrev pub top_of : Description → Pairs
top_of d = top_by d.mpu d.regions d.policy d.rodata

abbrev pub sections_of : Description → List Packed → List printed.Section
sections_of d ps =
    sections_by (map of_pool d.pools) (map of_partition ps) (map of_domain d.domains) (map of_object d.objects) (map of_boot d.boots) (map of_script d.scripts) (map of_futex d.futexes)

-- the text of a description whose partitions are printed so
abbrev pub text_for : Description → List Packed → List ℕ
text_for d ps = document_text (top_of d) (sections_of d ps)

abbrev pub printed_text : Image → List ℕ
printed_text image = text_for (described image) (packed_in image)
