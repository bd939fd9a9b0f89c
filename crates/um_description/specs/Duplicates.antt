-- What is named twice, in the order of the places.
use Rattle.std.specs.Prelude.{◌≡◌, ℕ, ◌+◌, List, [], ◌∷◌, ◌++◌, if◌then◌else◌}
use Rattle.std.specs.Fmt.{signed_decimal}
use Rattle.um_document.specs.declared.description.BootEntry.{BootEntry}
use Rattle.um_document.specs.declared.description.Description.{Description}
use Rattle.um_document.specs.declared.description.DomainEntry.{DomainEntry}
use Rattle.um_document.specs.declared.description.FutexEntry.{FutexEntry}
use Rattle.um_document.specs.declared.description.PartitionEntry.{PartitionEntry}
use Rattle.um_document.specs.declared.description.VariableEntry.{VariableEntry}
use Rattle.um_document.specs.declared.place.Place.{Place}
use Rattle.um_document.specs.declared.shape.Key.{Key}
use Rattle.um_document.specs.declared.shape.Section.{Section}
use Rattle.um_description.specs.Names.{Text, is_among, items, variables_of, variable_names, names_within, pool_names, domain_names, object_names, script_names}

-- names that stand among these when the names of a list were added to them
abbrev pub added : List Text → List Text → List Text
added before [] = before
added before (name ∷ names) = added (name ∷ before) names

-- a place, where its text stands among those before it
abbrev pub if_again : List Text → Place → Text → List Place
if_again before place text = if is_among text before then place ∷ [] else []

-- the names of a section's entries from the i-th on that stood before
abbrev pub names_again : List Text → Section → ℕ → List Text → List Place
names_again before section i [] = []
names_again before section i (name ∷ names) =
    if_again before (Place.Field section i Key.Name) name ++ names_again (name ∷ before) section (i + 1) names

-- the names of the variables of the i-th partition from the j-th on that stood before
abbrev pub variables_again : List Text → ℕ → ℕ → List VariableEntry → List Place
variables_again before i j [] = []
variables_again before i j (v ∷ vs) = if_again before (Place.Variable i j Key.Name) v.name ++ variables_again (v.name ∷ before) i (j + 1) vs

-- the name of a partition, and those of its variables
abbrev pub partition_again : List Text → ℕ → PartitionEntry → List Place
partition_again before i p =
    if_again before (Place.Field Section.Partition i Key.Name) p.name ++ variables_again (p.name ∷ before) i 0 (variables_of p.contents)

abbrev pub partitions_again : List Text → ℕ → List PartitionEntry → List Place
partitions_again before i [] = []
partitions_again before i (p ∷ ps) = partition_again before i p ++ partitions_again (added (p.name ∷ before) (variable_names p)) (i + 1) ps

-- the partitions of the i-th domain from the j-th on that stood before
abbrev pub parts_again : List Text → ℕ → ℕ → List Text → List Place
parts_again before i j [] = []
parts_again before i j (text ∷ texts) =
    if_again before (Place.Item Section.Domain i Key.Partitions j) text ++ parts_again (text ∷ before) i (j + 1) texts

-- the name and the partitions of a domain
abbrev pub domain_again : List Text → ℕ → DomainEntry → List Place
domain_again before i m = if_again before (Place.Field Section.Domain i Key.Name) m.name ++ parts_again [] i 0 (items m.partitions)

abbrev pub domains_again : List Text → ℕ → List DomainEntry → List Place
domains_again before i [] = []
domains_again before i (m ∷ ms) = domain_again before i m ++ domains_again (m.name ∷ before) (i + 1) ms

-- the thread and the stack of a boot entry
abbrev pub boot_again : List Text → List Text → ℕ → BootEntry → List Place
boot_again threads stacks i b =
    if_again threads (Place.Field Section.Boot i Key.Thread) b.thread ++ if_again stacks (Place.Field Section.Boot i Key.Stack) b.stack

abbrev pub boots_again : List Text → List Text → ℕ → List BootEntry → List Place
boots_again threads stacks i [] = []
boots_again threads stacks i (b ∷ bs) = boot_again threads stacks i b ++ boots_again (b.thread ∷ threads) (b.stack ∷ stacks) (i + 1) bs

-- where a futex lies, as a place is written: its partition, `+` and its offset
abbrev pub spot_text : FutexEntry → Text
spot_text f = f.partition ++ (43 ∷ signed_decimal f.offset)

-- the name of a futex, and where it lies: two that lie at one offset of one partition have one address
abbrev pub futex_again : List Text → List Text → ℕ → FutexEntry → List Place
futex_again names spots i f =
    if_again names (Place.Field Section.Futex i Key.Name) f.name ++ if_again spots (Place.Field Section.Futex i Key.Offset) (spot_text f)

abbrev pub futexes_again : List Text → List Text → ℕ → List FutexEntry → List Place
futexes_again names spots i [] = []
futexes_again names spots i (f ∷ fs) = futex_again names spots i f ++ futexes_again (f.name ∷ names) (spot_text f ∷ spots) (i + 1) fs

-- the texts that stood before a description's partitions, domains, objects, scripts and futexes
abbrev pub before_partitions : Description → List Text
before_partitions d = added [] (pool_names d)

abbrev pub before_domains : Description → List Text
before_domains d = added (before_partitions d) (names_within d.partitions)

abbrev pub before_objects : Description → List Text
before_objects d = added (before_domains d) (domain_names d)

abbrev pub before_scripts : Description → List Text
before_scripts d = added (before_objects d) (object_names d)

abbrev pub before_futexes : Description → List Text
before_futexes d = added (before_scripts d) (script_names d)

-- the places of each section whose text stood before: as a name, in the same domain, as another boot entry's thread or stack, or as where another futex lies
abbrev pub pool_places : Description → List Place
pool_places d = names_again [] Section.Pool 0 (pool_names d)

abbrev pub partition_places : Description → List Place
partition_places d = partitions_again (before_partitions d) 0 d.partitions

abbrev pub domain_places : Description → List Place
domain_places d = domains_again (before_domains d) 0 d.domains

abbrev pub object_places : Description → List Place
object_places d = names_again (before_objects d) Section.Object 0 (object_names d)

abbrev pub boot_places : Description → List Place
boot_places d = boots_again [] [] 0 d.boots

abbrev pub script_places : Description → List Place
script_places d = names_again (before_scripts d) Section.Script 0 (script_names d)

abbrev pub futex_places : Description → List Place
futex_places d = futexes_again (before_futexes d) [] 0 d.futexes

-- and all of them
abbrev pub duplicates : Description → List Place
duplicates d = pool_places d ++ partition_places d ++ domain_places d ++ object_places d ++ boot_places d ++ script_places d ++ futex_places d

-- the same texts stand in both lists
abbrev pub SameTexts : List Text → List Text → Type 0
SameTexts a b = (q : Text) → is_among q a ≡ is_among q b
