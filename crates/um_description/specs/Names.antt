-- Names: which entries a description has, and what a text names.
use Rattle.std.specs.Prelude.{ℕ, ◌+◌, List, [], ◌∷◌, ◌++◌, map, Bool, true, false, is_some, if◌then◌else◌, Option, Some, None, option_map, bytes_eq, slice_get}
use Rattle.std.specs.List.{list_any, flat_map}
use Rattle.um_document.specs.declared.description.Description.{Description}
use Rattle.um_document.specs.declared.description.Details.{Details}
use Rattle.um_document.specs.declared.description.DomainEntry.{DomainEntry}
use Rattle.um_document.specs.declared.description.FutexEntry.{FutexEntry}
use Rattle.um_document.specs.declared.description.ObjectEntry.{ObjectEntry}
use Rattle.um_document.specs.declared.description.PartitionContents.{PartitionContents}
use Rattle.um_document.specs.declared.description.PartitionEntry.{PartitionEntry}
use Rattle.um_document.specs.declared.description.PoolEntry.{PoolEntry}
use Rattle.um_document.specs.declared.description.ScriptEntry.{ScriptEntry}
use Rattle.um_document.specs.declared.description.VariableEntry.{VariableEntry}

abbrev pub Text : Type 0
Text = List ℕ

-- what each entry of a list gives, with its number, counted from i on
abbrev pub each : {A B : Type 0} → (ℕ → A → List B) → ℕ → List A → List B
each f i [] = []
each f i (x ∷ xs) = f i x ++ each f (i + 1) xs

abbrev pub is_among : Text → List Text → Bool
is_among text texts = list_any (bytes_eq text) texts

abbrev pub pool_names : Description → List Text
pool_names d = map (λ (p : PoolEntry). p.name) d.pools

abbrev pub partition_names : Description → List Text
partition_names d = map (λ (p : PartitionEntry). p.name) d.partitions

-- the variables of a partition that lists them, and their names
abbrev pub variables_of : PartitionContents → List VariableEntry
variables_of (PartitionContents.Whole size bytes) = []
variables_of (PartitionContents.Variables vs) = vs

abbrev pub variable_names : PartitionEntry → List Text
variable_names p = map (λ (v : VariableEntry). v.name) (variables_of p.contents)

-- the names of partitions, and behind each those of its variables
abbrev pub names_within : List PartitionEntry → List Text
names_within ps = flat_map (λ (p : PartitionEntry). p.name ∷ variable_names p) ps

abbrev pub domain_names : Description → List Text
domain_names d = map (λ (m : DomainEntry). m.name) d.domains

abbrev pub object_names : Description → List Text
object_names d = map (λ (o : ObjectEntry). o.name) d.objects

abbrev pub script_names : Description → List Text
script_names d = map (λ (s : ScriptEntry). s.name) d.scripts

abbrev pub futex_names : Description → List Text
futex_names d = map (λ (f : FutexEntry). f.name) d.futexes

-- the number of the entry with this name
abbrev pub named : List Text → Text → Option ℕ
named [] text = None
named (name ∷ names) text = if bytes_eq text name then Some 0 else option_map (λ i. i + 1) (named names text)

-- the entry with this name passes the test
abbrev pub passes : {A : Type 0} → (A → Bool) → List A → Option ℕ → Bool
passes test xs None = false
passes test xs (Some i) = elim (slice_get xs i) as (λ _. Bool) [ Some x ↦ test x | None ↦ false ]

abbrev pub is_thread : ObjectEntry → Bool
is_thread o = elim o.details as (λ _. Bool) [ Details.Thread ↦ true | _ ↦ false ]

abbrev pub is_thread_stack : ObjectEntry → Bool
is_thread_stack o = elim o.details as (λ _. Bool) [ Details.ThreadStack size ↦ true | _ ↦ false ]

abbrev pub is_initialised : DomainEntry → Bool
is_initialised m = is_some m.partitions

-- the items of a list that may be absent
abbrev pub items : {A : Type 0} → Option (List A) → List A
items None = []
items (Some xs) = xs
