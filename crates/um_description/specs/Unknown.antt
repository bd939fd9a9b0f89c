-- Names in keys that name nothing of the kind wanted, in the order of the places.
use Rattle.std.specs.Prelude.{ℕ, List, [], ◌∷◌, ◌++◌, Bool, is_some, if◌then◌else◌, Some, None}
use Rattle.um_document.specs.declared.description.BootEntry.{BootEntry}
use Rattle.um_document.specs.declared.description.Description.{Description}
use Rattle.um_document.specs.declared.description.DomainEntry.{DomainEntry}
use Rattle.um_document.specs.declared.description.FutexEntry.{FutexEntry}
use Rattle.um_document.specs.declared.place.Place.{Place}
use Rattle.um_document.specs.declared.shape.Key.{Key}
use Rattle.um_document.specs.declared.shape.Section.{Section}
use Rattle.um_description.specs.Names.{each, items, named, passes, is_thread, is_thread_stack, is_initialised, pool_names, partition_names, domain_names, object_names, script_names}

abbrev pub unless : Bool → Place → List Place
unless known place = if known then [] else place ∷ []

-- the i-th domain's partitions
abbrev pub unknown_in_domain : Description → ℕ → DomainEntry → List Place
unknown_in_domain d i m =
    each (λ j text. unless (is_some (named (partition_names d) text)) (Place.Item Section.Domain i Key.Partitions j)) 0 (items m.partitions)

-- what every boot entry names: a thread, a stack, a script, and a domain that is initialised
abbrev pub unknown_required : Description → ℕ → BootEntry → List Place
unknown_required d i b =
    unless (passes is_thread d.objects (named (object_names d) b.thread)) (Place.Field Section.Boot i Key.Thread)
    ++ unless (passes is_thread_stack d.objects (named (object_names d) b.stack)) (Place.Field Section.Boot i Key.Stack)
    ++ unless (is_some (named (script_names d) b.script)) (Place.Field Section.Boot i Key.Script)
    ++ unless (passes is_initialised d.domains (named (domain_names d) b.domain)) (Place.Field Section.Boot i Key.Domain)

-- what it names besides its grants: these, and a pool
abbrev pub unknown_besides_grants : Description → ℕ → BootEntry → List Place
unknown_besides_grants d i b =
    unknown_required d i b ++ elim b.pool as (λ _. List Place) [ None ↦ [] | Some text ↦ unless (is_some (named (pool_names d) text)) (Place.Field Section.Boot i Key.Pool) ]

-- what the i-th boot entry names: these, and objects
abbrev pub unknown_in_boot : Description → ℕ → BootEntry → List Place
unknown_in_boot d i b =
    unknown_besides_grants d i b ++ each (λ j text. unless (is_some (named (object_names d) text)) (Place.Item Section.Boot i Key.Grants j)) 0 b.grants

-- the i-th futex's partition
abbrev pub unknown_in_futex : Description → ℕ → FutexEntry → List Place
unknown_in_futex d i f = unless (is_some (named (partition_names d) f.partition)) (Place.Field Section.Futex i Key.Partition)

abbrev pub unknown_names : Description → List Place
unknown_names d = each (unknown_in_domain d) 0 d.domains ++ each (unknown_in_boot d) 0 d.boots ++ each (unknown_in_futex d) 0 d.futexes
