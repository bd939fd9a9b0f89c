-- Counts and numbers that are out of their ranges, in the order of the places.
use Rattle.std.specs.Prelude.{ℕ, ◌+◌, ◌-◌, min, List, [], ◌∷◌, ◌++◌, length, ◌==◌, ◌&&◌, if◌then◌else◌, Option, Some, None, ℤ, pos, negsuc, int_lt, nat_lt, bytes_eq}
use Rattle.um_base.specs.declared.limits.TheConstants.{POOLS, PARTITIONS, DOMAINS, STATIC_ROWS, BOOTS, SCRIPTS, FUTEXES, LINES, STATIC_THREADS, AREA_ENTRY, DOMAIN_PARTITIONS}
use Rattle.um_document.specs.declared.description.BootEntry.{BootEntry}
use Rattle.um_document.specs.declared.description.Description.{Description}
use Rattle.um_document.specs.declared.description.Details.{Details}
use Rattle.um_document.specs.declared.description.DomainEntry.{DomainEntry}
use Rattle.um_document.specs.declared.description.FutexEntry.{FutexEntry}
use Rattle.um_document.specs.declared.description.ObjectEntry.{ObjectEntry}
use Rattle.um_document.specs.declared.description.PartitionContents.{PartitionContents}
use Rattle.um_document.specs.declared.description.PartitionEntry.{PartitionEntry}
use Rattle.um_document.specs.declared.description.PoolEntry.{PoolEntry}
use Rattle.um_document.specs.declared.description.ScriptEntry.{ScriptEntry}
use Rattle.um_document.specs.declared.description.VariableEntry.{VariableEntry}
use Rattle.um_document.specs.declared.place.Place.{Place}
use Rattle.um_document.specs.declared.shape.Key.{Key}
use Rattle.um_document.specs.declared.shape.Section.{Section}
use Rattle.um_document.specs.Shape.{section_key}
use Rattle.um_description.specs.declared.flaw.Counted.TheVariants as counted
use Rattle.um_description.specs.declared.flaw.Flaw.{Flaw}
use Rattle.um_description.specs.Names.{Text, each, items, is_thread}
use Rattle.um_description.specs.Numbers.{natural}
use Rattle.um_description.specs.Packing.{size_of, asked_size}

-- a number at a key, which is to be from low to high: below, it passes the lower end, and above, the upper one
abbrev pub outside : Key → ℤ → ℤ → Place → ℤ → List Flaw
outside key low high place n =
    if int_lt n low then Flaw.Limit (counted.Key key) low place ∷ []
    else if int_lt high n then Flaw.Limit (counted.Key key) high place ∷ []
    else []

-- a list at a key that is to have at most so many items
abbrev pub longer : Key → ℤ → Place → ℕ → List Flaw
longer key most place n = if int_lt most (pos n) then Flaw.Limit (counted.Key key) most place ∷ [] else []

-- the first entry too many of a section
abbrev pub one_too_many : Section → ℕ → ℕ → List Flaw
one_too_many section most i = if i == most then Flaw.Limit (counted.Key (section_key section)) (pos most) (Place.Entry section i) ∷ [] else []

unfoldable pub pool_limits : ℕ → PoolEntry → List Flaw
pool_limits i p = one_too_many Section.Pool POOLS i ++ outside Key.Size (pos 0) (pos AREA_ENTRY) (Place.Field Section.Pool i Key.Size) p.size

-- a variable has at most as many bytes at its start as its size
unfoldable pub variable_limits : ℕ → ℕ → VariableEntry → List Flaw
variable_limits i j v =
    outside Key.Size (pos 1) (pos AREA_ENTRY) (Place.Variable i j Key.Size) v.size
    ++ longer Key.Data v.size (Place.Variable i j Key.Data) (length (items v.data))

-- so has a partition; one that is packed has 1 to 32 variables, and they end within the greatest size: both stand before what is inside them
unfoldable pub contents_limits : ℕ → PartitionContents → List Flaw
contents_limits i (PartitionContents.Whole size bytes) =
    outside Key.Size (pos 1) (pos AREA_ENTRY) (Place.Field Section.Partition i Key.Size) size
    ++ longer Key.Data size (Place.Field Section.Partition i Key.Data) (length bytes)
contents_limits i (PartitionContents.Variables vs) =
    outside Key.Vars (pos 1) (pos 32) (Place.Field Section.PackedPartition i Key.Vars) (pos (length vs))
    ++ longer Key.Size (pos AREA_ENTRY) (Place.Field Section.PackedPartition i Key.Vars) (size_of vs)
    ++ each (variable_limits i) 0 vs

unfoldable pub partition_limits : ℕ → PartitionEntry → List Flaw
partition_limits i p = one_too_many Section.Partition PARTITIONS i ++ contents_limits i p.contents

-- how many partitions a domain holds: stack, read-only data and program text need regions of their own
abbrev pub most_parts : ℤ → ℕ
most_parts regions = min DOMAIN_PARTITIONS (natural regions - 3)

unfoldable pub domain_limits : ℕ → ℕ → DomainEntry → List Flaw
domain_limits most i m =
    one_too_many Section.Domain DOMAINS i ++ longer Key.Partitions (pos most) (Place.Item Section.Domain i Key.Partitions most) (length (items m.partitions))

unfoldable pub details_limits : ℕ → Details → List Flaw
details_limits i Details.Thread = []
details_limits i (Details.ThreadStack size) = outside Key.Size (pos 1) (pos AREA_ENTRY) (Place.Field Section.Object i Key.Size) size
details_limits i (Details.Sem None) = []
details_limits i (Details.Sem (Some numbers)) =
    outside Key.Count (pos 0) numbers.limit (Place.Field Section.Object i Key.Count) numbers.count
    ++ outside Key.Limit (pos 1) (pos 4294967295) (Place.Field Section.Object i Key.Limit) numbers.limit
details_limits i (Details.Mutex init) = []
details_limits i (Details.Msgq None) = []
details_limits i (Details.Msgq (Some numbers)) =
    outside Key.MsgSize (pos 1) (pos 256) (Place.Field Section.Object i Key.MsgSize) numbers.msg_size
    ++ outside Key.MaxMsgs (pos 1) (pos 64) (Place.Field Section.Object i Key.MaxMsgs) numbers.max_msgs
details_limits i (Details.Stack None) = []
details_limits i (Details.Stack (Some entries)) = outside Key.Entries (pos 1) (pos 64) (Place.Field Section.Object i Key.Entries) entries
details_limits i (Details.Pipe None) = []
details_limits i (Details.Pipe (Some size)) = outside Key.Size (pos 1) (pos 256) (Place.Field Section.Object i Key.Size) size
details_limits i Details.Timer = []

-- the first thread object too many, behind so many others
abbrev pub one_thread_too_many : ℕ → ℕ → ObjectEntry → List Flaw
one_thread_too_many threads i o =
    if is_thread o && threads == STATIC_THREADS then Flaw.Limit counted.Threads (pos STATIC_THREADS) (Place.Entry Section.Object i) ∷ [] else []

abbrev pub threads_after : ℕ → ObjectEntry → ℕ
threads_after threads o = if is_thread o then threads + 1 else threads

-- an object behind so many threads
unfoldable pub object_limits : ℕ → ℕ → ObjectEntry → List Flaw
object_limits threads i o =
    one_too_many Section.Object STATIC_ROWS i ++ one_thread_too_many threads i o ++ details_limits i o.details

-- objects from the i-th on, behind so many threads
abbrev pub objects_limits : ℕ → ℕ → List ObjectEntry → List Flaw
objects_limits threads i [] = []
objects_limits threads i (o ∷ os) = object_limits threads i o ++ objects_limits (threads_after threads o) (i + 1) os

unfoldable pub boot_limits : ℕ → BootEntry → List Flaw
boot_limits i b =
    one_too_many Section.Boot BOOTS i ++ outside Key.Priority (negsuc 15) (pos 14) (Place.Field Section.Boot i Key.Priority) b.priority

unfoldable pub script_limits : ℕ → ScriptEntry → List Flaw
script_limits i s =
    one_too_many Section.Script SCRIPTS i ++ outside Key.Lines (pos 1) (pos LINES) (Place.Field Section.Script i Key.Lines) (pos (length s.lines))

-- the size that the partition with this name asks for
abbrev pub size_named : Text → List PartitionEntry → Option ℕ
size_named text [] = None
size_named text (p ∷ ps) = if bytes_eq text p.name then Some (asked_size p) else size_named text ps

-- four bytes lie in a partition of so many: none do in fewer than four
abbrev pub offset_limits : Place → ℤ → Option ℕ → List Flaw
offset_limits place n None = []
offset_limits place n (Some size) =
    if nat_lt size 4 then Flaw.Limit (counted.Key Key.Offset) (pos 0) place ∷ [] else outside Key.Offset (pos 0) (pos (size - 4)) place n

unfoldable pub futex_limits : List PartitionEntry → ℕ → FutexEntry → List Flaw
futex_limits ps i f = one_too_many Section.Futex FUTEXES i ++ offset_limits (Place.Field Section.Futex i Key.Offset) f.offset (size_named f.partition ps)

unfoldable pub top_limits : Description → List Flaw
top_limits d =
    outside Key.Regions (pos 4) (pos 32) (Place.Top Key.Regions) d.regions
    ++ longer Key.Rodata (pos AREA_ENTRY) (Place.Top Key.Rodata) (length d.rodata)

abbrev pub limits : Description → List Flaw
limits d =
    top_limits d
    ++ each pool_limits 0 d.pools
    ++ each partition_limits 0 d.partitions
    ++ each (domain_limits (most_parts d.regions)) 0 d.domains
    ++ objects_limits 0 0 d.objects
    ++ each boot_limits 0 d.boots
    ++ each script_limits 0 d.scripts
    ++ each (futex_limits d.partitions) 0 d.futexes
