-- The entries that are printed for the parts of an image.
use Rattle.std.specs.Prelude.{ℕ, ℤ, List, [], ◌∷◌, map, drop, true, false, Option, Some, None, option_map, pos}
use Rattle.um_base.specs.declared.attr.Attr.{Attr}
use Rattle.um_base.specs.declared.image.Boot.{Boot}
use Rattle.um_base.specs.declared.image.DomainDef.{DomainDef}
use Rattle.um_base.specs.declared.image.Futex.{Futex}
use Rattle.um_base.specs.declared.image.ObjectDef.{ObjectDef}
use Rattle.um_base.specs.declared.image.Partition.{Partition}
use Rattle.um_base.specs.declared.image.Pool.{Pool}
use Rattle.um_base.specs.declared.image.Setup.{Setup}
use Rattle.um_base.specs.declared.names.Kind.{Kind}
use Rattle.um_base.specs.declared.names.Row.{Row}
use Rattle.um_document.specs.declared.description.Alignment.{Alignment}
use Rattle.um_document.specs.declared.description.BootEntry.{BootEntry}
use Rattle.um_document.specs.declared.description.Details.{Details}
use Rattle.um_document.specs.declared.description.DomainEntry.{DomainEntry}
use Rattle.um_document.specs.declared.description.FutexEntry.{FutexEntry}
use Rattle.um_document.specs.declared.description.ObjectEntry.{ObjectEntry}
use Rattle.um_document.specs.declared.description.PartitionContents.{PartitionContents}
use Rattle.um_document.specs.declared.description.PartitionEntry.{PartitionEntry}
use Rattle.um_document.specs.declared.description.PoolEntry.{PoolEntry}
use Rattle.um_canonical.specs.Fresh.{first_name}
use Rattle.um_canonical.specs.Named.{name_at}

abbrev pub pool_entry : Pool → PoolEntry
pool_entry p = record { name = p.name; size = pos p.size }

-- a partition as it is printed, with one variable of its whole size
pub record Packed : Type 0 where
  pub name : List ℕ
  pub attr : Attr
  pub variable : List ℕ
  pub size : ℤ
  pub bytes : List ℕ

abbrev pub given : List ℕ → Option (List ℕ)
given [] = None
given (b ∷ bs) = Some (b ∷ bs)

abbrev pub partition_entry : Packed → PartitionEntry
partition_entry p =
    record {
      name = p.name;
      attr = p.attr;
      contents = PartitionContents.Variables (record { name = p.variable; size = p.size; align = Alignment.ThirtyTwo; «data» = given p.bytes } ∷ []);
    }

-- a partition with this name for its variable
abbrev pub packed : List ℕ → Partition → Packed
packed variable p = record { name = p.name; attr = p.attr; variable = variable; size = pos p.range.size; bytes = p.bytes }

-- partitions with these names for their variables
abbrev pub packed_by : List (List ℕ) → List Partition → List Packed
packed_by variables [] = []
packed_by variables (p ∷ ps) = packed (first_name variables) p ∷ packed_by (drop 1 variables) ps

-- the names of numbers
abbrev pub names_at : List (List ℕ) → List ℕ → List (List ℕ)
names_at names numbers = map (name_at names) numbers

abbrev pub domain_entry : List (List ℕ) → DomainDef → DomainEntry
domain_entry partitions m = record { name = m.name; partitions = option_map (names_at partitions) m.parts }

abbrev pub details_by : Kind → Setup → Details
details_by Kind.Thread setup = Details.Thread
details_by Kind.ThreadStack (Setup.ThreadStack range declared) = Details.ThreadStack (pos declared)
details_by Kind.ThreadStack setup = Details.ThreadStack (pos 0)
details_by Kind.Sem (Setup.Sem count limit) = Details.Sem (Some (record { count = pos count; limit = pos limit }))
details_by Kind.Sem setup = Details.Sem None
details_by Kind.Mutex Setup.Mutex = Details.Mutex true
details_by Kind.Mutex setup = Details.Mutex false
details_by Kind.Msgq (Setup.Msgq size most) = Details.Msgq (Some (record { msg_size = pos size; max_msgs = pos most }))
details_by Kind.Msgq setup = Details.Msgq None
details_by Kind.Stack (Setup.Stack entries) = Details.Stack (Some (pos entries))
details_by Kind.Stack setup = Details.Stack None
details_by Kind.Pipe (Setup.Pipe size) = Details.Pipe (Some (pos size))
details_by Kind.Pipe setup = Details.Pipe None
details_by Kind.Timer setup = Details.Timer

abbrev pub object_entry : ObjectDef → ObjectEntry
object_entry o = record { name = o.name; public = o.public; details = details_by o.kind o.setup }

abbrev pub Names : Type 0
Names = List (List ℕ)

abbrev pub row_names : Names → List Row → Names
row_names objects rows = map (λ (r : Row). name_at objects r.0) rows

abbrev pub boot_entry : Names → Names → Names → Names → Boot → BootEntry
boot_entry objects scripts domains pools b =
    record {
      thread = name_at objects b.thread.0;
      stack = name_at objects b.stack.0;
      script = name_at scripts b.script;
      priority = b.priority;
      domain = name_at domains b.domain;
      mode = b.mode;
      pool = option_map (name_at pools) b.pool;
      grants = row_names objects b.grants;
    }

abbrev pub futex_entry : Names → Futex → FutexEntry
futex_entry partitions f = record { name = f.name; partition = name_at partitions f.partition; offset = pos f.offset }
