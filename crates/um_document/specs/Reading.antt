-- What a document describes.
use Rattle.std.specs.Prelude.{ℕ, ℤ, pos, List, [], ◌∷◌, length, nat_le, Bool, false, if◌then◌else◌, unwrap_or, option_map, Option, Some, None}
use Rattle.toml.specs.Data.{Data, as_str, as_integer, as_bool, as_array, as_table, Items, no_items, item, Members}
use Rattle.um_base.specs.declared.attr.Attr.{Attr}
use Rattle.um_base.specs.declared.names.Kind.{Kind}
use Rattle.um_base.specs.declared.names.Mode.{Mode}
use Rattle.um_base.specs.declared.names.Mpu.{Mpu}
use Rattle.um_base.specs.declared.names.Policy.{Policy}
use Rattle.um_document.specs.declared.description.Alignment.{Alignment}
use Rattle.um_document.specs.declared.description.BootEntry.{BootEntry}
use Rattle.um_document.specs.declared.description.Description.{Description}
use Rattle.um_document.specs.declared.description.Details.{Details}
use Rattle.um_document.specs.declared.description.DomainEntry.{DomainEntry}
use Rattle.um_document.specs.declared.description.FutexEntry.{FutexEntry}
use Rattle.um_document.specs.declared.description.MsgqNumbers.{MsgqNumbers}
use Rattle.um_document.specs.declared.description.ObjectEntry.{ObjectEntry}
use Rattle.um_document.specs.declared.description.PartitionContents.{PartitionContents}
use Rattle.um_document.specs.declared.description.PartitionEntry.{PartitionEntry}
use Rattle.um_document.specs.declared.description.PoolEntry.{PoolEntry}
use Rattle.um_document.specs.declared.description.ScriptEntry.{ScriptEntry}
use Rattle.um_document.specs.declared.description.SemNumbers.{SemNumbers}
use Rattle.um_document.specs.declared.description.VariableEntry.{VariableEntry}
use Rattle.um_document.specs.declared.shape.Key.{Key}
use Rattle.um_document.specs.declared.shape.Section.{Section}
use Rattle.um_document.specs.Forms.{decoded}
use Rattle.um_document.specs.Parts.{◌>>=◌, value_at, items_in, kind_of}
use Rattle.um_document.specs.Shape.{section_key}
use Rattle.um_document.specs.Words.{alignment_of}
use Rattle.um_vocabulary.specs.Words.{mpu_named, policy_named, mode_named, given_attr_named}

-- what stands at a key, where it has the type, and else a blank
abbrev pub number_given : Key → Members → Option ℤ
number_given key t = value_at key t >>= as_integer

abbrev pub text_given : Key → Members → Option (List ℕ)
text_given key t = value_at key t >>= as_str

abbrev pub number_at : Key → Members → ℤ
number_at key t = unwrap_or (number_given key t) (pos 0)

abbrev pub text_at : Key → Members → List ℕ
text_at key t = unwrap_or (text_given key t) []

abbrev pub truth_at : Key → Members → Bool
truth_at key t = unwrap_or (value_at key t >>= as_bool) false

abbrev pub bytes_at : Key → Members → List ℕ
bytes_at key t = decoded (text_at key t)

abbrev pub bytes_given : Key → Members → Option (List ℕ)
bytes_given key t = option_map decoded (text_given key t)

-- a lawful name has at most 24 bytes
abbrev pub short : List ℕ → List ℕ
short s = if nat_le (length s) 24 then s else []

abbrev pub name_at : Members → List ℕ
name_at t = short (text_at Key.Name t)

-- the text that a value is
abbrev pub text_in : Data → List ℕ
text_in d = unwrap_or (as_str d) []

-- the texts of some items
abbrev pub texts_of : Items → List (List ℕ)
texts_of no_items = []
texts_of (item d ds) = text_in d ∷ texts_of ds

abbrev pub texts_at : Key → Members → List (List ℕ)
texts_at key t = texts_of (items_in (value_at key t))

abbrev pub texts_given : Key → Members → Option (List (List ℕ))
texts_given key t = option_map texts_of (value_at key t >>= as_array)

abbrev pub with_table : {A : Type 0} → (Members → A) → Option Members → List A → List A
with_table f None rest = rest
with_table f (Some t) rest = f t ∷ rest

-- what is made of the tables among some items
abbrev pub entries_of : {A : Type 0} → (Members → A) → Items → List A
entries_of f no_items = []
entries_of f (item d ds) = with_table f (as_table d) (entries_of f ds)

abbrev pub entries_at : {A : Type 0} → (Members → A) → Section → Members → List A
entries_at f s t = entries_of f (items_in (value_at (section_key s) t))

abbrev pub pool_of : Members → PoolEntry
pool_of t = record { name = name_at t; size = number_at Key.Size t }

abbrev pub attr_at : Members → Attr
attr_at t = unwrap_or (text_given Key.Attr t >>= given_attr_named) (record { 0 = 27 })

-- at each byte where nothing is said
abbrev pub alignment_at : Members → Alignment
alignment_at t = unwrap_or (number_given Key.Align t >>= alignment_of) Alignment.One

abbrev pub variable_of : Members → VariableEntry
variable_of t = record { name = name_at t; size = number_at Key.Size t; align = alignment_at t; «data» = bytes_given Key.Data t }

-- what a partition consists of: its variables, where it lists them
abbrev pub contents_by : Option Items → Members → PartitionContents
contents_by None t = PartitionContents.Whole (number_at Key.Size t) (bytes_at Key.Data t)
contents_by (Some ds) t = PartitionContents.Variables (entries_of variable_of ds)

abbrev pub contents_of : Members → PartitionContents
contents_of t = contents_by (value_at Key.Vars t >>= as_array) t

abbrev pub partition_of : Members → PartitionEntry
partition_of t = record { name = name_at t; attr = attr_at t; contents = contents_of t }

abbrev pub domain_of : Members → DomainEntry
domain_of t = record { name = name_at t; partitions = texts_given Key.Partitions t }

-- both numbers, where both are given
abbrev pub sem_numbers : Option ℤ → Option ℤ → Option SemNumbers
sem_numbers count limit = count >>= λ c. limit >>= λ l. Some (record { count = c; limit = l })

abbrev pub msgq_numbers : Option ℤ → Option ℤ → Option MsgqNumbers
msgq_numbers size most = size >>= λ s. most >>= λ m. Some (record { msg_size = s; max_msgs = m })

abbrev pub details_of : Kind → Members → Details
details_of Kind.Thread t = Details.Thread
details_of Kind.ThreadStack t = Details.ThreadStack (number_at Key.Size t)
details_of Kind.Sem t = Details.Sem (sem_numbers (number_given Key.Count t) (number_given Key.Limit t))
details_of Kind.Mutex t = Details.Mutex (truth_at Key.Init t)
details_of Kind.Msgq t = Details.Msgq (msgq_numbers (number_given Key.MsgSize t) (number_given Key.MaxMsgs t))
details_of Kind.Stack t = Details.Stack (number_given Key.Entries t)
details_of Kind.Pipe t = Details.Pipe (number_given Key.Size t)
details_of Kind.Timer t = Details.Timer

abbrev pub object_of : Members → ObjectEntry
object_of t =
    record { name = name_at t; public = truth_at Key.Public t; details = details_of (unwrap_or (kind_of t) Kind.Thread) t }

abbrev pub mode_at : Members → Mode
mode_at t = unwrap_or (text_given Key.Mode t >>= mode_named) Mode.User

abbrev pub boot_of : Members → BootEntry
boot_of t =
    record {
      thread = text_at Key.Thread t;
      stack = text_at Key.Stack t;
      script = text_at Key.Script t;
      priority = number_at Key.Priority t;
      domain = text_at Key.Domain t;
      mode = mode_at t;
      pool = text_given Key.Pool t;
      grants = texts_at Key.Grants t;
    }

abbrev pub script_of : Members → ScriptEntry
script_of t = record { name = name_at t; lines = texts_at Key.Lines t }

abbrev pub futex_of : Members → FutexEntry
futex_of t = record { name = name_at t; partition = text_at Key.Partition t; offset = number_at Key.Offset t }

abbrev pub mpu_at : Members → Mpu
mpu_at t = unwrap_or (text_given Key.Mpu t >>= mpu_named) Mpu.V7

abbrev pub policy_at : Members → Policy
policy_at t = unwrap_or (text_given Key.Oops t >>= policy_named) Policy.Abort

-- the entries of a document
abbrev pub description_of : Members → Description
description_of t =
    record {
      mpu = mpu_at t;
      regions = number_at Key.Regions t;
      policy = policy_at t;
      rodata = bytes_at Key.Rodata t;
      pools = entries_at pool_of Section.Pool t;
      partitions = entries_at partition_of Section.Partition t;
      domains = entries_at domain_of Section.Domain t;
      objects = entries_at object_of Section.Object t;
      boots = entries_at boot_of Section.Boot t;
      scripts = entries_at script_of Section.Script t;
      futexes = entries_at futex_of Section.Futex t;
    }
