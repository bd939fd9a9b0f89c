-- The image of a description: names become rows, numbers and addresses.
use Rattle.std.specs.Prelude.{ℕ, ◌+◌, ◌*◌, ◌%◌, ◌^◌, min, List, [], ◌∷◌, ◌++◌, length, map, drop, ◌==◌, if◌then◌else◌, Option, Some, None, unwrap_or, option_map, ℤ, pos, negsuc, int_lt, bytes_eq}
use Rattle.std.specs.List.{flat_map}
use Rattle.um_base.specs.declared.limits.TheConstants.{PARTITION_AREA, STACK_AREA, RODATA, OBJECTS, OBJECT_STEP}
use Rattle.um_base.specs.declared.image.Boot.{Boot}
use Rattle.um_base.specs.declared.image.DomainDef.{DomainDef}
use Rattle.um_base.specs.declared.image.Futex.{Futex}
use Rattle.um_base.specs.declared.image.Image.{Image}
use Rattle.um_base.specs.declared.image.ObjectDef.{ObjectDef}
use Rattle.um_base.specs.declared.image.Partition.{Partition}
use Rattle.um_base.specs.declared.image.Pool.{Pool}
use Rattle.um_base.specs.declared.image.Script.{Script}
use Rattle.um_base.specs.declared.image.Setup.{Setup}
use Rattle.um_base.specs.declared.instr.Instr.{Instr}
use Rattle.um_base.specs.declared.names.Kind.{Kind}
use Rattle.um_base.specs.declared.names.Mpu.{Mpu}
use Rattle.um_base.specs.declared.names.PartRef.{PartRef}
use Rattle.um_base.specs.declared.names.Range.{Range}
use Rattle.um_base.specs.declared.names.Ref.{Ref}
use Rattle.um_base.specs.declared.names.Row.{Row}
use Rattle.um_base.specs.declared.names.Term.{Term}
use Rattle.um_base.specs.Layout.{rounded, starts}
use Rattle.um_base.specs.Lawful.{futex_addr}
use Rattle.um_document.specs.declared.description.BootEntry.{BootEntry}
use Rattle.um_document.specs.declared.description.Description.{Description}
use Rattle.um_document.specs.declared.description.Details.{Details}
use Rattle.um_document.specs.declared.description.DomainEntry.{DomainEntry}
use Rattle.um_document.specs.declared.description.FutexEntry.{FutexEntry}
use Rattle.um_document.specs.declared.description.ObjectEntry.{ObjectEntry}
use Rattle.um_document.specs.declared.description.PartitionEntry.{PartitionEntry}
use Rattle.um_document.specs.declared.description.PoolEntry.{PoolEntry}
use Rattle.um_document.specs.declared.description.MsgqNumbers.{MsgqNumbers}
use Rattle.um_document.specs.declared.description.ScriptEntry.{ScriptEntry}
use Rattle.um_document.specs.declared.description.SemNumbers.{SemNumbers}
use Rattle.um_description.specs.Limits.{threads_after}
use Rattle.um_description.specs.Lines.{instruction}
use Rattle.um_description.specs.Numbers.{natural, clamped}
use Rattle.um_description.specs.Packing.{asked_size, first_bytes, offset_named}
use Rattle.um_description.specs.Names.{Text, is_among, named, is_thread_stack, variables_of, pool_names, partition_names, domain_names, object_names, script_names}

-- a priority as an image has it: in its limits it is itself
abbrev pub lowered : ℤ → ℤ
lowered z = if int_lt z (negsuc 127) then negsuc 127 else if int_lt (pos 127) z then pos 127 else z

-- Ranges.

abbrev pub range_at : ℕ → ℕ → Range
range_at start size = record { start = record { 0 = start }; size = size }

-- the sizes that the partitions, and the stacks, ask for
abbrev pub asked_partitions : Description → List ℕ
asked_partitions d = map asked_size d.partitions

abbrev pub asked_stack : ObjectEntry → List ℕ
asked_stack o = elim o.details as (λ _. List ℕ) [ Details.ThreadStack size ↦ clamped size ∷ [] | _ ↦ [] ]

abbrev pub asked_stacks : Description → List ℕ
asked_stacks d = flat_map asked_stack d.objects

-- the rounded ones
abbrev pub partition_sizes : Description → List ℕ
partition_sizes d = map (rounded d.mpu) (asked_partitions d)

abbrev pub stack_sizes : Description → List ℕ
stack_sizes d = map (rounded d.mpu) (asked_stacks d)

-- ranges of these starts and sizes
abbrev pub ranges_at : List ℕ → List ℕ → List Range
ranges_at [] sizes = []
ranges_at (start ∷ starts) [] = []
ranges_at (start ∷ starts) (size ∷ sizes) = range_at start size ∷ ranges_at starts sizes

-- the ranges of entries of these rounded sizes, which are placed in an area
abbrev pub placed : Mpu → ℕ → List ℕ → List Range
placed mpu area sizes = ranges_at (starts mpu area sizes) sizes

-- partitions, each in its range
abbrev pub placed_partitions : List Range → List PartitionEntry → List Partition
placed_partitions [] ps = []
placed_partitions (range ∷ ranges) [] = []
placed_partitions (range ∷ ranges) (p ∷ ps) = record { name = p.name; range = range; attr = p.attr; bytes = first_bytes p } ∷ placed_partitions ranges ps

-- the read-only data: a range where there is any
abbrev pub rodata_range : Description → Option Range
rodata_range d = if length d.rodata == 0 then None else Some (range_at RODATA (rounded d.mpu (length d.rodata)))

-- Objects, from row x on: threads have the indices from t on, and stacks the ranges that are left.

abbrev pub row_addr : ℕ → ℕ
row_addr x = OBJECTS + OBJECT_STEP * x

abbrev pub object_of : ObjectEntry → Kind → ℕ → Setup → ObjectDef
object_of o kind addr setup = record { name = o.name; kind = kind; addr = record { 0 = addr }; public = o.public; setup = setup }

abbrev pub sem_setup : Option SemNumbers → Setup
sem_setup None = Setup.Bare
sem_setup (Some numbers) = Setup.Sem (clamped numbers.count) (clamped numbers.limit)

abbrev pub msgq_setup : Option MsgqNumbers → Setup
msgq_setup None = Setup.Bare
msgq_setup (Some numbers) = Setup.Msgq (clamped numbers.msg_size) (clamped numbers.max_msgs)

abbrev pub stack_setup : Option ℤ → Setup
stack_setup None = Setup.Bare
stack_setup (Some entries) = Setup.Stack (clamped entries)

abbrev pub pipe_setup : Option ℤ → Setup
pipe_setup None = Setup.Bare
pipe_setup (Some size) = Setup.Pipe (clamped size)

abbrev pub first_range : List Range → Range
first_range [] = range_at 0 0
first_range (range ∷ ranges) = range

-- the object of row x, whose thread index is t where it is a thread, and whose range is this one where it is a stack
abbrev pub object_def : Range → ℕ → ℕ → ObjectEntry → ObjectDef
object_def range x t o =
    elim o.details as (λ _. ObjectDef) [
      | Details.Thread ↦ object_of o Kind.Thread (row_addr x) (Setup.Thread (record { 0 = t }))
      | Details.ThreadStack size ↦ object_of o Kind.ThreadStack range.start.0 (Setup.ThreadStack range (clamped size))
      | Details.Sem numbers ↦ object_of o Kind.Sem (row_addr x) (sem_setup numbers)
      | Details.Mutex init ↦ object_of o Kind.Mutex (row_addr x) (if init then Setup.Mutex else Setup.Bare)
      | Details.Msgq numbers ↦ object_of o Kind.Msgq (row_addr x) (msgq_setup numbers)
      | Details.Stack entries ↦ object_of o Kind.Stack (row_addr x) (stack_setup entries)
      | Details.Pipe size ↦ object_of o Kind.Pipe (row_addr x) (pipe_setup size)
      | Details.Timer ↦ object_of o Kind.Timer (row_addr x) Setup.Timer
    ]

-- how many of the ranges an object takes
abbrev pub ranges_taken : ObjectEntry → ℕ
ranges_taken o = if is_thread_stack o then 1 else 0

abbrev pub objects_from : List Range → ℕ → ℕ → List ObjectEntry → List ObjectDef
objects_from ranges x t [] = []
objects_from ranges x t (o ∷ os) =
    object_def (first_range ranges) x t o ∷ objects_from (drop (ranges_taken o) ranges) (x + 1) (threads_after t o) os

-- Names.

abbrev pub pool_of : PoolEntry → Pool
pool_of p = record { name = p.name; size = clamped p.size }

-- the number of the entry with this name
abbrev pub number_named : List Text → Text → ℕ
number_named names text = unwrap_or (named names text) 0

abbrev pub domain_of : List Text → DomainEntry → DomainDef
domain_of partitions m = record { name = m.name; parts = option_map (λ (texts : List Text). map (number_named partitions) texts) m.partitions }

-- what a boot entry names, among these names
abbrev pub row_named : List Text → Text → Row
row_named objects text = record { 0 = number_named objects text }

-- the objects that stand among these names, each once: what is granted is a set
abbrev pub rows_among : List Text → ℕ → List Text → List Row
rows_among texts x [] = []
rows_among texts x (name ∷ names) =
    (if is_among name texts then record { 0 = x } ∷ [] else []) ++ rows_among texts (x + 1) names

abbrev pub boot_of : Description → BootEntry → Boot
boot_of d b =
    record {
      thread = row_named (object_names d) b.thread;
      stack = row_named (object_names d) b.stack;
      script = number_named (script_names d) b.script;
      mode = b.mode;
      priority = lowered b.priority;
      domain = number_named (domain_names d) b.domain;
      pool = option_map (number_named (pool_names d)) b.pool;
      grants = rows_among b.grants 0 (object_names d);
    }

-- a futex, with the number of its partition among these names
abbrev pub futex_of : List Text → FutexEntry → Futex
futex_of partitions f = record { name = f.name; partition = number_named partitions f.partition; offset = clamped f.offset }

-- the image with its partitions and its stacks in these ranges, but for its scripts
abbrev pub without_scripts : Description → List Range → List Range → Image
without_scripts d partitions stacks =
    record {
      mpu = d.mpu;
      regions = min (natural d.regions) 255;
      policy = d.policy;
      rodata = rodata_range d;
      rodata_bytes = d.rodata;
      pools = map pool_of d.pools;
      partitions = placed_partitions partitions d.partitions;
      domains = map (domain_of (partition_names d)) d.domains;
      objects = objects_from stacks 0 0 d.objects;
      boots = map (boot_of d) d.boots;
      scripts = [];
      futexes = map (futex_of (partition_names d)) d.futexes;
    }

-- Lines.

-- the address at an offset, if there is one, or another one. Addresses have 32 bits
abbrev pub addr_at : ℕ → Option ℕ → ℕ → ℕ
addr_at start None other = other
addr_at start (Some offset) other = (start + offset) % 2 ^ 32

-- the address of the variable with this name, in the partition that lists it, or of the read-only data
abbrev pub variable_addr : Text → List Partition → List PartitionEntry → ℕ
variable_addr name [] ps = RODATA
variable_addr name (q ∷ qs) [] = RODATA
variable_addr name (q ∷ qs) (p ∷ ps) = addr_at q.range.start.0 (offset_named name 0 (variables_of p.contents)) (variable_addr name qs ps)

-- the address of the futex with this name, or another one
abbrev pub futex_named : Image → Text → ℕ → List Futex → ℕ
futex_named image name other [] = other
futex_named image name other (f ∷ fs) = if bytes_eq name f.name then futex_addr image f % 2 ^ 32 else futex_named image name other fs

-- the start of the partition with this name, or another address
abbrev pub start_named : Text → ℕ → List Partition → ℕ
start_named name other [] = other
start_named name other (p ∷ ps) = if bytes_eq name p.name then p.range.start.0 else start_named name other ps

-- the address of the object with this name, or another one
abbrev pub object_addr : Text → ℕ → List ObjectDef → ℕ
object_addr name other [] = other
object_addr name other (o ∷ os) = if bytes_eq name o.name then o.addr.0 else object_addr name other os

-- the address of what a place names: an object, a partition, a futex, a variable, or the read-only data
abbrev pub addr_named : Image → Description → Text → ℕ
addr_named image d name =
    object_addr name (start_named name (futex_named image name (variable_addr name image.partitions d.partitions) image.futexes) image.partitions) image.objects

abbrev pub term_of : Image → Description → Term → Term
term_of image d (Term.Place name offset) = Term.Num ((addr_named image d name + offset) % 2 ^ 32)
term_of image d (Term.Num n) = Term.Num n
term_of image d (Term.Reg r) = Term.Reg r

abbrev pub ref_of : List Text → Ref → Ref
ref_of names (Ref.Named name) = Ref.At (number_named names name)
ref_of names (Ref.At i) = Ref.At i

abbrev pub part_of : List Text → PartRef → PartRef
part_of names (PartRef.Named name) = PartRef.At (number_named names name)
part_of names (PartRef.At i) = PartRef.At i
part_of names (PartRef.Given range attr) = PartRef.Given range attr

-- an instruction whose names are resolved: places by an image, and numbers by the description
abbrev pub resolved : Image → Description → Instr → Instr
resolved image d (Instr.Set to value) = Instr.Set to (term_of image d value)
resolved image d (Instr.Add to value) = Instr.Add to (term_of image d value)
resolved image d (Instr.Load to addr size) = Instr.Load to (term_of image d addr) size
resolved image d (Instr.Store addr size value) = Instr.Store (term_of image d addr) size (term_of image d value)
resolved image d (Instr.Exec addr) = Instr.Exec (term_of image d addr)
resolved image d (Instr.DomainInit m parts) = Instr.DomainInit (ref_of (domain_names d) m) (map (part_of (partition_names d)) parts)
resolved image d (Instr.DomainAdd m part) = Instr.DomainAdd (ref_of (domain_names d) m) (part_of (partition_names d) part)
resolved image d (Instr.DomainRemove m part) = Instr.DomainRemove (ref_of (domain_names d) m) (part_of (partition_names d) part)
resolved image d (Instr.DomainMove m thread) = Instr.DomainMove (ref_of (domain_names d) m) (term_of image d thread)
resolved image d (Instr.Grant object thread) = Instr.Grant (term_of image d object) (term_of image d thread)
resolved image d (Instr.Revoke object thread) = Instr.Revoke (term_of image d object) (term_of image d thread)
resolved image d (Instr.Release object) = Instr.Release (term_of image d object)
resolved image d (Instr.AllGrant object) = Instr.AllGrant (term_of image d object)
resolved image d (Instr.SemGive object) = Instr.SemGive (term_of image d object)
resolved image d (Instr.SemReset object) = Instr.SemReset (term_of image d object)
resolved image d (Instr.MutexInit object) = Instr.MutexInit (term_of image d object)
resolved image d (Instr.MutexUnlock object) = Instr.MutexUnlock (term_of image d object)
resolved image d (Instr.MsgqPurge object) = Instr.MsgqPurge (term_of image d object)
resolved image d (Instr.PipeReset object) = Instr.PipeReset (term_of image d object)
resolved image d (Instr.PipeClose object) = Instr.PipeClose (term_of image d object)
resolved image d (Instr.Create thread stack size script priority options) =
    Instr.Create (term_of image d thread) (term_of image d stack) (term_of image d size) (ref_of (script_names d) script) priority options
resolved image d (Instr.UserMode script) = Instr.UserMode (ref_of (script_names d) script)
resolved image d (Instr.NameSet thread addr) = Instr.NameSet (term_of image d thread) (term_of image d addr)
resolved image d (Instr.SemInit object count limit) = Instr.SemInit (term_of image d object) (term_of image d count) (term_of image d limit)
resolved image d (Instr.SemTake object timeout) = Instr.SemTake (term_of image d object) timeout
resolved image d (Instr.MutexLock object timeout) = Instr.MutexLock (term_of image d object) timeout
resolved image d (Instr.SemCount object to) = Instr.SemCount (term_of image d object) to
resolved image d (Instr.MsgqUsed object to) = Instr.MsgqUsed (term_of image d object) to
resolved image d (Instr.MsgqInit object size most) = Instr.MsgqInit (term_of image d object) (term_of image d size) (term_of image d most)
resolved image d (Instr.MsgqPut object addr timeout) = Instr.MsgqPut (term_of image d object) (term_of image d addr) timeout
resolved image d (Instr.MsgqGet object addr timeout) = Instr.MsgqGet (term_of image d object) (term_of image d addr) timeout
resolved image d (Instr.StackPop object addr timeout) = Instr.StackPop (term_of image d object) (term_of image d addr) timeout
resolved image d (Instr.MsgqPeek object addr) = Instr.MsgqPeek (term_of image d object) (term_of image d addr)
resolved image d (Instr.StackInit object entries) = Instr.StackInit (term_of image d object) (term_of image d entries)
resolved image d (Instr.StackPush object value) = Instr.StackPush (term_of image d object) (term_of image d value)
resolved image d (Instr.PipeInit object size) = Instr.PipeInit (term_of image d object) (term_of image d size)
resolved image d (Instr.PipeWrite object addr n timeout) = Instr.PipeWrite (term_of image d object) (term_of image d addr) (term_of image d n) timeout
resolved image d (Instr.PipeRead object addr n timeout) = Instr.PipeRead (term_of image d object) (term_of image d addr) (term_of image d n) timeout
resolved image d (Instr.TimerStart object ticks) = Instr.TimerStart (term_of image d object) (term_of image d ticks)
resolved image d (Instr.TimerStop object) = Instr.TimerStop (term_of image d object)
resolved image d (Instr.TimerStatus object to) = Instr.TimerStatus (term_of image d object) to
resolved image d (Instr.TimerSync object to) = Instr.TimerSync (term_of image d object) to
resolved image d (Instr.Abort thread) = Instr.Abort (term_of image d thread)
resolved image d (Instr.Join thread timeout) = Instr.Join (term_of image d thread) timeout
resolved image d (Instr.Suspend thread) = Instr.Suspend (term_of image d thread)
resolved image d (Instr.Continue thread) = Instr.Continue (term_of image d thread)
resolved image d (Instr.FutexWait addr value timeout) = Instr.FutexWait (term_of image d addr) (term_of image d value) timeout
resolved image d (Instr.FutexWake addr all) = Instr.FutexWake (term_of image d addr) all
resolved image d Instr.End = Instr.End
resolved image d Instr.Oops = Instr.Oops
resolved image d Instr.Panic = Instr.Panic
resolved image d (Instr.Repeat times) = Instr.Repeat times
resolved image d (Instr.ObjectAlloc kind to) = Instr.ObjectAlloc kind to

abbrev pub option_list : {A : Type 0} → Option A → List A
option_list None = []
option_list (Some x) = x ∷ []

-- the instruction of a line, where it can be read
abbrev pub read_line : Image → Description → Text → List Instr
read_line image d line = option_list (option_map (resolved image d) (instruction line))

abbrev pub script_of : Image → Description → ScriptEntry → Script
script_of image d s = record { name = s.name; lines = flat_map (read_line image d) s.lines }

-- the image with its partitions and its stacks in these ranges
abbrev pub image_in : Description → List Range → List Range → Image
image_in d partitions stacks =
    let base = without_scripts d partitions stacks in record base { scripts = map (script_of base d) d.scripts }

-- the image that a description without flaws gives: partitions and stacks are placed, each in their area
abbrev pub image_of : Description → Image
image_of d = image_in d (placed d.mpu PARTITION_AREA (partition_sizes d)) (placed d.mpu STACK_AREA (stack_sizes d))
