-- Which images are lawful: those that a description can give.
use Rattle.std.specs.Prelude.{◌≡◌, ℕ, ◌+◌, ◌-◌, ◌*◌, ◌≤◌, min, Bool, true, false, ◌==◌, ◌&&◌, ◌||◌, not, nat_lt, nat_le, IsTrue, List, [], ◌∷◌, ◌++◌, length, map, Option, Some, None, ℤ, pos, negsuc, int_lt, codes, bytes_eq, slice_get, sum}
use Rattle.std.specs.List.{list_any, list_all}
use Rattle.um_base.specs.declared.limits.TheConstants.{STATIC_THREADS, DOMAIN_PARTITIONS, MOST_WEIGHT, RODATA, PARTITION_AREA, STACK_AREA, AREA_SIZE, AREA_ENTRY, OBJECTS, OBJECT_STEP}
use Rattle.um_base.specs.declared.attr.Attr.{Attr}
use Rattle.um_base.specs.declared.names.Kind.{Kind}
use Rattle.um_base.specs.declared.names.Mpu.{Mpu}
use Rattle.um_base.specs.declared.names.PartRef.{PartRef}
use Rattle.um_base.specs.declared.names.Range.{Range}
use Rattle.um_base.specs.declared.names.Ref.{Ref}
use Rattle.um_base.specs.declared.names.Row.{Row}
use Rattle.um_base.specs.declared.names.Term.{Term}
use Rattle.um_base.specs.declared.names.Timeout.{Timeout}
use Rattle.um_base.specs.declared.image.Boot.{Boot}
use Rattle.um_base.specs.declared.image.DomainDef.{DomainDef}
use Rattle.um_base.specs.declared.image.Futex.{Futex}
use Rattle.um_base.specs.declared.image.Image.{Image}
use Rattle.um_base.specs.declared.image.ObjectDef.{ObjectDef}
use Rattle.um_base.specs.declared.image.Partition.{Partition}
use Rattle.um_base.specs.declared.image.Pool.{Pool}
use Rattle.um_base.specs.declared.image.Script.{Script}
use Rattle.um_base.specs.declared.image.Setup.{Setup}
use Rattle.um_base.specs.declared.instr.Instr.{Instr}
use Rattle.um_base.specs.Layout.{powers, rounded, starts}
use Rattle.um_base.specs.Weight.{weight}

abbrev pub is_within : ℕ → ℕ → ℕ → Bool
is_within low high n = nat_le low n && nat_le n high

-- no number stands twice
abbrev pub are_distinct : List ℕ → Bool
are_distinct [] = true
are_distinct (x ∷ xs) = not (list_any (λ y. x == y) xs) && are_distinct xs

-- Names.

abbrev pub is_letter : ℕ → Bool
is_letter b = is_within 65 90 b || is_within 97 122 b

abbrev pub is_name_byte : ℕ → Bool
is_name_byte b = is_letter b || is_within 48 57 b || b == 95

abbrev pub begins_with_letter : List ℕ → Bool
begins_with_letter [] = false
begins_with_letter (b ∷ bs) = is_letter b

-- 1 to 24 letters, digits or `_`, the first a letter, and not `rodata`
abbrev pub is_name : List ℕ → Bool
is_name name = nat_le (length name) 24 && begins_with_letter name && list_all is_name_byte name && not (bytes_eq name (codes "rodata"))

-- all names of an image, in the order of its description
abbrev pub names_of : Image → List (List ℕ)
names_of image =
    map (λ (p : Pool). p.name) image.pools ++ map (λ (p : Partition). p.name) image.partitions ++ map (λ (d : DomainDef). d.name) image.domains
    ++ map (λ (o : ObjectDef). o.name) image.objects ++ map (λ (s : Script). s.name) image.scripts ++ map (λ (f : Futex). f.name) image.futexes

abbrev pub are_distinct_names : List (List ℕ) → Bool
are_distinct_names [] = true
are_distinct_names (x ∷ xs) = not (list_any (bytes_eq x) xs) && are_distinct_names xs

-- Partitions and domains.

abbrev pub is_power : ℕ → Bool
is_power size = list_any (λ p. p == size) powers

-- whether the unit guards a range of this size, as a rounded one is: its own rounding, of at most 65,536 bytes
abbrev pub is_rounded : Mpu → ℕ → Bool
is_rounded mpu size = is_within 1 AREA_ENTRY size && rounded mpu size == size

-- the attributes that a description may give: all but the one that lets the same thread write and execute
abbrev pub is_given_attr : Attr → Bool
is_given_attr attr = list_any (λ a. a == attr.0) (27 ∷ 11 ∷ 3 ∷ 9 ∷ 1 ∷ 45 ∷ [])

-- those that a script may name
abbrev pub is_named_attr : Attr → Bool
is_named_attr attr = is_given_attr attr || attr.0 == 63

abbrev pub is_lawful_partition : Mpu → Partition → Bool
is_lawful_partition mpu p = is_rounded mpu p.range.size && is_given_attr p.attr && nat_le (length p.bytes) p.range.size

abbrev pub partition_sizes : List Partition → List ℕ
partition_sizes ps = map (λ (p : Partition). p.range.size) ps

-- how many partitions a domain holds: stack, read-only data and program text need regions of their own
abbrev pub most_parts : Image → ℕ
most_parts image = min DOMAIN_PARTITIONS (image.regions - 3)

abbrev pub are_lawful_parts : ℕ → ℕ → Option (List ℕ) → Bool
are_lawful_parts most partitions None = true
are_lawful_parts most partitions (Some parts) =
    nat_le (length parts) most && list_all (λ i. nat_lt i partitions) parts && are_distinct parts

-- Objects.

-- a setup that a description can give an object of this kind
abbrev pub is_setup_of : Mpu → Kind → Setup → Bool
is_setup_of mpu Kind.Thread (Setup.Thread index) = true
is_setup_of mpu Kind.ThreadStack (Setup.ThreadStack range declared) = is_within 1 AREA_ENTRY declared && rounded mpu declared == range.size
is_setup_of mpu Kind.Sem (Setup.Sem count limit) = nat_le 1 limit && nat_le count limit
is_setup_of mpu Kind.Mutex Setup.Mutex = true
is_setup_of mpu Kind.Msgq (Setup.Msgq size most) = is_within 1 256 size && is_within 1 64 most
is_setup_of mpu Kind.Stack (Setup.Stack entries) = is_within 1 64 entries
is_setup_of mpu Kind.Pipe (Setup.Pipe size) = is_within 1 256 size
is_setup_of mpu Kind.Timer Setup.Timer = true
is_setup_of mpu Kind.Timer Setup.Bare = false
is_setup_of mpu Kind.Thread Setup.Bare = false
is_setup_of mpu Kind.ThreadStack Setup.Bare = false
is_setup_of mpu kind Setup.Bare = true
is_setup_of mpu kind setup = false

abbrev pub is_thread : Kind → Bool
is_thread kind = elim kind as (λ _. Bool) [ Kind.Thread ↦ true | _ ↦ false ]

abbrev pub is_stack : Kind → Bool
is_stack kind = elim kind as (λ _. Bool) [ Kind.ThreadStack ↦ true | _ ↦ false ]

-- the thread indices of objects, which count up from t in their order
abbrev pub has_index : Setup → ℕ → Bool
has_index (Setup.Thread index) t = index.0 == t
has_index _ t = true

abbrev pub index_after : Setup → ℕ → ℕ
index_after (Setup.Thread index) t = t + 1
index_after _ t = t

abbrev pub has_indices : List ObjectDef → ℕ → Bool
has_indices [] t = nat_le t STATIC_THREADS
has_indices (o ∷ os) t = has_index o.setup t && has_indices os (index_after o.setup t)

-- the ranges of the thread stacks, and the addresses of objects, which are those of their rows but for thread stacks
abbrev pub stack_ranges : List ObjectDef → List Range
stack_ranges [] = []
stack_ranges (o ∷ os) = elim o.setup as (λ _. List Range) [ Setup.ThreadStack range declared ↦ range ∷ stack_ranges os | _ ↦ stack_ranges os ]

abbrev pub addr_given : Setup → ℕ → ℕ
addr_given (Setup.ThreadStack range declared) x = range.start.0
addr_given _ x = OBJECTS + OBJECT_STEP * x

abbrev pub stand_in_rows : List ObjectDef → ℕ → Bool
stand_in_rows [] x = true
stand_in_rows (o ∷ os) x = (o.addr.0 == addr_given o.setup x) && stand_in_rows os (x + 1)

-- Boot entries.

abbrev pub object_passes : (ObjectDef → Bool) → Option ObjectDef → Bool
object_passes p None = false
object_passes p (Some o) = p o

abbrev pub pool_stands : Image → Option ℕ → Bool
pool_stands image None = true
pool_stands image (Some i) = nat_lt i (length image.pools)

abbrev pub is_initialised : Option DomainDef → Bool
is_initialised None = false
is_initialised (Some d) = elim d.parts as (λ _. Bool) [ Some parts ↦ true | None ↦ false ]

abbrev pub is_priority : ℤ → Bool
is_priority n = not (int_lt n (negsuc 15)) && not (int_lt (pos 14) n)

abbrev pub is_lawful_boot : Image → Boot → Bool
is_lawful_boot image boot =
    object_passes (λ o. is_thread o.kind) (slice_get image.objects boot.thread.0) && object_passes (λ o. is_stack o.kind) (slice_get image.objects boot.stack.0)
    && nat_lt boot.script (length image.scripts) && is_priority boot.priority && is_initialised (slice_get image.domains boot.domain)
    && pool_stands image boot.pool && list_all (λ (x : Row). nat_lt x.0 (length image.objects)) boot.grants

-- Scripts.

abbrev pub is_register : ℕ → Bool
is_register r = nat_lt r 8

abbrev pub is_operand : Term → Bool
is_operand (Term.Num n) = true
is_operand (Term.Reg r) = is_register r
is_operand (Term.Place name offset) = false

abbrev pub is_number_below : ℕ → Ref → Bool
is_number_below n (Ref.At i) = nat_lt i n
is_number_below n (Ref.Named name) = false

-- a script that stands behind the i-th
abbrev pub is_later : Image → ℕ → Ref → Bool
is_later image i (Ref.At c) = nat_lt i c && nat_lt c (length image.scripts)
is_later image i (Ref.Named name) = false

abbrev pub is_part : Image → PartRef → Bool
is_part image (PartRef.Named name) = false
is_part image (PartRef.At i) = nat_lt i (length image.partitions)
is_part image (PartRef.Given range attr) = is_named_attr attr

-- whether a call may wait so long: not at all, for good, or one to a million ticks
abbrev pub is_wait : Timeout → Bool
is_wait Timeout.NoWait = true
is_wait Timeout.Forever = true
is_wait (Timeout.Ticks n) = is_within 1 1000000 n

abbrev pub is_size : ℕ → Bool
is_size n = n == 1 || n == 2 || n == 4

abbrev pub is_dynamic_kind : Kind → Bool
is_dynamic_kind Kind.ThreadStack = false
is_dynamic_kind Kind.Timer = false
is_dynamic_kind _ = true

-- a line of the i-th script
abbrev pub is_lawful_line : Image → ℕ → Instr → Bool
is_lawful_line image i Instr.End = true
is_lawful_line image i Instr.Oops = true
is_lawful_line image i Instr.Panic = true
is_lawful_line image i (Instr.Repeat times) = is_within 1 1000 times
is_lawful_line image i (Instr.Set to value) = is_register to && is_operand value
is_lawful_line image i (Instr.Add to value) = is_register to && is_operand value
is_lawful_line image i (Instr.Load to addr size) = is_register to && is_operand addr && is_size size
is_lawful_line image i (Instr.Store addr size value) = is_operand addr && is_size size && is_operand value
is_lawful_line image i (Instr.Exec addr) = is_operand addr
is_lawful_line image i (Instr.DomainInit domain parts) = is_number_below (length image.domains) domain && list_all (is_part image) parts
is_lawful_line image i (Instr.DomainAdd domain part) = is_number_below (length image.domains) domain && is_part image part
is_lawful_line image i (Instr.DomainRemove domain part) = is_number_below (length image.domains) domain && is_part image part
is_lawful_line image i (Instr.DomainMove domain thread) = is_number_below (length image.domains) domain && is_operand thread
is_lawful_line image i (Instr.ObjectAlloc kind to) = is_dynamic_kind kind && is_register to
is_lawful_line image i (Instr.Grant object thread) = is_operand object && is_operand thread
is_lawful_line image i (Instr.Revoke object thread) = is_operand object && is_operand thread
is_lawful_line image i (Instr.Release object) = is_operand object
is_lawful_line image i (Instr.AllGrant object) = is_operand object
is_lawful_line image i (Instr.SemGive object) = is_operand object
is_lawful_line image i (Instr.SemReset object) = is_operand object
is_lawful_line image i (Instr.MutexInit object) = is_operand object
is_lawful_line image i (Instr.MutexUnlock object) = is_operand object
is_lawful_line image i (Instr.MsgqPurge object) = is_operand object
is_lawful_line image i (Instr.PipeReset object) = is_operand object
is_lawful_line image i (Instr.PipeClose object) = is_operand object
is_lawful_line image i (Instr.Create thread stack size script priority options) =
    is_operand thread && is_operand stack && is_operand size && is_later image i script
is_lawful_line image i (Instr.UserMode script) = is_later image i script
is_lawful_line image i (Instr.NameSet thread addr) = is_operand thread && is_operand addr
is_lawful_line image i (Instr.SemInit object count limit) = is_operand object && is_operand count && is_operand limit
is_lawful_line image i (Instr.SemTake object timeout) = is_operand object && is_wait timeout
is_lawful_line image i (Instr.MutexLock object timeout) = is_operand object && is_wait timeout
is_lawful_line image i (Instr.SemCount object to) = is_operand object && is_register to
is_lawful_line image i (Instr.MsgqUsed object to) = is_operand object && is_register to
is_lawful_line image i (Instr.MsgqInit object size most) = is_operand object && is_operand size && is_operand most
is_lawful_line image i (Instr.MsgqPut object addr timeout) = is_operand object && is_operand addr && is_wait timeout
is_lawful_line image i (Instr.MsgqGet object addr timeout) = is_operand object && is_operand addr && is_wait timeout
is_lawful_line image i (Instr.StackPop object addr timeout) = is_operand object && is_operand addr && is_wait timeout
is_lawful_line image i (Instr.MsgqPeek object addr) = is_operand object && is_operand addr
is_lawful_line image i (Instr.StackInit object entries) = is_operand object && is_operand entries
is_lawful_line image i (Instr.StackPush object value) = is_operand object && is_operand value
is_lawful_line image i (Instr.PipeInit object size) = is_operand object && is_operand size
is_lawful_line image i (Instr.PipeWrite object addr length timeout) = is_operand object && is_operand addr && is_operand length && is_wait timeout
is_lawful_line image i (Instr.PipeRead object addr length timeout) = is_operand object && is_operand addr && is_operand length && is_wait timeout
is_lawful_line image i (Instr.TimerStart object ticks) = is_operand object && is_operand ticks
is_lawful_line image i (Instr.TimerStop object) = is_operand object
is_lawful_line image i (Instr.TimerStatus object to) = is_operand object && is_register to
is_lawful_line image i (Instr.TimerSync object to) = is_operand object && is_register to
is_lawful_line image i (Instr.Abort thread) = is_operand thread
is_lawful_line image i (Instr.Join thread timeout) = is_operand thread && is_wait timeout
is_lawful_line image i (Instr.Suspend thread) = is_operand thread
is_lawful_line image i (Instr.Continue thread) = is_operand thread
is_lawful_line image i (Instr.FutexWait addr value timeout) = is_operand addr && is_operand value && is_wait timeout
is_lawful_line image i (Instr.FutexWake addr all) = is_operand addr

-- where a line stands to the last repeat: outside of one, right behind it, or further inside
pub data Block : Type 0 where
  outside : Block
  opened : Block
  inside : Block

-- each repeat has its end, with a line between them, and none stands inside another
abbrev pub is_closed : Block → List Instr → Bool
is_closed outside [] = true
is_closed outside (line ∷ lines) = elim line as (λ _. Bool) [ Instr.Repeat times ↦ is_closed opened lines | Instr.End ↦ false | _ ↦ is_closed outside lines ]
is_closed opened [] = false
is_closed opened (line ∷ lines) = elim line as (λ _. Bool) [ Instr.Repeat times ↦ false | Instr.End ↦ false | _ ↦ is_closed inside lines ]
is_closed inside [] = false
is_closed inside (line ∷ lines) = elim line as (λ _. Bool) [ Instr.Repeat times ↦ false | Instr.End ↦ is_closed outside lines | _ ↦ is_closed inside lines ]

abbrev pub is_lawful_script : Image → ℕ → Script → Bool
is_lawful_script image i script =
    nat_le 1 (length script.lines) && list_all (is_lawful_line image i) script.lines && is_closed outside script.lines

-- scripts from the i-th on
abbrev pub are_lawful_scripts : Image → ℕ → List Script → Bool
are_lawful_scripts image i [] = true
are_lawful_scripts image i (script ∷ scripts) = is_lawful_script image i script && are_lawful_scripts image (i + 1) scripts

-- Futexes.

-- the address of a futex: it lies in its partition
abbrev pub futex_start : Option Partition → ℕ → ℕ
futex_start None offset = offset
futex_start (Some p) offset = p.range.start.0 + offset

abbrev pub futex_addr : Image → Futex → ℕ
futex_addr image f = futex_start (slice_get image.partitions f.partition) f.offset

abbrev pub futex_lies : Option Partition → ℕ → Bool
futex_lies None offset = false
futex_lies (Some p) offset = nat_le (offset + 4) p.range.size

abbrev pub is_lawful_futex : Image → Futex → Bool
is_lawful_futex image f = futex_lies (slice_get image.partitions f.partition) f.offset

-- Read-only data stands at its place with its rounded size, or there is none.
abbrev pub RodataStands : Mpu → List ℕ → Option Range → Type 0
RodataStands mpu bytes None = bytes ≡ []
RodataStands mpu bytes (Some range) =
    IsTrue (is_within 1 AREA_ENTRY (length bytes)) × (range ≡ record { start = record { 0 = RODATA }; size = rounded mpu (length bytes) })

abbrev pub places_of : List Range → List ℕ
places_of ranges = map (λ (r : Range). r.start.0) ranges

abbrev pub sizes_of : List Range → List ℕ
sizes_of ranges = map (λ (r : Range). r.size) ranges

-- Ranges stand one after another in an area, in the order of placing, and don't exceed it.
pub record ArePlaced (mpu : Mpu) (area : ℕ) (ranges : List Range) : Type 0 where
  pub starts_are : places_of ranges ≡ starts mpu area (sizes_of ranges)
  pub fit : sum (sizes_of ranges) ≤ AREA_SIZE

-- An image that a description can give. The greatest numbers of entries and of lines are kept by the lists' types.
pub record IsLawful (image : Image) : Type 0 where
  pub regions : IsTrue (is_within 4 32 image.regions)
  pub names : IsTrue (list_all is_name (names_of image))
  pub distinct : IsTrue (are_distinct_names (names_of image))
  pub rodata : RodataStands image.mpu image.rodata_bytes image.rodata
  pub pools : IsTrue (list_all (λ (p : Pool). nat_le p.size AREA_ENTRY) image.pools)
  pub partitions : IsTrue (list_all (is_lawful_partition image.mpu) image.partitions)
  pub partitions_placed : ArePlaced image.mpu PARTITION_AREA (map (λ (p : Partition). p.range) image.partitions)
  pub domains : IsTrue (list_all (λ (d : DomainDef). are_lawful_parts (most_parts image) (length image.partitions) d.parts) image.domains)
  pub objects : IsTrue (list_all (λ (o : ObjectDef). is_setup_of image.mpu o.kind o.setup) image.objects)
  pub indices : IsTrue (has_indices image.objects 0)
  pub rows : IsTrue (stand_in_rows image.objects 0)
  pub stacks_placed : ArePlaced image.mpu STACK_AREA (stack_ranges image.objects)
  pub boots : IsTrue (list_all (is_lawful_boot image) image.boots)
  pub boot_threads : IsTrue (are_distinct (map (λ (b : Boot). b.thread.0) image.boots))
  pub boot_stacks : IsTrue (are_distinct (map (λ (b : Boot). b.stack.0) image.boots))
  pub scripts : IsTrue (are_lawful_scripts image 0 image.scripts)
  pub futexes : IsTrue (list_all (is_lawful_futex image) image.futexes)
  pub futexes_apart : IsTrue (are_distinct (map (futex_addr image) image.futexes))
  pub light : weight image ≤ MOST_WEIGHT
