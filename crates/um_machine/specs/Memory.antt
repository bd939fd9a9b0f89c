-- Memory: its bytes, and what a thread may do there.
use Rattle.std.specs.Prelude.{ℕ, zero, suc, ◌+◌, ◌-◌, ◌*◌, Bool, ◌==◌, nat_lt, if◌then◌else◌, List, [], ◌∷◌, ◌++◌, length, replicate, take, drop, Option, Some, None, slice_index, slice_index_or, slice_set}
use Rattle.std.specs.Int.{to_le_bytes, w32}
use Rattle.um_base.specs.declared.names.Access.{Access}
use Rattle.um_base.specs.declared.names.Range.{Range}
use Rattle.um_base.specs.declared.act.Found.{Found}
use Rattle.um_base.specs.declared.image.Image.{Image}
use Rattle.um_base.specs.declared.limits.TheConstants.{RODATA, PARTITION_AREA, STACK_AREA}
use Rattle.um_base.specs.Regions.{Partitions, Region, regions, regions_allow}
use Rattle.um_machine.specs.State.{State, thread_at}

-- the lowest n bytes of a number, the lowest first
abbrev pub le_bytes : ℕ → ℕ → List ℕ
le_bytes n value = take n (to_le_bytes w32 value)

abbrev pub le_value : List ℕ → ℕ
le_value [] = 0
le_value (b ∷ bs) = b + 256 * le_value bs

-- the bytes of the read-only data: zero behind those that the description gives
abbrev pub range_size : Option Range → ℕ
range_size None = 0
range_size (Some range) = range.size

abbrev pub rodata_of : Image → List ℕ
rodata_of image = image.rodata_bytes ++ replicate (range_size image.rodata - length image.rodata_bytes) 0

-- n bytes from an address on, which lie in one area
abbrev pub bytes_at : State → ℕ → ℕ → List ℕ
bytes_at s a n =
    if nat_lt a PARTITION_AREA then take n (drop (a - RODATA) (rodata_of s.image))
    else if nat_lt a STACK_AREA then take n (drop (a - PARTITION_AREA) s.memory)
    else take n (drop (a - STACK_AREA) s.stacks)

-- bytes written one after another
abbrev pub put_bytes : List ℕ → ℕ → List ℕ → List ℕ
put_bytes memory i [] = memory
put_bytes memory i (b ∷ bs) = put_bytes (slice_set memory i b) (i + 1) bs

-- the memory after bytes are written from an address on
abbrev pub with_bytes : State → ℕ → List ℕ → State
with_bytes s a bytes =
    if nat_lt a STACK_AREA then record s { memory = put_bytes s.memory (a - PARTITION_AREA) bytes }
    else record s { stacks = put_bytes s.stacks (a - STACK_AREA) bytes }

abbrev pub parts_or_none : Option Partitions → Partitions
parts_or_none None = []
parts_or_none (Some parts) = parts

abbrev pub partitions_of : State → ℕ → Partitions
partitions_of s domain = parts_or_none (slice_index_or s.domains domain None)

-- the regions that a thread reaches
abbrev pub regions_of : State → ℕ → List Region
regions_of s t = let thread = thread_at s t in regions s.image thread.mode thread.stack.0 (partitions_of s thread.domain)

-- whether a thread may do this with n bytes from an address on
abbrev pub allowed : State → ℕ → Access → ℕ → ℕ → Bool
allowed s t access a n = regions_allow (regions_of s t) access a n

-- a string read that has still a limit of bytes, from an address on, after `before` bytes
abbrev pub string_from : State → ℕ → ℕ → ℕ → ℕ → Found
string_from s t a zero before = Found.TooLong
string_from s t a (suc limit) before =
    if allowed s t Access.Read a 1
    then (if slice_index (bytes_at s a 1) 0 == 0 then Found.Length before else string_from s t (a + 1) limit (before + 1))
    else Found.Unreadable

-- what a string read finds: the number of bytes before the first zero
abbrev pub string_read : State → ℕ → ℕ → ℕ → Found
string_read s t a limit = string_from s t a limit 0

-- the bytes of a string, each by itself: it may begin at the end of one area and go on in the next
abbrev pub string_bytes : State → ℕ → ℕ → List ℕ
string_bytes s a zero = []
string_bytes s a (suc n) = slice_index (bytes_at s a 1) 0 ∷ string_bytes s (a + 1) n
