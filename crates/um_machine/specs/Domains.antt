-- Memory domains: which partitions one may hold, and what its calls answer (Zephyr: User Mode, Memory Protection Design).
use Rattle.std.specs.Prelude.{ℕ, ◌+◌, ◌%◌, ◌^◌, Bool, ◌==◌, ◌&&◌, ◌||◌, not, nat_lt, nat_le, if◌then◌else◌, [], ◌∷◌, ◌++◌, length, filter, Option, Some, None, Result, Ok, Err, slice_get}
use Rattle.std.specs.List.{list_any}
use Rattle.um_base.specs.declared.names.Access.TheVariants as Access
use Rattle.um_base.specs.declared.attr.Attr.{Attr}
use Rattle.um_base.specs.declared.names.Errno.{Errno}
use Rattle.um_base.specs.declared.names.Mode.{Mode}
use Rattle.um_base.specs.declared.names.Mpu.{Mpu}
use Rattle.um_base.specs.declared.names.PartRef.{PartRef}
use Rattle.um_base.specs.declared.names.Range.{Range}
use Rattle.um_base.specs.declared.names.Reply.{Reply}
use Rattle.um_base.specs.declared.image.Image.{Image}
use Rattle.um_base.specs.declared.image.Partition.{Partition}
use Rattle.um_base.specs.declared.limits.TheConstants.{PARTITION_AREA, STACK_AREA}
use Rattle.um_base.specs.Regions.{Partitions, attr_allows}

abbrev pub is_power_of_two : ℕ → Bool
is_power_of_two n =
    list_any (λ k. n == 2 ^ k) (0 ∷ 1 ∷ 2 ∷ 3 ∷ 4 ∷ 5 ∷ 6 ∷ 7 ∷ 8 ∷ 9 ∷ 10 ∷ 11 ∷ 12 ∷ 13 ∷ 14 ∷ 15 ∷ 16 ∷ 17 ∷ 18 ∷ 19 ∷ 20 ∷ 21 ∷ 22 ∷ 23 ∷ 24 ∷ 25 ∷ 26 ∷ 27 ∷ 28 ∷ 29 ∷ 30 ∷ 31 ∷ [])

-- whether a range, whose size isn't 0, is one that the unit can guard
abbrev pub is_guardable : Mpu → Range → Bool
is_guardable Mpu.V7 range = is_power_of_two range.size && nat_le 32 range.size && range.start.0 % range.size == 0
is_guardable Mpu.V8 range = range.start.0 % 32 == 0 && range.size % 32 == 0

-- whether an attribute lets the same part write and execute
abbrev pub writes_and_executes : Attr → Mode → Bool
writes_and_executes attr mode = attr_allows attr mode Access.Write && attr_allows attr mode Access.Exec

abbrev pub overlaps : Range → Range × Attr → Bool
overlaps range part = nat_lt range.start.0 (part.0.start.0 + part.0.size) && nat_lt part.0.start.0 (range.start.0 + range.size)

-- whether a partition can't be added to these
abbrev pub is_bad : Mpu → Partitions → Range × Attr → Bool
is_bad mpu parts part =
    let start = part.0.start.0 in
    let size = part.0.size in
    size == 0 || nat_lt (2 ^ 32) (start + size) || nat_lt start PARTITION_AREA || nat_lt STACK_AREA (start + size) || not (is_guardable mpu part.0)
    || writes_and_executes part.1 Mode.User || writes_and_executes part.1 Mode.Supervisor || list_any (overlaps part.0) parts

-- the partitions after these are added to those before, unless one is bad
abbrev pub added_all : Mpu → Partitions → Partitions → Result Partitions Errno
added_all mpu before [] = Ok before
added_all mpu before (part ∷ parts) = if is_bad mpu before part then Err Errno.EINVAL else added_all mpu (before ++ part ∷ []) parts

-- what an initialisation makes of a domain
abbrev pub initialised : Mpu → ℕ → Option Partitions → Partitions → Result Partitions Errno
initialised mpu most (Some parts) new = Err Errno.EINVAL
initialised mpu most None new = if nat_lt most (length new) then Err Errno.EINVAL else added_all mpu [] new

-- what adding a partition makes of a domain
abbrev pub added : Mpu → ℕ → Option Partitions → Range × Attr → Result Partitions Errno
added mpu most None part = Err Errno.EINVAL
added mpu most (Some parts) part =
    if is_bad mpu parts part then Err Errno.EINVAL else if nat_le most (length parts) then Err Errno.ENOSPC else Ok (parts ++ part ∷ [])

abbrev pub is_same_range : Range → Range × Attr → Bool
is_same_range range part = part.0.start.0 == range.start.0 && part.0.size == range.size

-- what removing a partition makes of a domain
abbrev pub removed : Option Partitions → Range → Result Partitions Errno
removed None range = Err Errno.EINVAL
removed (Some parts) range =
    if list_any (is_same_range range) parts then Ok (filter (λ part. not (is_same_range range part)) parts) else Err Errno.ENOENT

-- the answer of a call
abbrev pub reply_to : Result Partitions Errno → Reply
reply_to (Ok parts) = Reply.Num 0
reply_to (Err e) = Reply.Fail e

-- the domain after a call: a refusal changes nothing
abbrev pub domain_after : Option Partitions → Result Partitions Errno → Option Partitions
domain_after before (Ok parts) = Some parts
domain_after before (Err e) = before

-- a blank partition
abbrev pub no_part : Range × Attr
no_part = (record { start = record { 0 = 0 }; size = 0 }, record { 0 = 0 })

abbrev pub part_at : Option Partition → Range × Attr
part_at None = no_part
part_at (Some partition) = (partition.range, partition.attr)

-- the partition that an instruction names
abbrev pub part_named : Image → PartRef → Range × Attr
part_named image (PartRef.Named name) = no_part
part_named image (PartRef.At i) = part_at (slice_get image.partitions i)
part_named image (PartRef.Given range attr) = (range, attr)
