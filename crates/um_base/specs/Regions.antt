-- The regions of memory that a thread reaches (Zephyr: User Mode, Memory Protection Design).
use Rattle.std.specs.Prelude.{ℕ, ◌+◌, ◌/◌, ◌%◌, ◌^◌, Bool, true, false, ◌==◌, ◌&&◌, ◌||◌, nat_le, List, [], ◌∷◌, ◌++◌, map, Option, Some, None}
use Rattle.std.specs.List.{flat_map, list_any}
use Rattle.um_base.specs.declared.attr.Attr.{Attr}
use Rattle.um_base.specs.declared.names.Access.{Access}
use Rattle.um_base.specs.declared.names.Mode.{Mode}
use Rattle.um_base.specs.declared.names.Range.{Range}
use Rattle.um_base.specs.declared.image.Image.{Image}
use Rattle.um_base.specs.declared.image.ObjectDef.{ObjectDef}
use Rattle.um_base.specs.declared.image.Setup.{Setup}
use Rattle.um_base.specs.Places.{setup_at}

-- the partitions of a domain, in the order of adding
abbrev pub Partitions : Type 0
Partitions = List (Range × Attr)

-- a part of memory, and what may be done there
pub record Region : Type 0 where
  pub start : ℕ
  pub size : ℕ
  pub rights : Access → Bool

abbrev pub read_only : Access → Bool
read_only access = elim access as (λ _. Bool) [ Access.Read ↦ true | _ ↦ false ]

abbrev pub read_write : Access → Bool
read_write access = elim access as (λ _. Bool) [ Access.Exec ↦ false | _ ↦ true ]

-- the bit of a right in a partition's attribute
abbrev pub right_bit : Mode → Access → ℕ
right_bit Mode.Supervisor Access.Read = 1
right_bit Mode.Supervisor Access.Write = 2
right_bit Mode.Supervisor Access.Exec = 4
right_bit Mode.User Access.Read = 8
right_bit Mode.User Access.Write = 16
right_bit Mode.User Access.Exec = 32

abbrev pub attr_allows : Attr → Mode → Access → Bool
attr_allows attr mode access = attr.0 / right_bit mode access % 2 == 1

abbrev pub partition_region : Mode → Range × Attr → Region
partition_region mode part = record { start = part.0.start.0; size = part.0.size; rights = attr_allows part.1 mode }

-- the range of a thread stack
abbrev pub stack_range : Setup → Option Range
stack_range (Setup.ThreadStack range declared) = Some range
stack_range _ = None

abbrev pub range_region : (Access → Bool) → Option Range → List Region
range_region rights None = []
range_region rights (Some range) = record { start = range.start.0; size = range.size; rights = rights } ∷ []

abbrev pub all_stacks : Image → List Region
all_stacks image = flat_map (λ (o : ObjectDef). range_region read_write (stack_range o.setup)) image.objects

-- the stacks that a thread reaches: a user's own, a supervisor's all
abbrev pub stack_regions : Image → Mode → ℕ → List Region
stack_regions image Mode.User stack = range_region read_write (stack_range (setup_at image stack))
stack_regions image Mode.Supervisor stack = all_stacks image

-- the regions of a thread with this mode, the stack of this row, and the partitions of its domain: stacks, partitions, and the read-only data
abbrev pub regions : Image → Mode → ℕ → Partitions → List Region
regions image mode stack parts =
    stack_regions image mode stack ++ map (partition_region mode) parts ++ range_region read_only image.rodata

-- whether a region has the right, and contains n bytes from an address on
abbrev pub region_allows : Access → ℕ → ℕ → Region → Bool
region_allows access a n region = region.rights access && nat_le region.start a && nat_le (a + n) (region.start + region.size)

-- whether regions allow this with n bytes from an address on: none is allowed anywhere, and more only within one region
abbrev pub regions_allow : List Region → Access → ℕ → ℕ → Bool
regions_allow all access a n = (n == 0) || (nat_le (a + n) (2 ^ 32) && list_any (region_allows access a n) all)
