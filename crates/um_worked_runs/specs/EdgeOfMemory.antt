-- Regions that end where the addresses end.
use Rattle.std.specs.Prelude.{◌≡◌, true, false, List, [], ◌∷◌, refl}
use Rattle.um_base.specs.declared.names.Access.TheVariants as Access
use Rattle.um_base.specs.declared.names.Mode.TheVariants as Mode
use Rattle.um_base.specs.Regions.{Region, partition_region, regions_allow}
use Rattle.um_worked_runs.specs.Words.{range, rights}

-- a user's part of a partition of the last 32 bytes
abbrev pub last_bytes : List Region
last_bytes = partition_region Mode.User (range 0xffffffe0 32, rights 27) ∷ []

pub up_to_the_end : regions_allow last_bytes Access.Write 0xfffffff0 16 ≡ true
up_to_the_end = refl

pub past_the_end : regions_allow last_bytes Access.Write 0xfffffff0 17 ≡ false
past_the_end = refl

-- an empty range is allowed anywhere
pub nothing_read : regions_allow last_bytes Access.Read 0 0 ≡ true
nothing_read = refl
