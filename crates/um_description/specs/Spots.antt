-- Where variables stand: the number of a partition, and the offset in it.
use Rattle.std.specs.Prelude.{ℕ, ◌+◌, List, [], ◌∷◌, Option, Some, None, option_map, Vec, bytes_eq}
use Rattle.std.specs.HashMap.{HashMap, get_by}
use Rattle.std.specs.declared.alloc.Global.{Global}
use Rattle.um_document.specs.declared.description.PartitionEntry.{PartitionEntry}
use Rattle.um_description.specs.declared.spots.Spot.{Spot}
use Rattle.um_description.specs.Names.{Text, variables_of}
use Rattle.um_description.specs.Packing.{offset_named}

-- a spot, or else another
abbrev pub or_else : Option Spot → Option Spot → Option Spot
or_else None other = other
or_else (Some spot) other = Some spot

-- an offset in the i-th partition
abbrev pub spot_at : ℕ → Option ℕ → Option Spot
spot_at i offset = option_map (λ (o : ℕ). record { partition = i; offset = o }) offset

-- the spot of the first variable with this name in partitions from the i-th on
abbrev pub spot_of : Text → ℕ → List PartitionEntry → Option Spot
spot_of name i [] = None
spot_of name i (p ∷ ps) = or_else (spot_at i (offset_named name 0 (variables_of p.contents))) (spot_of name (i + 1) ps)

-- the spot that is kept for a name
abbrev pub spot_in : {S : Type 0} → HashMap (Vec ℕ Global) Spot S → Text → Option Spot
spot_in spots name = get_by (λ (key : Vec ℕ Global). bytes_eq name key.items) spots
