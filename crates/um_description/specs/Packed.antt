-- Where the variables of a description lie in its image.
use Rattle.std.specs.Prelude.{◌≡◌, ℕ, ◌+◌, ◌≤◌, List, [], ◌∷◌, length, take, drop, Option, Some, None}
use Rattle.um_base.specs.declared.image.Partition.{Partition}
use Rattle.um_document.specs.declared.description.PartitionContents.{PartitionContents}
use Rattle.um_document.specs.declared.description.PartitionEntry.{PartitionEntry}
use Rattle.um_document.specs.declared.description.VariableEntry.{VariableEntry}
use Rattle.um_description.specs.Numbers.{natural}
use Rattle.um_description.specs.Packing.{ArePacked}

-- bytes that are given stand at an offset of others
abbrev pub StandsAt : ℕ → Option (List ℕ) → List ℕ → Type 0
StandsAt offset None bytes = Unit {0}
StandsAt offset (Some given) bytes = take (length given) (drop offset bytes) ≡ given

-- A variable lies at an offset of a partition: it ends within the partition's range, and the data that it is given stands there.
pub record LiesAt (partition : Partition) (offset : ℕ) (v : VariableEntry) : Type 0 where
  pub within : offset + natural v.size ≤ partition.range.size
  pub stands : StandsAt offset v.data partition.bytes

-- each variable lies at its own offset
abbrev pub LieAt : Partition → List ℕ → List VariableEntry → Type 0
LieAt partition offsets [] = offsets ≡ []
LieAt partition [] (v ∷ vs) = ⊥
LieAt partition (offset ∷ offsets) (v ∷ vs) = LiesAt partition offset v × LieAt partition offsets vs

-- Variables lie packed in a partition of an image.
pub record LiePacked (partition : Partition) (vs : List VariableEntry) : Type 0 where
  pub offsets : List ℕ
  pub packed : ArePacked 0 vs offsets
  pub lie : LieAt partition offsets vs

-- the contents of a partition lie in that of the image
abbrev pub HasContents : Partition → PartitionContents → Type 0
HasContents partition (PartitionContents.Whole size bytes) = Unit {0}
HasContents partition (PartitionContents.Variables vs) = LiePacked partition vs

-- each partition of an image has the variables of the one that stands at its place in the description
abbrev pub HaveVariables : List Partition → List PartitionEntry → Type 0
HaveVariables partitions [] = partitions ≡ []
HaveVariables [] (p ∷ ps) = ⊥
HaveVariables (partition ∷ partitions) (p ∷ ps) = HasContents partition p.contents × HaveVariables partitions ps
