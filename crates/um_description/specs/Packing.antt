-- How variables are packed into a partition: each at the least multiple of its alignment that is no less than the end of the one before it.
use Rattle.std.specs.Prelude.{◌≡◌, ℕ, ◌+◌, ◌-◌, ◌%◌, ◌≤◌, List, [], ◌∷◌, ◌++◌, length, replicate, if◌then◌else◌, bytes_eq, Option, Some, None}
use Rattle.std.specs.Int.{next_multiple_of}
use Rattle.um_document.specs.declared.description.Alignment.{Alignment}
use Rattle.um_document.specs.declared.description.PartitionContents.{PartitionContents}
use Rattle.um_document.specs.declared.description.PartitionEntry.{PartitionEntry}
use Rattle.um_document.specs.declared.description.VariableEntry.{VariableEntry}
use Rattle.um_document.specs.Words.{alignment_bytes}
use Rattle.um_description.specs.Names.{Text}
use Rattle.um_description.specs.Numbers.{natural, bounded, clamped}

-- where a variable behind so many bytes begins, and where it ends
abbrev pub offset_of : ℕ → VariableEntry → ℕ
offset_of end v = next_multiple_of end (alignment_bytes v.align)

abbrev pub end_of : ℕ → VariableEntry → ℕ
end_of end v = offset_of end v + natural v.size

-- the offsets of variables behind so many bytes
abbrev pub offsets_from : ℕ → List VariableEntry → List ℕ
offsets_from end [] = []
offsets_from end (v ∷ vs) = offset_of end v ∷ offsets_from (end_of end v) vs

-- the offsets of a partition's variables
abbrev pub offsets : List VariableEntry → List ℕ
offsets vs = offsets_from 0 vs

-- the end of the last of variables behind so many bytes
abbrev pub last_end : ℕ → List VariableEntry → ℕ
last_end end [] = end
last_end end (v ∷ vs) = last_end (end_of end v) vs

-- the size of a partition of these variables: the end of the last
abbrev pub size_of : List VariableEntry → ℕ
size_of vs = bounded (last_end 0 vs)

-- bytes, and behind them the data of a variable at its offset, with zeros between
abbrev pub with_data : List ℕ → ℕ → Option (List ℕ) → List ℕ
with_data bytes offset None = bytes
with_data bytes offset (Some given) = bytes ++ replicate (offset - length bytes) 0 ++ given

abbrev pub bytes_from : List ℕ → ℕ → List VariableEntry → List ℕ
bytes_from bytes end [] = bytes
bytes_from bytes end (v ∷ vs) = bytes_from (with_data bytes (offset_of end v) v.data) (end_of end v) vs

-- the bytes of a partition of these variables, up to the end of the last data that is given
abbrev pub bytes_of : List VariableEntry → List ℕ
bytes_of vs = bytes_from [] 0 vs

-- the offset of the variable with this name among variables behind so many bytes
abbrev pub offset_named : Text → ℕ → List VariableEntry → Option ℕ
offset_named name end [] = None
offset_named name end (v ∷ vs) = if bytes_eq name v.name then Some (bounded (offset_of end v)) else offset_named name (end_of end v) vs

-- the size that a partition asks for, and the bytes at its start
abbrev pub size_by : PartitionContents → ℕ
size_by (PartitionContents.Whole size bytes) = clamped size
size_by (PartitionContents.Variables vs) = size_of vs

abbrev pub asked_size : PartitionEntry → ℕ
asked_size p = size_by p.contents

abbrev pub bytes_by : PartitionContents → List ℕ
bytes_by (PartitionContents.Whole size bytes) = bytes
bytes_by (PartitionContents.Variables vs) = bytes_of vs

abbrev pub first_bytes : PartitionEntry → List ℕ
first_bytes p = bytes_by p.contents

-- The law of packing.

-- the offset is a multiple of the alignment, no less than the end of what stands before, and the least such number
pub record IsLeastOffset (end : ℕ) (align : Alignment) (offset : ℕ) : Type 0 where
  pub aligned : offset % alignment_bytes align ≡ 0
  pub behind : end ≤ offset
  pub least : (other : ℕ) → other % alignment_bytes align ≡ 0 → end ≤ other → offset ≤ other

-- these are the offsets of variables behind so many bytes: apart, in their order, aligned, and none could stand lower
abbrev pub ArePacked : ℕ → List VariableEntry → List ℕ → Type 0
ArePacked end [] offsets = offsets ≡ []
ArePacked end (v ∷ vs) [] = ⊥
ArePacked end (v ∷ vs) (offset ∷ offsets) = IsLeastOffset end v.align offset × ArePacked (offset + natural v.size) vs offsets
