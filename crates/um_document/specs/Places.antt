-- How a place in a description is written.
use Rattle.std.specs.Prelude.{ℕ, List, ◌++◌, codes, decimal}
use Rattle.um_document.specs.declared.place.Place.{Place}
use Rattle.um_document.specs.declared.shape.Key.{Key}
use Rattle.um_document.specs.declared.shape.Section.{Section}
use Rattle.um_document.specs.Shape.{word, section_key}

-- `SECTION[i]`, counted from 0
abbrev pub entry_text : Section → ℕ → List ℕ
entry_text s i = word (section_key s) ++ codes "[" ++ decimal i ++ codes "]"

-- a key of an entry
abbrev pub key_text : Section → ℕ → List ℕ → List ℕ
key_text s i key = entry_text s i ++ codes "." ++ key

-- a key of the j-th variable of the i-th partition
abbrev pub variable_text : ℕ → ℕ → List ℕ → List ℕ
variable_text i j key = key_text Section.PackedPartition i (word Key.Vars) ++ codes "[" ++ decimal j ++ codes "]." ++ key

-- `KEY` at the top, `SECTION[i]`, `SECTION[i].KEY`, `SECTION[i].KEY[j]` and `partition[i].vars[j].KEY`
abbrev pub place_text : Place → List ℕ
place_text (Place.Top key) = word key
place_text (Place.Entry s i) = entry_text s i
place_text (Place.Field s i key) = key_text s i (word key)
place_text (Place.Item s i key j) = key_text s i (word key) ++ codes "[" ++ decimal j ++ codes "]"
place_text (Place.Variable i j key) = variable_text i j (word key)
