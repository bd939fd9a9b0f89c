-- The keys of a document that mean nothing at their places.
use Rattle.std.specs.Prelude.{ℕ, List, [], ◌∷◌, ◌++◌, map, flat_map, filter, bytes_eq, Bool, not, ◌&&◌, Option, Some, None}
use Rattle.std.specs.List.{list_any}
use Rattle.toml.specs.Data.{Data, as_table, Items, Members, no_members, member}
use Rattle.um_base.specs.declared.names.Kind.{Kind}
use Rattle.um_document.specs.declared.shape.Key.{Key}
use Rattle.um_document.specs.declared.shape.Section.{Section}
use Rattle.um_document.specs.Parts.{value_at, items_in, each_item, kind_of, sections}
use Rattle.um_document.specs.Places.{key_text, variable_text}
use Rattle.um_document.specs.Shape.{Field, word, top_fields, section_key, section_fields, variable_fields, kind_fields}
use Rattle.um_vocabulary.specs.Words.{kinds}

-- one of the keys is written so
abbrev pub is_key : List Field → List ℕ → Bool
is_key fields text = list_any (λ (f : Field). bytes_eq text (word f.0)) fields

-- the keys of this kind, and those of all kinds
abbrev pub fields_of_any : Option Kind → List Field
fields_of_any None = flat_map kind_fields kinds
fields_of_any (Some kind) = kind_fields kind

-- the further keys that may stand in an entry: in an object those of its kind, and of any kind where it has none
abbrev pub known_further : Section → Members → List Field
known_further Section.Object t = fields_of_any (kind_of t)
known_further _ t = []

-- the keys of a table, in the order of their bytes
abbrev pub keys_of : Members → List (List ℕ)
keys_of no_members = []
keys_of (member text d ms) = text ∷ keys_of ms

-- those that stand in neither list
abbrev pub strays : List Field → List Field → Members → List (List ℕ)
strays fields further t = filter (λ text. not (is_key fields text) && not (is_key further text)) (keys_of t)

-- those of the j-th variable of the i-th partition
abbrev pub strays_of_variable_table : ℕ → ℕ → Option Members → List (List ℕ)
strays_of_variable_table i j None = []
strays_of_variable_table i j (Some t) = map (variable_text i j) (strays variable_fields [] t)

abbrev pub strays_of_variable : ℕ → ℕ → Data → List (List ℕ)
strays_of_variable i j d = strays_of_variable_table i j (as_table d)

-- those below an entry: of a partition those of its variables
unfoldable pub strays_below : Section → ℕ → Members → List (List ℕ)
strays_below Section.PackedPartition i t = each_item (strays_of_variable i) 0 (items_in (value_at Key.Vars t))
strays_below _ i t = []

-- an entry's own
unfoldable pub own_strays : Section → ℕ → Members → List (List ℕ)
own_strays s i t = map (key_text s i) (strays (section_fields s) (known_further s t) t)

abbrev pub strays_of_entry : Section → ℕ → Members → List (List ℕ)
strays_of_entry s i t = own_strays s i t ++ strays_below s i t

abbrev pub strays_of_table : Section → ℕ → Option Members → List (List ℕ)
strays_of_table s i None = []
strays_of_table s i (Some t) = strays_of_entry s i t

-- those of the entries of a section, from the i-th on
abbrev pub strays_of_entries : Section → ℕ → Items → List (List ℕ)
strays_of_entries s i ds = each_item (λ j d. strays_of_table s j (as_table d)) i ds

abbrev pub strays_of_section : Members → Section → List (List ℕ)
strays_of_section t s = strays_of_entries s 0 (items_in (value_at (section_key s) t))

unfoldable pub strays_at_top : Members → List (List ℕ)
strays_at_top t = strays top_fields [] t

unfoldable pub strays_of_sections : Members → List (List ℕ)
strays_of_sections t = flat_map (strays_of_section t) (sections t)

-- the places of all keys that mean nothing: those at the top, and then those of the sections
abbrev pub unknown_keys : Members → List (List ℕ)
unknown_keys t = strays_at_top t ++ strays_of_sections t
