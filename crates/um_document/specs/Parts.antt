-- All parts of a document, in the order of the shape: what stands at each place, and what has to stand there.
use Rattle.std.specs.Prelude.{ℕ, ℤ, pos, ◌+◌, List, [], ◌∷◌, ◌++◌, map, flat_map, Bool, true, false, if◌then◌else◌, is_some, Option, Some, None}
use Rattle.std.specs.Ordering.{int_eq}
use Rattle.toml.specs.Data.{Data, as_str, as_integer, as_array, as_table, Items, no_items, item, Members, get_member}
use Rattle.um_base.specs.declared.names.Kind.{Kind}
use Rattle.um_document.specs.declared.place.Place.{Place}
use Rattle.um_document.specs.declared.shape.Form.{Form}
use Rattle.um_document.specs.declared.shape.Key.{Key}
use Rattle.um_document.specs.declared.shape.Need.{Need}
use Rattle.um_document.specs.declared.shape.Section.{Section}
use Rattle.um_document.specs.Forms.{is_some_and}
use Rattle.um_document.specs.Shape.{Field, word, top_fields, sections_with, section_key, section_fields, variable_fields, kind_fields}
use Rattle.um_vocabulary.specs.Words.{kind_named}

infixl 10 ◌>>=◌
abbrev pub ◌>>=◌ : {A B : Type 0} → Option A → (A → Option B) → Option B
None >>= f = None
(Some x) >>= f = f x

-- the value at a key of a table
abbrev pub value_at : Key → Members → Option Data
value_at key t = get_member (word key) t

-- a place, the form of what stands there, whether something has to, and what does
pub record Part : Type 0 where
  pub place : Place
  pub form : Form
  pub needed : Bool
  pub value : Option Data

abbrev pub is_needed : Need → Members → Bool
is_needed Need.Required t = true
is_needed Need.Optional t = false
is_needed (Need.With key) t = is_some (value_at key t)

abbrev pub top_part : Members → Field → Part
top_part t f = record { place = Place.Top f.0; form = f.1; needed = is_needed f.2 t; value = value_at f.0 t }

-- the items of a list of texts, from the j-th on
abbrev pub item_parts : Section → ℕ → Key → ℕ → Items → List Part
item_parts s i key j no_items = []
item_parts s i key j (item d ds) =
    record { place = Place.Item s i key j; form = Form.Text; needed = true; value = Some d } ∷ item_parts s i key (j + 1) ds

-- the items of an array, where there is one
abbrev pub items_of_array : Option Items → Items
items_of_array None = no_items
items_of_array (Some ds) = ds

abbrev pub items_in : Option Data → Items
items_in v = items_of_array (v >>= as_array)

-- what each of some items gives, with its number, counted from i on
abbrev pub each_item : {A : Type 0} → (ℕ → Data → List A) → ℕ → Items → List A
each_item f i no_items = []
each_item f i (item d ds) = f i d ++ each_item f (i + 1) ds

-- a key of the j-th variable of the i-th partition
abbrev pub variable_part : ℕ → ℕ → Members → Field → Part
variable_part i j t f = record { place = Place.Variable i j f.0; form = f.1; needed = is_needed f.2 t; value = value_at f.0 t }

unfoldable pub variable_keys : ℕ → ℕ → Members → List Part
variable_keys i j t = map (variable_part i j t) variable_fields

abbrev pub variable_table : ℕ → ℕ → Option Members → List Part
variable_table i j None = []
variable_table i j (Some t) = variable_keys i j t

-- a variable, and its keys where it is a table
abbrev pub variable_parts : ℕ → ℕ → Data → List Part
variable_parts i j d =
    record { place = Place.Item Section.PackedPartition i Key.Vars j; form = Form.Table; needed = true; value = Some d }
    ∷ variable_table i j (as_table d)

-- the items of the list at a key of the i-th entry of a section: texts, or a partition's variables
abbrev pub parts_below : Section → ℕ → Key → Form → Items → List Part
parts_below s i key Form.Texts ds = item_parts s i key 0 ds
parts_below s i key Form.Variables ds = each_item (variable_parts i) 0 ds
parts_below s i key _ ds = []

-- a key of the i-th entry of a section, and the items of its list
abbrev pub field_parts : Section → ℕ → Members → Field → List Part
field_parts s i t f =
    record { place = Place.Field s i f.0; form = f.1; needed = is_needed f.2 t; value = value_at f.0 t }
    ∷ parts_below s i f.0 f.1 (items_in (value_at f.0 t))

-- the kind of an object, where its `kind` is a kind's word
abbrev pub kind_of : Members → Option Kind
kind_of t = (value_at Key.Kind t >>= as_str) >>= kind_named

abbrev pub fields_of_kind : Option Kind → List Field
fields_of_kind None = []
fields_of_kind (Some kind) = kind_fields kind

-- the keys that an entry has beside those of each entry: an object has those of its kind
abbrev pub further_fields : Section → Members → List Field
further_fields Section.Object t = fields_of_kind (kind_of t)
further_fields _ t = []

unfoldable pub key_parts : Section → ℕ → Members → List Part
key_parts s i t = flat_map (field_parts s i t) (section_fields s) ++ flat_map (field_parts s i t) (further_fields s t)

abbrev pub table_parts : Section → ℕ → Option Members → List Part
table_parts s i None = []
table_parts s i (Some t) = key_parts s i t

-- an entry, and its keys where it is a table
abbrev pub entry_parts : Section → ℕ → Data → List Part
entry_parts s i d = record { place = Place.Entry s i; form = Form.Table; needed = true; value = Some d } ∷ table_parts s i (as_table d)

-- the entries of a section, from the i-th on
abbrev pub entries_parts : Section → ℕ → Items → List Part
entries_parts s i ds = each_item (entry_parts s) i ds

abbrev pub section_parts : Members → Section → List Part
section_parts t s = entries_parts s 0 (items_in (value_at (section_key s) t))

-- the keys at the top
unfoldable pub top_parts : Members → List Part
top_parts t = map (top_part t) top_fields

-- the document's `version` is this integer
abbrev pub has_version : ℤ → Members → Bool
has_version n t = is_some_and (λ z. int_eq z n) (value_at Key.Version t >>= as_integer)

-- what partitions are: packed of variables, or not
abbrev pub partitions_by : Bool → Section
partitions_by packed = if packed then Section.PackedPartition else Section.Partition

-- the sections of a document: those of its version
abbrev pub sections : Members → List Section
sections t = sections_with (partitions_by (has_version (pos 2) t))

-- the sections, one after the other
unfoldable pub entry_sections : Members → List Part
entry_sections t = flat_map (section_parts t) (sections t)

-- the keys at the top, and then the sections
abbrev pub parts : Members → List Part
parts t = top_parts t ++ entry_sections t
