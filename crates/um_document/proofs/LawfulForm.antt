-- What a document without faults of its form describes has lawful names, and attributes that may be given.
use Rattle.std.proofs.Common.{◌≡◌, ℕ, pos, ◌+◌, Bool, true, false, not, ◌&&◌, nat_le, List, [], ◌∷◌, ◌++◌, length, map, drop, IsTrue, Option, Some, None, Ok, is_some, filter, find, cond, codes, bytes_eq, refl, ap, sym, ◌∙◌, subst}
use Rattle.std.specs.Prelude.{unwrap_or}
use Rattle.std.specs.List.{list_all, flat_map}
use Rattle.std.proofs.lemmas.Bool.{false≢true}
use Rattle.std.proofs.lemmas.List.Folds.{list_all-append}
use Rattle.toml.specs.Data.{Data, Members, Items, no_items, item, as_str, as_table}
use Rattle.um_base.specs.Lawful.{is_name, begins_with_letter, is_name_byte, is_given_attr}
use Rattle.um_document.specs.declared.check.Check.{Check}
use Rattle.um_document.specs.declared.description.Description.{Description}
use Rattle.um_document.specs.declared.description.DomainEntry.{DomainEntry}
use Rattle.um_document.specs.declared.description.FutexEntry.{FutexEntry}
use Rattle.um_document.specs.declared.description.ObjectEntry.{ObjectEntry}
use Rattle.um_document.specs.declared.description.PartitionEntry.{PartitionEntry}
use Rattle.um_document.specs.declared.description.PoolEntry.{PoolEntry}
use Rattle.um_document.specs.declared.description.ScriptEntry.{ScriptEntry}
use Rattle.um_document.specs.declared.place.Place.{Place}
use Rattle.um_document.specs.declared.shape.Form.{Form}
use Rattle.um_document.specs.declared.shape.Key.{Key}
use Rattle.um_document.specs.declared.shape.Section.{Section}
use Rattle.um_document.specs.Broken.{is_broken, broken}
use Rattle.um_document.specs.Faults.{version_faults, broken_parts, unknown_key_faults, form_faults, fault_of, ReadsDocument}
use Rattle.um_document.specs.Forms.{is_some_and}
use Rattle.um_document.specs.Parts.{◌>>=◌, Part, value_at, items_in, field_parts, further_fields, key_parts, table_parts, entry_parts, entries_parts, section_parts, top_parts, entry_sections, parts, has_version, partitions_by}
use Rattle.um_document.specs.Places.{place_text}
use Rattle.um_document.specs.Reading.{short, name_at, text_given, with_table, entries_of, attr_at, pool_of, partition_of, domain_of, object_of, script_of, futex_of, description_of}
use Rattle.um_document.specs.Shape.{section_key, section_fields}
use Rattle.um_vocabulary.specs.Words.{attr_word, given_attr_named, given_attrs}
use Rattle.um_document.specs.LawfulNames.{AreLawfulNames, has_given_attr}
use Rattle.um_document.proofs.EmptyLists.{no_front, no_back, none_mapped, and_true, both_true}

abbrev Text : Type 0
Text = List ℕ

-- ---- parts that aren't broken

not_broken_by : {A : Type 0} (b : Bool) (x : A) (xs : List A) → cond b (x ∷ xs) xs ≡ [] → IsTrue (not b) × (xs ≡ [])
not_broken_by true x xs h = absurd cc
not_broken_by false x xs h = (refl, h)

none_filtered : {A : Type 0} (q : A → Bool) (xs : List A) → filter q xs ≡ [] → IsTrue (list_all (λ (x : A). not (q x)) xs)
none_filtered q [] h = refl
none_filtered q (x ∷ xs) h =
    let both = not_broken_by (q x) x (filter q xs) h in both_true (not (q x)) (list_all (λ y. not (q y)) xs) both.0 (none_filtered q xs both.1)

abbrev stands : Check → Part → Bool
stands check p = not (is_broken check p)

all_stand : (check : Check) (t : Members) → broken_parts check t ≡ [] → IsTrue (list_all (stands check) (parts t))
unfolding broken_parts
all_stand check t h =
    none_filtered (is_broken check) (parts t)
    (none_mapped (λ (p : Part). place_text p.place) (filter (is_broken check) (parts t)) (none_mapped (fault_of check) (broken check t) h))

abbrev is_sound : Part → Bool
is_sound p = stands Check.Missing p && stands Check.WrongType p && stands Check.BadName p

all_sound : (ps : List Part) → IsTrue (list_all (stands Check.Missing) ps) → IsTrue (list_all (stands Check.WrongType) ps) → IsTrue (list_all (stands Check.BadName) ps) → IsTrue (list_all is_sound ps)
all_sound [] h k l = refl
all_sound (p ∷ ps) h k l =
    let x = and_true (stands Check.Missing p) (list_all (stands Check.Missing) ps) h in
    let y = and_true (stands Check.WrongType p) (list_all (stands Check.WrongType) ps) k in
    let z = and_true (stands Check.BadName p) (list_all (stands Check.BadName) ps) l in
    both_true (is_sound p) (list_all is_sound ps)
    (both_true (stands Check.Missing p && stands Check.WrongType p) (stands Check.BadName p) (both_true (stands Check.Missing p) (stands Check.WrongType p) x.0 y.0) z.0) (all_sound ps x.1 y.1 z.1)

sound_parts : (t : Members) → form_faults t ≡ [] → IsTrue (list_all is_sound (parts t))
sound_parts t h =
    let a = version_faults t in
    let b = broken_parts Check.Missing t in
    let c = broken_parts Check.WrongType t in
    let e = unknown_key_faults t in
    let f = broken_parts Check.BadName t in
    let f3 = no_front (a ++ b ++ c ++ e) f h in
    let f2 = no_front (a ++ b ++ c) e f3 in
    let f1 = no_front (a ++ b) c f2 in
    all_sound (parts t) (all_stand Check.Missing t (no_back a b f1)) (all_stand Check.WrongType t (no_back (a ++ b) c f2)) (all_stand Check.BadName t (no_back (a ++ b ++ c ++ e) f h))

front_all : (xs ys : List Part) → IsTrue (list_all is_sound (xs ++ ys)) → IsTrue (list_all is_sound xs)
front_all xs ys h = (and_true (list_all is_sound xs) (list_all is_sound ys) (sym (list_all-append is_sound xs ys) ∙ h)).0

back_all : (xs ys : List Part) → IsTrue (list_all is_sound (xs ++ ys)) → IsTrue (list_all is_sound ys)
back_all xs ys h = (and_true (list_all is_sound xs) (list_all is_sound ys) (sym (list_all-append is_sound xs ys) ∙ h)).1

-- ---- a name that isn't broken

abbrev name_part : Place → Option Data → Part
name_part place value = record { place = place; form = Form.Name; needed = true; value = value }

short_name : (s : Text) → IsTrue (is_name s) → short s ≡ s
short_name s h =
    let few = and_true (nat_le (length s) 24) (begins_with_letter s)
    (and_true (nat_le (length s) 24 && begins_with_letter s) (list_all is_name_byte s)
    (and_true (nat_le (length s) 24 && begins_with_letter s && list_all is_name_byte s) (not (bytes_eq s (codes "rodata"))) h).0).0 in
    rw few.0 refl

not_not : (b : Bool) → IsTrue (not (not b)) → IsTrue b
not_not true h = refl
not_not false h = h

name_by : (o : Option Text) → IsTrue (not (not (is_some o))) → IsTrue (not (is_some_and (λ s. not (is_name s)) o)) → IsTrue (is_name (short (unwrap_or o [])))
name_by None h k = absurd (false≢true h)
name_by (Some s) h k = let good = not_not (is_name s) k in ap is_name (short_name s good) ∙ good

sound_name : (place : Place) (value : Option Data) → IsTrue (is_sound (name_part place value)) → IsTrue (is_name (short (unwrap_or (value >>= as_str) [])))
sound_name place None h = absurd (false≢true h)
sound_name place (Some d) h =
    let two = and_true (stands Check.Missing (name_part place (Some d)) && stands Check.WrongType (name_part place (Some d))) (stands Check.BadName (name_part place (Some d))) h in
    name_by (as_str d) (and_true (stands Check.Missing (name_part place (Some d))) (stands Check.WrongType (name_part place (Some d))) two.0).1 two.1

-- ---- the names of a section's entries

-- each entry of the section has a name first
abbrev BeginsWithName : Section → Type 0
BeginsWithName s = (i : ℕ) (t : Members) → IsTrue (list_all is_sound (key_parts s i t)) → IsTrue (is_name (name_at t))

first_sound : (p : Part) (ps : List Part) → IsTrue (list_all is_sound (p ∷ ps)) → IsTrue (is_sound p)
first_sound p ps h = (and_true (is_sound p) (list_all is_sound ps) h).0

name_first : (s : Section) (i : ℕ) (t : Members) (rest : List Part) → IsTrue (list_all is_sound (name_part (Place.Field s i Key.Name) (value_at Key.Name t) ∷ rest)) → IsTrue (is_name (name_at t))
name_first s i t rest h = sound_name (Place.Field s i Key.Name) (value_at Key.Name t) (first_sound (name_part (Place.Field s i Key.Name) (value_at Key.Name t)) rest h)

-- the parts of an entry behind its first
abbrev behind_name : Section → ℕ → Members → List Part
behind_name s i t = flat_map (field_parts s i t) (drop 1 (section_fields s)) ++ flat_map (field_parts s i t) (further_fields s t)

-- all sections but that of the threads that are ready from the beginning
abbrev HasNames : Section → Type 0
HasNames Section.Boot = ⊥
HasNames _ = Unit {0}

begins_with_name : (s : Section) → HasNames s → BeginsWithName s
unfolding key_parts
begins_with_name Section.Boot none i t h = absurd none
begins_with_name s named i t h = name_first s i t (behind_name s i t) h

by_table : {A : Type 0} (s : Section) (f : Members → A) (name : A → Text) → ((t : Members) → name (f t) ≡ name_at t) → BeginsWithName s → (i : ℕ) (o : Option Members) (rest : List A)
    → IsTrue (list_all is_sound (table_parts s i o)) → IsTrue (list_all is_name (map name rest)) → IsTrue (list_all is_name (map name (with_table f o rest)))
by_table s f name is begins i None rest h k = k
by_table s f name is begins i (Some t) rest h k =
    both_true (is_name (name (f t))) (list_all is_name (map name rest)) (ap is_name (is t) ∙ begins i t h) k

names_in : {A : Type 0} (s : Section) (f : Members → A) (name : A → Text) → ((t : Members) → name (f t) ≡ name_at t) → BeginsWithName s → (i : ℕ) (ds : Items)
    → IsTrue (list_all is_sound (entries_parts s i ds)) → IsTrue (list_all is_name (map name (entries_of f ds)))
names_in s f name is begins i no_items h = refl
names_in s f name is begins i (item d ds) h =
    let own = front_all (entry_parts s i d) (entries_parts s (i + 1) ds) h in
    let table = (and_true (is_sound (record { place = Place.Entry s i; form = Form.Table; needed = true; value = Some d })) (list_all is_sound (table_parts s i (as_table d))) own).1 in
    by_table s f name is begins i (as_table d) (entries_of f ds) table (names_in s f name is begins (i + 1) ds (back_all (entry_parts s i d) (entries_parts s (i + 1) ds) h))

-- ---- attributes

found_by : {A : Type 0} (q : A → Bool) (b : Bool) (x blank : A) (later : Option A) → IsTrue (q x) → IsTrue (q (unwrap_or later blank)) → IsTrue (q (unwrap_or (cond b (Some x) later) blank))
found_by q true x blank later h k = h
found_by q false x blank later h k = k

found : {A : Type 0} (q test : A → Bool) (xs : List A) (blank : A) → IsTrue (list_all q xs) → IsTrue (q blank) → IsTrue (q (unwrap_or (find test xs) blank))
found q test [] blank h k = k
found q test (x ∷ xs) blank h k =
    let both = and_true (q x) (list_all q xs) h in found_by q (test x) x blank (find test xs) both.0 (found q test xs blank both.1 k)

attr_by : (o : Option Text) → IsTrue (is_given_attr (unwrap_or (o >>= given_attr_named) (record { 0 = 27 })))
attr_by None = refl
attr_by (Some s) = found is_given_attr (λ x. bytes_eq s (attr_word x)) given_attrs (record { 0 = 27 }) refl refl

attrs_by : (o : Option Members) (rest : List PartitionEntry) → IsTrue (list_all has_given_attr rest) → IsTrue (list_all has_given_attr (with_table partition_of o rest))
attrs_by None rest h = h
attrs_by (Some t) rest h = both_true (is_given_attr (attr_at t)) (list_all has_given_attr rest) (attr_by (text_given Key.Attr t)) h

attrs_in : (ds : Items) → IsTrue (list_all has_given_attr (entries_of partition_of ds))
attrs_in no_items = refl
attrs_in (item d ds) = attrs_by (as_table d) (entries_of partition_of ds) (attrs_in ds)

-- ---- the whole

abbrev listed : Section → Members → Items
listed s t = items_in (value_at (section_key s) t)

-- the names of partitions of either form
partition_names : (packed : Bool) (t : Members) → IsTrue (list_all is_sound (section_parts t (partitions_by packed)))
    → IsTrue (list_all is_name (map (λ (p : PartitionEntry). p.name) (entries_of partition_of (listed Section.Partition t))))
partition_names true t h = names_in Section.PackedPartition partition_of (λ (p : PartitionEntry). p.name) (λ u. refl) (begins_with_name Section.PackedPartition tt) 0 (listed Section.PackedPartition t) h
partition_names false t h = names_in Section.Partition partition_of (λ (p : PartitionEntry). p.name) (λ u. refl) (begins_with_name Section.Partition tt) 0 (listed Section.Partition t) h

pub lawful_names : (t : Members) → form_faults t ≡ [] → AreLawfulNames (description_of t)
unfolding entry_sections
lawful_names t h =
    let a = section_parts t Section.Pool in
    let packed = has_version (pos 2) t in
    let b = section_parts t (partitions_by packed) in
    let c = section_parts t Section.Domain in
    let e = section_parts t Section.Object in
    let f = section_parts t Section.Boot in
    let g = section_parts t Section.Script in
    let k = section_parts t Section.Futex in
    let r0 : IsTrue (list_all is_sound (a ++ (b ++ (c ++ (e ++ (f ++ (g ++ (k ++ [])))))))) = back_all (top_parts t) (entry_sections t) (sound_parts t h) in
    let r1 = back_all a (b ++ (c ++ (e ++ (f ++ (g ++ (k ++ [])))))) r0 in
    let r2 = back_all b (c ++ (e ++ (f ++ (g ++ (k ++ []))))) r1 in
    let r3 = back_all c (e ++ (f ++ (g ++ (k ++ [])))) r2 in
    let r4 = back_all e (f ++ (g ++ (k ++ []))) r3 in
    let r5 = back_all f (g ++ (k ++ [])) r4 in
    let r6 = back_all g (k ++ []) r5 in
    record {
      pools = names_in Section.Pool pool_of (λ (p : PoolEntry). p.name) (λ u. refl) (begins_with_name Section.Pool tt) 0 (listed Section.Pool t) (front_all a (b ++ (c ++ (e ++ (f ++ (g ++ (k ++ [])))))) r0);
      partitions = partition_names packed t (front_all b (c ++ (e ++ (f ++ (g ++ (k ++ []))))) r1);
      domains = names_in Section.Domain domain_of (λ (m : DomainEntry). m.name) (λ u. refl) (begins_with_name Section.Domain tt) 0 (listed Section.Domain t) (front_all c (e ++ (f ++ (g ++ (k ++ [])))) r2);
      objects = names_in Section.Object object_of (λ (o : ObjectEntry). o.name) (λ u. refl) (begins_with_name Section.Object tt) 0 (listed Section.Object t) (front_all e (f ++ (g ++ (k ++ []))) r3);
      scripts = names_in Section.Script script_of (λ (s : ScriptEntry). s.name) (λ u. refl) (begins_with_name Section.Script tt) 0 (listed Section.Script t) (front_all g (k ++ []) r5);
      futexes = names_in Section.Futex futex_of (λ (x : FutexEntry). x.name) (λ u. refl) (begins_with_name Section.Futex tt) 0 (listed Section.Futex t) (front_all k [] r6);
      attributes = attrs_in (listed Section.Partition t);
    }

-- what is read from a text has lawful names
pub read_lawful : (d : Description) (text : List ℕ) → ReadsDocument (Ok d) text → AreLawfulNames d
read_lawful d text (t, is, none, same) = subst (λ (x : Description). AreLawfulNames x) (sym same) (lawful_names t none)
