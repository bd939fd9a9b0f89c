-- Printed objects are read back as the same entries, without a fault of their form.
use Rattle.std.proofs.Common.{◌≡◌, ℕ, ◌+◌, Bool, true, false, not, ◌&&◌, nat_le, List, [], ◌∷◌, ◌++◌, map, length, codes, bytes_eq, None, refl, ◌∙◌}
use Rattle.std.proofs.lemmas.Bool.{and_parts}
use Rattle.std.proofs.lemmas.List.Folds.{list_all-append}
use Rattle.std.specs.List.{list_all}
use Rattle.um_base.specs.Lawful.{is_name, is_name_byte, begins_with_letter}
use Rattle.um_document.specs.declared.check.Check.{Check}
use Rattle.um_document.specs.declared.description.Details.{Details}
use Rattle.um_document.specs.declared.description.ObjectEntry.{ObjectEntry}
use Rattle.um_document.specs.declared.shape.Section.{Section}
use Rattle.um_document.specs.Broken.{is_broken}
use Rattle.um_document.specs.Parts.{Part, key_parts, entries_parts}
use Rattle.um_document.specs.Reading.{object_of, entries_of}
use Rattle.um_document.specs.Unknown.{own_strays, strays_below, strays_of_entry, strays_of_entries}
use Rattle.um_canonical.specs.Printed.{table_of, tables_of}
use Rattle.um_canonical.specs.Objects.{pairs_by, object_pairs}

abbrev pub passes : Check → List Part → Bool
passes check ps = list_all (λ (p : Part). not (is_broken check p)) ps

pub record AreSound (s : Section) (i : ℕ) (ps : List Part) : Type 0 where
  pub missing : passes Check.Missing ps ≡ true
  pub wrong : passes Check.WrongType ps ≡ true
  pub bad : passes Check.BadName ps ≡ true

pub short_name : (name : List ℕ) → is_name name ≡ true → nat_le (length name) 24 ≡ true
short_name name h =
    let few = nat_le (length name) 24 in
    let letters = list_all is_name_byte name in
    let first = begins_with_letter name in
    let a = (and_parts ((few && first) && letters) (not (bytes_eq name (codes "rodata"))) h).0 in
    let b = (and_parts (few && first) letters a).0 in
    (and_parts few first b).0

pub again_by : (name : List ℕ) (public : Bool) (details : Details) → is_name name ≡ true
    → object_of (table_of (pairs_by name public details)) ≡ record { name = name; public = public; details = details }
again_by name true Details.Thread h = rw (short_name name h) refl
again_by name false Details.Thread h = rw (short_name name h) refl
again_by name true (Details.Sem None) h = rw (short_name name h) refl
again_by name false (Details.Sem None) h = rw (short_name name h) refl
again_by name true (Details.Mutex true) h = rw (short_name name h) refl
again_by name false (Details.Mutex true) h = rw (short_name name h) refl
again_by name true (Details.Msgq None) h = rw (short_name name h) refl
again_by name false (Details.Msgq None) h = rw (short_name name h) refl
again_by name true (Details.Stack None) h = rw (short_name name h) refl
again_by name false (Details.Stack None) h = rw (short_name name h) refl
again_by name true (Details.Pipe None) h = rw (short_name name h) refl
again_by name false (Details.Pipe None) h = rw (short_name name h) refl
again_by name true Details.Timer h = rw (short_name name h) refl
again_by name false Details.Timer h = rw (short_name name h) refl
again_by name _ _ h = rw (short_name name h) refl

pub sound_by : (i : ℕ) (name : List ℕ) (public : Bool) (details : Details) → is_name name ≡ true → AreSound Section.Object i (key_parts Section.Object i (table_of (pairs_by name public details)))
unfolding key_parts
sound_by i name true Details.Thread h = record { missing = refl; wrong = refl; bad = rw h refl }
sound_by i name false Details.Thread h = record { missing = refl; wrong = refl; bad = rw h refl }
sound_by i name true (Details.Sem None) h = record { missing = refl; wrong = refl; bad = rw h refl }
sound_by i name false (Details.Sem None) h = record { missing = refl; wrong = refl; bad = rw h refl }
sound_by i name true (Details.Mutex true) h = record { missing = refl; wrong = refl; bad = rw h refl }
sound_by i name false (Details.Mutex true) h = record { missing = refl; wrong = refl; bad = rw h refl }
sound_by i name true (Details.Msgq None) h = record { missing = refl; wrong = refl; bad = rw h refl }
sound_by i name false (Details.Msgq None) h = record { missing = refl; wrong = refl; bad = rw h refl }
sound_by i name true (Details.Stack None) h = record { missing = refl; wrong = refl; bad = rw h refl }
sound_by i name false (Details.Stack None) h = record { missing = refl; wrong = refl; bad = rw h refl }
sound_by i name true (Details.Pipe None) h = record { missing = refl; wrong = refl; bad = rw h refl }
sound_by i name false (Details.Pipe None) h = record { missing = refl; wrong = refl; bad = rw h refl }
sound_by i name true Details.Timer h = record { missing = refl; wrong = refl; bad = rw h refl }
sound_by i name false Details.Timer h = record { missing = refl; wrong = refl; bad = rw h refl }
sound_by i name _ _ h = record { missing = refl; wrong = refl; bad = rw h refl }

pub known_by : (i : ℕ) (name : List ℕ) (public : Bool) (details : Details) → strays_of_entry Section.Object i (table_of (pairs_by name public details)) ≡ []
unfolding own_strays strays_below
known_by i name true Details.Thread = refl
known_by i name false Details.Thread = refl
known_by i name true (Details.Sem None) = refl
known_by i name false (Details.Sem None) = refl
known_by i name true (Details.Mutex true) = refl
known_by i name false (Details.Mutex true) = refl
known_by i name true (Details.Msgq None) = refl
known_by i name false (Details.Msgq None) = refl
known_by i name true (Details.Stack None) = refl
known_by i name false (Details.Stack None) = refl
known_by i name true (Details.Pipe None) = refl
known_by i name false (Details.Pipe None) = refl
known_by i name true Details.Timer = refl
known_by i name false Details.Timer = refl
known_by i name _ _ = refl

-- ---- all objects

object_again : (o : ObjectEntry) → is_name o.name ≡ true → object_of (table_of (object_pairs o)) ≡ o
object_again o h = again_by o.name o.public o.details h

abbrev pub is_named : ObjectEntry → Bool
is_named o = is_name o.name

pub objects_again : (os : List ObjectEntry) → list_all is_named os ≡ true → entries_of object_of (tables_of (map object_pairs os)) ≡ os
objects_again [] h = refl
objects_again (o ∷ os) h =
    let both = and_parts (is_named o) (list_all is_named os) h in
    rw (object_again o both.0, objects_again os both.1) refl

passes_append : (check : Check) (ps qs : List Part) → passes check ps ≡ true → passes check qs ≡ true → passes check (ps ++ qs) ≡ true
passes_append check ps qs h k = list_all-append (λ (p : Part). not (is_broken check p)) ps qs ∙ rw (h, k) refl

pub objects_sound : (i : ℕ) (os : List ObjectEntry) → list_all is_named os ≡ true → AreSound Section.Object i (entries_parts Section.Object i (tables_of (map object_pairs os)))
objects_sound i [] h = record { missing = refl; wrong = refl; bad = refl }
objects_sound i (o ∷ os) h =
    let both = and_parts (is_named o) (list_all is_named os) h in
    let here = sound_by i o.name o.public o.details both.0 in
    let more = objects_sound (i + 1) os both.1 in
    let ps = key_parts Section.Object i (table_of (object_pairs o)) in
    let qs = entries_parts Section.Object (i + 1) (tables_of (map object_pairs os)) in
    record {
      missing = passes_append Check.Missing ps qs here.missing more.missing;
      wrong = passes_append Check.WrongType ps qs here.wrong more.wrong;
      bad = passes_append Check.BadName ps qs here.bad more.bad;
    }

pub objects_known : (i : ℕ) (os : List ObjectEntry) → strays_of_entries Section.Object i (tables_of (map object_pairs os)) ≡ []
objects_known i [] = refl
objects_known i (o ∷ os) = rw (known_by i o.name o.public o.details) (objects_known (i + 1) os)
