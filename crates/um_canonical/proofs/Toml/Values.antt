-- A printed value is read back.
use Rattle.std.proofs.Common.{◌≡◌, ℕ, ◌-◌, ◌<◌, ◌≤◌, Bool, true, false, ◌&&◌, ◌||◌, ◌==◌, nat_lt, FitsSigned, List, [], ◌∷◌, ◌++◌, length, codes, Some, refl, sym, ap, ◌∙◌, arith, append_assoc, length-append, eq-eqb}
use Rattle.std.proofs.lemmas.Bool.Decides.{nat_tests}
use Rattle.std.specs.Int.{w64}
use Rattle.std.specs.List.{list_all}
use Rattle.toml_parser.specs.Lexical.{first, is_bare, skip_blank}
use Rattle.toml_writer.specs.Text.{key_text}
use Rattle.toml_writer.proofs.Strings.{is_key_start-key_text}
use Rattle.toml.specs.Data.{array, table, Items, no_items, item, no_members, depth, items_depth, has_valid_dates, items_have_valid_dates}
use Rattle.toml.specs.Tables.{Nodes, no_nodes, insert, value, close}
use Rattle.toml.specs.Parse.{val, after_element, members}
use Rattle.toml.specs.Text.{IsValueText, IsItemsText, breaks_lines}
use Rattle.toml.proofs.Blanks.{starts_value, skip_start, skip_none, skip_space, skip_within}
use Rattle.toml.proofs.ReadValues.{EndsValue, value_start, read_value, key_equals-pair}
use Rattle.toml.proofs.Turns.{keyval_ok, members_end, members_more, val_array, val_table, items_end, items_more}
use Rattle.um_canonical.specs.Printed.{Atom, Printed, quoted, atom_text, items_text, members_text, value_text, atom_data, texts_items, atom_pairs, value_data, with_members}
use Rattle.um_canonical.proofs.Toml.Strings.{is_plain_byte, string_text-plain, key_text-bare}
use Rattle.um_canonical.proofs.Toml.Nodes.{AreNew, filled, close-filled, put-new}

abbrev pub is_bare_key : List ℕ → Bool
is_bare_key k = nat_lt 0 (length k) && list_all is_bare k

abbrev pub is_plain : List ℕ → Bool
is_plain s = list_all is_plain_byte s

abbrev pub IsPlainAtom : Atom → Type 0
IsPlainAtom (Atom.text s) = is_plain s ≡ true
IsPlainAtom (Atom.number z) = FitsSigned w64 z
IsPlainAtom (Atom.truth b) = Unit {0}

abbrev pub ArePlain : List (List ℕ) → Type 0
ArePlain [] = Unit {0}
ArePlain (s ∷ ss) = (is_plain s ≡ true) × ArePlain ss

abbrev pub ArePlainAtoms : List (List ℕ × Atom) → Type 0
ArePlainAtoms [] = Unit {0}
ArePlainAtoms (p ∷ ps) = (is_bare_key p.0 ≡ true) × IsPlainAtom p.1 × ArePlainAtoms ps

-- a value's text is that of the toml crate's own printer
atom_written : (a : Atom) → IsPlainAtom a → IsValueText false (atom_data a) (atom_text a)
atom_written (Atom.text s) h = sym (string_text-plain s h)
atom_written (Atom.number z) h = (refl, h)
atom_written (Atom.truth b) h = refl

atom_dates : (a : Atom) → has_valid_dates (atom_data a) ≡ true
atom_dates (Atom.text s) = refl
atom_dates (Atom.number z) = refl
atom_dates (Atom.truth b) = refl

atom_depth : (a : Atom) → depth (atom_data a) ≡ 0
atom_depth (Atom.text s) = refl
atom_depth (Atom.number z) = refl
atom_depth (Atom.truth b) = refl

atom_read : (n : ℕ) (a : Atom) (rest : List ℕ) → IsPlainAtom a → EndsValue rest → val n (atom_text a ++ rest) ≡ Some (atom_data a, rest)
atom_read n a rest h stop =
    let flat = atom_depth a in
    read_value false (atom_data a) n (atom_text a) rest (atom_written a h) (omega arith) (atom_dates a) stop

atom_start : (a : Atom) (rest : List ℕ) → IsPlainAtom a → (0 < length (atom_text a)) × (starts_value (first (atom_text a ++ rest)) ≡ true)
atom_start a rest h = value_start false (atom_data a) (atom_text a) rest (atom_written a h) (atom_dates a)

items_written : (is_first : Bool) (ss : List (List ℕ)) → ArePlain ss → IsItemsText false false is_first (texts_items ss) (items_text is_first ss)
items_written is_first [] h = refl
items_written is_first (s ∷ ss) h = (quoted s, items_text false ss, refl, sym (string_text-plain s h.0), items_written false ss h.1)

items_dates : (ss : List (List ℕ)) → items_have_valid_dates (texts_items ss) ≡ true
items_dates [] = refl
items_dates (s ∷ ss) = items_dates ss

items_flat : (ss : List (List ℕ)) → items_depth (texts_items ss) ≡ 0
items_flat [] = refl
items_flat (s ∷ ss) = rw (items_flat ss) refl

-- ---- an inline table

after_comma : (closing : ℕ) (t : List ℕ) → after_element closing (44 ∷ t) ≡ Some t
unfolding after_element
after_comma closing t = rw (skip_none (44 ∷ t) 44 refl refl) refl

after_closing : (closing : ℕ) (t : List ℕ) → (((closing == 10 || closing == 13) || closing == 32) || (closing == 9 || closing == 35)) ≡ false → (closing == 44) ≡ false → after_element closing (closing ∷ t) ≡ Some (closing ∷ t)
unfolding after_element
after_closing closing t visible other = rw (skip_none (closing ∷ t) closing refl visible, other, eq-eqb closing closing refl) refl

-- what follows a member: the closing brace, or a comma and the next one
abbrev AfterMember : List (List ℕ × Atom) → List ℕ → Type 0
AfterMember ps rest =
    (next : List ℕ) × (after_element 125 (members_text false ps ++ rest) ≡ Some next) × (skip_blank next ≡ skip_blank (members_text true ps ++ rest))
    × (length next ≤ length (members_text false ps ++ rest)) × EndsValue (members_text false ps ++ rest)

after_member : (ps : List (List ℕ × Atom)) (rest : List ℕ) → AfterMember ps rest
after_member [] rest = (125 ∷ rest, after_closing 125 rest refl refl, refl, omega arith, ((refl, refl), (refl, refl)))
after_member (p ∷ ps) rest =
    let more = p.0 ++ (codes " = " ++ (atom_text p.1 ++ members_text false ps)) in
    (32 ∷ (more ++ rest), after_comma 125 (32 ∷ (more ++ rest)), skip_space (more ++ rest), omega arith, ((refl, refl), (refl, refl)))

read_members : (ps : List (List ℕ × Atom)) (n : ℕ) (rest x : List ℕ) (found : Nodes) (m : ℕ) → ArePlainAtoms ps → AreNew (atom_pairs ps) found
    → skip_blank x ≡ skip_blank (members_text true ps ++ rest) → length x < m → members (val n) m found x ≡ Some (close (filled (atom_pairs ps) found), rest)
read_members [] n rest x found m h fresh skip room =
    let closing : skip_blank x ≡ 125 ∷ rest = skip ∙ skip_none (125 ∷ rest) 125 refl refl in
    members_end (val n) m found x (omega arith) (rw closing refl) ∙ rw closing refl
read_members (p ∷ ps) n rest x found m h fresh skip room =
    let (bare, plain, others) = h in
    let r2 = members_text false ps ++ rest in
    let value_at = atom_text p.1 ++ r2 in
    let k = key_text-bare p.0 bare in
    let s = key_text p.0 ++ (codes " = " ++ value_at) in
    let same : members_text true (p ∷ ps) ++ rest ≡ s = rw k (simp append_assoc refl) in
    let key_first = is_key_start-key_text p.0 (codes " = " ++ value_at) in
    let begins : starts_value (first s) ≡ true = grind (arith, nat_tests) in
    let at_start : skip_blank x ≡ s = skip ∙ rw same (skip_start s begins) in
    let (some, start) = atom_start p.1 r2 plain in
    let (next, element, next_skip, next_len, ends) = after_member ps rest in
    let read = atom_read n p.1 r2 plain ends in
    let pair = keyval_ok (val n) s value_at r2 ([], p.0) (atom_data p.1) (key_equals-pair p.0 value_at start) read in
    let other : (first (skip_blank x) == 125) ≡ false = rw at_start (grind (arith, nat_tests)) in
    let within = skip_within x in
    let sizes = length-append (atom_text p.1) r2 in
    let key_sizes = length-append (key_text p.0) (codes " = " ++ value_at) in
    let shorter : length (skip_blank x) ≡ length s = ap length at_start in
    let tail = read_members ps n rest next (insert p.0 (value (atom_data p.1)) found) (m - 1) others fresh.1 next_skip (omega arith) in
    members_more (val n) m found _ x ([], p.0) (atom_data p.1) r2 next (omega arith) other (rw at_start pair) (put-new p.0 (atom_data p.1) found fresh.0) element ∙ tail

-- ---- each value

abbrev pub IsPlainValue : Printed → Type 0
IsPlainValue (Printed.one a) = IsPlainAtom a
IsPlainValue (Printed.texts ss) = ArePlain ss
IsPlainValue (Printed.inline ps) = ArePlainAtoms ps × AreNew (atom_pairs ps) no_nodes

-- a line's value is read from the front of what stands behind `=`
pub record IsRead (v : Printed) (rest : List ℕ) : Type 0 where
  pub starts : starts_value (first (value_text v ++ 10 ∷ rest)) ≡ true
  pub read : val 80 (value_text v ++ 10 ∷ rest) ≡ Some (value_data v, 10 ∷ rest)

inline_read : (ps : List (List ℕ × Atom)) (rest : List ℕ) → ArePlainAtoms ps → AreNew (atom_pairs ps) no_nodes
    → val 79 (123 ∷ (members_text true ps ++ rest)) ≡ Some (table (with_members (atom_pairs ps) no_members), rest)
inline_read ps rest h fresh =
    let t = members_text true ps ++ rest in
    let inside = read_members ps 78 rest t no_nodes (length (123 ∷ t)) h fresh refl (omega arith) in
    val_table 78 (123 ∷ t) refl refl ∙ rw (inside, close-filled (atom_pairs ps) no_nodes) refl

list_read : (ps : List (List ℕ × Atom)) (rest : List ℕ) → ArePlainAtoms ps → AreNew (atom_pairs ps) no_nodes
    → val 80 (91 ∷ 123 ∷ (members_text true ps ++ (93 ∷ rest))) ≡ Some (value_data (Printed.inline ps), rest)
list_read ps rest h fresh =
    let t = 123 ∷ (members_text true ps ++ (93 ∷ rest)) in
    let one = inline_read ps (93 ∷ rest) h fresh in
    let start : skip_blank t ≡ t = skip_none t 123 refl refl in
    let closing : skip_blank (93 ∷ rest) ≡ 93 ∷ rest = skip_none (93 ∷ rest) 93 refl refl in
    let d = table (with_members (atom_pairs ps) no_members) in
    let more = items_more (val 79) (length (91 ∷ t)) no_items t d (93 ∷ rest) (93 ∷ rest) (omega arith) (rw start refl) (rw start one) (after_closing 93 rest refl refl) in
    let ended = items_end (val 79) (length t) (item d no_items) (93 ∷ rest) (omega arith) (rw closing refl) in
    let less : length (91 ∷ t) - 1 ≡ length t = omega arith in
    val_array 79 (91 ∷ t) refl ∙ rw (more, less, ended, closing) refl

no_breaks : (ds : Items) → breaks_lines false ds ≡ false
no_breaks no_items = refl
no_breaks (item d no_items) = refl
no_breaks (item d (item e ds)) = refl

pub value_read : (v : Printed) (rest : List ℕ) → IsPlainValue v → IsRead v rest
value_read (Printed.one a) rest h =
    record { starts = (atom_start a (10 ∷ rest) h).1; read = atom_read 80 a (10 ∷ rest) h ((refl, refl), (refl, refl)) }
value_read (Printed.texts ss) rest h =
    let flat = items_flat ss in
    let written : IsValueText false (array (texts_items ss)) (value_text (Printed.texts ss)) = (items_text true ss, refl, rw (no_breaks (texts_items ss)) (items_written true ss h)) in
    record {
      starts = refl;
      read = read_value false (array (texts_items ss)) 80 (value_text (Printed.texts ss)) (10 ∷ rest) written (omega arith) (items_dates ss) ((refl, refl), (refl, refl));
    }
value_read (Printed.inline ps) rest h =
    let same : value_text (Printed.inline ps) ++ 10 ∷ rest ≡ 91 ∷ 123 ∷ (members_text true ps ++ (93 ∷ 10 ∷ rest)) = simp append_assoc refl in
    record { starts = refl; read = rw same (list_read ps (10 ∷ rest) h.0 h.1) }
