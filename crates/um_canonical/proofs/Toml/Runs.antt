-- What the lines of a document make of its table.
use Rattle.std.proofs.Common.{◌≡◌, ℕ, suc, Bool, true, false, not, ◌&&◌, ◌==◌, List, [], ◌∷◌, ◌++◌, map, flat_map, length, Some, None, refl, sym, ap, ◌∙◌, arith, append_assoc}
use Rattle.std.proofs.lemmas.List.{map-append}
use Rattle.std.proofs.lemmas.Bool.{and_parts, or_parts, not-true}
use Rattle.std.specs.List.{list_any}
use Rattle.toml_parser.specs.Lexical.{first}
use Rattle.toml.specs.Data.{Data, array, table, Items, no_items, Members, no_members, same_key, push_item}
use Rattle.toml.specs.Tables.{Node, Nodes, no_nodes, value, open_array, get_node, insert, close, at_key, key_value, array_table, put, along_header, Document, Expression, define}
use Rattle.toml.specs.Parse.{parse_document, skip_bom}
use Rattle.toml.proofs.NodeLaws.{get_node-insert, replace-insert, along_found}
use Rattle.toml.proofs.ReadLines.{run}
use Rattle.toml.proofs.ReadValues.{item_join, item_join-none, item_join-push}
use Rattle.toml.proofs.Turns.{document_some}
use Rattle.um_canonical.specs.Printed.{Line, Pairs, Section, value_pairs, value_data, table_of, tables_of, section_pairs, pair_lines, entry_lines, section_lines, document_lines, document_text, document_table, with_member, with_members, lines_text}
use Rattle.um_canonical.proofs.Toml.Nodes.{closes, get_node-other, AreNew, filled, close-filled, put-new}
use Rattle.um_canonical.proofs.Toml.Lines.{said, ArePlainLines, turn, read_lines}

abbrev pub Keys : Type 0
Keys = List (List ℕ)

abbrev pub NoneOf : Keys → Nodes → Type 0
NoneOf [] ns = Unit {0}
NoneOf (k ∷ ks) ns = (get_node k ns ≡ None) × NoneOf ks ns

abbrev pub is_in : List ℕ → Keys → Bool
is_in k ks = list_any (λ l. same_key l k) ks

-- no key stands twice
abbrev pub are_apart : Keys → Bool
are_apart [] = true
are_apart (k ∷ ks) = not (is_in k ks) && are_apart ks

abbrev pub keys : {A : Type 0} → List (List ℕ × A) → Keys
keys ps = map (λ p. p.0) ps

none_after : (k : List ℕ) (x : Node) (ks : Keys) (ns : Nodes) → is_in k ks ≡ false → NoneOf ks ns → NoneOf ks (insert k x ns)
none_after k x [] ns apart none = tt
none_after k x (l ∷ ks) ns apart none =
    let (here, more) = or_parts (same_key l k) (is_in k ks) apart in
    (get_node-other l k x ns here ∙ none.0, none_after k x ks ns more none.1)

new_from : (ps : List (List ℕ × Data)) (ns : Nodes) → are_apart (keys ps) ≡ true → NoneOf (keys ps) ns → AreNew ps ns
new_from [] ns apart none = tt
new_from (p ∷ ps) ns apart none =
    let (here, more) = and_parts (not (is_in p.0 (keys ps))) (are_apart (keys ps)) apart in
    (none.0, new_from ps (insert p.0 (value p.1) ns) more (none_after p.0 (value p.1) (keys ps) ns (not-true _ here) none.1))

none_in_nothing : (ks : Keys) → NoneOf ks no_nodes
none_in_nothing [] = tt
none_in_nothing (k ∷ ks) = (refl, none_in_nothing ks)

same_keys : (ps : Pairs) → keys (value_pairs ps) ≡ keys ps
same_keys [] = refl
same_keys (p ∷ ps) = ap (λ (ks : Keys). p.0 ∷ ks) (same_keys ps)

-- ---- an entry

pair_step : (s k : List ℕ) (d : Data) (done : Items) (last ns : Nodes) → get_node k last ≡ None
    → define (insert s (open_array done last) ns, s ∷ []) (([], k), key_value d) ≡ Some (insert s (open_array done (insert k (value d) last)) ns, s ∷ [])
unfolding define along_header
pair_step s k d done last ns none =
    let e = put ([], k) d in
    let root = insert s (open_array done last) ns in
    let found = along_found s [] e root (open_array done last) (get_node-insert s (open_array done last) ns) in
    rw (found, put-new k d last none, replace-insert s (open_array done last) (open_array done (insert k (value d) last)) ns) refl

pairs_run : (ps : Pairs) (s : List ℕ) (done : Items) (last ns : Nodes) (es : List Expression) → AreNew (value_pairs ps) last
    → run (insert s (open_array done last) ns, s ∷ []) (map said (pair_lines ps) ++ es) ≡ run (insert s (open_array done (filled (value_pairs ps) last)) ns, s ∷ []) es
pairs_run [] s done last ns es fresh = refl
pairs_run (p ∷ ps) s done last ns es fresh =
    rw (pair_step s p.0 (value_data p.1) done last ns fresh.0)
    (pairs_run ps s done (insert p.0 (value (value_data p.1)) last) ns es fresh.1)

first_step : (s : List ℕ) (ns : Nodes) (q : Keys) → get_node s ns ≡ None → define (ns, q) (([], s), array_table) ≡ Some (insert s (open_array no_items no_nodes) ns, s ∷ [])
unfolding define along_header at_key
first_step s ns q none = rw none refl

next_step : (s : List ℕ) (done : Items) (last ns : Nodes) (q : Keys)
    → define (insert s (open_array done last) ns, q) (([], s), array_table) ≡ Some (insert s (open_array (push_item done (table (close last))) no_nodes) ns, s ∷ [])
unfolding define along_header at_key
next_step s done last ns q =
    rw (get_node-insert s (open_array done last) ns, replace-insert s (open_array done last) (open_array (push_item done (table (close last))) no_nodes) ns) refl

run_first : (doc next : Document) (e : Expression) (es : List Expression) → define doc e ≡ Some next → run doc (e ∷ es) ≡ run next es
run_first doc next e es step = rw step refl

-- ---- a section

abbrev pub AreApart : List Pairs → Type 0
AreApart [] = Unit {0}
AreApart (e ∷ es) = (are_apart (keys e) ≡ true) × AreApart es

entry_new : (e : Pairs) → are_apart (keys e) ≡ true → AreNew (value_pairs e) no_nodes
entry_new e apart = new_from (value_pairs e) no_nodes (rw (same_keys e) apart) (none_in_nothing _)

abbrev pub ArePlacedApart : List Section → Type 0
ArePlacedApart [] = Unit {0}
ArePlacedApart (s ∷ ss) = AreApart s.1 × ArePlacedApart ss

-- the section's node after its entries
record AfterEntries (s : List ℕ) (ns : Nodes) (lines_of : List Expression) (root : Nodes) (q : Keys) (es : List Expression) (all : Items) : Type 0 where
  done : Items
  last : Nodes
  ran : run (root, q) (lines_of ++ es) ≡ run (insert s (open_array done last) ns, s ∷ []) es
  made : push_item done (table (close last)) ≡ all

entries_run : (entries : List Pairs) (s : List ℕ) (done : Items) (last ns : Nodes) (es : List Expression) → AreApart entries
    → AfterEntries s ns (map said (flat_map (entry_lines s) entries)) (insert s (open_array done last) ns) (s ∷ []) es (item_join (push_item done (table (close last))) (tables_of entries))
entries_run [] s done last ns es apart = record { done = done; last = last; ran = refl; made = sym (item_join-none _) }
entries_run (e ∷ entries) s done last ns es apart =
    let pushed = push_item done (table (close last)) in
    let here = entry_new e apart.0 in
    let more = map said (flat_map (entry_lines s) entries) in
    let body = pairs_run e s pushed no_nodes ns (more ++ es) here in
    let closed : close (filled (value_pairs e) no_nodes) ≡ table_of e = close-filled (value_pairs e) no_nodes in
    let rest = entries_run entries s pushed (filled (value_pairs e) no_nodes) ns es apart.1 in
    let split : map said (flat_map (entry_lines s) (e ∷ entries)) ++ es ≡ said (Line.header s) ∷ (map said (pair_lines e) ++ (more ++ es)) =
    ap (λ (xs : List Expression). xs ++ es) (map-append said (entry_lines s e) (flat_map (entry_lines s) entries)) ∙ append_assoc (map said (entry_lines s e)) more es in
    record {
      done = rest.done;
      last = rest.last;
      ran = ap (run (insert s (open_array done last) ns, s ∷ [])) split ∙ run_first _ _ (said (Line.header s)) (map said (pair_lines e) ++ (more ++ es)) (next_step s done last ns (s ∷ [])) ∙ body ∙ rest.ran;
      made = rest.made ∙ rw closed (item_join-push pushed (table (table_of e)) (tables_of entries));
    }

-- ---- the sections

-- the root after some sections, which closes to the members with theirs
record AfterSections (doc : Document) (es : List Expression) (ms : Members) : Type 0 where
  root : Nodes
  at : Keys
  ran : run doc es ≡ Some (root, at)
  made : close root ≡ ms

sections_run : (sections : List Section) (ns : Nodes) (q : Keys) → are_apart (keys sections) ≡ true → NoneOf (keys sections) ns → ArePlacedApart sections
    → AfterSections (ns, q) (map said (flat_map section_lines sections)) (with_members (flat_map section_pairs sections) (close ns))
sections_run [] ns q apart none entries = record { root = ns; at = q; ran = refl; made = refl }
sections_run ((s, []) ∷ sections) ns q apart none entries =
    let (here, more) = and_parts (not (is_in s (keys sections))) (are_apart (keys sections)) apart in
    sections_run sections ns q more none.1 entries.1
sections_run ((s, e ∷ es) ∷ sections) ns q apart none entries =
    let (here, more) = and_parts (not (is_in s (keys sections))) (are_apart (keys sections)) apart in
    let later = map said (flat_map section_lines sections) in
    let others = map said (flat_map (entry_lines s) es) in
    let fresh = entry_new e entries.0.0 in
    let body = pairs_run e s no_items no_nodes ns (others ++ later) fresh in
    let closed : close (filled (value_pairs e) no_nodes) ≡ table_of e = close-filled (value_pairs e) no_nodes in
    let after = entries_run es s no_items (filled (value_pairs e) no_nodes) ns later entries.0.1 in
    let made : array (push_item after.done (table (close after.last))) ≡ array (tables_of (e ∷ es)) = ap array (after.made ∙ rw closed refl) in
    let x = open_array after.done after.last in
    let rest = sections_run sections (insert s x ns) (s ∷ []) more (none_after s x (keys sections) ns (not-true _ here) none.1) entries.1 in
    let split : map said (flat_map section_lines ((s, e ∷ es) ∷ sections)) ≡ said (Line.header s) ∷ (map said (pair_lines e) ++ (others ++ later)) =
    map-append said (section_lines (s, e ∷ es)) (flat_map section_lines sections)
    ∙ ap (λ (xs : List Expression). xs ++ later) (map-append said (entry_lines s e) (flat_map (entry_lines s) es))
    ∙ append_assoc (map said (entry_lines s e)) others later in
    record {
      root = rest.root;
      at = rest.at;
      ran = ap (run (ns, q)) split ∙ run_first _ _ (said (Line.header s)) (map said (pair_lines e) ++ (others ++ later)) (first_step s ns q none.0) ∙ body ∙ after.ran ∙ rest.ran;
      made = rest.made ∙ rw (closes s x ns, made) refl;
    }

-- ---- a document

top_step : (k : List ℕ) (d : Data) (ns : Nodes) → get_node k ns ≡ None → define (ns, []) (([], k), key_value d) ≡ Some (insert k (value d) ns, [])
unfolding define along_header
top_step k d ns none = rw (put-new k d ns none) refl

top_run : (ps : Pairs) (ns : Nodes) (es : List Expression) → AreNew (value_pairs ps) ns → run (ns, []) (map said (pair_lines ps) ++ es) ≡ run (filled (value_pairs ps) ns, []) es
top_run [] ns es fresh = refl
top_run (p ∷ ps) ns es fresh = rw (top_step p.0 (value_data p.1) ns fresh.0) (top_run ps (insert p.0 (value (value_data p.1)) ns) es fresh.1)

is_in_left : (k : List ℕ) (xs ys : Keys) → is_in k (xs ++ ys) ≡ false → (is_in k xs ≡ false) × (is_in k ys ≡ false)
is_in_left k [] ys h = (refl, h)
is_in_left k (x ∷ xs) ys h =
    let (here, more) = or_parts (same_key x k) (is_in k (xs ++ ys)) h in
    let both = is_in_left k xs ys more in
    (rw (here, both.0) refl, both.1)

apart_left : (xs ys : Keys) → are_apart (xs ++ ys) ≡ true → (are_apart xs ≡ true) × (are_apart ys ≡ true)
apart_left [] ys h = (refl, h)
apart_left (x ∷ xs) ys h =
    let (here, more) = and_parts (not (is_in x (xs ++ ys))) (are_apart (xs ++ ys)) h in
    let both = apart_left xs ys more in
    let left = is_in_left x xs ys (not-true _ here) in
    (rw (left.0, both.0) refl, both.1)

none_filled : (ps : List (List ℕ × Data)) (ks : Keys) (ns : Nodes) → are_apart (keys ps ++ ks) ≡ true → NoneOf ks ns → NoneOf ks (filled ps ns)
none_filled [] ks ns apart none = none
none_filled (p ∷ ps) ks ns apart none =
    let (here, more) = and_parts (not (is_in p.0 (keys ps ++ ks))) (are_apart (keys ps ++ ks)) apart in
    let left = is_in_left p.0 (keys ps) ks (not-true _ here) in
    none_filled ps ks (insert p.0 (value p.1) ns) more (none_after p.0 (value p.1) ks ns left.1 none)

with_members-append : (ps qs : List (List ℕ × Data)) (ms : Members) → with_members (ps ++ qs) ms ≡ with_members qs (with_members ps ms)
with_members-append [] qs ms = refl
with_members-append (p ∷ ps) qs ms = with_members-append ps qs (with_member p.0 p.1 ms)

-- what is asked of a document: bare keys, plain texts, and no key twice in one table
pub record IsPlainDocument (top : Pairs) (sections : List Section) : Type 0 where
  pub lines_are : ArePlainLines (document_lines top sections)
  pub apart : are_apart (keys top ++ keys sections) ≡ true
  pub entries : ArePlacedApart sections

no_bom : (ls : List Line) → ArePlainLines ls → (first (lines_text ls) == 239) ≡ false
no_bom [] h = refl
no_bom (l ∷ ls) h = let (s, at_start, read, some, shorter, other) = turn l (lines_text ls) h.0 in other

no_skip : (text : List ℕ) → (first text == 239) ≡ false → skip_bom text ≡ text
unfolding skip_bom
no_skip text h = rw h refl

-- a printed document is read as the table that it says
pub document_again : (top : Pairs) (sections : List Section) → IsPlainDocument top sections → parse_document (document_text top sections) ≡ Some (document_table top sections)
document_again top sections h =
    let text = document_text top sections in
    let ls = document_lines top sections in
    let later = flat_map section_lines sections in
    let both = apart_left (keys top) (keys sections) h.apart in
    let fresh = new_from (value_pairs top) no_nodes (rw (same_keys top) both.0) (none_in_nothing _) in
    let ns = filled (value_pairs top) no_nodes in
    let none = none_filled (value_pairs top) (keys sections) no_nodes (rw (same_keys top) h.apart) (none_in_nothing (keys sections)) in
    let after = sections_run sections ns [] both.1 none h.entries in
    let read = read_lines ls text (no_nodes, []) (suc (length text)) h.lines_are refl (omega arith) in
    let split = map-append said (pair_lines top) later in
    let ran : run (no_nodes, []) (map said ls) ≡ Some (after.root, after.at) = rw split (top_run top no_nodes (map said later) fresh ∙ after.ran) in
    let skipped = no_skip text (no_bom ls h.lines_are) in
    document_some text (after.root, after.at) (rw skipped (read ∙ ran))
    ∙ rw (after.made, close-filled (value_pairs top) no_nodes, with_members-append (value_pairs top) (flat_map section_pairs sections) no_members) refl
