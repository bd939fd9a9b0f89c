-- Texts in the order of their bytes, beside texts in any order.
use Rattle.std.proofs.Common.{◌≡◌, ℕ, Bool, true, false, not, ◌||◌, List, [], ◌∷◌, map, Vec, Global, Ordering, Less, Equal, Greater, nat_cmp, is_eq, refl, sym, ap, ◌∙◌}
use Rattle.std.proofs.lemmas.Map.Text.{is_eq-slice_cmp}
use Rattle.std.proofs.lemmas.Slice.Eq.{bytes_eq-Decides}
use Rattle.std.specs.BTreeSet.{insert_key}
use Rattle.std.specs.Cmp.Lexicographic.{slice_cmp}
use Rattle.std.specs.List.{list_any}
use Rattle.std.specs.Ordering.{match_ordering}
use Rattle.std.specs.Str.{bytes_eq}
use Rattle.um_description.specs.Duplicates.{SameTexts}
use Rattle.um_description.specs.Names.{is_among}

abbrev pub Owned : Type 0
Owned = Vec ℕ Global

abbrev pub bytes : Owned → List ℕ
bytes t = t.items

abbrev pub order : Owned → Owned → Ordering
order a b = slice_cmp nat_cmp a.items b.items

pub among_keys : (text : List ℕ) (keys : List Owned) → list_any (λ (k : Owned). is_eq (slice_cmp nat_cmp text k.items)) keys ≡ is_among text (map bytes keys)
among_keys text [] = refl
among_keys text (k ∷ keys) = rw (is_eq-slice_cmp text k.items, among_keys text keys) refl

or_swap : (a b c : Bool) → (b || (a || c)) ≡ (a || (b || c))
or_swap true true c = refl
or_swap true false c = refl
or_swap false true c = refl
or_swap false false c = refl

or_again : (a c : Bool) → (a || c) ≡ (a || (a || c))
or_again true c = refl
or_again false c = refl

same_bytes : (a b : List ℕ) → slice_cmp nat_cmp a b ≡ Equal → a ≡ b
same_bytes a b h = (bytes_eq-Decides a b).0 (sym (is_eq-slice_cmp a b) ∙ ap is_eq h)

step : (o : Ordering) (q : List ℕ) (key x : Owned) (keys more : List Owned) → order key x ≡ o → is_among q (map bytes more) ≡ is_among q (bytes key ∷ map bytes keys)
    → is_among q (map bytes (match_ordering o (key ∷ x ∷ keys) (x ∷ keys) (x ∷ more))) ≡ is_among q (bytes key ∷ map bytes (x ∷ keys))
step Less q key x keys more is ih = refl
step Equal q key x keys more is ih =
    let same : key.items ≡ x.items = same_bytes key.items x.items is in
    rw same (or_again (bytes_eq q x.items) (is_among q (map bytes keys)))
step Greater q key x keys more is ih = rw ih (or_swap (bytes_eq q key.items) (bytes_eq q x.items) (is_among q (map bytes keys)))

pub among_inserted : (key : Owned) (keys : List Owned) → SameTexts (map bytes (insert_key order keys key)) (bytes key ∷ map bytes keys)
among_inserted key [] q = refl
among_inserted key (x ∷ keys) q = step (order key x) q key x keys (insert_key order keys key) refl (among_inserted key keys q)

not_not : (b : Bool) → not (not b) ≡ b
not_not true = refl
not_not false = refl

pub seen_again : (key : Owned) (text : List ℕ) (keys : List Owned) (before : List (List ℕ)) (is_new : Bool) → key.items ≡ text → map bytes keys ≡ before
    → is_new ≡ not (list_any (λ (k : Owned). is_eq (order key k)) keys) → not is_new ≡ is_among text before
seen_again key text keys before is_new is seen new =
    ap not new ∙ not_not (list_any (λ (k : Owned). is_eq (order key k)) keys) ∙ among_keys key.items keys ∙ rw (is, seen) refl

pub seen_added : (key : Owned) (text : List ℕ) (keys after : List Owned) (before : List (List ℕ)) → key.items ≡ text → map bytes keys ≡ before
    → after ≡ insert_key order keys key → SameTexts (map bytes after) (text ∷ before)
seen_added key text keys after before is seen put q =
    rw put (among_inserted key keys q ∙ rw (is, seen) refl)
