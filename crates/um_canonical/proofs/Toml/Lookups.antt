-- What stands at the keys of a table, and which keys it has.
use Rattle.std.proofs.Common.{◌≡◌, ℕ, Ordering, Less, Equal, Greater, nat_cmp, is_eq, Bool, true, false, ◌&&◌, if◌then◌else◌, List, [], ◌∷◌, ◌++◌, Option, Some, refl, sym, ap, ◌∙◌, subst, inl, inr, ◌⊎◌}
use Rattle.std.proofs.lemmas.Bool.{cases_Bool, and_parts, false≢true}
use Rattle.std.proofs.lemmas.Map.Lookups.{exact_bytes}
use Rattle.std.specs.Cmp.Lexicographic.{slice_cmp}
use Rattle.std.specs.List.{list_all}
use Rattle.toml.specs.Data.{Data, Members, no_members, member, same_key, get_member}
use Rattle.toml.proofs.NodeLaws.{same_key-self}
use Rattle.um_canonical.specs.Printed.{with_member, with_members}

cases_order : (o : Ordering) → (o ≡ Less) ⊎ ((o ≡ Equal) ⊎ (o ≡ Greater))
cases_order Less = inl refl
cases_order Equal = inr (inl refl)
cases_order Greater = inr (inr refl)

-- the last of these pairs with the key, or what was there
abbrev pub found : List ℕ → List (List ℕ × Data) → Option Data → Option Data
found k [] o = o
found k (p ∷ ps) o = found k ps (if same_key k p.0 then Some p.1 else o)

pub found-append : (k : List ℕ) (ps qs : List (List ℕ × Data)) (o : Option Data) → found k (ps ++ qs) o ≡ found k qs (found k ps o)
found-append k [] qs o = refl
found-append k (p ∷ ps) qs o = found-append k ps qs (if same_key k p.0 then Some p.1 else o)

at_member : (k m : List ℕ) (e : Data) (ms : Members) (b : Bool) → same_key k m ≡ b → get_member k (member m e ms) ≡ (if b then Some e else get_member k ms)
at_member k m e ms b same =
    elim (cases_order (slice_cmp nat_cmp k m)) [
      | inl less ↦ rw (less, ← (rw less at same)) refl
      | inr other ↦ elim other [
        | inl tie ↦ rw (tie, ← (rw tie at same)) refl
        | inr more ↦ rw (more, ← (rw more at same)) refl
      ]
    ]

eq_from : (o : Ordering) → is_eq o ≡ true → o ≡ Equal
eq_from Less h = absurd (false≢true h)
eq_from Equal h = refl
eq_from Greater h = absurd (false≢true h)

behind_apart : (l m : List ℕ) → slice_cmp nat_cmp l m ≡ Greater → same_key m l ≡ false
behind_apart l m more =
    elim (cases_Bool (same_key m l)) [
      | inl same ↦
          let is : m ≡ l = exact_bytes m l (eq_from (slice_cmp nat_cmp m l) same) in
          let tie : same_key l m ≡ true = subst (λ (q : List ℕ). same_key l q ≡ true) (sym is) (same_key-self l) in
          absurd (false≢true (rw more at tie))
      | inr other ↦ other
    ]

at_tie : (k l m : List ℕ) (d e : Data) (ms : Members) → l ≡ m → get_member k (member m d ms) ≡ (if same_key k l then Some d else get_member k (member m e ms))
at_tie k l m d e ms same =
    elim (cases_Bool (same_key k m)) [
      | inl here ↦ rw (same, at_member k m d ms true here, here) refl
      | inr not_here ↦ rw (same, at_member k m d ms false not_here, at_member k m e ms false not_here, not_here) refl
    ]

at_later : (k l m : List ℕ) (d e : Data) (ms : Members) → get_member k (with_member l d ms) ≡ (if same_key k l then Some d else get_member k ms) → slice_cmp nat_cmp l m ≡ Greater
    → get_member k (member m e (with_member l d ms)) ≡ (if same_key k l then Some d else get_member k (member m e ms))
at_later k l m d e ms ih more =
    elim (cases_Bool (same_key k m)) [
      | inl here ↦
          let is : k ≡ m = exact_bytes k m (eq_from (slice_cmp nat_cmp k m) here) in
          let apart : same_key k l ≡ false = subst (λ (q : List ℕ). same_key q l ≡ false) (sym is) (behind_apart l m more) in
          rw (at_member k m e (with_member l d ms) true here, at_member k m e ms true here, apart) refl
      | inr not_here ↦ rw (at_member k m e (with_member l d ms) false not_here, at_member k m e ms false not_here) ih
    ]

pub at_with : (k l : List ℕ) (d : Data) (ms : Members) → get_member k (with_member l d ms) ≡ (if same_key k l then Some d else get_member k ms)
at_with k l d no_members = at_member k l d no_members (same_key k l) refl
at_with k l d (member m e ms) =
    elim (cases_order (slice_cmp nat_cmp l m)) [
      | inl less ↦ rw less (at_member k l d (member m e ms) (same_key k l) refl)
      | inr other ↦ elim other [
        | inl tie ↦
            let same : l ≡ m = exact_bytes l m tie in
            rw tie (at_tie k l m d e ms same)
        | inr more ↦ rw more (at_later k l m d e ms (at_with k l d ms) more)
      ]
    ]

pub at_all : (k : List ℕ) (ps : List (List ℕ × Data)) (ms : Members) → get_member k (with_members ps ms) ≡ found k ps (get_member k ms)
at_all k [] ms = refl
at_all k (p ∷ ps) ms = at_all k ps (with_member p.0 p.1 ms) ∙ ap (found k ps) (at_with k p.0 p.1 ms)

-- each key of a table passes a test
abbrev pub all_keys : (List ℕ → Bool) → Members → Bool
all_keys q no_members = true
all_keys q (member k d ms) = q k && all_keys q ms

with_keys : (q : List ℕ → Bool) (k : List ℕ) (d : Data) (ms : Members) → q k ≡ true → all_keys q ms ≡ true → all_keys q (with_member k d ms) ≡ true
with_keys q k d no_members here more = rw here refl
with_keys q k d (member l e ms) here more =
    let both = and_parts (q l) (all_keys q ms) more in
    elim (cases_order (slice_cmp nat_cmp k l)) [
      | inl less ↦ rw (less, here, both.0, both.1) refl
      | inr other ↦ elim other [
        | inl tie ↦ rw (tie, both.0, both.1) refl
        | inr behind ↦ rw (behind, both.0, with_keys q k d ms here both.1) refl
      ]
    ]

pub keys_pass : (q : List ℕ → Bool) (ps : List (List ℕ × Data)) (ms : Members) → list_all (λ (p : List ℕ × Data). q p.0) ps ≡ true → all_keys q ms ≡ true → all_keys q (with_members ps ms) ≡ true
keys_pass q [] ms h more = more
keys_pass q (p ∷ ps) ms h more =
    let both = and_parts (q p.0) (list_all (λ (p : List ℕ × Data). q p.0) ps) h in
    keys_pass q ps (with_member p.0 p.1 ms) both.1 (with_keys q p.0 p.1 ms both.0 more)
