-- The first broken part of two lists, one behind the other.
use Rattle.std.proofs.Common.{◌≡◌, ℕ, ◌+◌, ◌<◌, suc, true, false, List, [], ◌∷◌, ◌++◌, length, get_or, drop, Option, Some, None, is_some, refl, sym, ap, ◌∙◌, add-one, drop-cons, flat_map}
use Rattle.toml.specs.Data.{Data}
use Rattle.toml.specs.View.{view, items_view}
use Rattle.toml.specs.declared.value.Value.{Value}
use Rattle.um_document.specs.declared.check.Check.{Check}
use Rattle.um_document.specs.declared.place.Place.{Place}
use Rattle.um_document.specs.Broken.{is_broken}
use Rattle.um_document.specs.First.{first_of, first_place}
use Rattle.um_document.specs.Parts.{Part, each_item}

abbrev pub or_else : Option Place → Option Place → Option Place
or_else None other = other
or_else (Some place) other = Some place

pub first_append : (check : Check) (xs ys : List Part) → first_place check (xs ++ ys) ≡ or_else (first_place check xs) (first_place check ys)
first_append check [] ys = refl
first_append check (x ∷ xs) ys =
    elim (is_broken check x) as (λ b. is_broken check x ≡ b → first_place check ((x ∷ xs) ++ ys) ≡ or_else (first_place check (x ∷ xs)) (first_place check ys)) [
      | true ↦ λ is. rw is refl
      | false ↦ λ is. rw is (first_append check xs ys)
    ] refl

none_first : (found other : Option Place) → is_some found ≡ false → or_else found other ≡ other
none_first None other gone = refl
none_first (Some place) other gone = cc

some_first : (found other : Option Place) → is_some found ≡ true → or_else found other ≡ found
some_first None other there = cc
some_first (Some place) other there = refl

-- nothing is broken in the first list
pub behind : (check : Check) (xs ys : List Part) (found : Option Place) → found ≡ first_place check xs → is_some found ≡ false → first_place check (xs ++ ys) ≡ first_place check ys
behind check xs ys found is gone = first_append check xs ys ∙ rw (← is) (none_first found (first_place check ys) gone)

-- something is
pub before : (check : Check) (xs ys : List Part) (found : Option Place) → found ≡ first_place check xs → is_some found ≡ true → first_place check (xs ++ ys) ≡ found
before check xs ys found is there = first_append check xs ys ∙ rw (← is) (some_first found (first_place check ys) there)

-- the parts of a list of things, of which one is next
flat_cut : {A : Type 0} (f : A → List Part) (xs : List A) (k : ℕ) (d : A) → k < length xs → flat_map f (drop k xs) ≡ f (get_or xs k d) ++ flat_map f (drop (k + 1) xs)
flat_cut f xs k d lt =
    let cut : drop k xs ≡ get_or xs k d ∷ drop (k + 1) xs = rw add-one (drop-cons xs k d lt) in
    ap (flat_map f) cut

pub flat_behind : {A : Type 0} (check : Check) (f : A → List Part) (xs : List A) (k : ℕ) (d : A) (found total : Option Place) → k < length xs
    → found ≡ first_place check (f (get_or xs k d)) → is_some found ≡ false → first_place check (flat_map f (drop k xs)) ≡ total → first_place check (flat_map f (drop (k + 1) xs)) ≡ total
flat_behind check f xs k d found total lt first gone so_far =
    sym (behind check (f (get_or xs k d)) (flat_map f (drop (k + 1) xs)) found first gone) ∙ ap (first_place check) (sym (flat_cut f xs k d lt)) ∙ so_far

pub flat_before : {A : Type 0} (check : Check) (f : A → List Part) (xs : List A) (k : ℕ) (d : A) (found total : Option Place) → k < length xs
    → found ≡ first_place check (f (get_or xs k d)) → is_some found ≡ true → first_place check (flat_map f (drop k xs)) ≡ total → found ≡ total
flat_before check f xs k d found total lt first there so_far =
    sym (before check (f (get_or xs k d)) (flat_map f (drop (k + 1) xs)) found first there) ∙ ap (first_place check) (sym (flat_cut f xs k d lt)) ∙ so_far

-- what items give, of which one is next
items_cut : {A : Type 0} (f : ℕ → Data → List A) (vs : List Value) (i k : ℕ) (v : Value) → k < length vs → v ≡ get_or vs k v
    → each_item f i (items_view (drop k vs)) ≡ f i (view v) ++ each_item f (i + 1) (items_view (drop (k + 1) vs))
items_cut f vs i k v lt is =
    let cut : drop k vs ≡ v ∷ drop (k + 1) vs = rw add-one (drop-cons vs k v lt ∙ ap (λ w. w ∷ drop (suc k) vs) (sym is)) in
    ap (λ ws. each_item f i (items_view ws)) cut

pub items_behind : (check : Check) (f : ℕ → Data → List Part) (vs : List Value) (i k : ℕ) (v : Value) (found total : Option Place) → k < length vs → v ≡ get_or vs k v
    → found ≡ first_place check (f i (view v)) → is_some found ≡ false → first_place check (each_item f i (items_view (drop k vs))) ≡ total
    → first_place check (each_item f (i + 1) (items_view (drop (k + 1) vs))) ≡ total
items_behind check f vs i k v found total lt is first gone so_far =
    sym (behind check (f i (view v)) (each_item f (i + 1) (items_view (drop (k + 1) vs))) found first gone)
    ∙ ap (first_place check) (sym (items_cut f vs i k v lt is)) ∙ so_far

pub items_before : (check : Check) (f : ℕ → Data → List Part) (vs : List Value) (i k : ℕ) (v : Value) (found total : Option Place) → k < length vs → v ≡ get_or vs k v
    → found ≡ first_place check (f i (view v)) → is_some found ≡ true → first_place check (each_item f i (items_view (drop k vs))) ≡ total → found ≡ total
items_before check f vs i k v found total lt is first there so_far =
    sym (before check (f i (view v)) (each_item f (i + 1) (items_view (drop (k + 1) vs))) found first there)
    ∙ ap (first_place check) (sym (items_cut f vs i k v lt is)) ∙ so_far

-- the first of two lists, where the first list has one
pub first_before : {A : Type 0} (xs ys : List A) (found : Option A) → found ≡ first_of xs → is_some found ≡ true → first_of (xs ++ ys) ≡ found
first_before [] ys found is there = let gone : found ≡ None = is in cc (gone, there)
first_before (x ∷ xs) ys found is there = sym is

-- where it has none
pub first_behind : {A : Type 0} (xs ys : List A) (found : Option A) → found ≡ first_of xs → is_some found ≡ false → first_of (xs ++ ys) ≡ first_of ys
first_behind [] ys found is gone = refl
first_behind (x ∷ xs) ys found is gone = let there : found ≡ Some x = is in cc (gone, there)

pub items_first_behind : {A : Type 0} (f : ℕ → Data → List A) (vs : List Value) (i : ℕ) (v : Value) (found total : Option A) → i < length vs → v ≡ get_or vs i v
    → found ≡ first_of (f i (view v)) → is_some found ≡ false → first_of (each_item f i (items_view (drop i vs))) ≡ total → first_of (each_item f (i + 1) (items_view (drop (i + 1) vs))) ≡ total
items_first_behind f vs i v found total lt is first gone so_far =
    sym (first_behind (f i (view v)) (each_item f (i + 1) (items_view (drop (i + 1) vs))) found first gone) ∙ ap (first_of {A = _}) (sym (items_cut f vs i i v lt is)) ∙ so_far

pub items_first_before : {A : Type 0} (f : ℕ → Data → List A) (vs : List Value) (i : ℕ) (v : Value) (found total : Option A) → i < length vs → v ≡ get_or vs i v
    → found ≡ first_of (f i (view v)) → is_some found ≡ true → first_of (each_item f i (items_view (drop i vs))) ≡ total → found ≡ total
items_first_before f vs i v found total lt is first there so_far =
    sym (first_before (f i (view v)) (each_item f (i + 1) (items_view (drop (i + 1) vs))) found first there) ∙ ap (first_of {A = _}) (sym (items_cut f vs i i v lt is)) ∙ so_far
