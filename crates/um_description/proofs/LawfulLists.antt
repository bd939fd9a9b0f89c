-- Lists without items, and tests over lists.
use Rattle.std.proofs.Common.{◌≡◌, ℕ, ◌+◌, Bool, true, false, not, ◌||◌, List, [], ◌∷◌, ◌++◌, length, map, IsTrue, if◌then◌else◌, refl, ap, arith, bytes_eq}
use Rattle.std.specs.List.{list_any, list_all}
use Rattle.std.proofs.lemmas.Slice.Eq.{bytes_eq-Decides}
pub use Rattle.um_document.proofs.EmptyLists.{no_front, no_back, none_mapped, and_true, both_true}
use Rattle.um_description.specs.Names.{each}

pub or_more : (a b : Bool) → IsTrue b → IsTrue (a || b)
or_more true b h = refl
or_more false b h = h

pub not_true : (a : Bool) → a ≡ false → IsTrue (not a)
not_true a h = rw h refl

-- one flaw where a test holds
pub none_if : {A : Type 0} (a : Bool) (x : A) → (if a then x ∷ [] else []) ≡ [] → a ≡ false
none_if true x h = absurd cc
none_if false x h = refl

-- one flaw where a test doesn't hold
pub none_unless : {A : Type 0} (a : Bool) (x : A) → (if a then [] else x ∷ []) ≡ [] → IsTrue a
none_unless true x h = refl
none_unless false x h = absurd cc

-- what each entry of a list passes that has no flaws
pub all_each : {A B C : Type 0} (f : ℕ → A → List B) (g : A → C) (q : C → Bool) → ((i : ℕ) (x : A) → f i x ≡ [] → IsTrue (q (g x)))
    → (i : ℕ) (xs : List A) → each f i xs ≡ [] → IsTrue (list_all q (map g xs))
all_each f g q h i [] none = refl
all_each f g q h i (x ∷ xs) none =
    both_true (q (g x)) (list_all q (map g xs)) (h i x (no_front (f i x) (each f (i + 1) xs) none))
    (all_each f g q h (i + 1) xs (no_back (f i x) (each f (i + 1) xs) none))

pub any_last : {A : Type 0} (q : A → Bool) (xs : List A) (y : A) → IsTrue (q y) → IsTrue (list_any q (xs ++ y ∷ []))
any_last q [] y h = rw h refl
any_last q (x ∷ xs) y h = or_more (q x) (list_any q (xs ++ y ∷ [])) (any_last q xs y h)

pub all_weaker : {A : Type 0} (p q : A → Bool) → ((x : A) → IsTrue (p x) → IsTrue (q x)) → (xs : List A) → IsTrue (list_all p xs) → IsTrue (list_all q xs)
all_weaker p q weaker [] h = refl
all_weaker p q weaker (x ∷ xs) h =
    let both = and_true (p x) (list_all p xs) h in both_true (q x) (list_all q xs) (weaker x both.0) (all_weaker p q weaker xs both.1)

pub map_map : {A B C : Type 0} (f : A → B) (g : B → C) (xs : List A) → map g (map f xs) ≡ map (λ (x : A). g (f x)) xs
map_map f g [] = refl
map_map f g (x ∷ xs) = ap (λ (ys : List _). g (f x) ∷ ys) (map_map f g xs)

pub length_mapped : {A B : Type 0} (f : A → B) (xs : List A) → length (map f xs) ≡ length xs
length_mapped f [] = refl
length_mapped f (x ∷ xs) = omega (arith, length_mapped f xs)

pub same_text : (a b : List ℕ) → IsTrue (bytes_eq a b) → a ≡ b
same_text a b h = (bytes_eq-Decides a b).0 h

pub text_itself : (a : List ℕ) → IsTrue (bytes_eq a a)
text_itself a = (bytes_eq-Decides a a).1 refl

-- the same of the entries themselves
pub all_of : {A B : Type 0} (f : ℕ → A → List B) (q : A → Bool) → ((i : ℕ) (x : A) → f i x ≡ [] → IsTrue (q x))
    → (i : ℕ) (xs : List A) → each f i xs ≡ [] → IsTrue (list_all q xs)
all_of f q h i [] none = refl
all_of f q h i (x ∷ xs) none =
    both_true (q x) (list_all q xs) (h i x (no_front (f i x) (each f (i + 1) xs) none)) (all_of f q h (i + 1) xs (no_back (f i x) (each f (i + 1) xs) none))
