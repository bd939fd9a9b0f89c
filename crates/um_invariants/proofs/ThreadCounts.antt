-- How many items of a list a test finds.
use Rattle.std.proofs.Common.{◌≡◌, ◌≢◌, ◌⊎◌, inl, inr, ◌≤◌, ◌<◌, ℕ, zero, suc, ◌+◌, Bool, true, false, not, ◌||◌, cond, List, [], ◌∷◌, ◌++◌, length, filter, refl, sym, ◌∙◌, arith, slice_index_or, slice_set}
use Rattle.std.specs.Prelude.{◌==◌}
use Rattle.std.specs.List.{list_any}
use Rattle.um_invariants.specs.Counts.{one_if}
use Rattle.um_invariants.proofs.Facts.{is_equal, equals}

abbrev pub count : {A : Type 0} → (A → Bool) → List A → ℕ
count p [] = 0
count p (x ∷ xs) = one_if (p x) + count p xs

pub equal_or_not : (a b : ℕ) → (a ≡ b) ⊎ (a ≢ b)
equal_or_not a b =
    elim (a == b) as (λ c. (a == b) ≡ c → (a ≡ b) ⊎ (a ≢ b)) [
      | true ↦ λ e. inl (is_equal a b e)
      | false ↦ λ e. inr (λ same. (let not_same : (a == b) ≡ true = equals a b same in cc))
    ] refl

pub unequal : (a b : ℕ) → (a == b) ≡ false → a ≢ b
unequal a b h same = let here : (a == b) ≡ true = equals a b same in absurd (let bad : true ≡ false = sym here ∙ h in cc)

pub count-filter : {A : Type 0} (q p : A → Bool) (xs : List A) → count q (filter p xs) ≤ count q xs
count-filter q p [] = omega arith
count-filter q p (x ∷ xs) =
    elim (p x) as (λ b. count q (cond b (x ∷ filter p xs) (filter p xs)) ≤ count q (x ∷ xs)) [
      | true ↦ omega (arith, count-filter q p xs)
      | false ↦ omega (arith, count-filter q p xs)
    ]

-- those that a test finds, and those that it doesn't
pub count-split : {A : Type 0} (q p : A → Bool) (xs : List A) → count q (filter p xs) + count q (filter (λ x. not (p x)) xs) ≡ count q xs
count-split q p [] = refl
count-split q p (x ∷ xs) =
    elim (p x) as (λ b. count q (cond b (x ∷ filter p xs) (filter p xs)) + count q (cond (not b) (x ∷ filter (λ y. not (p y)) xs) (filter (λ y. not (p y)) xs)) ≡ count q (x ∷ xs)) [
      | true ↦ omega (arith, count-split q p xs)
      | false ↦ omega (arith, count-split q p xs)
    ]

pub count-append : {A : Type 0} (q : A → Bool) (xs ys : List A) → count q (xs ++ ys) ≡ count q xs + count q ys
count-append q [] ys = omega arith
count-append q (x ∷ xs) ys = omega (arith, count-append q xs ys)

pub count-set : {A : Type 0} (q : A → Bool) (xs : List A) (i : ℕ) (y d : A) → i < length xs → count q (slice_set xs i y) + one_if (q (slice_index_or xs i d)) ≡ count q xs + one_if (q y)
count-set q [] i y d h = absurd (omega (arith, h))
count-set q (x ∷ xs) zero y d h = omega arith
count-set q (x ∷ xs) (suc i) y d h = omega (arith, count-set q xs i y d (omega (arith, h)))

-- a test finds some item where it finds more than none
pub count-any : {A : Type 0} (q : A → Bool) (xs : List A) → list_any q xs ≡ true → 1 ≤ count q xs
count-any q [] h = cc
count-any q (x ∷ xs) h =
    elim (q x) as (λ b. (b || list_any q xs) ≡ true → 1 ≤ one_if b + count q xs) [
      | true ↦ λ g. omega arith
      | false ↦ λ g. omega (arith, count-any q xs g)
    ] h

pub any-count : {A : Type 0} (q : A → Bool) (xs : List A) → 1 ≤ count q xs → list_any q xs ≡ true
any-count q [] h = absurd (omega (arith, h))
any-count q (x ∷ xs) h =
    elim (q x) as (λ b. 1 ≤ one_if b + count q xs → (b || list_any q xs) ≡ true) [
      | true ↦ λ g. refl
      | false ↦ λ g. any-count q xs (omega (arith, g))
    ] h
