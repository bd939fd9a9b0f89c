-- The front of a list.
use Rattle.std.proofs.Common.{◌≡◌, ◌≤◌, List, [], ◌∷◌, arith, drop, length, refl}
use Rattle.std.specs.Prelude.{Option, Some, None, MatchOption, slice_get}

pub first_is : {A : Type 0} (o : Option A) (xs : List A) → o ≡ slice_get xs 0 → MatchOption o (xs ≡ []) (λ x. xs ≡ x ∷ drop 1 xs)
first_is None [] e = refl
first_is None (x ∷ xs) e = absurd (cc)
first_is (Some y) [] e = absurd (cc)
first_is (Some y) (x ∷ xs) e = cc

pub second_is : {A : Type 0} (o : Option A) (xs : List A) → o ≡ slice_get xs 1 → MatchOption o (drop 1 xs ≡ []) (λ x. drop 1 xs ≡ x ∷ drop 2 xs)
second_is o [] e = first_is o [] e
second_is o (x ∷ xs) e = first_is o xs e

pub dropped_twice : {A : Type 0} (xs : List A) → drop 1 (drop 1 xs) ≡ drop 2 xs
dropped_twice [] = refl
dropped_twice (x ∷ xs) = refl

pub third_is : {A : Type 0} (o : Option A) (xs : List A) → o ≡ slice_get (drop 2 xs) 0 → MatchOption o (drop 2 xs ≡ []) (λ x. drop 2 xs ≡ x ∷ drop 3 xs)
third_is o [] e = first_is o [] e
third_is o (x ∷ []) e = first_is o [] e
third_is o (x ∷ y ∷ xs) e = first_is o xs e

-- the first two are put back
pub put_back_twice : {A : Type 0} (xs : List A) (x y : A) → Some x ≡ slice_get xs 0 → Some y ≡ slice_get xs 1 → x ∷ y ∷ drop 2 xs ≡ xs
put_back_twice [] x y first second = absurd (cc)
put_back_twice (a ∷ []) x y first second = absurd (cc)
put_back_twice (a ∷ b ∷ xs) x y first second = cc

pub shorter : {A : Type 0} (xs : List A) → length xs ≤ 12 → length (drop 2 xs) ≤ 10
shorter [] h = omega arith
shorter (x ∷ []) h = omega arith
shorter (x ∷ y ∷ xs) h = omega (arith, h)
