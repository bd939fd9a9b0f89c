-- Texts that are equal have equal parts before a mark, and behind it.
use Rattle.std.proofs.Common.{◌≡◌, ℕ, Bool, true, List, [], ◌∷◌, ◌++◌, refl, arith}
use Rattle.std.specs.Prelude.{nat_lt}
use Rattle.std.proofs.lemmas.Bool.{and_parts}
use Rattle.std.specs.List.{list_all}
use Rattle.std.proofs.lemmas.Bool.Decides.{nat_tests}

-- each byte of a text is over a mark
abbrev pub over : ℕ → List ℕ → Bool
over mark xs = list_all (λ b. nat_lt mark b) xs

not_over : (mark : ℕ) → nat_lt mark mark ≡ true → ⊥
not_over mark h = grind (arith, nat_tests)

pub tails : (x y : ℕ) (xs ys : List ℕ) → x ∷ xs ≡ y ∷ ys → xs ≡ ys
tails x y xs ys h = cc

pub heads : (x y : ℕ) (xs ys : List ℕ) → x ∷ xs ≡ y ∷ ys → x ≡ y
heads x y xs ys h = cc

pub split : (mark : ℕ) (xs ys us vs : List ℕ) → over mark xs ≡ true → over mark ys ≡ true → xs ++ mark ∷ us ≡ ys ++ mark ∷ vs → (xs ≡ ys) × (us ≡ vs)
split mark [] [] us vs h k e = (refl, tails mark mark us vs e)
split mark [] (y ∷ ys) us vs h k e =
    let same : mark ≡ y = heads mark y us (ys ++ mark ∷ vs) e in
    absurd (not_over mark (rw (← same) at (and_parts (nat_lt mark y) (over mark ys) k).0))
split mark (x ∷ xs) [] us vs h k e =
    let same : x ≡ mark = heads x mark (xs ++ mark ∷ us) vs e in
    absurd (not_over mark (rw same at (and_parts (nat_lt mark x) (over mark xs) h).0))
split mark (x ∷ xs) (y ∷ ys) us vs h k e =
    let same : x ≡ y = heads x y (xs ++ mark ∷ us) (ys ++ mark ∷ vs) e in
    let rest = split mark xs ys us vs (and_parts (nat_lt mark x) (over mark xs) h).1 (and_parts (nat_lt mark y) (over mark ys) k).1 (tails x y (xs ++ mark ∷ us) (ys ++ mark ∷ vs) e) in
    (rw (same, rest.0) refl, rest.1)
