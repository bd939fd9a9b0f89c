-- Sublists of steps when one more is appended, and the equality of names.
use Rattle.std.proofs.Common.{◌≡◌, ℕ, Bool, true, false, eqb, List, [], ◌∷◌, ◌⊎◌, inl, inr, refl, eq-eqb}
use Rattle.std.proofs.lemmas.Bool.{eqb-true}
use mathlib.Core.Bool.{◌&&◌}
use Rattle.um_words.specs.Sublists.{same_name}
pub use Rattle.um_words.specs.Sublists.{sub_yes, sub_no, RunsBy-push}

pub same_itself : (n : List ℕ) → same_name n n ≡ true
same_itself [] = refl
same_itself (x ∷ xs) = rw (eq-eqb x x refl) (same_itself xs)

both_true : (a b : Bool) → (a && b) ≡ true → (a ≡ true) × (b ≡ true)
both_true true true e = (refl, refl)
both_true true false e = (refl, e)
both_true false b e = absurd (cc)

pub same_sound : (n m : List ℕ) → same_name n m ≡ true → n ≡ m
same_sound [] [] e = refl
same_sound [] (y ∷ ys) e = absurd (cc)
same_sound (x ∷ xs) [] e = absurd (cc)
same_sound (x ∷ xs) (y ∷ ys) e = let t = both_true (eqb x y) (same_name xs ys) e in let p = eqb-true x y t.0 in let q = same_sound xs ys t.1 in cc

-- whether two names are the same
pub name_cases : (n m : List ℕ) → (same_name n m ≡ true) ⊎ (same_name n m ≡ false)
name_cases n m = elim (same_name n m) as (λ b. (b ≡ true) ⊎ (b ≡ false)) [ true ↦ inl refl | false ↦ inr refl ]
