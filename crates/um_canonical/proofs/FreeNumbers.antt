-- The free numbers are found one after the other.
use Rattle.std.proofs.Common.{◌≡◌, ℕ, suc, ◌+◌, ◌-◌, ◌≤◌, ◌<◌, not, nat_lt, List, [], ◌∷◌, ◌++◌, take, filter, length, refl, sym, ap, ◌∙◌, arith, append_assoc, length-append, inl, inr}
use Rattle.std.proofs.lemmas.Bool.{cases_Bool}
use Rattle.std.proofs.lemmas.Bool.Decides.{nat_tests}
use Rattle.std.specs.List.{range_with_len}
use Rattle.um_canonical.specs.Fresh.{Names, is_taken, with_free}

abbrev pub free_from : Names → ℕ → ℕ → List ℕ
free_from taken a m = filter (λ n. not (is_taken taken n)) (range_with_len a m)

take_none : {A : Type 0} (xs : List A) → take 0 xs ≡ []
take_none [] = refl
take_none (x ∷ xs) = refl

-- what is still to come
abbrev pub wanted : Names → ℕ → List ℕ → ℕ → ℕ → List ℕ
wanted taken count xs a m = take (count - length xs) (free_from taken a m)

full : (taken : Names) (count : ℕ) (xs : List ℕ) (a b m n : ℕ) → count ≤ length xs → wanted taken count xs a m ≡ wanted taken count xs b n
full taken count xs a b m n h =
    let none : count - length xs ≡ 0 = omega (arith, h) in
    rw none (take_none (free_from taken a m) ∙ sym (take_none (free_from taken b n)))

one_more : (taken : Names) (count : ℕ) (xs : List ℕ) (a m : ℕ) → length xs < count
    → (xs ++ a ∷ []) ++ wanted taken count (xs ++ a ∷ []) (a + 1) m ≡ xs ++ take (count - length xs) (a ∷ free_from taken (a + 1) m)
one_more taken count xs a m lt =
    let k = count - (length xs + 1) in
    let behind : count - length (xs ++ a ∷ []) ≡ k = omega (arith, length-append xs (a ∷ [])) in
    let before : count - length xs ≡ suc k = omega (arith, lt) in
    rw (behind, before) (append_assoc xs (a ∷ []) (take k (free_from taken (a + 1) m)))

pub kept : (taken : Names) (count : ℕ) (xs : List ℕ) (a m : ℕ)
    → with_free taken count xs a ++ wanted taken count (with_free taken count xs a) (a + 1) m ≡ xs ++ wanted taken count xs a (suc m)
kept taken count xs a m =
    elim (cases_Bool (nat_lt (length xs) count)) [
      | inl more ↦
          elim (cases_Bool (is_taken taken a)) [
            | inl used ↦ rw (more, used) refl
            | inr free ↦
                let lt : length xs < count = grind (arith, nat_tests, more) in
                rw (more, free) (one_more taken count xs a m lt)
          ]
      | inr none ↦
          let le : count ≤ length xs = grind (arith, nat_tests, none) in
          rw none (ap (λ (ys : List ℕ). xs ++ ys) (full taken count xs (a + 1) a m (suc m) le))
    ]
