-- Sums of a number each, of which one changes otherwise than the others.
use Rattle.std.proofs.Common.{◌≡◌, ◌<◌, ◌≤◌, ℕ, zero, suc, ◌+◌, Bool, true, false, refl, sym, ap, subst, arith}
use Rattle.std.specs.Prelude.{◌==◌, nat_lt}
use Rattle.std.proofs.lemmas.Bool.{eqb-false, eqb-true, ltb-false, ltb-true}
use Rattle.um_refinement.specs.Fine.{one_if, total}

pub total-less : (g h : ℕ → ℕ) (n : ℕ) → ((k : ℕ) → k < n → g k ≤ h k) → total g n ≤ total h n
total-less g h zero few = omega arith
total-less g h (suc n) few =
    let before = total-less g h n (λ k l. few k (omega (arith, l))) in
    let last = few n (omega arith) in omega (arith, before, last)

pub total-but : (g h : ℕ → ℕ) (c got more : ℕ) → g c + got ≤ h c + more → (n : ℕ) → c < n → ((k : ℕ) → k < n → (k ≡ c → ⊥) → g k ≤ h k) → total g n + got ≤ total h n + more
total-but g h c got more here zero l few = absurd (omega (arith, l))
total-but g h c got more here (suc n) l few = by (n == c) refl (total-but g h c got more here n)
  where
    by : (b : Bool) → (n == c) ≡ b → (c < n → ((k : ℕ) → k < n → (k ≡ c → ⊥) → g k ≤ h k) → total g n + got ≤ total h n + more) → total g n + g n + got ≤ total h n + h n + more
    by true e rest =
        let same = eqb-true n c e in
        let last : g n + got ≤ h n + more = subst (λ k. g k + got ≤ h k + more) (sym same) here in
        let before = total-less g h n (λ k r. few k (omega (arith, r)) (λ is. omega (arith, is, same, r))) in omega (arith, before, last)
    by false e rest =
        let apart = eqb-false n c e in
        let before = rest (omega (arith, l, apart)) (λ k r other. few k (omega (arith, r)) other) in
        let last = few n (omega arith) apart in omega (arith, before, last)

-- one number may grow by one, wherever it is
pub total-more : (g h : ℕ → ℕ) (c : ℕ) → g c ≤ h c + 1 → (n : ℕ) → ((k : ℕ) → k < n → (k ≡ c → ⊥) → g k ≤ h k) → total g n ≤ total h n + 1
total-more g h c here n few = by (nat_lt c n) refl
  where
    by : (b : Bool) → nat_lt c n ≡ b → total g n ≤ total h n + 1
    by true e = let all = total-but g h c 0 1 (omega (arith, here)) n (ltb-true c n e) few in omega (arith, all)
    by false e = let past = ltb-false c n e in let all = total-less g h n (λ k l. few k l (λ same. omega (arith, same, l, past))) in omega (arith, all)

pub total-most : (g : ℕ → Bool) (n : ℕ) → total (λ k. one_if (g k)) n ≤ n
total-most g zero = omega arith
total-most g (suc n) = let before = total-most g n in let last = one-most (g n) in omega (arith, before, last)
  where
    one-most : (b : Bool) → one_if b ≤ 1
    one-most true = omega arith
    one-most false = omega arith

pub total-none : (g : ℕ → ℕ) (n : ℕ) → ((k : ℕ) → k < n → g k ≡ 0) → total g n ≡ 0
total-none g zero none = refl
total-none g (suc n) none = let before = total-none g n (λ k l. none k (omega (arith, l))) in let last = none n (omega arith) in omega (arith, before, last)

pub total-part : (g : ℕ → ℕ) (n k : ℕ) → k < n → g k ≤ total g n
total-part g zero k l = absurd (omega (arith, l))
total-part g (suc n) k l = by (n == k) refl (total-part g n k)
  where
    by : (b : Bool) → (n == k) ≡ b → (k < n → g k ≤ total g n) → g k ≤ total g n + g n
    by true e rest = let same : g n ≡ g k = ap g (eqb-true n k e) in omega (arith, same)
    by false e rest = let apart = eqb-false n k e in let more = rest (omega (arith, l, apart)) in omega (arith, more)

pub one-less : (a b : Bool) → (a ≡ true → b ≡ true) → one_if a ≤ one_if b
one-less true b h = let same = ap one_if (h refl) in omega (arith, same)
one-less false b h = omega arith
