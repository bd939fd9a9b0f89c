-- The least power of two in the list of powers, and among all.
use Rattle.std.proofs.Common.{◌≡◌, inl, inr, ℕ, zero, suc, ◌-◌, ◌*◌, ◌/◌, ◌^◌, ◌<◌, ◌≤◌, List, [], ◌∷◌, max, sym, ap, ◌∙◌, arith}
use Rattle.std.proofs.Math.Nat.{pow-succ', mul_assoc, mul_comm, mul-le-mul_left}
use Rattle.std.proofs.Math.Pow.{pow_mono}
use Rattle.std.proofs.lemmas.Nat.{pow_pos, pow-add}
use Rattle.std.proofs.lemmas.Bool.{cases_lt}
use Rattle.std.proofs.lemmas.Bool.Decides.{nat_tests}
use Rattle.std.specs.Int.{IsPowerOfTwo}
use Rattle.um_base.specs.declared.names.Mpu.{Mpu}
use Rattle.um_base.specs.Layout.{first_from, powers}
use Rattle.um_layout.specs.Sizes.{IsLeastSize}

-- p, and what doubling it gives, m in all
abbrev pub doubled : ℕ → ℕ → List ℕ
doubled zero p = []
doubled (suc m) p = p ∷ doubled m (2 * p)

twice : (p j : ℕ) → p * 2 ^ suc j ≡ (2 * p) * 2 ^ j
twice p j = ap (λ x. p * x) (pow-succ' 2 j) ∙ sym (mul_assoc p 2 (2 ^ j)) ∙ ap (λ x. x * 2 ^ j) (mul_comm p 2)

at_least : (p j : ℕ) → p ≤ p * 2 ^ j
at_least p j = omega (arith, mul-le-mul_left {m = 1} {n = 2 ^ j} p (omega (arith, pow_pos j)))

first_from-doubled : (m p j n : ℕ) → j < m → n ≤ p * 2 ^ j → (0 < j → p * 2 ^ j < 2 * n) → first_from (doubled m p) n ≡ p * 2 ^ j
first_from-doubled zero p j n h low high = omega arith
first_from-doubled (suc m) p zero n h low high = grind (arith, nat_tests)
first_from-doubled (suc m) p (suc j) n h low high =
    let e = twice p j in
    let more = at_least (2 * p) j in
    let above : p < n = omega (arith, high (omega arith)) in
    let rest = first_from-doubled m (2 * p) j n (omega arith) (omega arith) (λ _. omega (arith, high (omega arith))) in
    grind (arith, nat_tests)

-- what is known of the next power of two: it is the first in the list
pub first_from-power : (n r : ℕ) → IsPowerOfTwo r → max n 32 ≤ r → r / 2 < max n 32 → n ≤ 65536 → (first_from powers n ≡ r) × (r ≤ 65536)
first_from-power n r (k, e) low high small =
    let five : 5 ≤ k = elim (cases_lt k 5) [ inl less ↦ absurd (omega (arith, pow_mono {i = k} {j = 4} (omega arith))) | inr more ↦ more ] in
    let few : k ≤ 16 = elim (cases_lt 16 k) [ inl more ↦ absurd (omega (arith, pow_mono {i = 17} {j = k} (omega arith))) | inr less ↦ less ] in
    let split : 2 ^ k ≡ 32 * 2 ^ (k - 5) = ap (λ i. 2 ^ i) (omega arith) ∙ pow-add 2 5 (k - 5) in
    let first = first_from-doubled 12 32 (k - 5) n (omega arith) (omega arith) (λ h. omega (arith, pow_mono {i = 1} {j = k - 5} (omega arith))) in
    (first ∙ sym split ∙ sym e, omega (arith, pow_mono {i = k} {j = 16} few))

half : (k : ℕ) → 0 < k → 2 ^ k ≡ 2 * 2 ^ (k - 1)
half zero h = omega arith
half (suc k) h = rw pow-succ' (ap (λ i. 2 * 2 ^ i) (omega arith))

-- it is the least among all powers from 32 on
pub least-power : (n r : ℕ) → IsPowerOfTwo r → max n 32 ≤ r → r / 2 < max n 32 → IsLeastSize Mpu.V7 n r
least-power n r (k, e) low high = record {
  guarded = (omega arith, (k, e));
  enough = omega arith;
  least = λ other guarded more. elim (cases_lt guarded.1.0 k) [
    | inl less ↦ absurd (omega (arith, guarded.1.1, pow_mono {i = guarded.1.0} {j = k - 1} (omega arith), half k (omega arith)))
    | inr same ↦ omega (arith, guarded.1.1, pow_mono {i = k} {j = guarded.1.0} same)
  ];
}
