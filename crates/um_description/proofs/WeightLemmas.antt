-- Sums and products that stand still at their greatest value.
use Rattle.std.proofs.Common.{◌≡◌, ℕ, zero, suc, ◌+◌, ◌-◌, ◌*◌, ◌^◌, ◌≤◌, Bool, true, false, refl, ap, sym, ◌∙◌, arith, replicate}
use Rattle.std.specs.Prelude.{nat_le, slice_index}
use Rattle.std.proofs.lemmas.Bool.Decides.{nat_tests}
use Rattle.std.proofs.lemmas.Nat.{mul-le}
use Rattle.um_description.specs.Weights.{counted}

pub counted_add : (a b : ℕ) → counted (counted a + counted b) ≡ counted (a + b)
counted_add a b = grind (arith)

pub counted_left : (a b : ℕ) → counted (counted a + b) ≡ counted (a + b)
counted_left a b = grind (arith)

pub counted_right : (a b : ℕ) → counted (a + counted b) ≡ counted (a + b)
counted_right a b = grind (arith)

pub counted_again : (a : ℕ) → counted (counted a) ≡ counted a
counted_again a = grind (arith)

counted_small : (c : ℕ) → c ≤ 2 ^ 64 - 1 → counted c ≡ c
counted_small c h = grind (arith)

counted_large : (c : ℕ) → 2 ^ 64 - 1 ≤ c → counted c ≡ 2 ^ 64 - 1
counted_large c h = grind (arith)

-- a product of a number that is large is large
large_times : (t c : ℕ) → 2 ^ 64 - 1 ≤ c → 2 ^ 64 - 1 ≤ suc t * c
large_times t c h = mul-le 1 (2 ^ 64 - 1) (suc t) c (omega arith) h

times_by : (t c : ℕ) (b : Bool) → nat_le c (2 ^ 64 - 1) ≡ b → counted (suc t * counted c) ≡ counted (suc t * c)
times_by t c true e = let small : c ≤ 2 ^ 64 - 1 = grind (arith, nat_tests) in ap (λ (n : ℕ). counted (suc t * n)) (counted_small c small)
times_by t c false e =
    let large : 2 ^ 64 - 1 ≤ c = grind (arith, nat_tests) in
    ap (λ (n : ℕ). counted (suc t * n)) (counted_large c large)
    ∙ counted_large (suc t * (2 ^ 64 - 1)) (large_times t (2 ^ 64 - 1) (omega arith)) ∙ sym (counted_large (suc t * c) (large_times t c large))

zero_times : (c : ℕ) → 0 * c ≡ 0
zero_times c = omega arith

pub counted_times : (t c : ℕ) → counted (t * counted c) ≡ counted (t * c)
counted_times zero c = ap counted (zero_times (counted c) ∙ sym (zero_times c))
counted_times (suc t) c = times_by t c (nat_le c (2 ^ 64 - 1)) refl

three : (a x r : ℕ) → counted (a + counted x + r) ≡ counted (a + (x + r))
three a x r = grind (arith)

-- one more line: what it costs, so many times, and then the rest
pub counted_sum : (a t c r sum : ℕ) → sum ≡ counted (a + counted (t * counted c)) → counted (sum + r) ≡ counted (a + (t * c + r))
counted_sum a t c r sum e =
    rw (e, counted_times t c) (counted_left (a + counted (t * c)) r ∙ three a (t * c) r)

-- nothing is left
pub counted_end : (a whole : ℕ) → a ≤ 2 ^ 64 - 1 → counted (a + 0) ≡ whole → a ≡ whole
counted_end a whole h e = grind (arith)

pub zeros : (n i : ℕ) → slice_index (replicate n 0) i ≡ 0
zeros zero i = refl
zeros (suc n) zero = refl
zeros (suc n) (suc i) = zeros n i
