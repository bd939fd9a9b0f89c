-- There are always enough names for variables that no text of a list is.
use Rattle.std.proofs.Common.{◌≡◌, ℕ, zero, suc, ◌+◌, ◌^◌, ◌≤◌, ◌<◌, Bool, true, false, not, cond, ◌||◌, List, [], ◌∷◌, length, filter, decimal, bytes_eq, refl, arith, inl, inr}
use Rattle.std.proofs.lemmas.Bool.{cases_Bool}
use Rattle.std.proofs.lemmas.Fmt.{decimal_injective}
use Rattle.std.proofs.lemmas.List.FromFn.{length-range_with_len}
use Rattle.std.proofs.lemmas.Slice.Eq.{bytes_eq-Decides}
use Rattle.std.specs.List.{range_with_len}
use Rattle.um_canonical.specs.Fresh.{Names, variable_name, is_taken}

-- how many pass
abbrev tally : (ℕ → Bool) → List ℕ → ℕ
tally p [] = 0
tally p (x ∷ xs) = cond (p x) (1 + tally p xs) (tally p xs)

others : (p : ℕ → Bool) (xs : List ℕ) → length (filter (λ n. not (p n)) xs) + tally p xs ≡ length xs
others p [] = refl
others p (x ∷ xs) =
    let rest = others p xs in
    elim (cases_Bool (p x)) [
      | inl held ↦ rw held (omega (arith, rest))
      | inr failed ↦ rw failed (omega (arith, rest))
    ]

abbrev is_var : List ℕ → ℕ → Bool
is_var t n = bytes_eq (variable_name n) t

same_name : (m n : ℕ) (t : List ℕ) → m < 2 ^ 64 → n < 2 ^ 64 → is_var t m ≡ true → is_var t n ≡ true → m ≡ n
same_name m n t small also h k =
    let a : variable_name m ≡ t = (bytes_eq-Decides (variable_name m) t).0 h in
    let b : variable_name n ≡ t = (bytes_eq-Decides (variable_name n) t).0 k in
    let same : decimal m ≡ decimal n = cc in
    decimal_injective m n small also same

none_behind : (t : List ℕ) (m b a : ℕ) → a < b → b + m < 2 ^ 64 → is_var t a ≡ true → tally (is_var t) (range_with_len b m) ≡ 0
none_behind t zero b a lt small h = refl
none_behind t (suc m) b a lt small h =
    elim (cases_Bool (is_var t b)) [
      | inl here ↦ let same = same_name a b t (omega arith) (omega arith) h here in absurd (omega arith)
      | inr other ↦ rw other (none_behind t m (b + 1) a (omega arith) (omega arith) h)
    ]

one_only : (t : List ℕ) (m a : ℕ) → a + m < 2 ^ 64 → tally (is_var t) (range_with_len a m) ≤ 1
one_only t zero a small = omega arith
one_only t (suc m) a small =
    elim (cases_Bool (is_var t a)) [
      | inl here ↦ let none = none_behind t m (a + 1) a (omega arith) (omega arith) here in rw (here, none) (omega arith)
      | inr other ↦ rw other (one_only t m (a + 1) (omega arith))
    ]

or_step : (a b : Bool) (x y z : ℕ) → x ≤ y + z → cond (a || b) (1 + x) x ≤ cond a (1 + y) y + cond b (1 + z) z
or_step true true x y z h = omega (arith, h)
or_step true false x y z h = omega (arith, h)
or_step false true x y z h = omega (arith, h)
or_step false false x y z h = h

count_or : (p q : ℕ → Bool) (xs : List ℕ) → tally (λ n. p n || q n) xs ≤ tally p xs + tally q xs
count_or p q [] = omega arith
count_or p q (x ∷ xs) = or_step (p x) (q x) (tally (λ n. p n || q n) xs) (tally p xs) (tally q xs) (count_or p q xs)

none_counted : (xs : List ℕ) → tally (is_taken []) xs ≡ 0
none_counted [] = refl
none_counted (x ∷ xs) = none_counted xs

few_taken : (taken : Names) (m : ℕ) → m < 2 ^ 64 → tally (is_taken taken) (range_with_len 0 m) ≤ length taken
few_taken [] m small = let none = none_counted (range_with_len 0 m) in omega (arith, none)
few_taken (t ∷ taken) m small =
    let one = one_only t m 0 (omega arith) in
    let rest = few_taken taken m small in
    let both = count_or (is_var t) (is_taken taken) (range_with_len 0 m) in
    omega (arith, one, rest, both)

pub enough : (taken : Names) (count : ℕ) → count + length taken < 2 ^ 64 → count ≤ length (filter (λ n. not (is_taken taken n)) (range_with_len 0 (count + length taken)))
enough taken count small =
    let xs = range_with_len 0 (count + length taken) in
    let few = few_taken taken (count + length taken) small in
    let both = others (is_taken taken) xs in
    let whole = length-range_with_len 0 (count + length taken) in
    omega (arith, few, both, whole)
