-- Numbers that are written in decimal are read back.
use Rattle.std.proofs.Common.{◌≡◌, ℕ, ◌+◌, ◌-◌, ◌*◌, ◌/◌, ◌%◌, ◌^◌, ◌≤◌, ◌<◌, Bool, true, false, ◌&&◌, List, [], ◌∷◌, ◌++◌, length, Ok, IsTrue, refl, ◌∙◌, arith, decimal, nat_le}
use Rattle.std.specs.List.{list_all}
use Rattle.std.proofs.lemmas.Bool.Decides.{nat_tests}
use Rattle.std.proofs.lemmas.List.Folds.{list_all-append}
use Rattle.std.proofs.lemmas.Fmt.{decimal_by_steps, length-decimal-le, decimal_nonempty}
use Rattle.um_script.specs.Numbers.{value_from, base, digit_value, is_digit, digits, is_hexadecimal, is_number, number}

-- both tests hold
pub and_true : (a b : Bool) → IsTrue (a && b) → IsTrue a × IsTrue b
and_true true b h = (refl, h)
and_true false b h = absurd cc

pub both_true : (a b : Bool) → IsTrue a → IsTrue b → IsTrue (a && b)
both_true true b h k = k
both_true false b h k = absurd cc

-- a list that passes one test passes a weaker one
pub list_all-weaker : {A : Type 0} (p q : A → Bool) → ((x : A) → IsTrue (p x) → IsTrue (q x)) → (xs : List A) → IsTrue (list_all p xs) → IsTrue (list_all q xs)
list_all-weaker p q weaker [] h = refl
list_all-weaker p q weaker (x ∷ xs) h =
    let both = and_true (p x) (list_all p xs) h in
    rw (weaker x both.0, list_all-weaker p q weaker xs both.1) refl

value_from-append : (hexadecimal : Bool) (high : ℕ) (xs ys : List ℕ) → value_from hexadecimal high (xs ++ ys) ≡ value_from hexadecimal (value_from hexadecimal high xs) ys
value_from-append hexadecimal high [] ys = refl
value_from-append hexadecimal high (x ∷ xs) ys = value_from-append hexadecimal (base hexadecimal * high + digit_value x) xs ys

pub digit_passes : (d : ℕ) → d < 10 → IsTrue (is_digit false (48 + d))
digit_passes d lt = grind (arith, nat_tests)

digit_counts : (d : ℕ) → d < 10 → digit_value (48 + d) ≡ d
digit_counts d lt = grind (arith, nat_tests)

-- the digits of a number, and what they spell
pub record Spells (n : ℕ) (ds : List ℕ) : Type 0 where
  pub digits_all : IsTrue (list_all (is_digit false) ds)
  pub value : value_from false 0 ds ≡ n

one_digit : (n : ℕ) → n < 10 → Spells n ((48 + n) ∷ [])
one_digit n lt = record {
  digits_all = rw (digit_passes n lt) refl;
  value = rw (digit_counts n lt) (omega arith);
}

more_digits : (n : ℕ) (ds : List ℕ) → 10 ≤ n → Spells (n / 10) ds → Spells n (ds ++ ((48 + n % 10) ∷ []))
more_digits n ds le front =
    let small : n % 10 < 10 = omega arith in
    record {
      digits_all = list_all-append (is_digit false) ds ((48 + n % 10) ∷ []) ∙ rw (front.digits_all, digit_passes (n % 10) small) refl;
      value = value_from-append false 0 ds ((48 + n % 10) ∷ []) ∙ rw (front.value, digit_counts (n % 10) small) (omega arith);
    }

pub decimal-spells : (n : ℕ) → n < 2 ^ 64 → Spells n (decimal n)
decimal-spells n lt = decimal_by_steps Spells one_digit more_digits n lt

pub digits_again : (most limit n : ℕ) → 0 < most → n < 10 ^ most → n < 2 ^ 64 → n ≤ limit → digits false most limit (decimal n) ≡ Ok n
digits_again most limit n some short small le =
    let spells = decimal-spells n small in
    let few = length-decimal-le most n some short small in
    let present = decimal_nonempty n small in
    let first : nat_le 1 (length (decimal n)) ≡ true = grind (arith, nat_tests) in
    let last : nat_le (length (decimal n)) most ≡ true = grind (arith, nat_tests) in
    let low : nat_le 0 n ≡ true = grind (arith, nat_tests) in
    let high : nat_le n limit ≡ true = grind (arith, nat_tests) in
    rw (first, last, spells.digits_all, spells.value, low, high) refl

-- decimal digits are no hexadecimal number
not_hexadecimal : (ds : List ℕ) → IsTrue (list_all (is_digit false) ds) → is_hexadecimal ds ≡ false
not_hexadecimal [] h = refl
not_hexadecimal (a ∷ []) h = grind (arith, nat_tests)
not_hexadecimal (a ∷ b ∷ ds) h = grind (arith, nat_tests)

pub number_again : (n : ℕ) → n ≤ 2 ^ 32 - 1 → number (decimal n) ≡ Ok n
number_again n le =
    let small : n < 2 ^ 64 = omega arith in
    let plain = not_hexadecimal (decimal n) (decimal-spells n small).digits_all in
    rw plain (digits_again 10 (2 ^ 32 - 1) n (omega arith) (omega arith) small le)

pub is_number_again : (n : ℕ) → n ≤ 2 ^ 32 - 1 → is_number (decimal n) ≡ true
is_number_again n le =
    let small : n < 2 ^ 64 = omega arith in
    let spells = decimal-spells n small in
    let plain = not_hexadecimal (decimal n) spells.digits_all in
    let few = length-decimal-le 10 n (omega arith) (omega arith) small in
    let present = decimal_nonempty n small in
    let first : nat_le 1 (length (decimal n)) ≡ true = grind (arith, nat_tests) in
    let last : nat_le (length (decimal n)) 10 ≡ true = grind (arith, nat_tests) in
    rw (plain, first, last, spells.digits_all) refl
