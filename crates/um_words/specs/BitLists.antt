-- Bits of a number, and the list of them.
use Rattle.std.proofs.Common.{◌≡◌, ℕ, zero, suc, ◌+◌, ◌-◌, ◌*◌, ◌<◌, ◌≤◌, ◌/◌, ◌%◌, ◌^◌, Bool, true, false, not, List, [], ◌∷◌, replicate, slice_index_or, slice_set, length, refl, sym, ap, ◌∙◌, arith, subst}
use Rattle.std.specs.Prelude.{◌==◌, ◌&&◌}
use Rattle.std.specs.List.{list_all}
use Rattle.std.proofs.lemmas.Bool.Decides.{nat_tests}
use Rattle.std.proofs.lemmas.Nat.Bits.{bit_at-suc}
use Rattle.um_words.specs.Bits.{bit, bits_of, number_of}

bit-odd : (n : ℕ) → bit (n % 2 == 1) ≡ n % 2
bit-odd n = elim (n % 2 == 1) as (λ b. (n % 2 == 1 ≡ b) → bit b ≡ n % 2) [ true ↦ λ e. grind (arith, nat_tests) | false ↦ λ e. grind (arith, nat_tests) ] refl

odd-bit : (b : Bool) (n : ℕ) → ((bit b + 2 * n) % 2 == 1) ≡ b
odd-bit true n = let e : (1 + 2 * n) % 2 ≡ 1 = omega arith in ap (λ m. m == 1) e
odd-bit false n = let e : (0 + 2 * n) % 2 ≡ 0 = omega arith in ap (λ m. m == 1) e

half-bit : (b : Bool) (n : ℕ) → (bit b + 2 * n) / 2 ≡ n
half-bit true n = omega arith
half-bit false n = omega arith

pub number_of-bits : (width n : ℕ) → n < 2 ^ width → number_of (bits_of width n) ≡ n
unfolding bits_of number_of
number_of-bits zero n h = omega arith
number_of-bits (suc width) n h =
    let i = number_of-bits width (n / 2) (omega arith) in let b = bit-odd n in omega arith

pub bits_of-number : (bs : List Bool) → bits_of (length bs) (number_of bs) ≡ bs
unfolding bits_of number_of
bits_of-number [] = refl
bits_of-number (b ∷ bs) = λ i. odd-bit b (number_of bs) i ∷ (ap (bits_of (length bs)) (half-bit b (number_of bs)) ∙ bits_of-number bs) i

pub length-bits : (width n : ℕ) → length (bits_of width n) ≡ width
unfolding bits_of
length-bits zero n = refl
length-bits (suc width) n = ap suc (length-bits width (n / 2))

pub bits_of-zero : (width : ℕ) → bits_of width 0 ≡ replicate width false
unfolding bits_of
bits_of-zero zero = refl
bits_of-zero (suc width) = ap (λ bs. false ∷ bs) (bits_of-zero width)

-- a bit of a half is the next bit of the whole
half-place : (n t : ℕ) → n / 2 / 2 ^ t % 2 ≡ n / 2 ^ suc t % 2
half-place n t = sym (bit_at-suc n t)

pub index-bits : (width n t : ℕ) → t < width → slice_index_or (bits_of width n) t false ≡ (n / 2 ^ t % 2 == 1)
unfolding bits_of
index-bits zero n t h = absurd (omega arith)
index-bits (suc width) n zero h = let e : n / 1 ≡ n = omega arith in ap (λ m. m % 2 == 1) (sym e)
index-bits (suc width) n (suc t) h = index-bits width (n / 2) t (omega arith) ∙ ap (λ m. m == 1) (half-place n t)

both-zero : (n : ℕ) → (not (n % 2 == 1) && (n / 2 == 0)) ≡ (n == 0)
both-zero n = grind (arith, nat_tests)

pub all_off-bits : (width n : ℕ) → n < 2 ^ width → list_all not (bits_of width n) ≡ (n == 0)
unfolding bits_of
all_off-bits zero n h = let e : n ≡ 0 = omega arith in ap (λ m. m == 0) (sym e)
all_off-bits (suc width) n h = ap (λ b. not (n % 2 == 1) && b) (all_off-bits width (n / 2) (omega arith)) ∙ both-zero n

-- a number with a bit set is at least that bit's power
pub set-below : (n t : ℕ) → n / 2 ^ t % 2 ≡ 1 → 2 ^ t ≤ n
set-below n zero e = omega arith
set-below n (suc t) e = let h = set-below (n / 2) t (half-place n t ∙ e) in let p : 2 ^ suc t ≡ 2 * 2 ^ t = omega arith in omega arith

-- the sum stays in the width
pub add-fits : (width n t : ℕ) → n < 2 ^ width → t < width → n / 2 ^ t % 2 ≡ 0 → n + 2 ^ t < 2 ^ width
add-fits zero n t h l e = absurd (omega arith)
add-fits (suc width) n zero h l e = let p : 2 ^ suc width ≡ 2 * 2 ^ width = omega arith in omega arith
add-fits (suc width) n (suc t) h l e =
    let p : 2 ^ suc width ≡ 2 * 2 ^ width = omega arith in
    let q : 2 ^ suc t ≡ 2 * 2 ^ t = omega arith in
    let i = add-fits width (n / 2) t (omega arith) (omega arith) (half-place n t ∙ e) in omega arith

-- a bit that is-not set is set by an addition
pub add-bit : (width n t : ℕ) → t < width → n / 2 ^ t % 2 ≡ 0 → bits_of width (n + 2 ^ t) ≡ slice_set (bits_of width n) t true
unfolding bits_of
add-bit zero n t h e = absurd (omega arith)
add-bit (suc width) n zero h e = let a : (n + 1) % 2 ≡ 1 = omega arith in let b : (n + 1) / 2 ≡ n / 2 = omega arith in λ i. (a i == 1) ∷ bits_of width (b i)
add-bit (suc width) n (suc t) h e =
    let p : 2 ^ suc t ≡ 2 * 2 ^ t = omega arith in
    let a : (n + 2 ^ suc t) % 2 ≡ n % 2 = omega arith in
    let b : (n + 2 ^ suc t) / 2 ≡ n / 2 + 2 ^ t = omega arith in
    (λ i. (a i == 1) ∷ bits_of width (b i)) ∙ ap (λ bs. (n % 2 == 1) ∷ bs) (add-bit width (n / 2) t (omega arith) (half-place n t ∙ e))

-- a bit that is set is cleared by a subtraction
pub subtract-bit : (width n t : ℕ) → t < width → n / 2 ^ t % 2 ≡ 1 → bits_of width (n - 2 ^ t) ≡ slice_set (bits_of width n) t false
unfolding bits_of
subtract-bit zero n t h e = absurd (omega arith)
subtract-bit (suc width) n zero h e = let a : (n - 1) % 2 ≡ 0 = omega arith in let b : (n - 1) / 2 ≡ n / 2 = omega arith in λ i. (a i == 1) ∷ bits_of width (b i)
subtract-bit (suc width) n (suc t) h e =
    let p : 2 ^ suc t ≡ 2 * 2 ^ t = omega arith in
    let half : n / 2 / 2 ^ t % 2 ≡ 1 = half-place n t ∙ e in
    let le = set-below (n / 2) t half in
    let a : (n - 2 ^ suc t) % 2 ≡ n % 2 = omega arith in
    let b : (n - 2 ^ suc t) / 2 ≡ n / 2 - 2 ^ t = omega arith in
    (λ i. (a i == 1) ∷ bits_of width (b i)) ∙ ap (λ bs. (n % 2 == 1) ∷ bs) (subtract-bit width (n / 2) t (omega arith) half)

pub index-beyond : (bs : List Bool) (t : ℕ) → length bs ≤ t → slice_index_or bs t false ≡ false
index-beyond [] t h = refl
index-beyond (b ∷ bs) zero h = absurd (omega arith)
index-beyond (b ∷ bs) (suc t) h = index-beyond bs t (omega arith)

pub same-set : (bs : List Bool) (t : ℕ) (b : Bool) → t < length bs → slice_index_or bs t false ≡ b → bs ≡ slice_set bs t b
same-set [] t b h e = absurd (omega arith)
same-set (x ∷ xs) zero b h e = ap (λ y. y ∷ xs) e
same-set (x ∷ xs) (suc t) b h e = ap (λ ys. x ∷ ys) (same-set xs t b (omega arith) e)

pub set-beyond : (bs : List Bool) (t : ℕ) (b : Bool) → length bs ≤ t → bs ≡ slice_set bs t b
set-beyond [] t b h = refl
set-beyond (x ∷ xs) zero b h = absurd (omega arith)
set-beyond (x ∷ xs) (suc t) b h = ap (λ ys. x ∷ ys) (set-beyond xs t b (omega arith))

pub length-list : (n : ℕ) (bs : List Bool) → bits_of 32 n ≡ bs → length bs ≡ 32
length-list n bs is = ap length (sym is) ∙ length-bits 32 n

twice : (n : ℕ) → 2 ^ suc n ≡ 2 * 2 ^ n
twice n = omega arith

bound : (bs : List Bool) → number_of bs < 2 ^ length bs
unfolding number_of
bound [] = omega arith
bound (true ∷ bs) = let h = bound bs in let p : 2 ^ length (true ∷ bs) ≡ 2 * 2 ^ length bs = twice (length bs) in omega arith
bound (false ∷ bs) = let h = bound bs in let p : 2 ^ length (false ∷ bs) ≡ 2 * 2 ^ length bs = twice (length bs) in omega arith

pub number-small : (bs : List Bool) → length bs ≡ 32 → number_of bs < 4294967296
number-small bs long = subst (λ n. number_of bs < 2 ^ n) long (bound bs)
