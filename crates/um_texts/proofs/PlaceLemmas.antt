-- Ranges that are placed one after another begin at different places.
use Rattle.std.proofs.Common.{◌≡◌, inl, inr, ◌⊎◌, ℕ, zero, suc, ◌+◌, ◌<◌, ◌≤◌, Bool, true, false, List, [], ◌∷◌, length, refl, ap, arith, if◌then◌else◌, slice_index, sum}
use Rattle.std.specs.Prelude.{nat_le}
use Rattle.std.proofs.lemmas.Bool.{cases_lt}
use Rattle.std.proofs.lemmas.Bool.Decides.{nat_tests}
use Rattle.std.proofs.lemmas.List.Sums.{sum_by-cons}
use Rattle.um_base.specs.declared.names.Mpu.{Mpu}
use Rattle.um_base.specs.Layout.{powers, first_from, rounded, is_before, bytes_before, starts_from, starts}

-- Which of two is placed first.

one_first : (mpu : Mpu) (size i other j : ℕ) → i < j → (is_before mpu size i other j ≡ true) ⊎ (is_before mpu other j size i ≡ true)
one_first Mpu.V7 size i other j h =
    elim (cases_lt other size) [
      | inl less ↦ inl (grind (arith, nat_tests))
      | inr more ↦ elim (cases_lt size other) [ inl less ↦ inr (grind (arith, nat_tests)) | inr same ↦ inl (grind (arith, nat_tests)) ]
    ]
one_first Mpu.V8 size i other j h = inl (grind (arith, nat_tests))

not_itself : (mpu : Mpu) (size i : ℕ) → is_before mpu size i size i ≡ false
not_itself Mpu.V7 size i = grind (arith, nat_tests)
not_itself Mpu.V8 size i = grind (arith, nat_tests)

one_way : (mpu : Mpu) (e k x i y j : ℕ) → is_before mpu x i y j ≡ true → is_before mpu e k x i ≡ true → is_before mpu e k y j ≡ true
one_way Mpu.V7 e k x i y j h g = grind (arith, nat_tests)
one_way Mpu.V8 e k x i y j h g = grind (arith, nat_tests)

abbrev weight : Bool → ℕ → ℕ
weight b size = if b then size else 0

no_less : (b c : Bool) (size : ℕ) → (b ≡ true → c ≡ true) → weight b size ≤ weight c size
no_less true c size h = rw h refl_le
  where
    refl_le : size ≤ size
    refl_le = omega arith
no_less false c size h = omega arith

fewer : (mpu : Mpu) (sizes : List ℕ) (from x i y j : ℕ) → is_before mpu x i y j ≡ true → bytes_before mpu sizes from x i ≤ bytes_before mpu sizes from y j
fewer mpu [] from x i y j h = omega arith
fewer mpu (size ∷ sizes) from x i y j h =
    let rest = fewer mpu sizes (from + 1) x i y j h in
    let here = no_less (is_before mpu size from x i) (is_before mpu size from y j) size (one_way mpu size from x i y j h) in omega (arith, here, rest)

fewer_by : (mpu : Mpu) (sizes : List ℕ) (from x i y j k : ℕ) → is_before mpu x i y j ≡ true → k < length sizes → slice_index sizes k ≡ x → from + k ≡ i
    → bytes_before mpu sizes from x i + x ≤ bytes_before mpu sizes from y j
fewer_by mpu [] from x i y j k h inside at is = absurd (omega arith)
fewer_by mpu (size ∷ sizes) from x i y j zero h inside at is =
    let rest = fewer mpu sizes (from + 1) x i y j h in
    let index : from ≡ i = omega (arith, is) in
    let yes : is_before mpu size from y j ≡ true = rw (at, index) h in
    let no : is_before mpu size from x i ≡ false = rw (at, index) (not_itself mpu x i) in rw (yes, no) (omega (arith, at, rest))
fewer_by mpu (size ∷ sizes) from x i y j (suc k) h inside at is =
    let rest = fewer_by mpu sizes (from + 1) x i y j k h (omega arith) at (omega (arith, is)) in
    let here = no_less (is_before mpu size from x i) (is_before mpu size from y j) size (one_way mpu size from x i y j h) in omega (arith, here, rest)

-- the place of an entry
start_at : (mpu : Mpu) (area : ℕ) (all sizes : List ℕ) (j k : ℕ) → k < length sizes → slice_index (starts_from mpu area all sizes j) k ≡ area + bytes_before mpu all 0 (slice_index sizes k) (j + k)
start_at mpu area all [] j k h = absurd (omega arith)
start_at mpu area all (size ∷ sizes) j zero h = let same : j + 0 ≡ j = omega arith in rw same refl
start_at mpu area all (size ∷ sizes) j (suc k) h = let same : j + suc k ≡ j + 1 + k = omega arith in rw same (start_at mpu area all sizes (j + 1) k (omega arith))

starts_length : (mpu : Mpu) (area : ℕ) (all sizes : List ℕ) (j : ℕ) → length (starts_from mpu area all sizes j) ≡ length sizes
starts_length mpu area all [] j = refl
starts_length mpu area all (size ∷ sizes) j = ap suc (starts_length mpu area all sizes (j + 1))

pub placed_apart : (mpu : Mpu) (area : ℕ) (sizes : List ℕ) (i j : ℕ) → ((k : ℕ) → k < length sizes → 1 ≤ slice_index sizes k) → i < j → j < length sizes
    → slice_index (starts mpu area sizes) i ≡ slice_index (starts mpu area sizes) j → ⊥
placed_apart mpu area sizes i j some h inside same =
    let x = slice_index sizes i in
    let y = slice_index sizes j in
    let first = start_at mpu area sizes sizes 0 i (omega arith) in
    let second = start_at mpu area sizes sizes 0 j inside in
    let ix : 0 + i ≡ i = omega arith in
    let jx : 0 + j ≡ j = omega arith in
    let one = some i (omega arith) in
    let two = some j inside in
    elim (one_first mpu x i y j h) [
      | inl before ↦
          let less = fewer_by mpu sizes 0 x i y j i before (omega arith) refl ix in
          let a = rw ix at first in let b = rw jx at second in omega (arith, less, a, b, same, one)
      | inr before ↦
          let less = fewer_by mpu sizes 0 y j x i j before inside refl jx in
          let a = rw ix at first in let b = rw jx at second in omega (arith, less, a, b, same, two)
    ]

-- All begin within their sum.

at_most : (b : Bool) (size : ℕ) → weight b size ≤ size
at_most true size = omega arith
at_most false size = omega arith

before_sum : (mpu : Mpu) (sizes : List ℕ) (from x i : ℕ) → bytes_before mpu sizes from x i ≤ sum sizes
before_sum mpu [] from x i = omega arith
before_sum mpu (size ∷ sizes) from x i =
    let rest = before_sum mpu sizes (from + 1) x i in
    let here = at_most (is_before mpu size from x i) size in
    let all : sum (size ∷ sizes) ≡ size + sum sizes = sum_by-cons (λ (n : ℕ). n) size sizes in omega (arith, here, rest, all)

pub placed_within : (mpu : Mpu) (area : ℕ) (sizes : List ℕ) (k : ℕ) → k < length sizes → slice_index (starts mpu area sizes) k ≤ area + sum sizes
placed_within mpu area sizes k h = let at = start_at mpu area sizes sizes 0 k h in let most = before_sum mpu sizes 0 (slice_index sizes k) (0 + k) in omega (arith, at, most)

pub placed_length : (mpu : Mpu) (area : ℕ) (sizes : List ℕ) → length (starts mpu area sizes) ≡ length sizes
placed_length mpu area sizes = starts_length mpu area sizes sizes 0

-- A rounded size isn't 0.

either : (b : Bool) (x y : ℕ) → 1 ≤ x → 1 ≤ y → 1 ≤ (if b then x else y)
either true x y h k = h
either false x y h k = k

powers_some : (n : ℕ) → nat_le n 65536 ≡ true → 1 ≤ first_from powers n
powers_some n h =
    either (nat_le n 32) 32 _ (omega arith)
    (either (nat_le n 64) 64 _ (omega arith)
    (either (nat_le n 128) 128 _ (omega arith)
    (either (nat_le n 256) 256 _ (omega arith)
    (either (nat_le n 512) 512 _ (omega arith)
    (either (nat_le n 1024) 1024 _ (omega arith)
    (either (nat_le n 2048) 2048 _ (omega arith)
    (either (nat_le n 4096) 4096 _ (omega arith)
    (either (nat_le n 8192) 8192 _ (omega arith) (either (nat_le n 16384) 16384 _ (omega arith) (either (nat_le n 32768) 32768 _ (omega arith) (last (nat_le n 65536) h)))))))))))
  where
    last : (b : Bool) → b ≡ true → 1 ≤ (if b then 65536 else 0)
    last b e = rw e (omega arith)

pub rounded_some : (mpu : Mpu) (n : ℕ) → 1 ≤ n → n ≤ 65536 → 1 ≤ rounded mpu n
rounded_some Mpu.V7 n h k = powers_some n (grind (arith, nat_tests))
rounded_some Mpu.V8 n h k = omega arith
