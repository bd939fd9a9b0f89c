-- Of two ranges that are placed in one area the one ends before the other begins.
use Rattle.std.proofs.Common.{◌≡◌, inl, inr, ◌⊎◌, ℕ, zero, suc, ◌+◌, ◌<◌, ◌≤◌, Bool, true, false, List, [], ◌∷◌, length, refl, arith, if◌then◌else◌, slice_index}
use Rattle.std.proofs.lemmas.Bool.{cases_lt}
use Rattle.std.proofs.lemmas.Bool.Decides.{nat_tests}
use Rattle.um_base.specs.declared.names.Mpu.{Mpu}
use Rattle.um_base.specs.Layout.{is_before, bytes_before, starts_from, starts}

one_first : (mpu : Mpu) (size i other j : ℕ) → i < j → (is_before mpu size i other j ≡ true) ⊎ (is_before mpu other j size i ≡ true)
one_first Mpu.V7 size i other j h =
    elim (cases_lt other size) [
      | inl less ↦ inl (grind (arith, nat_tests))
      | inr more ↦ elim (cases_lt size other) [ inl less ↦ inr (grind (arith, nat_tests)) | inr same ↦ inl (grind (arith, nat_tests)) ]
    ]
one_first Mpu.V8 size i other j h = inl (grind (arith, nat_tests))

not_itself : (mpu : Mpu) (size i : ℕ) → is_before mpu size i size i ≡ false
not_itself Mpu.V7 size i = grind (arith, nat_tests)
not_itself Mpu.V8 size i = grind (arith, nat_tests)

one_way : (mpu : Mpu) (e k x i y j : ℕ) → is_before mpu x i y j ≡ true → is_before mpu e k x i ≡ true → is_before mpu e k y j ≡ true
one_way Mpu.V7 e k x i y j h g = grind (arith, nat_tests)
one_way Mpu.V8 e k x i y j h g = grind (arith, nat_tests)

abbrev counted : Bool → ℕ → ℕ
counted b size = if b then size else 0

itself_most : (size : ℕ) → size ≤ size
itself_most size = omega arith

no_less : (b c : Bool) (size : ℕ) → (b ≡ true → c ≡ true) → counted b size ≤ counted c size
no_less true c size h = rw (h refl) (itself_most size)
no_less false c size h = omega arith

fewer : (mpu : Mpu) (sizes : List ℕ) (from x i y j : ℕ) → is_before mpu x i y j ≡ true → bytes_before mpu sizes from x i ≤ bytes_before mpu sizes from y j
fewer mpu [] from x i y j h = omega arith
fewer mpu (size ∷ sizes) from x i y j h =
    let rest = fewer mpu sizes (from + 1) x i y j h in
    let here = no_less (is_before mpu size from x i) (is_before mpu size from y j) size (one_way mpu size from x i y j h) in omega (arith, here, rest)

fewer_by : (mpu : Mpu) (sizes : List ℕ) (from x i y j k : ℕ) → is_before mpu x i y j ≡ true → k < length sizes → slice_index sizes k ≡ x → from + k ≡ i
    → bytes_before mpu sizes from x i + x ≤ bytes_before mpu sizes from y j
fewer_by mpu [] from x i y j k h inside at is = absurd (omega arith)
fewer_by mpu (size ∷ sizes) from x i y j zero h inside at is =
    let rest = fewer mpu sizes (from + 1) x i y j h in
    let index : from ≡ i = omega (arith, is) in
    let yes : is_before mpu size from y j ≡ true = rw (at, index) h in
    let no : is_before mpu size from x i ≡ false = rw (at, index) (not_itself mpu x i) in rw (yes, no) (omega (arith, at, rest))
fewer_by mpu (size ∷ sizes) from x i y j (suc k) h inside at is =
    let rest = fewer_by mpu sizes (from + 1) x i y j k h (omega arith) at (omega (arith, is)) in
    let here = no_less (is_before mpu size from x i) (is_before mpu size from y j) size (one_way mpu size from x i y j h) in omega (arith, here, rest)

-- where an entry begins
start_at : (mpu : Mpu) (area : ℕ) (all sizes : List ℕ) (j k : ℕ) → k < length sizes → slice_index (starts_from mpu area all sizes j) k ≡ area + bytes_before mpu all 0 (slice_index sizes k) (j + k)
start_at mpu area all [] j k h = absurd (omega arith)
start_at mpu area all (size ∷ sizes) j zero h = let same : j + 0 ≡ j = omega arith in rw same refl
start_at mpu area all (size ∷ sizes) j (suc k) h = let same : j + suc k ≡ j + 1 + k = omega arith in rw same (start_at mpu area all sizes (j + 1) k (omega arith))

-- the i-th ends before the j-th begins
abbrev pub Ends : Mpu → ℕ → List ℕ → ℕ → ℕ → Type 0
Ends mpu area sizes i j = slice_index (starts mpu area sizes) i + slice_index sizes i ≤ slice_index (starts mpu area sizes) j

pub places_apart : (mpu : Mpu) (area : ℕ) (sizes : List ℕ) (i j : ℕ) → i < j → j < length sizes → Ends mpu area sizes i j ⊎ Ends mpu area sizes j i
places_apart mpu area sizes i j h inside =
    let x = slice_index sizes i in
    let y = slice_index sizes j in
    let first = start_at mpu area sizes sizes 0 i (omega arith) in
    let second = start_at mpu area sizes sizes 0 j inside in
    let ix : 0 + i ≡ i = omega arith in
    let jx : 0 + j ≡ j = omega arith in
    elim (one_first mpu x i y j h) [
      | inl before ↦
          let less = fewer_by mpu sizes 0 x i y j i before (omega arith) refl ix in
          let a = rw ix at first in let b = rw jx at second in inl (omega (arith, less, a, b))
      | inr before ↦
          let less = fewer_by mpu sizes 0 y j x i j before inside refl jx in
          let a = rw ix at first in let b = rw jx at second in inr (omega (arith, less, a, b))
    ]
