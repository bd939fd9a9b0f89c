-- The order of placing, and what it keeps.
use Rattle.std.proofs.Common.{◌≡◌, ◌⊎◌, inl, inr, ℕ, ◌+◌, ◌<◌, ◌≤◌, true, false, cond, ◌==◌, List, length, get_or, refl, sym, ap, ◌∙◌, arith}
use Rattle.std.specs.Cmp.{IsStrictWeakOrder}
use Rattle.std.specs.Ordering.{is_lt, nat_cmp, ordering_then}
use Rattle.std.specs.List.{swap}
use Rattle.std.specs.List.Sorted.{IsPermutation, IsSortedBy}
use Rattle.std.proofs.lemmas.Bool.Decides.{nat_tests}
use Rattle.std.proofs.lemmas.List.Edits.{swapped_from_swap}
use Rattle.std.proofs.lemmas.List.Sorted.{IsPermutation-keeps, IsPermutation-swap, length_permutation, sorted_far}
use Rattle.um_base.specs.declared.names.Mpu.{Mpu}
use Rattle.um_layout.specs.Entries.{before, AreOrdered, AreDistinct}
use Rattle.um_layout.specs.declared.entries.Entry.{Entry}

-- the keys of the sort compare as the order of placing says
by_keys : (x y : Entry) → is_lt (ordering_then (nat_cmp y.size x.size) (nat_cmp x.number y.number)) ≡ before Mpu.V7 x y
by_keys x y = grind (arith, nat_tests)

pub sorted_from_keys : (xs : List Entry)
    → ((k : ℕ) (d : Entry) → 0 ≤ k → k + 1 < length xs
    → is_lt (ordering_then (nat_cmp (get_or xs k d).size (get_or xs (k + 1) d).size) (nat_cmp (get_or xs (k + 1) d).number (get_or xs k d).number)) ≡ false)
    → IsSortedBy (before Mpu.V7) xs
sorted_from_keys xs h k d low high = sym (by_keys (get_or xs (k + 1) d) (get_or xs k d)) ∙ h k d low high

before_one_way : (x y : Entry) → before Mpu.V7 x y ≡ true → before Mpu.V7 y x ≡ false
before_one_way x y h = grind (arith, nat_tests)

before_chain : (x y z : Entry) → before Mpu.V7 x y ≡ false → before Mpu.V7 y z ≡ false → before Mpu.V7 x z ≡ false
before_chain x y z h k = grind (arith, nat_tests)

before_weak : IsStrictWeakOrder (before Mpu.V7)
before_weak = record { one_way = before_one_way; chain = before_chain }

either : (x y : Entry) → before Mpu.V7 y x ≡ false → (x.number ≡ y.number) ⊎ (before Mpu.V7 x y ≡ true)
either x y h = grind (arith, nat_tests)

-- entries that are sorted, and whose numbers differ, are in order
pub ordered_from_sorted : (xs : List Entry) → IsSortedBy (before Mpu.V7) xs → AreDistinct xs → AreOrdered Mpu.V7 xs
ordered_from_sorted xs sorted distinct i j d h k =
    elim (either (get_or xs i d) (get_or xs j d) (sorted_far (before Mpu.V7) before_weak xs sorted i j d (omega arith) k)) [
      | inl same ↦ absurd (omega (arith, distinct i j d (omega arith) k same))
      | inr placed ↦ placed
    ]

-- where an element of a list with two elements exchanged stood before
abbrev source : ℕ → ℕ → ℕ → ℕ
source a b i = cond (i == a) b (cond (i == b) a i)

source_within : (a b i n : ℕ) → a < n → b < n → i < n → source a b i < n
source_within a b i n h k l = grind (arith, nat_tests)

source_differs : (a b i j : ℕ) → source a b i ≡ source a b j → i ≡ j
source_differs a b i j e = grind (arith, nat_tests)

get_or-swap : (xs : List Entry) (a b i : ℕ) (d : Entry) → a < length xs → b < length xs → get_or (swap xs a b) i d ≡ get_or xs (source a b i) d
get_or-swap xs a b i d h k =
    let s = swapped_from_swap xs (swap xs a b) a b d h k refl in grind (arith, nat_tests)

length-swap : (xs : List Entry) (a b : ℕ) → a < length xs → b < length xs → length (swap xs a b) ≡ length xs
length-swap xs a b h k = length_permutation xs (swap xs a b) (IsPermutation-swap xs (swap xs a b) a b h k refl)

distinct_swap : (xs : List Entry) (a b : ℕ) → a < length xs → b < length xs → AreDistinct xs → AreDistinct (swap xs a b)
distinct_swap xs a b h k distinct i j d hi hj e =
    let n = length-swap xs a b h k in
    source_differs a b i j
    (distinct (source a b i) (source a b j) d (source_within a b i (length xs) h k (omega arith)) (source_within a b j (length xs) h k (omega arith))
    (ap (λ (x : Entry). x.number) (sym (get_or-swap xs a b i d h k)) ∙ e ∙ ap (λ (x : Entry). x.number) (get_or-swap xs a b j d h k)))

-- entries numbered as they stand, in another order
pub distinct_permuted : (xs ys : List Entry) → ((k : ℕ) (d : Entry) → k < length xs → (get_or xs k d).number ≡ k) → IsPermutation xs ys → AreDistinct ys
distinct_permuted xs ys numbered p =
    IsPermutation-keeps xs AreDistinct (λ i j d hi hj e. sym (numbered i d hi) ∙ e ∙ numbered j d hj) (λ l i j h k distinct. distinct_swap l i j h k distinct) ys p
