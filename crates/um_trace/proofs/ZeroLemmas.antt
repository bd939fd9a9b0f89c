-- Bytes that are zero: by the bits that stand in any of them, and chunk by chunk.
use Rattle.std.proofs.Common.{◌≡◌, ◌<◌, ◌+◌, ◌*◌, ◌∙◌, ℕ, zero, suc, Bool, List, [], ◌∷◌, ◌==◌, arith, refl, sym, ap, length, take, drop, bit_or}
use Rattle.std.specs.Prelude.{◌&&◌, slice_index_or}
use Rattle.std.specs.List.{list_all}
use Rattle.std.specs.Simd.{first_chunks}
use Rattle.std.proofs.lemmas.Bool.Decides.{nat_tests}
use Rattle.std.proofs.Math.Bool.{and-true, and_assoc}
use Rattle.std.proofs.lemmas.List.{drop-drop, take-append-drop}
use Rattle.std.proofs.lemmas.List.Folds.{list_all-append}
use Rattle.std.proofs.lemmas.Nat.{le_or_l}

abbrev Zeros : List ℕ → Bool
Zeros bytes = list_all (λ (b : ℕ). b == 0) bytes

-- no bit stands in either
pub or-zero : (n b : ℕ) → (bit_or n b == 0) ≡ ((n == 0) && (b == 0))
or-zero zero b = refl
or-zero (suc n) b = let l = le_or_l (suc n) b in grind (arith, nat_tests)

-- one more of them
pub zero-more : (bytes : List ℕ) (i : ℕ) → i < length bytes → Zeros (take (i + 1) bytes) ≡ (Zeros (take i bytes) && (slice_index_or bytes i 0 == 0))
zero-more [] i less = absurd (omega (arith, less))
zero-more (x ∷ bytes) zero less = and-true (x == 0)
zero-more (x ∷ bytes) (suc i) less =
    let next : suc i + 1 ≡ suc (i + 1) = omega arith in
    ap (λ (n : ℕ). Zeros (take n (x ∷ bytes))) next
    ∙ ap (λ (b : Bool). (x == 0) && b) (zero-more bytes i (omega (arith, less)))
    ∙ sym (and_assoc (x == 0) (Zeros (take i bytes)) (slice_index_or bytes i 0 == 0))

-- the front and what stands behind it
pub zero-front : (n : ℕ) (bytes : List ℕ) → Zeros bytes ≡ (Zeros (take n bytes) && Zeros (drop n bytes))
zero-front n bytes = ap Zeros (sym (take-append-drop n bytes)) ∙ list_all-append (λ (b : ℕ). b == 0) (take n bytes) (drop n bytes)

-- a chunk, by its number
pub chunk-at : (n k : ℕ) (bytes : List ℕ) (i : ℕ) → i < k → slice_index_or (first_chunks n k bytes) i [] ≡ take n (drop (i * n) bytes)
chunk-at n zero bytes i less = absurd (omega (arith, less))
chunk-at n (suc k) bytes zero less = let none : 0 ≡ 0 * n = omega arith in ap (λ (m : ℕ). take n (drop m bytes)) none
chunk-at n (suc k) bytes (suc i) less =
    let far : n + i * n ≡ suc i * n = omega arith in
    chunk-at n k (drop n bytes) i (omega (arith, less)) ∙ ap (take n) (drop-drop (i * n) n bytes ∙ ap (λ (m : ℕ). drop m bytes) far)

-- the bytes behind a chunk of zeros
pub zero-chunk : (n k : ℕ) (bytes : List ℕ) (i : ℕ) → i < k → Zeros (drop (i * n) bytes) ≡ (Zeros (slice_index_or (first_chunks n k bytes) i []) && Zeros (drop ((i + 1) * n) bytes))
zero-chunk n k bytes i less =
    let far : i * n + n ≡ (i + 1) * n = omega arith in
    zero-front n (drop (i * n) bytes)
    ∙ ap (λ (c : List ℕ). Zeros c && Zeros (drop n (drop (i * n) bytes))) (sym (chunk-at n k bytes i less))
    ∙ ap (λ (d : List ℕ). Zeros (slice_index_or (first_chunks n k bytes) i []) && Zeros d) (drop-drop n (i * n) bytes ∙ ap (λ (m : ℕ). drop m bytes) far)
