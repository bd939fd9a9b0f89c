-- Areas of memory: from some byte on, all are 0.
use Rattle.std.proofs.Common.{◌≡◌, ℕ, ◌+◌, ◌-◌, ◌<◌, ◌≤◌, List, [], ◌∷◌, ◌++◌, take, drop, length, length-drop, get_or, replicate, slice_set, refl, sym, ap, ◌∙◌, arith, inl, inr, suc, min, max}
use Rattle.std.proofs.lemmas.List.{drop-drop, drop-replicate, drop-set-lt, drop_more, length-set, take-append-drop, append-nil}
use Rattle.std.proofs.Math.Seq.{take-length}
use Rattle.um_machine.specs.Memory.{put_bytes}
use Rattle.um_matrix.proofs.OfferLemmas.{le-or-lt}

abbrev pub zeros : ℕ → List ℕ
zeros n = replicate {A = ℕ} n 0

pub length-put : (xs : List ℕ) (i : ℕ) (bytes : List ℕ) → length (put_bytes xs i bytes) ≡ length xs
length-put xs i [] = refl
length-put xs i (b ∷ bytes) = length-put (slice_set xs i b) (i + 1) bytes ∙ length-set xs i b

-- what stands behind the bytes that are written
drop-put : (xs : List ℕ) (i : ℕ) (bytes : List ℕ) (m : ℕ) → i + length bytes ≤ m → drop m (put_bytes xs i bytes) ≡ drop m xs
drop-put xs i [] m h = refl
drop-put xs i (b ∷ bytes) m h = drop-put (slice_set xs i b) (i + 1) bytes m (omega (arith, h)) ∙ drop-set-lt m xs i b (omega (arith, h))

-- zeros from a byte on are zeros from a later one on
pub zeros-later : (xs : List ℕ) (size m n : ℕ) → drop m xs ≡ zeros (size - m) → m ≤ n → drop n xs ≡ zeros (size - n)
zeros-later xs size m n h less =
    let split : m + (n - m) ≡ n = omega (arith, less) in
    let left : size - m - (n - m) ≡ size - n = omega (arith, less) in
    ap (λ (k : ℕ). drop k xs) (sym split) ∙ sym (drop-drop (n - m) m xs) ∙ ap (drop (n - m)) h ∙ drop-replicate (n - m) (size - m) 0 ∙ ap zeros left

nothing : (xs : List ℕ) → length xs ≡ 0 → xs ≡ []
nothing [] h = refl
nothing (x ∷ xs) h = cc

pub none-behind : (xs : List ℕ) (n : ℕ) → length xs ≤ n → drop n xs ≡ []
none-behind xs n h = let left = length-drop n xs in nothing (drop n xs) (omega (arith, left, h))

-- a zero before them
pub zeros-before : (xs : List ℕ) (size used d : ℕ) → 0 < used → used ≤ size → length xs ≡ size → get_or xs (used - 1) d ≡ 0 → drop used xs ≡ zeros (size - used) → drop (used - 1) xs ≡ zeros (size - (used - 1))
zeros-before xs size used d some within long zero h =
    let next : used - 1 + 1 ≡ used = omega (arith, some) in
    let more : size - (used - 1) ≡ suc (size - used) = omega (arith, some, within) in
    drop_more xs (used - 1) d (omega (arith, some, within, long)) ∙ ap (λ (b : ℕ). b ∷ drop (used - 1 + 1) xs) zero ∙ ap (λ (k : ℕ). 0 ∷ drop k xs) next ∙ ap (λ (l : List ℕ). 0 ∷ l) h ∙ sym (ap zeros more)

pub zeros-put : (xs bytes : List ℕ) (i size used more : ℕ) → length xs ≡ size → drop used xs ≡ zeros (size - used) → used ≤ more → min (i + length bytes) size ≤ more → more ≤ size → drop more (put_bytes xs i bytes) ≡ zeros (size - more)
zeros-put xs bytes i size used more long h less enough within =
    elim (le-or-lt more (i + length bytes)) [
      | inr past ↦ drop-put xs i bytes more past ∙ zeros-later xs size used more h less
      | inl short ↦
          (let all : size ≤ more = omega (arith, short, enough) in
          let none : size - more ≡ 0 = omega (arith, all) in
          let wide = length-put xs i bytes in
          none-behind (put_bytes xs i bytes) more (omega (arith, wide, long, all)) ∙ ap zeros (sym none))
    ]

-- lists with the same front, and zeros behind it
pub same-area : (xs ys : List ℕ) (size n m k : ℕ) → take n xs ≡ take n ys → drop m xs ≡ zeros (size - m) → drop k ys ≡ zeros (size - k) → m ≤ n → k ≤ n → xs ≡ ys
same-area xs ys size n m k front one two less less2 =
    sym (take-append-drop n xs) ∙ ap (λ (l : List ℕ). l ++ drop n xs) front ∙ ap (λ (l : List ℕ). take n ys ++ l) (zeros-later xs size m n one less ∙ sym (zeros-later ys size k n two less2)) ∙ take-append-drop n ys

-- A vector whose items were written: as many as before.

pub written-back : (xs ws : List ℕ) (len : ℕ) → len ≡ length xs → length ws ≡ length xs → take len (ws ++ drop (length ws) xs) ≡ ws
written-back xs ws len many same =
    let none = none-behind xs (length ws) (omega (arith, same)) in
    let whole : len ≡ length ws = omega (arith, many, same) in
    ap (λ (l : List ℕ). take len (ws ++ l)) none ∙ ap (λ (k : ℕ). take k (ws ++ [])) whole ∙ ap (take (length ws)) (append-nil ws) ∙ take-length ws

pub area-kept : (xs ws : List ℕ) (len size more : ℕ) → len ≡ length xs → length xs ≡ size → length ws ≡ size → more ≤ size → drop more ws ≡ zeros (size - more)
    → (length (take len (ws ++ drop (length ws) xs)) ≡ size) × (more ≤ size) × (drop more (take len (ws ++ drop (length ws) xs)) ≡ zeros (size - more))
area-kept xs ws len size more many long long2 within behind =
    let back = written-back xs ws len many (omega (arith, long, long2)) in (ap (λ (l : List ℕ). length l) back ∙ long2, within, ap (drop more) back ∙ behind)

pub area-put : (xs bytes ws : List ℕ) (i len used more size : ℕ) → len ≡ length xs → length xs ≡ size → used ≤ size → drop used xs ≡ zeros (size - used) → ws ≡ put_bytes xs i bytes → more ≡ max used (min (i + length bytes) size)
    → (length (take len (ws ++ drop (length ws) xs)) ≡ size) × (more ≤ size) × (drop more (take len (ws ++ drop (length ws) xs)) ≡ zeros (size - more))
area-put xs bytes ws i len used more size many long within h is most =
    let wide = ap (λ (l : List ℕ). length l) is ∙ length-put xs i bytes in
    area-kept xs ws len size more many long (omega (arith, wide, long)) (omega (arith, most, within))
    (ap (drop more) is ∙ zeros-put xs bytes i size used more long h (omega (arith, most)) (omega (arith, most)) (omega (arith, most, within)))

-- another area's front, and the zeros behind it
pub front-taken : (xs ys : List ℕ) (size n m k : ℕ) → drop m xs ≡ zeros (size - m) → drop k ys ≡ zeros (size - k) → m ≤ n → k ≤ n → take n ys ++ drop n xs ≡ ys
front-taken xs ys size n m k one two less less2 =
    ap (λ (l : List ℕ). take n ys ++ l) (zeros-later xs size m n one less ∙ sym (zeros-later ys size k n two less2)) ∙ take-append-drop n ys
