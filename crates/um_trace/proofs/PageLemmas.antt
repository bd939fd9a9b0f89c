-- Lines of blocks, a page of them after another.
use Rattle.std.proofs.Common.{◌≡◌, ℕ, zero, suc, ◌+◌, ◌-◌, ◌*◌, true, ◌==◌, List, [], ◌∷◌, ◌++◌, take, drop, refl, sym, ap, subst, ◌∙◌, arith, append_assoc}
use Rattle.std.proofs.Math.Nat.{mul-add}
use Rattle.std.proofs.Math.Seq.{take-add}
use Rattle.std.specs.Global.{Vec}
use Rattle.std.specs.List.{flat_map, list_all, range_with_len}
use Rattle.std.proofs.lemmas.Bool.{and_parts}
use Rattle.std.proofs.lemmas.Grind.{flat_map-append}
use Rattle.std.proofs.lemmas.List.{append-nil, drop-drop}
use Rattle.std.proofs.lemmas.List.Folds.{list_all-append}
use Rattle.um_trace.specs.Dump.{numbers, block, block_line}
use Rattle.um_trace.specs.Room.{Puts}
use Rattle.um_trace.proofs.LineLemmas.{range_more, numbers_more}

-- the numbers below a bound, and a range after them
numbers_range : (a n : ℕ) → numbers (a + n) ≡ numbers a ++ range_with_len a n
numbers_range a zero = let e : a + 0 ≡ a = omega arith in rw e (sym (append-nil (numbers a)))
numbers_range a (suc n) =
    let e : a + suc n ≡ (a + n) + 1 = omega arith in
    let s : suc n ≡ n + 1 = omega arith in
    ap numbers e ∙ numbers_more (a + n) ∙ ap (λ (xs : List ℕ). xs ++ (a + n) ∷ []) (numbers_range a n) ∙ append_assoc (numbers a) (range_with_len a n) ((a + n) ∷ [])
    ∙ ap (λ (xs : List ℕ). numbers a ++ xs) (sym (range_more a n) ∙ ap (range_with_len a) (sym s))

-- nothing is put
pub puts_nothing : (a : Vec ℕ) (most : ℕ) → Puts a a [] most
puts_nothing a most = record { items = sym (append-nil a.items); len = omega arith; capacity = omega arith }

-- a line of a range, and one more
pub puts_line : (f : ℕ → List ℕ) (most first k : ℕ) (a b c : Vec ℕ) → Puts a b (flat_map f (range_with_len first k)) (most * k) → Puts b c (f (first + k)) most
    → Puts a c (flat_map f (range_with_len first (k + 1))) (most * (k + 1))
puts_line f most first k a b c before line =
    let lines : flat_map f (range_with_len first (k + 1)) ≡ flat_map f (range_with_len first k) ++ f (first + k) =
    ap (flat_map f) (range_more first k) ∙ flat_map-append f (range_with_len first k) ((first + k) ∷ []) ∙ ap (λ (xs : List ℕ). flat_map f (range_with_len first k) ++ xs) (append-nil (f (first + k))) in
    record {
      items = rw (line.items, before.items, lines) (append_assoc a.items (flat_map f (range_with_len first k)) (f (first + k)));
      len = omega (arith, mul-add most k 1);
      capacity = omega arith;
    }

-- the lines of the pages before, and those of a page more
pub puts_page : (f : ℕ → List ℕ) (most size page : ℕ) (a b c : Vec ℕ) → Puts a b (flat_map f (numbers (size * page))) (most * (size * page)) → Puts b c (flat_map f (range_with_len (size * page) size)) (most * size)
    → Puts a c (flat_map f (numbers (size * (page + 1)))) (most * (size * (page + 1)))
puts_page f most size page a b c before lines =
    let e : size * (page + 1) ≡ size * page + size = omega (arith, mul-add size page 1) in
    let all : flat_map f (numbers (size * (page + 1))) ≡ flat_map f (numbers (size * page)) ++ flat_map f (range_with_len (size * page) size) =
    ap (λ (n : ℕ). flat_map f (numbers n)) e ∙ ap (flat_map f) (numbers_range (size * page) size) ∙ flat_map-append f (numbers (size * page)) (range_with_len (size * page) size) in
    record {
      items = rw (lines.items, before.items, all) (append_assoc a.items (flat_map f (numbers (size * page))) (flat_map f (range_with_len (size * page) size)));
      len = rw e (omega (arith, lines.len, before.len, mul-add most (size * page) size));
      capacity = omega (arith, lines.capacity, before.capacity);
    }

-- a block that is all zero has no line
zero_block : (area : ℕ) (bytes : List ℕ) (k : ℕ) → list_all (λ (b : ℕ). b == 0) (take 32 (drop (32 * k) bytes)) ≡ true → block_line area bytes k ≡ []
unfolding block block_line
zero_block area bytes k h =
    let size : 32 * k + 32 - 32 * k ≡ 32 = omega arith in
    rw (size, h) refl

-- blocks that are all zero have none
pub zero_blocks : (area : ℕ) (bytes : List ℕ) (first n : ℕ) → list_all (λ (b : ℕ). b == 0) (take (32 * n) (drop (32 * first) bytes)) ≡ true → flat_map (block_line area bytes) (range_with_len first n) ≡ []
zero_blocks area bytes first zero h = refl
zero_blocks area bytes first (suc n) h =
    let rest = drop (32 * first) bytes in
    let size : 32 * suc n ≡ 32 + 32 * n = omega arith in
    let cut : take (32 * suc n) rest ≡ take 32 rest ++ take (32 * n) (drop 32 rest) = rw size (take-add 32 (32 * n) rest) in
    let both = and_parts _ _ (sym (list_all-append (λ (b : ℕ). b == 0) (take 32 rest) (take (32 * n) (drop 32 rest))) ∙ ap (list_all (λ (b : ℕ). b == 0)) (sym cut) ∙ h) in
    let place : 32 * first + 32 ≡ 32 * (first + 1) = omega arith in
    let next : drop 32 rest ≡ drop (32 * (first + 1)) bytes = drop-drop 32 (32 * first) bytes ∙ ap (λ (m : ℕ). drop m bytes) place in
    let later = zero_blocks area bytes (first + 1) n (subst (λ (xs : List ℕ). list_all (λ (b : ℕ). b == 0) (take (32 * n) xs) ≡ true) next both.1) in
    rw (zero_block area bytes first both.0, later) refl
