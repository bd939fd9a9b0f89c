-- Lines for the numbers below a bound, one after another.
use Rattle.std.proofs.Common.{◌≡◌, ℕ, zero, suc, ◌+◌, ◌*◌, Bool, true, false, if◌then◌else◌, List, [], ◌∷◌, ◌++◌, refl, sym, ap, ◌∙◌, arith, append_assoc}
use Rattle.std.proofs.Math.Nat.{mul-add}
use Rattle.std.specs.Global.{Vec}
use Rattle.std.specs.List.{flat_map, range_with_len}
use Rattle.std.specs.Prelude.{count_by}
use Rattle.std.proofs.lemmas.List.Sums.{sum_by-append}
use Rattle.std.proofs.lemmas.Grind.{flat_map-append}
use Rattle.std.proofs.lemmas.List.{append-nil}
use Rattle.um_trace.specs.Dump.{numbers}
use Rattle.um_trace.specs.Room.{Puts}

-- a range and one more
pub range_more : (a n : ℕ) → range_with_len a (n + 1) ≡ range_with_len a n ++ (a + n) ∷ []
range_more a zero = let e : a + 0 ≡ a = omega arith in rw e refl
range_more a (suc n) =
    let k : suc n + 1 ≡ suc (n + 1) = omega arith in
    let e : (a + 1) + n ≡ a + suc n = omega arith in
    rw k (ap (λ (xs : List ℕ). a ∷ xs) (range_more (a + 1) n ∙ ap (λ (m : ℕ). range_with_len (a + 1) n ++ m ∷ []) e))

-- one more number
pub numbers_more : (n : ℕ) → numbers (n + 1) ≡ numbers n ++ n ∷ []
unfolding numbers
numbers_more n = let e : 0 + n ≡ n = omega arith in range_more 0 n ∙ ap (λ (m : ℕ). range_with_len 0 n ++ m ∷ []) e

pub numbers_none : numbers 0 ≡ []
unfolding numbers
numbers_none = refl

-- its line
pub lines_more : (f : ℕ → List ℕ) (n : ℕ) → flat_map f (numbers (n + 1)) ≡ flat_map f (numbers n) ++ f n
lines_more f n = rw numbers_more (flat_map-append f (numbers n) (n ∷ []) ∙ ap (λ (xs : List ℕ). flat_map f (numbers n) ++ xs) (append-nil (f n)))

-- nothing is put at first
pub puts_none : (f : ℕ → List ℕ) (most : ℕ) (a : Vec ℕ) → Puts a a (flat_map f (numbers 0)) (most * 0)
puts_none f most a = record { items = rw numbers_none (sym (append-nil a.items)); len = omega arith; capacity = omega arith }

-- and then a line more
pub puts_more : (f : ℕ → List ℕ) (most k : ℕ) (a b c : Vec ℕ) → Puts a b (flat_map f (numbers k)) (most * k) → Puts b c (f k) most → Puts a c (flat_map f (numbers (k + 1))) (most * (k + 1))
puts_more f most k a b c before line = record {
  items = rw (line.items, before.items, lines_more) (append_assoc a.items (flat_map f (numbers k)) (f k));
  len = omega (arith, mul-add most k 1);
  capacity = omega arith;
}

-- how many of the numbers pass a test
one_more : (p : ℕ → Bool) (n : ℕ) (here : Bool) → p n ≡ here → count_by p (n ∷ []) ≡ (if here then 1 else 0)
one_more p n true h = rw h refl
one_more p n false h = rw h refl

pub count_more : (p : ℕ → Bool) (n count : ℕ) (here : Bool) → count ≡ count_by p (numbers n) → here ≡ p n → count + (if here then 1 else 0) ≡ count_by p (numbers (n + 1))
count_more p n count here before h =
    let weight : ℕ → ℕ = λ x. if p x then 1 else 0 in
    let more : count_by p (numbers n ++ n ∷ []) ≡ count_by p (numbers n) + count_by p (n ∷ []) = sum_by-append weight (numbers n) (n ∷ []) in
    rw (numbers_more, more, before) (ap (λ k. count_by p (numbers n) + k) (sym (one_more p n here (sym h))))

pub count_none : (p : ℕ → Bool) → 0 ≡ count_by p (numbers 0)
count_none p = rw numbers_none refl
