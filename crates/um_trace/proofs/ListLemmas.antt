-- Lists with commas, one piece after another.
use Rattle.std.proofs.Common.{◌≡◌, ℕ, ◌+◌, ◌≤◌, Bool, true, false, ◌&&◌, not, if◌then◌else◌, List, [], ◌∷◌, ◌++◌, codes, refl, sym, ap, ◌∙◌, arith, append_assoc}
use Rattle.std.specs.Global.{Vec}
use Rattle.std.specs.List.{flat_map}
use Rattle.std.specs.Prelude.{filter}
use Rattle.std.proofs.lemmas.Grind.{flat_map-append}
use Rattle.std.proofs.lemmas.List.{append-nil}
use Rattle.std.proofs.lemmas.List.Elements.{filter-append}
use Rattle.um_trace.specs.Dump.{numbers, lead, joined, listed}
use Rattle.um_trace.specs.Room.{Puts}
use Rattle.um_trace.proofs.LineLemmas.{numbers_more}

-- whether a list has nothing
abbrev pub is_none : {A : Type 0} → List A → Bool
is_none [] = true
is_none (x ∷ xs) = false

-- one more piece
joined_more : {A : Type 0} (f : A → List ℕ) (xs : List A) (y : A) → joined f (xs ++ y ∷ []) ≡ joined f xs ++ (lead (is_none xs) ++ f y)
joined_more {A = A} f [] y = append-nil (f y)
joined_more {A = A} f (x ∷ xs) y =
    let g : A → List ℕ = λ z. codes "," ++ f z in
    rw (flat_map-append g xs (y ∷ []), append-nil (g y)) (sym (append_assoc (f x) (flat_map g xs) (g y)))

pub is_none_more : {A : Type 0} (xs : List A) (y : A) → is_none (xs ++ y ∷ []) ≡ false
is_none_more [] y = refl
is_none_more (x ∷ xs) y = refl

-- a piece is put
pub puts_next : {A : Type 0} (f : A → List ℕ) (xs : List A) (y : A) (first : Bool) (m n k : ℕ) (a b c : Vec ℕ) → Puts a b (joined f xs) m → first ≡ is_none xs → Puts b c (lead first ++ f y) n → m + n ≤ k → Puts a c (joined f (xs ++ y ∷ [])) k
puts_next f xs y first m n k a b c before is next fits = record {
  items = rw (next.items, before.items, joined_more f xs y, is) (append_assoc a.items (joined f xs) (lead (is_none xs) ++ f y));
  len = omega arith;
  capacity = omega arith;
}

-- the whole list, where there is a piece
pub puts_listed : {A : Type 0} (f : A → List ℕ) (xs : List A) (m k : ℕ) (a b : Vec ℕ) → Puts a b (joined f xs) m → is_none xs ≡ false → m ≤ k → Puts a b (listed f xs) k
puts_listed f [] m k a b before is fits = cc
puts_listed f (x ∷ xs) m k a b before is fits = record { items = before.items; len = omega arith; capacity = before.capacity }

-- and where there is none
pub puts_dash : {A : Type 0} (f : A → List ℕ) (xs : List A) (m n k : ℕ) (a b c : Vec ℕ) → Puts a b (joined f xs) m → is_none xs ≡ true → Puts b c (codes "-") n → m + n ≤ k → Puts a c (listed f xs) k
puts_dash f [] m n k a b c before is dash fits = record {
  items = rw (dash.items, before.items) (ap (λ (front : List ℕ). front ++ codes "-") (append-nil a.items));
  len = omega arith;
  capacity = omega arith;
}
puts_dash f (x ∷ xs) m n k a b c before is dash fits = cc

-- the numbers that pass a test, with one more number
chosen_more : (p : ℕ → Bool) (n : ℕ) → filter p (numbers (n + 1)) ≡ filter p (numbers n) ++ filter p (n ∷ [])
chosen_more p n = rw numbers_more (filter-append p (numbers n) (n ∷ []))

chosen_one : (p : ℕ → Bool) (n : ℕ) → p n ≡ true → filter p (n ∷ []) ≡ n ∷ []
chosen_one p n h = rw h refl

chosen_none : (p : ℕ → Bool) (n : ℕ) → p n ≡ false → filter p (n ∷ []) ≡ []
chosen_none p n h = rw h refl

-- a step over a number that passes, and over one that doesn't
puts_choice_at : (f : ℕ → List ℕ) (p : ℕ → Bool) (n : ℕ) (first : Bool) (m k most : ℕ) (a b c : Vec ℕ) (v : Bool) → p n ≡ v → Puts a b (joined f (filter p (numbers n))) m → first ≡ is_none (filter p (numbers n)) → Puts b c (if p n then lead first ++ f n else []) k → m + k ≤ most → Puts a c (joined f (filter p (numbers (n + 1)))) most
puts_choice_at f p n first m k most a b c true h before is next fits =
    rw (chosen_more, chosen_one p n h) (puts_next f (filter p (numbers n)) n first m k most a b c before is (rw h at next) fits)
puts_choice_at f p n first m k most a b c false h before is next fits =
    let skipped : Puts b c [] k = rw h at next in
    rw (chosen_more, chosen_none p n h, append-nil) (record { items = rw (skipped.items, append-nil) before.items; len = omega arith; capacity = omega arith })

pub puts_choice : (f : ℕ → List ℕ) (p : ℕ → Bool) (n : ℕ) (first : Bool) (m k most : ℕ) (a b c : Vec ℕ) → Puts a b (joined f (filter p (numbers n))) m → first ≡ is_none (filter p (numbers n)) → Puts b c (if p n then lead first ++ f n else []) k → m + k ≤ most → Puts a c (joined f (filter p (numbers (n + 1)))) most
puts_choice f p n first m k most a b c before is next fits = puts_choice_at f p n first m k most a b c (p n) refl before is next fits

and_false : (a : Bool) → (a && false) ≡ false
and_false true = refl
and_false false = refl

and_true : (a : Bool) → (a && true) ≡ a
and_true true = refl
and_true false = refl

is_none_choice_at : (p : ℕ → Bool) (n : ℕ) (first v : Bool) → p n ≡ v → first ≡ is_none (filter p (numbers n)) → (first && not (p n)) ≡ is_none (filter p (numbers (n + 1)))
is_none_choice_at p n first true h is = rw (h, chosen_more, chosen_one p n h, is_none_more (filter p (numbers n)) n) (and_false first)
is_none_choice_at p n first false h is = rw (h, chosen_more, chosen_none p n h, append-nil) (and_true first ∙ is)

pub is_none_choice : (p : ℕ → Bool) (n : ℕ) (first : Bool) → first ≡ is_none (filter p (numbers n)) → (first && not (p n)) ≡ is_none (filter p (numbers (n + 1)))
is_none_choice p n first is = is_none_choice_at p n first (p n) refl is
