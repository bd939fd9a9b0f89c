-- Items by place, where an item is written and where one more gets a place.
use Rattle.std.proofs.Common.{◌≡◌, ◌≢◌, ◌<◌, ◌≤◌, ◌+◌, ◌∙◌, ◌⊎◌, inl, inr, ℕ, zero, suc, List, [], ◌∷◌, ◌++◌, ap, arith, cond, length, length-append, refl, replicate, slice_index_or, slice_set, sym}
use Rattle.std.specs.Prelude.{count_by, nat_lt}
use Rattle.std.proofs.lemmas.Bool.{cases_order}
use Rattle.std.proofs.lemmas.List.{ext_get_or, get_or_past, get_or-set_other, get_or-set_same, length-map, length-set}
use Rattle.std.proofs.lemmas.List.Sums.{count_by-le-length, sum_by-set}
use Rattle.um_tables.specs.Placed.{ArePlaces, item_at, placed}

same_or : (a b : ℕ) → (a ≡ b) ⊎ (a ≢ b)
same_or a b = go (cases_order a b)
  where
    go : ((a ≡ b) ⊎ ((a < b) ⊎ (b < a))) → (a ≡ b) ⊎ (a ≢ b)
    go (inl e) = inl e
    go (inr (inl h)) = inr (omega (arith, h))
    go (inr (inr h)) = inr (omega (arith, h))

-- nothing was put at any of k places
none-at : (k x : ℕ) → item_at (replicate k 255) x ≡ 255
none-at zero x = refl
none-at (suc k) zero = refl
none-at (suc k) (suc x) = none-at k x

none-counted : (k : ℕ) → count_by (λ p. nat_lt p 255) (replicate k 255) ≡ 0
none-counted zero = refl
none-counted (suc k) = none-counted k

pub no-items : (k : ℕ) → ArePlaces 0 (replicate k 255)
no-items k = record {
  counted = sym (none-counted k);
  within = λ x h. let e = none-at k x in absurd (omega (arith, e, h));
  apart = λ x y h same. let e = none-at k x in absurd (omega (arith, e, h));
}

-- the place of x is that of the item n, and the others are as before
item-there : (places : List ℕ) (x n : ℕ) → x < length places → item_at (slice_set places x n) x ≡ n
item-there places x n short = get_or-set_same places x n 255 short

item-elsewhere : (places : List ℕ) (x y n : ℕ) → y ≢ x → item_at (slice_set places x n) y ≡ item_at places y
item-elsewhere places x y n other = get_or-set_other places x y n 255 other

-- how many places have an item, if one more has it
more-counted : (places : List ℕ) (x n : ℕ) → x < length places → item_at places x ≡ 255 → n < 255
    → count_by (λ p. nat_lt p 255) (slice_set places x n) ≡ count_by (λ p. nat_lt p 255) places + 1
more-counted places x n short none few =
    let f : ℕ → ℕ = λ p. cond (nat_lt p 255) 1 0 in
    let e = sum_by-set f places x n 255 short in
    let is : f (item_at places x) ≡ 0 = ap f none in
    let will : f n ≡ 1 = search arith in
    omega (arith, e, is, will)

pub room-left : (n x : ℕ) (places : List ℕ) → ArePlaces n places → x < length places → item_at places x ≡ 255 → n < length places
room-left n x places are short none =
    let e = more-counted places x 0 short none (omega arith) in
    let most = count_by-le-length (λ p. nat_lt p 255) (slice_set places x 0) in
    let long = length-set places x 0 in
    let is = are.counted in
    omega arith

pub no-more : (n : ℕ) (places : List ℕ) → ArePlaces n places → n ≤ length places
no-more n places are = let most = count_by-le-length (λ p. nat_lt p 255) places in let is = are.counted in omega arith

pub one-more : (n x : ℕ) (places : List ℕ) → ArePlaces n places → x < length places → item_at places x ≡ 255 → n < 255 → ArePlaces (n + 1) (slice_set places x n)
one-more n x places are short none few = record {
  counted = ap (λ (k : ℕ). k + 1) are.counted ∙ sym (more-counted places x n short none few);
  within = λ y h. within y (same_or y x) h;
  apart = λ y z h e. apart y z (same_or y x) (same_or z x) h e;
}
  where
    within : (y : ℕ) → (y ≡ x) ⊎ (y ≢ x) → item_at (slice_set places x n) y < 255 → item_at (slice_set places x n) y < n + 1
    within y (inl e) h = let t = ap (item_at (slice_set places x n)) e ∙ item-there places x n short in omega (arith, t)
    within y (inr o) h = let t = item-elsewhere places x y n o in let w = are.within y (omega (arith, t, h)) in omega (arith, t, w)

    apart : (y z : ℕ) → (y ≡ x) ⊎ (y ≢ x) → (z ≡ x) ⊎ (z ≢ x) → item_at (slice_set places x n) y < 255
        → item_at (slice_set places x n) y ≡ item_at (slice_set places x n) z → y ≡ z
    apart y z (inl e) (inl f) h same = e ∙ sym f
    apart y z (inl e) (inr o) h same =
        let t = ap (item_at (slice_set places x n)) e ∙ item-there places x n short in
        let u = item-elsewhere places x z n o in
        let w = are.within z (omega (arith, t, u, same, h)) in
        absurd (omega (arith, t, u, w, same))
    apart y z (inr o) (inl f) h same =
        let t = ap (item_at (slice_set places x n)) f ∙ item-there places x n short in
        let u = item-elsewhere places x y n o in
        let w = are.within y (omega (arith, u, h)) in
        absurd (omega (arith, t, u, w, same))
    apart y z (inr o) (inr q) h same =
        let t = item-elsewhere places x y n o in
        let u = item-elsewhere places x z n q in
        are.apart y z (omega (arith, t, h)) (sym t ∙ same ∙ u)

module _ {A : Type 0} (blank : A) where
  -- what stands at a place
  pub placed-at : (items : List A) (places : List ℕ) (x : ℕ) → length items ≤ 255 → slice_index_or (placed blank items places) x blank ≡ slice_index_or items (item_at places x) blank
  placed-at items [] x few = sym (get_or_past items 255 blank few)
  placed-at items (p ∷ places) zero few = refl
  placed-at items (p ∷ places) (suc x) few = placed-at items places x few

  -- one more blank item is none that can be told from none
  push-blank : (items : List A) (p : ℕ) → slice_index_or (items ++ blank ∷ []) p blank ≡ slice_index_or items p blank
  push-blank [] zero = refl
  push-blank [] (suc p) = refl
  push-blank (y ∷ items) zero = refl
  push-blank (y ∷ items) (suc p) = push-blank items p

  -- an item is written
  pub placed-set : (items : List A) (places : List ℕ) (x : ℕ) (w : A) → length items ≤ 255 → ArePlaces (length items) places → x < length places
      → item_at places x < length items → placed blank (slice_set items (item_at places x) w) places ≡ slice_set (placed blank items places) x w
  placed-set items places x w few are short has =
      let new = slice_set items (item_at places x) w in
      let all : length (placed blank new places) ≡ length places = length-map places (λ p. slice_index_or new p blank) in
      let before : length (placed blank items places) ≡ length places = length-map places (λ p. slice_index_or items p blank) in
      ext_get_or blank (placed blank new places) (slice_set (placed blank items places) x w)
      (all ∙ sym before ∙ sym (length-set (placed blank items places) x w))
      (λ y h. placed-at new places y (omega (arith, length-set items (item_at places x) w, few)) ∙ at y (same_or y x) (omega (arith, before, short)))
    where
      at : (y : ℕ) → (y ≡ x) ⊎ (y ≢ x) → x < length (placed blank items places)
          → slice_index_or (slice_set items (item_at places x) w) (item_at places y) blank ≡ slice_index_or (slice_set (placed blank items places) x w) y blank
      at y (inl e) long = ap (λ (k : ℕ). slice_index_or (slice_set items (item_at places x) w) (item_at places k) blank) e ∙ get_or-set_same items (item_at places x) w blank has
          ∙ sym (ap (λ (k : ℕ). slice_index_or (slice_set (placed blank items places) x w) k blank) e ∙ get_or-set_same (placed blank items places) x w blank long)
      at y (inr o) long = get_or-set_other items (item_at places x) (item_at places y) w blank (λ e. o (are.apart y x (omega (arith, e, has, few)) e))
          ∙ sym (get_or-set_other (placed blank items places) x y w blank o ∙ placed-at items places y few)

  -- a blank item gets a place
  pub placed-more : (items : List A) (places : List ℕ) (x : ℕ) → length items < 255 → x < length places → item_at places x ≡ 255
      → placed blank (items ++ blank ∷ []) (slice_set places x (length items)) ≡ placed blank items places
  placed-more items places x few short none =
      let new = slice_set places x (length items) in
      let more = items ++ blank ∷ [] in
      let long : length more ≡ length items + 1 = length-append items (blank ∷ []) in
      ext_get_or blank (placed blank more new) (placed blank items places)
      (length-map new (λ p. slice_index_or more p blank) ∙ length-set places x (length items) ∙ sym (length-map places (λ p. slice_index_or items p blank)))
      (λ y h. placed-at more new y (omega (arith, long, few)) ∙ push-blank items (item_at new y) ∙ at y (same_or y x) ∙ sym (placed-at items places y (omega (arith, few))))
    where
      at : (y : ℕ) → (y ≡ x) ⊎ (y ≢ x) → slice_index_or items (item_at (slice_set places x (length items)) y) blank ≡ slice_index_or items (item_at places y) blank
      at y (inl e) = ap (λ (k : ℕ). slice_index_or items (item_at (slice_set places x (length items)) k) blank) e
          ∙ ap (λ (p : ℕ). slice_index_or items p blank) (item-there places x (length items) short) ∙ get_or_past items (length items) blank (omega arith)
          ∙ sym (ap (λ (k : ℕ). slice_index_or items (item_at places k) blank) e ∙ ap (λ (p : ℕ). slice_index_or items p blank) none ∙ get_or_past items 255 blank (omega (arith, few)))
      at y (inr o) = ap (λ (p : ℕ). slice_index_or items p blank) (item-elsewhere places x y (length items) o)
