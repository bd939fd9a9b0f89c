-- A list that is kept in the front of a fixed room.
use Rattle.std.specs.Prelude.{◌≡◌, ℕ, ◌+◌, ◌-◌, ◌<◌, ◌≤◌, List, [], ◌∷◌, ◌++◌, length, replicate, take, drop, slice_set}
use Rattle.std.proofs.Common.{sym, ap, ◌∙◌, arith, add-one, length-take}
use Rattle.std.proofs.lemmas.List.{take-append-drop, length-set, drop-set-lt, drop-drop, drop-replicate}
use Rattle.std.proofs.Math.Seq.{take-suc-set}

-- the list, and blanks up to the end of the room
abbrev pub filled : {A : Type 0} → ℕ → A → List A → List A
filled room blank xs = xs ++ replicate (room - length xs) blank

-- these items are the room of a list of this length: what lies behind the list is blank
pub record IsRoom {A : Type 0} (room : ℕ) (blank : A) (items : List A) (len : ℕ) : Type 0 where
  pub fits : len ≤ room
  pub size : length items ≡ room
  pub rest : drop len items ≡ replicate (room - len) blank

-- the list in the front is as long as was said
pub length-front : {A : Type 0} {room : ℕ} {blank : A} {items : List A} {len : ℕ} → IsRoom room blank items len → length (take len items) ≡ len
length-front {items = items} {len = len} r = omega (arith, length-take len items, r.fits, r.size)

-- the room is the list in its front, filled up
pub filled-front : {A : Type 0} {room : ℕ} {blank : A} {items : List A} {len : ℕ} → IsRoom room blank items len → filled room blank (take len items) ≡ items
filled-front {room = room} {blank = blank} {items = items} {len = len} r =
    rw (length-front r) (ap (λ rest. take len items ++ rest) (sym r.rest) ∙ take-append-drop len items)

-- both at once
pub room-front : {A : Type 0} {room : ℕ} {blank : A} {items : List A} {len : ℕ} → IsRoom room blank items len → ◌≡◌ {A = List A × ℕ} (filled room blank (take len items), length (take len items)) (items, len)
room-front r = cc (filled-front r, length-front r)

-- one more at the end
pub IsRoom-push : {A : Type 0} {room : ℕ} {blank : A} {items : List A} {len : ℕ} (x : A) → IsRoom room blank items len → len < room → IsRoom room blank (slice_set items len x) (len + 1)
IsRoom-push {room = room} {blank = blank} {items = items} {len = len} x r h = record {
  fits = omega arith;
  size = length-set items len x ∙ r.size;
  rest =
      drop-set-lt (len + 1) items len x (omega arith) ∙ sym (drop-drop 1 len items) ∙ ap (drop 1) r.rest
      ∙ drop-replicate 1 (room - len) blank ∙ ap (λ n. replicate n blank) (omega arith);
}

-- and the list in the front then
pub front-push : {A : Type 0} {room : ℕ} {blank : A} {items : List A} {len : ℕ} (x : A) → IsRoom room blank items len → len < room → take (len + 1) (slice_set items len x) ≡ take len items ++ x ∷ []
front-push {items = items} {len = len} x r h =
    let inside : len < length items = omega (arith, r.size) in rw (add-one len) (take-suc-set items len x inside)

room_left : {A : Type 0} {room : ℕ} {blank : A} {items : List A} {len : ℕ} {front : List A} → IsRoom room blank items len → take len items ≡ front → length front < room → len < room
room_left r e h = omega (arith, length-front r, ap length e)

-- the same of a list that is known to be the front
pub room_after_push : {A : Type 0} {room : ℕ} {blank : A} {items : List A} {len : ℕ} {front : List A} (x : A) → IsRoom room blank items len → take len items ≡ front → length front < room
    → IsRoom room blank (slice_set items len x) (len + 1)
room_after_push x r e h = IsRoom-push x r (room_left r e h)

pub front_after_push : {A : Type 0} {room : ℕ} {blank : A} {items : List A} {len : ℕ} {front : List A} (x : A) → IsRoom room blank items len → take len items ≡ front → length front < room
    → take (len + 1) (slice_set items len x) ≡ front ++ x ∷ []
front_after_push x r e h = front-push x r (room_left r e h) ∙ ap (λ xs. xs ++ x ∷ []) e
