-- What pairs, objects, those who wait and deadlines cost, where one is written.
use Rattle.std.proofs.Common.{◌≡◌, ◌<◌, ◌≤◌, ℕ, zero, suc, ◌+◌, ◌*◌, Bool, true, false, ◌&&◌, ◌||◌, not, List, [], ◌∷◌, ◌++◌, filter, Option, Some, None, length, refl, subst, ap, ◌∙◌, ◌⊎◌, inl, inr, min, unwrap_or, arith, slice_index_or, slice_set, if◌then◌else◌}
use Rattle.std.specs.Prelude.{◌==◌, nat_le, nat_lt}
use Rattle.std.specs.List.{list_all, list_any}
use Rattle.std.proofs.lemmas.Bool.{and_parts, and_from, false≢true, ltb-true, ltb-false}
use Rattle.std.proofs.lemmas.List.{length-set}
use Rattle.um_base.specs.declared.act.Leftover.{Leftover}
use Rattle.um_base.specs.declared.limits.TheConstants.{THREADS, STATIC_ROWS, JOIN_CELL, FUTEX_CELL}
use Rattle.um_base.specs.declared.ask.Told.{Told}
use Rattle.um_base.specs.declared.ask.Waiter.{Waiter}
use Rattle.um_base.specs.declared.names.ThreadIx.{ThreadIx}
use Rattle.um_machine.specs.declared.object.Object.{Object}
use Rattle.um_machine.specs.declared.object.Status.TheVariants as Status
use Rattle.um_machine.specs.Objects.{has_no_pair}
use Rattle.um_machine.specs.Time.{least, next_deadline}
use Rattle.um_machine.specs.State.{State, vacant, thread_at, with_thread, waiters_in, with_waiters, object_at, with_object, pair_at, with_pair}
use Rattle.um_machine.specs.Readings.{dropped}
use Rattle.um_machine.specs.Writes.{all_woken, drops, paired, wrote}
use Rattle.um_measure.specs.Measure.{one_if, flags_set, object_cost, ahead, time_of, store_cost}
use Rattle.um_invariants.proofs.ThreadCells.{both-cells}
use Rattle.um_measure.specs.Reached.{AreSized}
use Rattle.um_measure.proofs.TotalLemmas.{total-set}

abbrev pub store_of : State → ℕ
store_of s = store_cost s.pairs s.objects + time_of s

-- an object is written
pub store-set : (pairs : List (List Bool)) (objects : List Object) (x : ℕ) (o : Object) → store_cost pairs (slice_set objects x o) + object_cost (slice_index_or objects x vacant) ≤ store_cost pairs objects + object_cost o
unfolding store_cost
store-set pairs objects x o = let set = total-set object_cost vacant refl objects x o in omega (arith, set)

pub store-object : (s : State) (x : ℕ) (o : Object) → object_cost o ≤ object_cost (object_at s x) → store_of (with_object s x o) ≤ store_of s
store-object s x o h = omega (arith, store-set s.pairs s.objects x o, h)

-- a pair is written
pub store-pair : (s : State) (u x : ℕ) (b : Bool) → store_of (paired s u x b) + 2 * one_if (pair_at s u x) ≤ store_of s + 2 * one_if b
unfolding store_cost
store-pair s u x b =
    let row = slice_index_or s.pairs x [] in
    let rows = total-set flags_set [] refl s.pairs x (slice_set row u b) in
    let flags = total-set one_if false refl row u b in
    omega (arith, rows, flags)

pub one-if-most : (b : Bool) → one_if b ≤ 1
one-if-most true = omega arith
one-if-most false = omega arith

drop-le : (s : State) (u x : ℕ) (l : Leftover) → (one_if (pair_at s u x) ≡ 0 → l ≡ Leftover.NoPair) → store_of (wrote (drops u x l) s) ≤ store_of s
drop-le s u x Leftover.NoPair h = omega arith
drop-le s u x Leftover.Kept h = let pair = store-pair s u x false in omega (arith, pair)
drop-le s u x Leftover.Gone h = elim (pair_at s u x) as (λ b. (pair_at s u x ≡ b) → store_of (wrote (drops u x Leftover.Gone) s) ≤ store_of s) [
  | true ↦ λ e.
      let pair : store_of (paired s u x false) + 2 * one_if true ≤ store_of s + 0 = rw e at (store-pair s u x false) in
      let set = store-set (paired s u x false).pairs s.objects x (record (object_at s x) { status = Status.Gone }) in omega (arith, pair, set)
  | false ↦ λ e. let no-pair : Leftover.Gone ≡ Leftover.NoPair = h (rw e refl) in absurd (cc)
] refl

left-none : (c : Bool) → (if c then Leftover.Gone else Leftover.Kept) ≡ Leftover.NoPair → ⊥
left-none true h = cc
left-none false h = cc

drop-none : (s : State) (u x : ℕ) → one_if (pair_at s u x) ≡ 0 → dropped s u x ≡ Leftover.NoPair
drop-none s u x h = elim (pair_at s u x) as (λ b. one_if b ≡ 0 → (if not b then Leftover.NoPair else if nat_le STATIC_ROWS x && has_no_pair (with_pair s u x false) x then Leftover.Gone else Leftover.Kept) ≡ Leftover.NoPair) [ true ↦ λ e. absurd (omega (arith, e)) | false ↦ λ e. refl ] h

drop-some : (s : State) (u x : ℕ) → pair_at s u x ≡ true → dropped s u x ≡ Leftover.NoPair → ⊥
drop-some s u x h e = left-none (nat_le STATIC_ROWS x && has_no_pair (with_pair s u x false) x) (subst (λ b. (if not b then Leftover.NoPair else if nat_le STATIC_ROWS x && has_no_pair (with_pair s u x false) x then Leftover.Gone else Leftover.Kept) ≡ Leftover.NoPair) h e)

pub store-drop : (s : State) (u x : ℕ) → store_of (wrote (drops u x (dropped s u x)) s) ≤ store_of s
store-drop s u x = drop-le s u x (dropped s u x) (drop-none s u x)

drop-lt : (s : State) (u x : ℕ) (l : Leftover) → pair_at s u x ≡ true → (l ≡ Leftover.NoPair → ⊥) → store_of (wrote (drops u x l) s) < store_of s
drop-lt s u x Leftover.NoPair e h = absurd (h refl)
drop-lt s u x Leftover.Kept e h = let pair : store_of (paired s u x false) + 2 * one_if true ≤ store_of s + 0 = rw e at (store-pair s u x false) in omega (arith, pair)
drop-lt s u x Leftover.Gone e h =
    let pair : store_of (paired s u x false) + 2 * one_if true ≤ store_of s + 0 = rw e at (store-pair s u x false) in
    let set = store-set (paired s u x false).pairs s.objects x (record (object_at s x) { status = Status.Gone }) in omega (arith, pair, set)

-- a pair that stands is dropped
pub store-dropped : (s : State) (u x : ℕ) → pair_at s u x ≡ true → store_of (wrote (drops u x (dropped s u x)) s) < store_of s
store-dropped s u x h = drop-lt s u x (dropped s u x) h (drop-some s u x h)

-- Sizes.

all-set : {A : Type 0} (p : A → Bool) (d : A) (xs : List A) (i : ℕ) (y : A) → list_all p xs ≡ true → (p (slice_index_or xs i d) ≡ true → p y ≡ true) → list_all p (slice_set xs i y) ≡ true
all-set p d [] i y h f = refl
all-set p d (x ∷ xs) zero y h f = let parts = and_parts _ _ h in and_from _ _ (f parts.0) parts.1
all-set p d (x ∷ xs) (suc i) y h f = let parts = and_parts _ _ h in and_from _ _ parts.0 (all-set p d xs i y parts.1 f)

pub sized-pair : (s : State) (u x : ℕ) (b : Bool) → AreSized s.pairs → AreSized (paired s u x b).pairs
sized-pair s u x b h =
    let row = slice_index_or s.pairs x [] in
    let rows = length-set s.pairs x (slice_set row u b) in
    record {
      rows = omega (arith, rows, h.rows);
      flags = all-set (λ (flags : List Bool). length flags == THREADS) [] s.pairs x (slice_set row u b) h.flags (λ e. rw (length-set row u b) e);
    }

-- Who waits.

few-first : {A : Type 0} (b : Bool) (x : A) (ys : List A) (n : ℕ) → length ys ≤ n → length (if b then x ∷ ys else ys) ≤ suc n
few-first true x ys n h = omega (arith, h)
few-first false x ys n h = omega (arith, h)

pub filter-few : {A : Type 0} (p : A → Bool) (xs : List A) → length (filter p xs) ≤ length xs
filter-few p [] = omega arith
filter-few p (x ∷ xs) = few-first (p x) x (filter p xs) (length xs) (filter-few p xs)

less-first : {A : Type 0} (b : Bool) (x : A) (ys : List A) (n : ℕ) (more : Bool) → (b || more) ≡ true → length ys ≤ n → (more ≡ true → length ys < n) → length (if not b then x ∷ ys else ys) < suc n
less-first true x ys n more h few less = omega (arith, few)
less-first false x ys n more h few less = let fewer = less h in omega (arith, fewer)

-- one that is left out makes a list shorter
pub filter-less : {A : Type 0} (p : A → Bool) (xs : List A) → list_any p xs ≡ true → length (filter (λ x. not (p x)) xs) < length xs
filter-less p [] h = absurd (false≢true h)
filter-less p (x ∷ xs) h = less-first (p x) x (filter (λ y. not (p y)) xs) (length xs) (list_any p xs) h (filter-few (λ y. not (p y)) xs) (filter-less p xs)

pub store-woken : (ws : List (ThreadIx × Told)) (s : State) → store_of (all_woken ws s) ≡ store_of s
store-woken [] s = refl
store-woken (w ∷ ws) s = store-woken ws (with_thread s w.0.0 (record (thread_at s w.0.0) { told = Some w.1 }))

-- those who wait in a cell are written
pub store-waiters : (s : State) (c : ℕ) (ws : List Waiter) → store_of (with_waiters s c ws) + length (waiters_in s c) ≤ store_of s + length ws
store-waiters s c ws = by (c == JOIN_CELL) (c == FUTEX_CELL) (both-cells c)
  where
    o : Object
    o = record (object_at s c) { waiters = ws }

    by : (a b : Bool) → (a && b) ≡ false
        → store_of (record s { objects = if a || b then s.objects else slice_set s.objects c o; joins = if a then ws else s.joins; futexes = if b then ws else s.futexes })
        + length (if a then s.joins else if b then s.futexes else (object_at s c).waiters) ≤ store_of s + length ws
    by true true h = cc
    by true false h = omega arith
    by false true h = omega arith
    by false false h = let set = store-set s.pairs s.objects c o in omega (arith, set)

-- Deadlines.

later-first : (a b d n m : ℕ) → a ≤ b → m ≤ n → (p q : Bool) → nat_lt a d ≡ p → nat_lt b d ≡ q → one_if q + m ≤ one_if p + n
later-first a b d n m h less true q e f = let most = one-if-most q in omega (arith, less, most)
later-first a b d n m h less false false e f = omega (arith, less)
later-first a b d n m h less false true e f = absurd (let low = ltb-false a d e in let high = ltb-true b d f in omega (arith, low, high, h))

pub ahead-later : (a b : ℕ) (ds : List ℕ) → a ≤ b → ahead b ds ≤ ahead a ds
ahead-later a b [] h = omega arith
ahead-later a b (d ∷ ds) h = later-first a b d (ahead a ds) (ahead b ds) h (ahead-later a b ds h) (nat_lt a d) (nat_lt b d) refl refl

pub ahead-more : (now : ℕ) (ds : List ℕ) (d : ℕ) → ahead now (ds ++ d ∷ []) ≤ ahead now ds + 1
ahead-more now [] d = let most = one-if-most (nat_lt now d) in omega (arith, most)
ahead-more now (e ∷ ds) d = let rest = ahead-more now ds d in omega (arith, rest)

le-or-lt : (a b : ℕ) → (a ≤ b) ⊎ (b < a)
le-or-lt a b = by-test (nat_lt b a) refl where
  by-test : (c : Bool) → nat_lt b a ≡ c → (a ≤ b) ⊎ (b < a)
  by-test true e = inr (ltb-true b a e)
  by-test false e = inl (ltb-false b a e)

-- a moment isn't below itself, or below an earlier one
not-ahead : (d e : ℕ) → e ≤ d → one_if (nat_lt d e) ≡ 0
not-ahead d e h = by-test (nat_lt d e) refl where
  by-test : (b : Bool) → nat_lt d e ≡ b → one_if b ≡ 0
  by-test true k = absurd (let high = ltb-true d e k in omega (arith, h, high))
  by-test false k = refl

-- the next deadline is one of those above now
abbrev Lowers : ℕ → ℕ → List ℕ → Type 0
Lowers now d ds = (now < d) × (ahead d ds < ahead now ds)

lowest : (now d e f : ℕ) (ds : List ℕ) → now < e → Lowers now f ds → min e f ≡ d → (e ≤ f) ⊎ (f < e) → (now < d) × (one_if (nat_lt d e) + ahead d ds < 1 + ahead now ds)
lowest now d e f ds h low same (inl l) =
    let is : d ≡ e = omega (arith, same, l) in
    let none = not-ahead d e (omega (arith, is)) in
    let later = ahead-later now d ds (omega (arith, is, h)) in (omega (arith, is, h), omega (arith, none, later))
lowest now d e f ds h low same (inr l) =
    let is : f ≡ d = omega (arith, same, l) in
    let fewer = subst (λ n. Lowers now n ds) is low in
    let most = one-if-most (nat_lt d e) in
    let less = fewer.1 in (fewer.0, omega (arith, most, less))

deadline-first : (now d e : ℕ) (ds : List ℕ) → ((f : ℕ) → next_deadline now ds ≡ Some f → Lowers now f ds) → (b : Bool) → nat_lt now e ≡ b → (o : Option ℕ) → next_deadline now ds ≡ o
    → (if b then least e o else o) ≡ Some d → (now < d) × (one_if (nat_lt d e) + ahead d ds < one_if b + ahead now ds)
deadline-first now d e ds low false k o same h =
    let is = low d (same ∙ h) in
    let here = ltb-false now e k in
    let before = is.0 in
    let less = is.1 in
    let none = not-ahead d e (omega (arith, here, before)) in (before, omega (arith, none, less))
deadline-first now d e ds low true k None same h =
    let is : e ≡ d = ap (λ o. unwrap_or o 0) h in
    let here = ltb-true now e k in
    let none = not-ahead d e (omega (arith, is)) in
    let later = ahead-later now d ds (omega (arith, here, is)) in (omega (arith, here, is), omega (arith, none, later))
deadline-first now d e ds low true k (Some f) same h =
    lowest now d e f ds (ltb-true now e k) (low f same) (ap (λ o. unwrap_or o 0) h) (le-or-lt e f)

pub deadline-less : (now d : ℕ) (ds : List ℕ) → next_deadline now ds ≡ Some d → Lowers now d ds
deadline-less now d [] h = cc
deadline-less now d (e ∷ ds) h = deadline-first now d e ds (λ f k. deadline-less now f ds k) (nat_lt now e) refl (next_deadline now ds) refl h
