-- The cells in which threads wait, and what stands in each after those who wait in one are written.
use Rattle.std.proofs.Common.{◌≡◌, ◌≢◌, ◌⊎◌, inl, inr, ℕ, zero, suc, Bool, true, false, ◌&&◌, ◌||◌, List, [], ◌∷◌, refl, sym, ap, subst, arith, slice_index_or, slice_set, if◌then◌else◌}
use Rattle.std.specs.Prelude.{◌==◌}
use Rattle.std.proofs.lemmas.List.{get_or-set_other}
use Rattle.um_base.specs.declared.ask.Waiter.{Waiter}
use Rattle.um_base.specs.declared.limits.TheConstants.{JOIN_CELL, FUTEX_CELL}
use Rattle.um_machine.specs.declared.object.Object.{Object}
use Rattle.um_machine.specs.State.{State, vacant, object_at, waiters_in, with_waiters}
use Rattle.um_invariants.proofs.Facts.{is_equal}
use Rattle.um_invariants.proofs.ThreadCounts.{equal_or_not}

-- The cells, in another order than that of their numbers: of the joins, of the futexes, and of each row.
abbrev pub cell_in : List Waiter → List Waiter → List Object → ℕ → List Waiter
cell_in joins futexes objects zero = joins
cell_in joins futexes objects (suc zero) = futexes
cell_in joins futexes objects (suc (suc x)) = (slice_index_or objects x vacant).waiters

abbrev pub cell : State → ℕ → List Waiter
cell s y = cell_in s.joins s.futexes s.objects y

-- the place of a numbered cell in this order
abbrev place_in : ℕ → Bool → Bool → ℕ
place_in c joins futexes = if joins then 0 else if futexes then 1 else suc (suc c)

abbrev pub place_of : ℕ → ℕ
place_of c = place_in c (c == JOIN_CELL) (c == FUTEX_CELL)

pub both-cells : (c : ℕ) → ((c == JOIN_CELL) && (c == FUTEX_CELL)) ≡ false
both-cells c =
    elim (c == JOIN_CELL) as (λ b. (c == JOIN_CELL) ≡ b → (b && (c == FUTEX_CELL)) ≡ false) [
      | true ↦ λ e. subst (λ (n : ℕ). (n == FUTEX_CELL) ≡ false) (sym (is_equal c JOIN_CELL e)) refl
      | false ↦ λ e. refl
    ] refl

pub cell-is : (s : State) (c : ℕ) → waiters_in s c ≡ cell s (place_of c)
cell-is s c = by (c == JOIN_CELL) (c == FUTEX_CELL)
  where
    by : (a b : Bool) → (if a then s.joins else if b then s.futexes else (object_at s c).waiters) ≡ cell s (place_in c a b)
    by true b = refl
    by false true = refl
    by false false = refl

pub set-either : {A : Type 0} (xs : List A) (i : ℕ) (y d : A) → (slice_index_or (slice_set xs i y) i d ≡ y) ⊎ (slice_index_or (slice_set xs i y) i d ≡ d)
set-either [] i y d = inr refl
set-either (x ∷ xs) zero y d = inl refl
set-either (x ∷ xs) (suc i) y d = set-either xs i y d

-- at one place these wait, or nobody where no row is there, and at any other those who waited
abbrev pub IsPut : State → ℕ → List Waiter → State → ℕ → Type 0
IsPut s place ws s2 y = ((y ≢ place) × (cell s2 y ≡ cell s y)) ⊎ ((y ≡ place) × ((cell s2 y ≡ ws) ⊎ (cell s2 y ≡ [])))

pub object-put : (s : State) (x : ℕ) (o : Object) (y : ℕ) → IsPut s (suc (suc x)) o.waiters (record s { objects = slice_set s.objects x o }) y
object-put s x o zero = inl (λ e. cc, refl)
object-put s x o (suc zero) = inl (λ e. cc, refl)
object-put s x o (suc (suc z)) =
    elim (equal_or_not z x) [
      | inl same ↦ inr (
        ap (λ n. suc (suc n)) same,
        subst (λ (n : ℕ). ((slice_index_or (slice_set s.objects x o) n vacant).waiters ≡ o.waiters) ⊎ ((slice_index_or (slice_set s.objects x o) n vacant).waiters ≡ [])) (sym same) (
            elim (set-either s.objects x o vacant) [
              | inl here ↦ inl (ap (λ (ob : Object). ob.waiters) here)
              | inr none ↦ inr (ap (λ (ob : Object). ob.waiters) none)
            ]),
      )
      | inr other ↦ inl (λ e. other (omega (arith, e)), ap (λ (ob : Object). ob.waiters) (get_or-set_other s.objects x z o vacant other))
    ]

pub waiters-put : (s : State) (c : ℕ) (ws : List Waiter) (y : ℕ) → IsPut s (place_of c) ws (with_waiters s c ws) y
waiters-put s c ws y = by (c == JOIN_CELL) (c == FUTEX_CELL) (both-cells c) y
  where
    o : Object
    o = record (object_at s c) { waiters = ws }

    put : Bool → Bool → State
    put a b = record s { objects = if a || b then s.objects else slice_set s.objects c o; joins = if a then ws else s.joins; futexes = if b then ws else s.futexes }

    by : (a b : Bool) → (a && b) ≡ false → (y : ℕ) → IsPut s (place_in c a b) ws (put a b) y
    by true true h y = cc
    by true false h zero = inr (refl, inl refl)
    by true false h (suc zero) = inl (λ e. cc, refl)
    by true false h (suc (suc z)) = inl (λ e. cc, refl)
    by false true h zero = inl (λ e. cc, refl)
    by false true h (suc zero) = inr (refl, inl refl)
    by false true h (suc (suc z)) = inl (λ e. cc, refl)
    by false false h y = object-put s c o y
