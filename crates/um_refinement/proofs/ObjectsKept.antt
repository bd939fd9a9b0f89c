-- What a step of the access-matrix machine leaves of objects: kind and cost but at a reservation and a recycling, and the status but there,
-- at births and where a drop takes the last permission.
use Rattle.um_refinement.proofs.Words.{Waiter, arith, length, replicate, ◌≡◌, inl, inr, ℕ, zero, suc, ◌<◌, ◌≤◌, Bool, true, false, List, [], ◌∷◌, Some, refl, sym, ap, ◌∙◌, subst, if◌then◌else◌, slice_index_or, slice_set, false≢true, Leftover, ROWS, STATIC_ROWS, THREADS, Addr, addr_of, row_at, Object, Status, Pending, Steps, Offers, goes, skips_drops, skips_inherit, State, object_at, pair_at, thread_at, vacant, bytes-leave, call_is, status_is, IsRow, behind_birth, Guarded, below_rows, bearing, not, tends}
use Rattle.um_machine.specs.Objects as Plain
use Rattle.um_machine.specs.State.{with_waiters}
use Rattle.um_machine.specs.Table as T
use Rattle.um_refinement.proofs.Reachable.{IsSound}
use Rattle.um_refinement.proofs.ThreadLists.{read-set}
use Rattle.um_refinement.proofs.Writes.{Keeping, Makes, Part, Yes, after-kept, births, is_queue, lasting_of, objects, statuses, with_dropped, with_left}

-- an object that is written with the same of something leaves that of all
pub set-kept : {A : Type 0} (g : Object → A) (xs : List Object) (x y : ℕ) (o : Object) → g o ≡ g (slice_index_or xs x vacant)
    → g (slice_index_or (slice_set xs x o) y vacant) ≡ g (slice_index_or xs y vacant)
set-kept g = read-set g vacant

-- who waits in a cell leaves what else is read of objects
pub waiters-kept : {A : Type 0} (g : Object → A) → ((o : Object) (ws : List Waiter) → g (record o { waiters = ws }) ≡ g o) → (s : State) (c y : ℕ) (ws : List Waiter)
    → g (object_at (with_waiters s c ws) y) ≡ g (object_at s y)
waiters-kept g same s c y ws =
    elim (is_queue c) as (λ b. g (slice_index_or (if b then s.objects else slice_set s.objects c (record (object_at s c) { waiters = ws })) y vacant) ≡ g (object_at s y)) [
      | true ↦ refl
      | false ↦ set-kept g s.objects c y _ (same (object_at s c) ws)
    ]

-- all that a step may write but whole objects, and but these and their status
abbrev pub NoBirths : Part → Bool
NoBirths births = false
NoBirths part = true

abbrev pub NoStatuses : Part → Bool
NoStatuses births = false
NoStatuses statuses = false
NoStatuses part = true

-- what is read of an object stays where each write of it that may be made leaves that
pub object-reads : {A : Type 0} (may : Part → Bool) (g : Object → A) (y : ℕ) (v : A)
    → (Yes (may objects) → (o z : Object) → lasting_of o ≡ lasting_of z → o.status ≡ z.status → g o ≡ g z) → (Yes (may statuses) → (o z : Object) → lasting_of o ≡ lasting_of z → g o ≡ g z)
    → (Yes (may births) → ⊥) → Keeping may (λ s. g (object_at s y) ≡ v)
object-reads may g y v edits becomes none =
    record {
      own = λ s u th e k. k;
      word = λ may s u th k. k;
      object = λ yes s x o e q k. set-kept g s.objects x y o (edits yes o (object_at s x) e q) ∙ k;
      status = λ yes s x o e k. set-kept g s.objects x y o (becomes yes o (object_at s x) e) ∙ k;
      birth = λ yes s x o k. absurd (none yes);
      pair = λ may s u x there k. k;
      bytes = λ may s a bs k. bytes-leave (λ (z : State). g (object_at z y)) (λ z bytes. refl) (λ z bytes. refl) s a bs ∙ k;
      pool = λ may s left k. k;
      parts = λ may s d ps k. k;
      queue = λ may s joins futexes k. k;
      clock = λ may s now armed k. k;
    }

module _ (m : State) (y : ℕ) where
  abbrev SameLasting : State → Type 0
  SameLasting s = lasting_of (object_at s y) ≡ lasting_of (object_at m y)

  abbrev SameStatus : State → Type 0
  SameStatus s = (object_at s y).status ≡ (object_at m y).status

  pub lasting-kept : (t x : ℕ) (q : Pending) (rest : Steps) → Makes NoBirths q → SameLasting (T.after m t x q rest)
  lasting-kept t x q rest h = after-kept NoBirths SameLasting (object-reads NoBirths lasting_of y _ (λ may o z e q. e) (λ may o z e. e) (λ may. may)) m t refl x q rest h

  pub status-kept : (t x : ℕ) (q : Pending) (rest : Steps) → Makes NoStatuses q → SameStatus (T.after m t x q rest)
  status-kept t x q rest h = after-kept NoStatuses SameStatus (object-reads NoStatuses (λ (o : Object). o.status) y _ (λ may o z e q. q) (λ may. absurd may) (λ may. may)) m t refl x q rest h

-- Drops and births.

pub live-kept : (a b : Status) → Plain.is_live a ≡ true → Plain.is_free b ≡ false → Plain.is_free b ≡ Plain.is_free a
live-kept Status.Free b h e = absurd (false≢true h)
live-kept Status.Reserved b h e = e
live-kept Status.Live b h e = e
live-kept Status.Gone b h e = e

drop-found : (there last : Bool) → (if not there then Leftover.NoPair else if last then Leftover.Gone else Leftover.Kept) ≡ Leftover.Gone → there ≡ true
drop-found true last e = refl
drop-found false last e = absurd (subst (λ l. elim l as (λ _. Type 0) [ Leftover.NoPair ↦ Unit {0} | Leftover.Kept ↦ ⊥ | Leftover.Gone ↦ ⊥ ]) e tt)

-- a drop leaves which rows are free
pub drop-free : (s : State) (who x y : ℕ) → (pair_at s who x ≡ true → Plain.is_live (object_at s x).status ≡ true)
    → Plain.is_free (object_at (with_dropped s who x) y).status ≡ Plain.is_free (object_at s y).status
drop-free s who x y lives = by (T.dropped s who x) refl
  where
    gone : T.dropped s who x ≡ Leftover.Gone → Plain.is_free Status.Gone ≡ Plain.is_free (object_at s x).status
    gone e = live-kept (object_at s x).status Status.Gone (lives (drop-found (pair_at s who x) _ e)) refl

    by : (l : Leftover) → T.dropped s who x ≡ l
        → Plain.is_free (object_at (with_left l s who x) y).status
        ≡ Plain.is_free (object_at s y).status
    by Leftover.NoPair e = refl
    by Leftover.Kept e = refl
    by Leftover.Gone e = set-kept (λ (z : Object). Plain.is_free z.status) s.objects x y (record (object_at s x) { status = Status.Gone }) (gone e)

all-none : (flags : List Bool) (n : ℕ) → length flags ≡ n → ((t : ℕ) → slice_index_or flags t false ≡ false) → flags ≡ replicate n false
all-none [] zero e h = refl
all-none [] (suc n) e h = absurd (omega (arith, e))
all-none (b ∷ flags) zero e h = absurd (omega (arith, e))
all-none (b ∷ flags) (suc n) e h = λ i. h 0 i ∷ all-none flags n (omega (arith, e)) (λ t. h (suc t)) i

-- What is known of rows.

module _ (m : State) (sound : IsSound m) where
  -- a row with an object has an address of its own
  pub row-again : (x : ℕ) → IsRow m.image x → row_at m.image (addr_of m.image x) ≡ Some x
  row-again x row = sound.known.reached.sited.rows x row

  pub row-below : (x : ℕ) → IsRow m.image x → x < ROWS
  row-below x row = below_rows m.image x sound.known.reached.sited row

  pub found-below : (a x : ℕ) → row_at m.image a ≡ Some x → x < ROWS
  found-below a x e = row-below x (sound.known.reached.sited.found a x e).0

  pub used-row : (x : ℕ) → Plain.is_free (object_at m x).status ≡ false → IsRow m.image x
  used-row x h = sound.known.reached.used x (ap Plain.is_free (status_is m x) ∙ h)

  -- permissions are of live objects
  pub paired-live : (x who : ℕ) → pair_at m who x ≡ true → Plain.is_live (object_at m x).status ≡ true
  paired-live x who h = ap Plain.is_live (sym (status_is m x)) ∙ sound.known.reached.living who x h

  not-free : (s : Status) → Plain.is_gone s ≡ true → Plain.is_free s ≡ false
  not-free Status.Free e = absurd (false≢true e)
  not-free Status.Reserved e = refl
  not-free Status.Live e = refl
  not-free Status.Gone e = refl

  pub gone-row : (x : ℕ) → Plain.is_gone (object_at m x).status ≡ true → IsRow m.image x
  gone-row x gone = used-row x (not-free (object_at m x).status gone)

  -- an object that stands no longer, or not yet, is a dynamic one
  pub unlived-dynamic : (x : ℕ) → Plain.is_free (object_at m x).status ≡ false → Plain.is_live (object_at m x).status ≡ false → STATIC_ROWS ≤ x
  unlived-dynamic x free lives = by (used-row x free)
    where
      by : IsRow m.image x → STATIC_ROWS ≤ x
      by (inl static) = absurd (false≢true (sym lives ∙ (sym (ap Plain.is_live (status_is m x)) ∙ sound.known.reached.static x static)))
      by (inr dynamic) = dynamic.0

  not-live : (s : Status) → Plain.is_gone s ≡ true → Plain.is_live s ≡ false
  not-live Status.Gone e = refl
  not-live Status.Free e = absurd (false≢true e)
  not-live Status.Reserved e = refl
  not-live Status.Live e = absurd (false≢true e)

  pub gone-dynamic : (x : ℕ) → Plain.is_gone (object_at m x).status ≡ true → STATIC_ROWS ≤ x
  gone-dynamic x gone = unlived-dynamic x (not-free (object_at m x).status gone) (not-live (object_at m x).status gone)

  -- nobody has a permission on it
  pub unlived-none : (x : ℕ) → x < ROWS → Plain.is_live (object_at m x).status ≡ false → slice_index_or m.pairs x [] ≡ replicate THREADS false
  unlived-none x l lives =
      all-none (slice_index_or m.pairs x []) THREADS (sound.wide.flags x l) (λ who. by who (pair_at m who x) refl)
    where
      by : (who : ℕ) (b : Bool) → pair_at m who x ≡ b → b ≡ false
      by who true p = absurd (false≢true (sym lives ∙ paired-live x who p))
      by who false p = refl

  -- the steps that a thread has left are guarded
  guarded-next : (t : ℕ) {steps : Steps} → (thread_at m t).pending ≡ steps → Guarded m.image (thread_at m t).checked (behind_birth steps)
  guarded-next t e =
      subst (λ (left : Steps). Guarded m.image (thread_at m t).checked (behind_birth left)) e
      (subst (λ (c : _). Guarded m.image c.checked (behind_birth c.pending)) (call_is m t) (sound.known.reached.guarded t))

  -- an object that is to be born is reserved
  pub born-reserved : (t : ℕ) (a : Addr) (rest : Steps) → Offers m t (Pending.Born a) rest → (y : ℕ) × (row_at m.image a.0 ≡ Some y) × ((object_at m y).status ≡ Status.Reserved)
  born-reserved t a rest (goes e) =
      let r = sound.known.reached.reserved t a.0 (ap (λ (c : _). bearing c.pending) (call_is m t) ∙ ap bearing e) in (r.0, r.1, sym (status_is m r.0) ∙ r.2)
  born-reserved t a rest (skips_inherit e due) = absurd (guarded-next t e)
  born-reserved t a rest (skips_drops e due) = absurd (guarded-next t e)
  born-reserved t a _ (tends is started) = absurd (false≢true is)
