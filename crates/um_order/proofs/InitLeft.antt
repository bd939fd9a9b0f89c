-- Which steps of the machine leave an object initialised that wasn't, and that a clearing leaves it uninitialised.
use Rattle.std.specs.List.{list_all}
use Rattle.std.specs.Prelude.{◌==◌, slice_index_or, slice_set, ◌||◌, not, if◌then◌else◌}
use Rattle.std.proofs.Common.{◌≡◌, ◌⊎◌, inl, inr, ℕ, Bool, true, false, List, [], ◌∷◌, refl, sym, ap, ◌∙◌, subst}
use Rattle.std.proofs.lemmas.Bool.{and_parts, false≢true}
use Rattle.um_base.specs.declared.ask.Waiter.{Waiter}
use Rattle.um_base.specs.declared.limits.TheConstants.{FUTEX_CELL, JOIN_CELL}
use Rattle.um_base.specs.declared.names.Addr.{Addr}
use Rattle.um_machine.specs.Order.{Steps}
use Rattle.um_machine.specs.State.{State, object_at, vacant, with_object, with_waiters}
use Rattle.um_machine.specs.Table as T
use Rattle.um_machine.specs.Writes.{Effect, wrote, Edit, Effects, edited, effect, only, is_done}
use Rattle.um_machine.specs.declared.object.Object.{Object}
use Rattle.um_machine.specs.declared.pending.Pending.{Pending}
use Rattle.um_machine.proofs.AfterLemmas.{after-is, bytes-leave}
use Rattle.um_machine.proofs.EffectLemmas.{effects_of, next_of, OfEach, all-wrote, woken-by, shared-went}
use Rattle.um_invariants.proofs.Cores.{at_set}
use Rattle.um_invariants.proofs.ThreadCells.{set-either}

-- the object of this row is marked by a step, and what the step says of it
abbrev pub MarksIt : State → ℕ → Pending → Type 0
MarksIt s y (Pending.SetInit a strict undo) = (T.row_of s a ≡ y) × (is_done (T.set_said (object_at s (T.row_of s a)) strict) ≡ true)
MarksIt s y q = ⊥

module _ (s : State) (t x y : ℕ) (q : Pending) where
  abbrev Is : Object → Type 0
  Is o = o.init ≡ true → ((object_at s y).init ≡ true) ⊎ MarksIt s y q

  abbrev Reads : State → Type 0
  Reads z = Is (object_at z y)

  abbrev Makes : Effect → Type 0
  Makes (Effect.object r (Edit.inits true)) = r ≡ y → MarksIt s y q
  Makes e = Unit {0}

  set : (z : State) (r : ℕ) (o : Object) → (r ≡ y → Is (object_at z y) → Is o) → Reads z → Reads (with_object z r o)
  set z r o new k = at_set (λ n (p : Object). n ≡ y → Is p) z.objects r y o vacant (λ same. new same k) (λ same. k) refl

  here : (z : State) (r : ℕ) → r ≡ y → Is (object_at z y) → Is (object_at z r)
  here z r same k = subst (λ n. Is (object_at z n)) (sym same) k

  edits : (z : State) (r : ℕ) (edit : Edit) → Makes (Effect.object r edit) → Reads z → Reads (effect (Effect.object r edit) z)
  edits z r (Edit.inits true) f k = set z r (edited (Edit.inits true) (object_at z r)) (λ same is h. inr (f same)) k
  edits z r (Edit.inits false) f k = set z r (edited (Edit.inits false) (object_at z r)) (λ same is h. absurd (false≢true h)) k
  edits z r (Edit.reserved kind cost) f k = set z r (edited (Edit.reserved kind cost) (object_at z r)) (λ same is h. absurd (false≢true h)) k
  edits z r Edit.vacates f k = set z r (edited Edit.vacates (object_at z r)) (λ same is h. absurd (false≢true h)) k
  edits z r edit f k = set z r (edited edit (object_at z r)) (λ same is. here z r same is) k

  put : (z : State) (c : ℕ) (ws : List Waiter) → Reads z → Reads (with_waiters z c ws)
  put z c ws k = by (c == JOIN_CELL || c == FUTEX_CELL)
    where
      o : Object
      o = record (object_at z c) { waiters = ws }

      by : (b : Bool) → Is (slice_index_or (if b then z.objects else slice_set z.objects c o) y vacant)
      by true = k
      by false = set z c o (λ same is. here z c same is) k

  keeps : (e : Effect) (z : State) → Makes e → Reads z → Reads (effect e z)
  keeps (Effect.wakes woken) z f k = woken-by Reads (λ z u told r. r) woken z k
  keeps (Effect.object r edit) z f k = edits z r edit f k
  keeps (Effect.waiters c ws) z f k = put z c ws k
  keeps (Effect.bytes a bs) z f k = subst Is (sym (bytes-leave (λ (w : State). object_at w y) (λ w b. refl) (λ w b. refl) z a bs)) k
  keeps e z f k = k

  abbrev is_common : Effect → Bool
  is_common (Effect.object r (Edit.inits b)) = not b
  is_common e = true

  common : (e : Effect) → is_common e ≡ true → Makes e
  common (Effect.object r (Edit.inits true)) h = absurd (false≢true h)
  common (Effect.object r (Edit.inits false)) h = tt
  common (Effect.object r edit) h = tt
  common e h = tt

  all-common : (ws : Effects) → list_all (λ (w : Bool × Effect). is_common w.1) ws ≡ true → OfEach Makes ws
  all-common [] h = tt
  all-common ((b, e) ∷ ws) h = let parts = and_parts (is_common e) (list_all (λ (w : Bool × Effect). is_common w.1) ws) h in (common e parts.0, all-common ws parts.1)

  wrote-init : (p : Pending) → q ≡ p → Reads (wrote (effects_of s t x p) s)
  wrote-init (Pending.SetInit a strict undo) same = by (is_done (T.set_said (object_at s (T.row_of s a)) strict)) refl
    where
      by : (b : Bool) → is_done (T.set_said (object_at s (T.row_of s a)) strict) ≡ b → Reads (wrote (only b (Effect.object (T.row_of s a) (Edit.inits true)) ∷ []) s)
      by false e = λ h. inl h
      by true e = keeps (Effect.object (T.row_of s a) (Edit.inits true)) s (λ row. subst (MarksIt s y) (sym same) (row, e)) (λ h. inl h)
  wrote-init p same = all-wrote Reads Makes keeps (effects_of s t x p) s (all-common (effects_of s t x p) refl) (λ h. inl h)

  -- an object that is initialised then was so, or is marked by the step
  pub init-left : (rest : Steps) → (object_at (T.after s t x q rest) y).init ≡ true → ((object_at s y).init ≡ true) ⊎ MarksIt s y q
  init-left rest h =
      wrote-init q refl
      (ap (λ (o : Object). o.init) (sym (shared-went (λ (w : State). object_at w y) (λ w threads. refl) rest (wrote (effects_of s t x q) s) t (next_of s t x q)) ∙ sym (ap (λ (w : State). object_at w y) (after-is s t x q rest))) ∙ h)

-- and a clearing leaves its object uninitialised
pub cleared-init : (s : State) (t x : ℕ) (a : Addr) (rest : Steps) → (object_at (T.after s t x (Pending.ClearInit a) rest) (T.row_of s a)).init ≡ false
cleared-init s t x a rest =
    ap (λ (w : State). (object_at w (T.row_of s a)).init) (after-is s t x (Pending.ClearInit a) rest)
    ∙ (ap (λ (o : Object). o.init) (shared-went (λ (w : State). object_at w (T.row_of s a)) (λ w threads. refl) rest (wrote (effects_of s t x (Pending.ClearInit a)) s) t (next_of s t x (Pending.ClearInit a)))
    ∙ by (set-either s.objects (T.row_of s a) (edited (Edit.inits false) (object_at s (T.row_of s a))) vacant))
  where
    by : (slice_index_or (slice_set s.objects (T.row_of s a) (edited (Edit.inits false) (object_at s (T.row_of s a)))) (T.row_of s a) vacant ≡ edited (Edit.inits false) (object_at s (T.row_of s a)))
        ⊎ (slice_index_or (slice_set s.objects (T.row_of s a) (edited (Edit.inits false) (object_at s (T.row_of s a)))) (T.row_of s a) vacant ≡ vacant)
        → (slice_index_or (slice_set s.objects (T.row_of s a) (edited (Edit.inits false) (object_at s (T.row_of s a)))) (T.row_of s a) vacant).init ≡ false
    by (inl h) = ap (λ (o : Object). o.init) h
    by (inr h) = ap (λ (o : Object). o.init) h
