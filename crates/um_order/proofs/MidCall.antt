-- While the object of a thread is marked that doesn't live, one thread is within the call that starts it, or that clears the mark again. Each step of the
-- machine keeps that, unless it starts that thread or clears the mark.
use Rattle.std.specs.Prelude.{◌==◌, unwrap_or, slice_index_or, ℤ}
use Rattle.std.proofs.Common.{◌≡◌, ◌⊎◌, inl, inr, ℕ, zero, suc, ◌<◌, arith, length, Bool, true, false, List, [], ◌∷◌, Option, Some, None, refl, sym, ap, ◌∙◌, subst}
use Rattle.std.proofs.lemmas.Bool.{and_parts, false≢true, true≢false, eqb-true, eqb-false}
use Rattle.std.proofs.lemmas.List.{get_or-set_same}
use Rattle.um_base.specs.Places.{own_row, row_at}
use Rattle.um_base.specs.declared.act.SetSaid.{SetSaid}
use Rattle.um_base.specs.declared.image.Image.{Image}
use Rattle.um_base.specs.declared.limits.TheConstants.{THREADS}
use Rattle.um_base.specs.declared.names.Addr.{Addr}
use Rattle.um_base.specs.declared.names.Mode.{Mode}
use Rattle.um_base.specs.declared.names.Row.{Row}
use Rattle.um_base.specs.declared.names.ThreadIx.{ThreadIx}
use Rattle.um_machine.specs.Goes.{Next, gone, went, steps_by, set_way}
use Rattle.um_machine.specs.Order.{Steps}
use Rattle.um_machine.specs.Run.{MayChoose, Offers, goes, skips_inherit, skips_drops, begins, exits, stops, tends, leaves, is_tending}
use Rattle.um_machine.specs.Services.{is_empty}
use Rattle.um_machine.specs.State.{State, nobody, thread_at, object_at, is_to_resume, is_waiting}
use Rattle.um_machine.specs.Table as T
use Rattle.um_machine.specs.Writes.{wrote, is_done}
use Rattle.um_machine.specs.declared.pending.Pending.{Pending}
use Rattle.um_machine.specs.declared.thread.Thread.{Thread}
use Rattle.um_machine.proofs.AfterLemmas.{after-is}
use Rattle.um_machine.proofs.EffectLemmas.{effects_of, next_of}
use Rattle.um_invariants.proofs.Cores.{core_of}
use Rattle.um_invariants.proofs.Guards.{IsSited, Names}
use Rattle.um_invariants.proofs.ThreadWords.{is_beside}
use Rattle.um_invariants.proofs.Turns.{IsKnown, row_is}
use Rattle.um_fine.specs.Addresses.{row_named}
use Rattle.um_refinement.proofs.CallsProper.{AreProper, offered-proper}
use Rattle.um_order.proofs.CallsKept.{AreCalls, AtMostOne, IsBack, within}
use Rattle.um_order.proofs.InitLeft.{MarksIt, cleared-init}
use Rattle.um_order.proofs.InitShapes.{IsThread, Makes, Clears}
use Rattle.um_order.proofs.InitsKept.{AllInits, offered-inits}
use Rattle.um_order.proofs.ThreadsMoved.{IsMoved, IsShort, Shortens, beside-left, other-left, thread-wrote}

-- these steps start this thread, whose object is marked, or clear that mark
abbrev pub IsMid : Image → ℕ → Steps → Type 0
IsMid image w steps = Makes image w steps ⊎ Clears image w steps

abbrev pub Mid : Image → ℕ → State → Type 0
Mid image w m = (u : ℕ) × IsMid image w (thread_at m u).pending

module _ (image : Image) (w : ℕ) where
  pub mid-within : (steps : Steps) → IsMid image w steps → IsBack steps → ⊥
  mid-within [] (inl h) back = h
  mid-within [] (inr h) back = h
  mid-within (Pending.Resume ∷ rest) (inl h) back = h
  mid-within (Pending.Resume ∷ rest) (inr h) back = h
  mid-within (Pending.Killed ∷ rest) (inl h) back = h
  mid-within (Pending.Killed ∷ rest) (inr h) back = h
  mid-within (q ∷ rest) mid back = back

  mid-awake : (steps : Steps) → IsMid image w steps → is_to_resume steps ≡ true → ⊥
  mid-awake (Pending.Resume ∷ rest) (inl h) e = h
  mid-awake (Pending.Resume ∷ rest) (inr h) e = h
  mid-awake [] mid e = false≢true e
  mid-awake (q ∷ rest) mid e = false≢true e

  -- behind an inheritance, and behind the drops of an end
  pub behind-inherit : (who : ThreadIx) (steps : Steps) → IsMid image w (Pending.Inherit who ∷ steps) → IsMid image w steps
  behind-inherit who steps (inl h) = inl h
  behind-inherit who steps (inr h) = inr h

  pub behind-drops : (from : ℕ) (steps : Steps) → IsMid image w (Pending.Drops from ∷ steps) → IsMid image w steps
  behind-drops from steps (inl h) = absurd h
  behind-drops from steps (inr h) = inr h

inside : (xs : List Thread) (t : ℕ) → is_empty (slice_index_or xs t nobody).pending ≡ false → t < length xs
inside [] t h = absurd (true≢false h)
inside (y ∷ ys) zero h = omega arith
inside (y ∷ ys) (suc t) h = let l = inside ys t h in omega (arith, l)

went-own : (left : Steps) (z : State) (t : ℕ) (next : Next) → IsMoved next → t < length z.threads → (thread_at (went left z t next) t).pending ≡ (gone left z t next (thread_at z t)).pending
went-own left z t Next.stays moved l = absurd moved
went-own left z t (Next.begins None) moved l = absurd moved
went-own left z t (Next.resumes None) moved l = absurd moved
went-own left z t next moved l = ap (λ (me : Thread). me.pending) (get_or-set_same z.threads t (gone left z t next (thread_at z t)) nobody l)

-- the steps that a thread has left behind one that it made
pub own-left : (s : State) (t x : ℕ) (q : Pending) (rest : Steps) → IsMoved (next_of s t x q) → (Shortens t q → ⊥) → is_empty (thread_at s t).pending ≡ false
    → (thread_at (T.after s t x q rest) t).pending ≡ (gone rest (wrote (effects_of s t x q) s) t (next_of s t x q) (thread_at (wrote (effects_of s t x q) s) t)).pending
own-left s t x q rest moved lasting some =
    ap (λ (z : State). (thread_at z t).pending) (after-is s t x q rest)
    ∙ went-own rest z t (next_of s t x q) moved (inside z.threads t (by (thread-wrote s t x t q).pending))
  where
    z : State
    z = wrote (effects_of s t x q) s

    by : ((thread_at (wrote (effects_of s t x q) s) t).pending ≡ (thread_at s t).pending) ⊎ (IsShort (thread_at (wrote (effects_of s t x q) s) t).pending × Shortens t q)
        → is_empty (thread_at (wrote (effects_of s t x q) s) t).pending ≡ false
    by (inl same) = ap is_empty same ∙ some
    by (inr short) = absurd (lasting short.1)

module _ (image : Image) (w : ℕ) (s : State) (same : s.image ≡ image) (t x : ℕ) (q : Pending) (rest : Steps) (offers : Offers s t q rest) (chosen : MayChoose s t x q)
    (proper : AreProper s.image s) (many : length s.threads ≡ THREADS) (one : AtMostOne s) (calls : AreCalls s) where
  abbrev left_of : ℕ → Steps
  left_of v = (thread_at (T.after s t x q rest) v).pending

  set-left : (mode : Mode) (a : Addr) (left : Steps) → row_at image a.0 ≡ Some (own_row image w) → Makes image w left → (said : SetSaid) → IsMid image w (steps_by left (set_way mode (Some a) said))
  set-left mode a left row h SetSaid.Done = inl h
  set-left mode a left row h SetSaid.Gone = inl h
  set-left mode a left row h (SetSaid.Fail e) = inr (ap (λ (o : Option ℕ). unwrap_or o 0) row)

  set-done : (mode : Mode) (undo : Option Addr) (left : Steps) (said : SetSaid) → is_done said ≡ true → steps_by left (set_way mode undo said) ≡ left
  set-done mode undo left SetSaid.Done h = refl
  set-done mode undo left SetSaid.Gone h = absurd (false≢true h)
  set-done mode undo left (SetSaid.Fail e) h = absurd (false≢true h)

  -- where that thread isn't started, and its object is still marked
  module _ (unstarted : (who : ThreadIx) (script : ℕ) (stack : Row) (priority : ℤ) (mode : Mode) → q ≡ Pending.Start who script stack priority mode → who.0 ≡ w → ⊥)
      (init : (object_at (T.after s t x q rest) (own_row image w)).init ≡ true) where
    -- who is within that call is neither cut, nor does another one start a thread
    lasting : (u : ℕ) → IsMid image w (thread_at s u).pending → (u ≡ t → is_beside q ≡ true) → Shortens u q → ⊥
    lasting u mid beside short = by q refl short
      where
        by : (p : Pending) → q ≡ p → Shortens u p → ⊥
        by (Pending.Cut who) is h =
            let may : MayChoose s t x (Pending.Cut who) = subst (MayChoose s t x) is chosen in
            let waiting = (and_parts (is_waiting (thread_at s who.0)) _ (and_parts (thread_at s who.0).aborted _ may).1).0 in
            mid-awake image w (thread_at s u).pending mid (subst (λ n. is_to_resume (thread_at s n).pending ≡ true) h (and_parts (is_to_resume (thread_at s who.0).pending) _ waiting).0)
        by (Pending.Start who script stack priority mode) is h = each (u == t) refl
          where
            apart : IsBack (thread_at s u).pending ⊎ IsBack (thread_at s t).pending → ⊥
            apart (inl back) = mid-within image w (thread_at s u).pending mid back
            apart (inr back) = within s t x q rest offers chosen proper many one calls (Pending.Start who script stack priority mode) rest (subst (λ p. Offers s t p rest) is offers) refl back

            each : (b : Bool) → (u == t) ≡ b → ⊥
            each true e = false≢true (sym (ap is_beside is) ∙ beside (eqb-true u t e))
            each false e = apart (one u t (eqb-false u t e))
        by p is h = h

    on-left : (p : Pending) → IsMid image w (p ∷ rest) → q ≡ p → is_empty (thread_at s t).pending ≡ false → IsMid image w (thread_at (T.after s t x p rest) t).pending
    on-left (Pending.SetInit b strict None) (inl h) is some = absurd h
    on-left (Pending.SetInit b strict None) (inr h) is some = absurd h
    on-left (Pending.SetInit b strict (Some a)) (inl h) is some =
        subst (IsMid image w) (sym (own-left s t x (Pending.SetInit b strict (Some a)) rest tt (λ short. short) some)) (set-left (thread_at s t).mode a rest h.0 h.1 (T.set_said (object_at s (T.row_of s b)) strict))
    on-left (Pending.SetInit b strict (Some a)) (inr h) is some = absurd h
    on-left (Pending.Erase stack) (inl h) is some = subst (IsMid image w) (sym (own-left s t x (Pending.Erase stack) rest tt (λ short. short) some)) (inl h)
    on-left (Pending.Erase stack) (inr h) is some = absurd h
    on-left (Pending.Own who) (inl h) is some = subst (IsMid image w) (sym (own-left s t x (Pending.Own who) rest tt (λ short. short) some)) (inl h)
    on-left (Pending.Own who) (inr h) is some = absurd h
    on-left (Pending.Inherit who) (inl h) is some = subst (IsMid image w) (sym (own-left s t x (Pending.Inherit who) rest tt (λ short. short) some)) (inl h)
    on-left (Pending.Inherit who) (inr h) is some = subst (IsMid image w) (sym (own-left s t x (Pending.Inherit who) rest tt (λ short. short) some)) (inr h)
    on-left (Pending.Start who script stack priority mode) (inl h) is some = absurd (unstarted who script stack priority mode is h)
    on-left (Pending.Start who script stack priority mode) (inr h) is some = absurd h
    on-left (Pending.ClearInit a) (inl h) is some = absurd h
    on-left (Pending.ClearInit a) (inr h) is some =
        let row : T.row_of s a ≡ own_row image w = ap (λ i. row_named i a) same ∙ h in
        let there : (object_at (T.after s t x (Pending.ClearInit a) rest) (own_row image w)).init ≡ true = subst (λ p. (object_at (T.after s t x p rest) (own_row image w)).init ≡ true) is init in
        absurd (false≢true (sym (cleared-init s t x a rest) ∙ (ap (λ n. (object_at (T.after s t x (Pending.ClearInit a) rest) n).init) row ∙ there)))
    on-left (Pending.Drops from) (inl h) is some = absurd h
    on-left (Pending.Drops from) (inr h) is some = subst (IsMid image w) (sym (own-left s t x (Pending.Drops from) rest tt (λ short. short) some)) (inr h)
    on-left p (inl h) is some = absurd h
    on-left p (inr h) is some = absurd h

    beside-mid : IsMid image w (thread_at s t).pending → is_beside q ≡ true → IsMid image w (left_of t)
    beside-mid mid beside = which (beside-left s t x q rest beside).pending
      where
        which : (left_of t ≡ (thread_at s t).pending) ⊎ (IsShort (left_of t) × Shortens t q) → IsMid image w (left_of t)
        which (inl stays) = subst (IsMid image w) (sym stays) mid
        which (inr short) = absurd (lasting t mid (λ k. beside) short.1)

    mine-mid : IsMid image w (thread_at s t).pending → IsMid image w (left_of t)
    mine-mid mid = by offers refl refl
      where
        on : (p : Pending) → q ≡ p → IsMid image w (p ∷ rest) → is_empty (thread_at s t).pending ≡ false → IsMid image w (left_of t)
        on p is h some = subst (λ r. IsMid image w (thread_at (T.after s t x r rest) t).pending) (sym is) (on-left p h is some)

        none : (thread_at s t).pending ≡ [] → IsMid image w (left_of t)
        none e = absurd (mid-within image w (thread_at s t).pending mid (subst IsBack (sym e) tt))

        tending : (p : Pending) → is_tending p ≡ true → is_beside p ≡ true
        tending Pending.Left h = refl
        tending p h = h

        by : {p : Pending} {more : Steps} → Offers s t p more → q ≡ p → rest ≡ more → IsMid image w (left_of t)
        by (goes {p} {rest = more} e) is over = on p is (subst (IsMid image w) (e ∙ ap (λ z. p ∷ z) (sym over)) mid) (ap is_empty e)
        by (skips_inherit {who} {p} {rest = more} e due) is over =
            on p is (behind-inherit image w who (p ∷ rest) (subst (IsMid image w) (e ∙ ap (λ z. Pending.Inherit who ∷ p ∷ z) (sym over)) mid)) (ap is_empty e)
        by (skips_drops {from} {p} {rest = more} e due) is over =
            on p is (behind-drops image w from (p ∷ rest) (subst (IsMid image w) (e ∙ ap (λ z. Pending.Drops from ∷ p ∷ z) (sym over)) mid)) (ap is_empty e)
        by (begins e lives may there) is over = none e
        by (exits e lives may there) is over = none e
        by (stops e lives must) is over = none e
        by (leaves ends) is over = beside-mid mid (ap is_beside is)
        by (tends {p} is_so started) is over = beside-mid mid (ap is_beside is ∙ tending p is_so)

    pub mid-after : Mid image w s → Mid image w (T.after s t x q rest)
    mid-after (u, mid) = by (u == t) refl
      where
        by : (b : Bool) → (u == t) ≡ b → Mid image w (T.after s t x q rest)
        by true e = (t, mine-mid (subst (λ n. IsMid image w (thread_at s n).pending) (eqb-true u t e) mid))
        by false e = which (other-left s t x u q (eqb-false u t e) rest).pending
          where
            which : (left_of u ≡ (thread_at s u).pending) ⊎ (IsShort (left_of u) × Shortens u q) → Mid image w (T.after s t x q rest)
            which (inl stays) = (u, subst (IsMid image w) (sym stays) mid)
            which (inr short) = absurd (lasting u mid (λ own. absurd (eqb-false u t e own)) short.1)

  -- behind the mark
  pub marked-mid : IsSited image → IsKnown (core_of s) → AllInits image s → IsThread image w → MarksIt s (own_row image w) q → Mid image w (T.after s t x q rest)
  marked-mid sited known all thread marks = (t, by q refl marks)
    where
      is_set : Pending → Bool
      is_set (Pending.SetInit a strict undo) = true
      is_set p = false

      some : {p : Pending} {more : Steps} → Offers s t p more → is_set p ≡ true → is_empty (thread_at s t).pending ≡ false
      some (goes e) h = ap is_empty e
      some (skips_inherit e due) h = ap is_empty e
      some (skips_drops e due) h = ap is_empty e
      some (begins e lives may there) h = absurd (false≢true h)
      some (exits e lives may there) h = absurd (false≢true h)
      some (stops e lives must) h = absurd (false≢true h)
      some (leaves ends) h = absurd (false≢true h)
      some (tends {p} is started) h = absurd (not-set p is h)
        where
          not-set : (p : Pending) → is_tending p ≡ true → is_set p ≡ true → ⊥
          not-set (Pending.SetInit a strict undo) k g = false≢true k
          not-set p k g = false≢true g

      by : (p : Pending) → q ≡ p → MarksIt s (own_row image w) p → IsMid image w (left_of t)
      by (Pending.SetInit a strict undo) is h =
          let offered : Offers s t (Pending.SetInit a strict undo) rest = subst (λ p. Offers s t p rest) is offers in
          let inits = offered-inits image sited s same known all t x (Pending.SetInit a strict undo) rest offered in
          let names : Names s.image (thread_at s t).checked a.0 = (offered-proper s t x (proper t) (Pending.SetInit a strict undo) rest offered).0.0 in
          let y : T.row_of s a ≡ names.0 = row_is s a names.0 names.1 in
          let row : row_at image a.0 ≡ Some (own_row image w) = ap (λ i. row_at i a.0) (sym same) ∙ (names.1 ∙ ap Some (sym y ∙ h.0)) in
          subst (λ p. IsMid image w (thread_at (T.after s t x p rest) t).pending) (sym is)
          (subst (IsMid image w) (sym (own-left s t x (Pending.SetInit a strict undo) rest tt (λ short. short) (some offered refl) ∙ set-done (thread_at s t).mode undo rest (T.set_said (object_at s (T.row_of s a)) strict) h.1))
          (inl (inits.0 w thread row)))
      by p is h = absurd h
