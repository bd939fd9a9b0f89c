-- On one processor an aborted thread waits only until the next event, which is its cut; and whoever is to be cut is aborted.
use Rattle.std.specs.Prelude.{is_some, ◌==◌, not, if◌then◌else◌, slice_index_or}
use Rattle.std.proofs.Common.{◌≡◌, ◌⊎◌, inl, inr, ℕ, Bool, true, false, List, [], ◌∷◌, Option, Some, None, refl, sym, ap, ◌∙◌, subst, length, ◌<◌, arith, zero, suc}
use Rattle.std.proofs.lemmas.Bool.{and_parts, and_from, eqb-true, eqb-false, false≢true, true≢false}
use Rattle.std.proofs.lemmas.List.{get_or-set_same}
use Rattle.um_base.specs.declared.act.Act.{Act}
use Rattle.um_base.specs.declared.act.Event.{Event}
use Rattle.um_base.specs.declared.ask.Told.{Told}
use Rattle.um_base.specs.declared.names.Access.TheVariants as Access
use Rattle.um_base.specs.declared.names.ThreadIx.{ThreadIx}
use Rattle.um_machine.specs.Goes.{went}
use Rattle.um_machine.specs.Memory.{allowed}
use Rattle.um_machine.specs.Order.{Steps, to_thread}
use Rattle.um_machine.specs.Run.{MayChoose, Offers, Step}
use Rattle.um_machine.specs.Services.{without}
use Rattle.um_machine.specs.State.{State, nobody, thread_at, with_thread, is_living, is_waiting, is_to_resume, with_waiters, waiters_in}
use Rattle.um_machine.specs.Table as T
use Rattle.um_machine.specs.Writes.{Flag, flagged, cut}
use Rattle.um_machine.specs.declared.pending.Pending.{Pending}
use Rattle.um_machine.specs.declared.thread.Thread.{Thread}
use Rattle.um_machine.proofs.EffectLemmas.{next_of}
use Rattle.um_invariants.specs.Armings.{Aim, Arming, gone_through, late_step, timer, waiter}
use Rattle.um_invariants.specs.InOrder.{CleansUp, CutsShort, Follows, GoesOn, PassesTime, Point, is_cleaning, time_step, to_cut}
use Rattle.um_invariants.proofs.Cores.{at_set}
use Rattle.um_invariants.proofs.ThreadCells.{set-either}
use Rattle.um_invariants.proofs.ThreadWords.{is_beside}
use Rattle.um_refinement.proofs.CallsProper.{AreProper}
use Rattle.um_refinement.proofs.Offered.{either-act}
use Rattle.um_order.proofs.CallsKept.{AreCalls}
use Rattle.um_order.proofs.CallsMoved.{IsNow, IsOffered, asks, beside, calls, dooms, inner, is_act, now-is, offered-is, resumes, rises, stays, waits}
use Rattle.um_order.proofs.OneAct.{Calls, IsSettled, is_inner}
use Rattle.um_order.proofs.ThreadsMoved.{AbortsIt, IsLeft, IsShort, Shortens, beside-left, flags-left, other-left, short-awake}

pub record CutsNext (at : Point) : Type 0 where
  pub waits : (v : ℕ) → (thread_at at.state v).aborted ≡ true → is_waiting (thread_at at.state v) ≡ true → at.cut ≡ Some (to_thread v)
  pub aborted : (who : ThreadIx) → at.cut ≡ Some who → (thread_at at.state who.0).aborted ≡ true

calls-awake : (steps : Steps) → Calls steps → is_to_resume steps ≡ false
calls-awake [] h = refl
calls-awake (Pending.Resume ∷ rest) h = absurd h
calls-awake (q ∷ rest) h = refl

none-told : (o : Option Told) → not (is_some o) ≡ true → o ≡ None
none-told None h = refl
none-told (Some told) h = absurd (false≢true h)

-- Who waits after a step waited before, or begins to wait by it.
module _ (s : State) (t x : ℕ) (q : Pending) (rest : Steps) (offers : Offers s t q rest) (chosen : MayChoose s t x q) (proper : AreProper s.image s) (was : AreCalls s) where
  left-waits : (v : ℕ) (me : Thread) → IsLeft s v q me → is_waiting me ≡ true → is_waiting (thread_at s v) ≡ true
  left-waits v me left waiting = by left.pending
    where
      parts : (is_to_resume me.pending ≡ true) × (not (is_some me.told) ≡ true)
      parts = and_parts (is_to_resume me.pending) (not (is_some me.told)) waiting

      short-not : IsShort me.pending → ⊥
      short-not short = true≢false (sym parts.0 ∙ short-awake me.pending short)

      told : ((thread_at s v).told ≡ None) ⊎ IsShort me.pending → (thread_at s v).told ≡ None
      told (inl none) = none
      told (inr short) = absurd (short-not short)

      by : (me.pending ≡ (thread_at s v).pending) ⊎ (IsShort me.pending × Shortens v q) → is_waiting (thread_at s v) ≡ true
      by (inl same) =
          and_from (is_to_resume (thread_at s v).pending) (not (is_some (thread_at s v).told)) (ap is_to_resume (sym same) ∙ parts.0)
          (ap (λ o. not (is_some o)) (told (left.told (none-told me.told parts.1))))
      by (inr short) = absurd (short-not short.0)

  pub waited : (v : ℕ) → is_waiting (thread_at (T.after s t x q rest) v) ≡ true → (is_waiting (thread_at s v) ≡ true) ⊎ ((v ≡ t) × (is_act q ≡ true))
  waited v waiting = by (v == t) refl
    where
      mine : IsNow s t q (thread_at (T.after s t x q rest) t).pending → is_waiting (thread_at (T.after s t x q rest) t) ≡ true → v ≡ t → (is_waiting (thread_at s v) ≡ true) ⊎ ((v ≡ t) × (is_act q ≡ true))
      mine now w own = which now
        where
          resumes_now : is_to_resume (thread_at (T.after s t x q rest) t).pending ≡ true
          resumes_now = (and_parts (is_to_resume (thread_at (T.after s t x q rest) t).pending) _ w).0

          which : IsNow s t q (thread_at (T.after s t x q rest) t).pending → (is_waiting (thread_at s v) ≡ true) ⊎ ((v ≡ t) × (is_act q ≡ true))
          which (calls h g) = absurd (true≢false (sym resumes_now ∙ calls-awake (thread_at (T.after s t x q rest) t).pending h))
          which (dooms from e h) = absurd (false≢true (sym (ap is_to_resume e) ∙ resumes_now))
          which (waits left act e h) = inr (own, act)
          which (stays is h) = inl (subst (λ n. is_waiting (thread_at s n) ≡ true) (sym own) (left-waits t (thread_at (T.after s t x q rest) t) (beside-left s t x q rest is) w))

      by : (b : Bool) → (v == t) ≡ b → (is_waiting (thread_at s v) ≡ true) ⊎ ((v ≡ t) × (is_act q ≡ true))
      by true e = let own = eqb-true v t e in mine (now-is s t x proper (was.calls t) q rest offers chosen) (subst (λ n. is_waiting (thread_at (T.after s t x q rest) n) ≡ true) own waiting) own
      by false e = inl (left-waits v (thread_at (T.after s t x q rest) v) (other-left s t x v q (eqb-false v t e) rest) waiting)

  -- who makes an act isn't stopped
  acts-free : is_act q ≡ true → IsSettled (thread_at s t).pending → ⊥
  acts-free act settled = by q refl (offered-is s t x proper (was.calls t) q rest offers)
    where
      inner-not : (p : Pending) → is_inner p ≡ true → is_act p ≡ true → ⊥
      inner-not (Pending.Work a ask) h k = false≢true h
      inner-not (Pending.Join who timeout) h k = false≢true h
      inner-not (Pending.FutexWait a value timeout) h k = false≢true h
      inner-not p h k = false≢true k

      beside-not : (p : Pending) → is_beside p ≡ true → is_act p ≡ true → ⊥
      beside-not (Pending.Work a ask) h k = false≢true h
      beside-not (Pending.Join who timeout) h k = false≢true h
      beside-not (Pending.FutexWait a value timeout) h k = false≢true h
      beside-not p h k = false≢true k

      by : (p : Pending) → q ≡ p → IsOffered s t x proper (was.calls t) q rest → ⊥
      by p same (inner is h g) = inner-not q is act
      by p same (asks is h more g) = g settled
      by p same (resumes e h) = false≢true (sym (ap is_act e) ∙ act)
      by p same (rises e may there) = false≢true (sym (ap is_act e) ∙ act)
      by p same (beside is) = beside-not q is act

-- whom an act aborts
abbrev aborted_by : Act → Option ThreadIx
aborted_by (Act.Abort who true) = Some who
aborted_by act = None

abort-step : (s : State) (t x : ℕ) (q : Pending) (who : ThreadIx) → aborted_by (T.act_of s t x q) ≡ Some who → (q ≡ Pending.Abort who) × (is_living (thread_at s who.0).life ≡ true)
abort-step s t x (Pending.Abort w) who h = by (is_living (thread_at s w.0).life) refl h
  where
    same-some : (a b : ThreadIx) → Some a ≡ Some b → a ≡ b
    same-some a b h = cc

    by : (b : Bool) → is_living (thread_at s w.0).life ≡ b → aborted_by (Act.Abort w b) ≡ Some who → (Pending.Abort w ≡ Pending.Abort who) × (is_living (thread_at s who.0).life ≡ true)
    by true e k = let same = same-some w who k in (ap Pending.Abort same, ap (λ (z : ThreadIx). is_living (thread_at s z.0).life) (sym same) ∙ e)
    by false e k = absurd (false≢true (ap is_some k))
abort-step s t x (Pending.Load to a n) who h = absurd (false≢true (ap is_some (sym (either-act aborted_by None (allowed s t Access.Read a.0 n) _ _ refl refl) ∙ h)))
abort-step s t x (Pending.Store a n value) who h = absurd (false≢true (ap is_some (sym (either-act aborted_by None (allowed s t Access.Write a.0 n) _ _ refl refl) ∙ h)))
abort-step s t x (Pending.Fetch a) who h = absurd (false≢true (ap is_some (sym (either-act aborted_by None (allowed s t Access.Exec a.0 4) _ _ refl refl) ∙ h)))
abort-step s t x q who h = absurd (false≢true (ap is_some h))

to-cut-by : (act : Act) (s2 : State) (who : ThreadIx) → to_cut act s2 ≡ Some who → aborted_by act ≡ Some who
to-cut-by (Act.Abort w true) s2 who h = by (is_waiting (thread_at s2 w.0)) h
  where
    by : (b : Bool) → (if b then Some w else None) ≡ Some who → Some w ≡ Some who
    by true k = k
    by false k = absurd (false≢true (ap is_some k))
to-cut-by act s2 who h = absurd (false≢true (ap is_some h))

living-in : (xs : List Thread) (v : ℕ) → is_living (slice_index_or xs v nobody).life ≡ true → v < length xs
living-in [] v h = absurd (false≢true h)
living-in (me ∷ xs) zero h = omega arith
living-in (me ∷ xs) (suc v) h = let l = living-in xs v h in omega (arith, l)

-- one that an abort says to be aborted is
abort-done : (s : State) (t x : ℕ) (who : ThreadIx) (rest : Steps) → is_living (thread_at s who.0).life ≡ true → (thread_at (T.after s t x (Pending.Abort who) rest) who.0).aborted ≡ true
abort-done s t x who rest lives =
    subst (λ b. (thread_at (went rest (if b then with_thread s who.0 (flagged Flag.aborted (thread_at s who.0)) else s) t (next_of s t x (Pending.Abort who))) who.0).aborted ≡ true) (sym lives)
    (at_set (λ n (me : Thread). n ≡ who.0 → me.aborted ≡ true) z.threads t who.0 _ nobody (λ own. ap (λ n. (thread_at z n).aborted) own ∙ here) (λ own. here) refl)
  where
    z : State
    z = with_thread s who.0 (flagged Flag.aborted (thread_at s who.0))

    here : (thread_at z who.0).aborted ≡ true
    here = ap (λ (me : Thread). me.aborted) (get_or-set_same s.threads who.0 (flagged Flag.aborted (thread_at s who.0)) nobody (living-in s.threads who.0 lives))

-- and one that is cut waits no longer
cut-over : (s : State) (t x : ℕ) (who : ThreadIx) (rest : Steps) → is_waiting (thread_at (T.after s t x (Pending.Cut who) rest) who.0) ≡ true → ⊥
cut-over s t x who rest h = by (set-either z.threads who.0 (cut (thread_at z who.0)) nobody)
  where
    z : State
    z = with_waiters s x (without who.0 (waiters_in s x))

    by : (thread_at (with_thread z who.0 (cut (thread_at z who.0))) who.0 ≡ cut (thread_at z who.0)) ⊎ (thread_at (with_thread z who.0 (cut (thread_at z who.0))) who.0 ≡ nobody) → ⊥
    by (inl same) = false≢true (sym (ap is_waiting same) ∙ h)
    by (inr none) = false≢true (sym (ap is_waiting none) ∙ h)

module _ (at : Point) (event : Event) (to : Point) (proper : AreProper at.state.image at.state) (calls : AreCalls at.state) (was : CutsNext at) where
  abbrev Made : Type 0
  Made = Step at.state event to.state

  aborted-by : (made : Step at.state event to.state) (v : ℕ) → (thread_at to.state v).aborted ≡ true → ((thread_at at.state v).aborted ≡ true) ⊎ AbortsIt at.state v made.step
  aborted-by made v h = (flags-left at.state event.thread.0 made.row v made.step made.rest).aborted (ap (λ (s : State). (thread_at s v).aborted) (sym made.leaves) ∙ h)

  waited-by : (made : Step at.state event to.state) (v : ℕ) → is_waiting (thread_at to.state v) ≡ true → (is_waiting (thread_at at.state v) ≡ true) ⊎ ((v ≡ event.thread.0) × (is_act made.step ≡ true))
  waited-by made v h = waited at.state event.thread.0 made.row made.step made.rest made.offered made.chosen proper calls v (ap (λ (s : State). is_waiting (thread_at s v)) (sym made.leaves) ∙ h)

  abbrev is_other : Pending → Bool
  is_other (Pending.Abort who) = false
  is_other q = not (is_act q)

  other-aborts : (q : Pending) (v : ℕ) → is_other q ≡ true → AbortsIt at.state v q → ⊥
  other-aborts (Pending.Abort who) v h k = false≢true h
  other-aborts q v h k = k

  other-acts : (q : Pending) → is_other q ≡ true → is_act q ≡ true → ⊥
  other-acts (Pending.Work a ask) h k = false≢true h
  other-acts (Pending.Join who timeout) h k = false≢true h
  other-acts (Pending.FutexWait a value timeout) h k = false≢true h
  other-acts q h k = false≢true k

  -- behind a step that neither aborts nor acts who waits and is aborted was so before
  before : (made : Step at.state event to.state) → is_other made.step ≡ true → (v : ℕ) → (thread_at to.state v).aborted ≡ true → is_waiting (thread_at to.state v) ≡ true → at.cut ≡ Some (to_thread v)
  before made other v aborted waiting = by (aborted-by made v aborted) (waited-by made v waiting)
    where
      by : ((thread_at at.state v).aborted ≡ true) ⊎ AbortsIt at.state v made.step → (is_waiting (thread_at at.state v) ≡ true) ⊎ ((v ≡ event.thread.0) × (is_act made.step ≡ true)) → at.cut ≡ Some (to_thread v)
      by (inl a) (inl w) = was.waits v a w
      by (inr a) w = absurd (other-aborts made.step v other a)
      by (inl a) (inr w) = absurd (other-acts made.step other w.1)

  none-cut : {A : Type 0} (who : ThreadIx) → at.cut ≡ None → at.cut ≡ Some who → A
  none-cut who none some = absurd (false≢true (ap is_some (sym none ∙ some)))

  by-cleaning : CleansUp at event to → CutsNext to
  by-cleaning is =
      record {
        waits = λ v aborted waiting. same ∙ before made (cleaning-other made.step is.made.cleans) v aborted waiting;
        aborted = λ who h. stayed who (was.aborted who (sym same ∙ h));
      }
    where
      made : Step at.state event to.state
      made = is.made.made

      same : to.cut ≡ at.cut
      same = ap (λ (z : Point). z.cut) is.leaves

      cleaning-other : (q : Pending) → is_cleaning q ≡ true → is_other q ≡ true
      cleaning-other (Pending.CleanPair who) h = refl
      cleaning-other Pending.Recycle h = refl
      cleaning-other q h = absurd (false≢true h)

      shortens-not : (q : Pending) (v : ℕ) → is_cleaning q ≡ true → Shortens v q → ⊥
      shortens-not (Pending.CleanPair who) v h k = k
      shortens-not Pending.Recycle v h k = k
      shortens-not q v h k = false≢true h

      stayed : (who : ThreadIx) → (thread_at at.state who.0).aborted ≡ true → (thread_at to.state who.0).aborted ≡ true
      stayed who h = ap (λ (s : State). (thread_at s who.0).aborted) made.leaves ∙ by ((flags-left at.state event.thread.0 made.row who.0 made.step made.rest).aborts h)
        where
          by : ((thread_at (T.after at.state event.thread.0 made.row made.step made.rest) who.0).aborted ≡ true) ⊎ Shortens who.0 made.step → (thread_at (T.after at.state event.thread.0 made.row made.step made.rest) who.0).aborted ≡ true
          by (inl k) = k
          by (inr short) = absurd (shortens-not made.step who.0 is.made.cleans short)

  by-cut : CutsShort at event to → CutsNext to
  by-cut is =
      record {
        waits = λ v aborted waiting. absurd (gone v waiting (before made (ap is_other is.made.is) v aborted waiting));
        aborted = λ who h. absurd (false≢true (ap is_some (sym (ap (λ (z : Point). z.cut) is.leaves) ∙ h)));
      }
    where
      made : Step at.state event to.state
      made = is.made.made

      same-some : (a b : ThreadIx) → Some a ≡ Some b → a ≡ b
      same-some a b h = cc

      gone : (v : ℕ) → is_waiting (thread_at to.state v) ≡ true → at.cut ≡ Some (to_thread v) → ⊥
      gone v waiting cut_is =
          let own : is.who ≡ to_thread v = same-some is.who (to_thread v) (sym is.is_due ∙ cut_is) in
          cut-over at.state event.thread.0 made.row is.who made.rest
          (subst (λ q. is_waiting (thread_at (T.after at.state event.thread.0 made.row q made.rest) is.who.0) ≡ true) is.made.is
          (ap (λ (s : State). is_waiting (thread_at s is.who.0)) (sym made.leaves) ∙ (ap (λ (z : ThreadIx). is_waiting (thread_at to.state z.0)) own ∙ waiting)))

  by-time : PassesTime at event to → CutsNext to
  by-time is =
      record {
        waits = λ v aborted waiting. none-cut (to_thread v) is.uncut (before is.made.made (ap is_other is.made.is ∙ timely (gone_through at.state at.armings).1) v aborted waiting);
        aborted = λ who h. none-cut who is.uncut (sym (ap (λ (z : Point). z.cut) is.leaves) ∙ h);
      }
    where
      timely : (o : Option Arming) → is_other (time_step o) ≡ true
      timely None = refl
      timely (Some arming) = by arming.aim
        where
          by : (aim : Aim) → is_other (late_step aim) ≡ true
          by (waiter who c) = refl
          by (timer x) = refl

  by-going : Step at.state event to.state → GoesOn at event to → CutsNext to
  by-going made is =
      record {
        waits = λ v aborted waiting. new v waiting (aborted-by made v aborted) (waited-by made v waiting);
        aborted = λ who h. aborted-now who (to-cut-by event.act to.state who (sym is.cut ∙ h));
      }
    where
      new : (v : ℕ) → is_waiting (thread_at to.state v) ≡ true → ((thread_at at.state v).aborted ≡ true) ⊎ AbortsIt at.state v made.step
          → (is_waiting (thread_at at.state v) ≡ true) ⊎ ((v ≡ event.thread.0) × (is_act made.step ≡ true)) → to.cut ≡ Some (to_thread v)
      new v waiting (inl a) (inl w) = none-cut (to_thread v) is.uncut (was.waits v a w)
      new v waiting (inl a) (inr w) =
          absurd (acts-free at.state event.thread.0 made.row made.step made.rest made.offered made.chosen proper calls w.1 (calls.stopped event.thread.0 (inl (ap (λ n. (thread_at at.state n).aborted) (sym w.0) ∙ a))))
      new v waiting (inr a) w = is.cut ∙ (ap (λ act. to_cut act to.state) made.says ∙ whom made.step a)
        where
          whom : (q : Pending) → AbortsIt at.state v q → to_cut (T.act_of at.state event.thread.0 made.row q) to.state ≡ Some (to_thread v)
          whom (Pending.Abort who) h =
              let own : who ≡ to_thread v = ap to_thread h.0 in
              ap (λ b. to_cut (Act.Abort who b) to.state) h.1
              ∙ (ap (λ b. if b then Some who else None) (ap (λ n. is_waiting (thread_at to.state n)) h.0 ∙ waiting) ∙ ap Some own)
          whom q h = absurd h

      aborted-now : (who : ThreadIx) → aborted_by event.act ≡ Some who → (thread_at to.state who.0).aborted ≡ true
      aborted-now who h =
          let step = abort-step at.state event.thread.0 made.row made.step who (ap aborted_by (sym made.says) ∙ h) in
          ap (λ (s : State). (thread_at s who.0).aborted) made.leaves
          ∙ subst (λ q. (thread_at (T.after at.state event.thread.0 made.row q made.rest) who.0).aborted ≡ true) (sym step.0) (abort-done at.state event.thread.0 made.row who made.rest step.1)

  pub cuts-follow : Step at.state event to.state → Follows at event to → CutsNext to
  cuts-follow made (inl is) = by-cleaning is
  cuts-follow made (inr (inl is)) = by-cut is
  cuts-follow made (inr (inr (inl is))) = by-going made is
  cuts-follow made (inr (inr (inr is))) = by-time is
