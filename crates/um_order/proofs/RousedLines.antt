-- Who is roused: one that sleeps comes to the back of the ready list; one at rest that is ready keeps its place.
use Rattle.std.proofs.Common.{◌≡◌, ◌≢◌, ◌⊎◌, inl, inr, ℕ, zero, suc, ◌+◌, ◌<◌, Bool, true, false, List, [], ◌∷◌, ◌++◌, length, Option, Some, None, refl, sym, ap, ◌∙◌, subst, arith, append-nil}
use Rattle.std.specs.Prelude.{◌==◌, ◌&&◌, ◌||◌, not, if◌then◌else◌, is_some}
use Rattle.std.proofs.lemmas.Bool.{and_parts, false≢true, true≢false}
use Rattle.std.proofs.lemmas.Bool.Decides.{nat_tests}
use Rattle.um_base.specs.declared.limits.TheConstants.{THREADS}
use Rattle.um_machine.specs.declared.thread.Life.{Life}
use Rattle.um_machine.specs.declared.thread.Thread.{Thread}
use Rattle.um_machine.specs.Order.{Steps}
use Rattle.um_machine.specs.Services.{is_empty}
use Rattle.um_machine.specs.State.{State, is_living, thread_at}
use Rattle.um_invariants.specs.Lines.{all_join, stands}
use Rattle.um_invariants.specs.Ready.{is_at_rest}
use Rattle.um_fine.specs.Context.{Context}
use Rattle.um_fine.specs.Joins.{asleep_at, sleeps}
use Rattle.um_fine.specs.Scheduler.{is_cut, parked_at, told_at, waits}
use Rattle.um_refinement.specs.Fine.{Fine, one_if, scheduler, total}
use Rattle.um_refinement.specs.Fine as F
use Rattle.um_refinement.specs.Lists.{adders, of_thread}
use Rattle.um_refinement.specs.Offers.{IsPutBack}
use Rattle.um_refinement.specs.Relation.{Rel}
use Rattle.um_refinement.specs.Threads.{IsOf, cutters as cuts, is_ready_there, occurs, places, runs_on}
use Rattle.um_refinement.proofs.Offered.{not-cut}
use Rattle.um_refinement.proofs.PlacesFacts.{parked-unslept}
use Rattle.um_order.proofs.EventLines.{own-is, rest-is}
use Rattle.um_order.proofs.ParkedThreads.{one-part}
use Rattle.um_order.proofs.ReadyLines.{joins-new}

occurs-stands : (t : ℕ) (xs : List ℕ) → 0 < occurs t xs → stands xs t ≡ true
occurs-stands t [] h = absurd (omega (arith, h))
occurs-stands t (x ∷ xs) h = by (t == x) h (occurs-stands t xs)
  where
    by : (b : Bool) → 0 < (if b then occurs t xs + 1 else occurs t xs) → (0 < occurs t xs → stands xs t ≡ true) → (b || stands xs t) ≡ true
    by true h more = refl
    by false h more = more h

pub none-left : (steps : Steps) → (length steps == 0) ≡ true → steps ≡ []
none-left [] h = refl
none-left (q ∷ steps) h = absurd (false≢true (sym (some (length steps)) ∙ h))
  where
    some : (n : ℕ) → (suc n == 0) ≡ false
    some n = grind (arith, nat_tests)

living : (life : Life) → is_living life ≡ true → life ≡ Life.Living
living Life.Unborn h = absurd (false≢true h)
living Life.Living h = refl
living Life.Ended h = absurd (false≢true h)

module _ (g : Fine) (s : State) (rel : Rel g s) (one : g.cpus ≡ 1) (who : ℕ) (few : who < THREADS) (undoomed : (thread_at s who).doomed ≡ false) (not-mine : runs_on who (g.processors 0) ≡ false)
    (not-new : of_thread who (adders (g.processors 0).todo) ≡ 0) where
  abbrev ready : List ℕ
  ready = (scheduler g).ready

  -- one that sleeps is at rest, and not ready
  sleeper-rests : (c : Context) → asleep_at (F.joins g) who ≡ Some c → is_at_rest s who ≡ true
  sleeper-rests c there =
      let is = rel.contexts.asleep who c there in
      subst (λ n. is_at_rest s n ≡ true) is.1 (rest-is g s c is.0 (not-cut is.0 (ap waits is.3)) ∙ λ i. is_empty (is.3 i) && not (is.2 i))

  sleeper-new : is_some (asleep_at (F.joins g) who) ≡ true → occurs who ready ≡ 0
  sleeper-new there = (rel.threads who few).ready.ready ∙ ap one_if (by (parked_at (scheduler g) who) refl)
    where
      by : (o : Option Context) → parked_at (scheduler g) who ≡ o → is_ready_there (parked_at (scheduler g) who) (told_at (scheduler g) who) (is_cut (scheduler g) who) ≡ false
      by None h = ap (λ o. is_ready_there o (told_at (scheduler g) who) (is_cut (scheduler g) who)) h
      by (Some c) h = absurd (false≢true (sym (parked-unslept g s rel who few (ap is_some h)) ∙ there))

  -- one at rest that doesn't sleep is ready
  rests-ready : is_some (asleep_at (F.joins g) who) ≡ false → is_at_rest s who ≡ true → occurs who ready ≡ 1
  rests-ready awake rest = (rel.threads who few).ready.ready ∙ ap one_if (by (parked_at (scheduler g) who) refl)
    where
      parts : (is_living (thread_at s who).life ≡ true) × ((length (thread_at s who).pending == 0) ≡ true)
      parts = and_parts (is_living (thread_at s who).life) (length (thread_at s who).pending == 0) rest

      machine : (thread_at s who).pending ≡ []
      machine = none-left (thread_at s who).pending parts.1

      part : ℕ → ℕ
      part k = one_if (runs_on who (g.processors k)) + of_thread who (adders (g.processors k).todo)

      nowhere : is_some (parked_at (scheduler g) who) ≡ false → places g who ≡ 0
      nowhere unparked =
          let sum = one-part part g.cpus one in
          let mine = ap one_if not-mine in
          let new = not-new in
          let parked = ap one_if unparked in
          let asleep = ap one_if awake in
          omega (arith, sum, mine, new, parked, asleep)

      own-rests : (c : Context) → parked_at (scheduler g) who ≡ Some c → waits c.pending ≡ false
      own-rests c there = which (cuts g c.thread) refl
        where
          is : IsOf g s c × (c.thread ≡ who) × (c.ended ≡ false) × IsPutBack c
          is = rel.contexts.parked who c there

          which : (n : ℕ) → cuts g c.thread ≡ n → waits c.pending ≡ false
          which zero none = ap waits (ap (λ (th : Thread). th.pending) (own-is g s c is.0 none) ∙ (ap (λ n. (thread_at s n).pending) is.1 ∙ machine))
          which (suc n) some =
              let left = (rel.threads who few).cut.left (subst (λ n. 0 < cuts g n) is.1 (omega (arith, some))) in
              absurd (true≢false (ap is_empty (sym machine ∙ left)))

      by : (o : Option Context) → parked_at (scheduler g) who ≡ o → is_ready_there (parked_at (scheduler g) who) (told_at (scheduler g) who) (is_cut (scheduler g) who) ≡ true
      by None h = absurd (away ((rel.threads who few).away.away (nowhere (ap is_some h))).0)
        where
          away : ((thread_at s who).life ≢ Life.Living) ⊎ ((thread_at s who).doomed ≡ true) → ⊥
          away (inl dead) = dead (living (thread_at s who).life parts.0)
          away (inr doomed) = false≢true (sym undoomed ∙ doomed)
      by (Some c) h =
          ap (λ o. is_ready_there o (told_at (scheduler g) who) (is_cut (scheduler g) who)) h ∙ ap (λ b. not b || is_some (told_at (scheduler g) who) || is_cut (scheduler g) who) (own-rests c h)

  pub roused-line : all_join (scheduler g).ready (if is_at_rest s who then who ∷ [] else []) ≡ (scheduler g).ready ++ (if sleeps (F.joins g) who then who ∷ [] else [])
  roused-line = by (asleep_at (F.joins g) who) refl (is_at_rest s who) refl
    where
      by : (o : Option Context) → asleep_at (F.joins g) who ≡ o → (b : Bool) → is_at_rest s who ≡ b → all_join (scheduler g).ready (if b then who ∷ [] else []) ≡ (scheduler g).ready ++ (if sleeps (F.joins g) who then who ∷ [] else [])
      by (Some c) there true r = joins-new (scheduler g).ready who (sleeper-new (ap is_some there)) ∙ ap (λ b. (scheduler g).ready ++ (if b then who ∷ [] else [])) (sym (ap is_some there))
      by (Some c) there false r = absurd (true≢false (sym (sleeper-rests c there) ∙ r))
      by None there true r =
          let one-there = rests-ready (ap is_some there) r in
          ap (λ b. if b then (scheduler g).ready else (scheduler g).ready ++ who ∷ []) (occurs-stands who (scheduler g).ready (omega (arith, one-there)))
          ∙ (sym (append-nil (scheduler g).ready) ∙ ap (λ b. (scheduler g).ready ++ (if b then who ∷ [] else [])) (sym (ap is_some there)))
      by None there false r = sym (append-nil (scheduler g).ready) ∙ ap (λ b. (scheduler g).ready ++ (if b then who ∷ [] else [])) (sym (ap is_some there))
