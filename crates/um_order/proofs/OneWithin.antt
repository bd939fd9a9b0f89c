-- With one processor at most one thread is within a call: the one that it runs.
use Rattle.std.specs.Prelude.{is_some, ◌==◌, not, nat_lt, IsTrue, slice_index_or}
use Rattle.std.proofs.Common.{◌≡◌, ◌⊎◌, inl, inr, ℕ, zero, suc, ◌+◌, ◌<◌, ◌≤◌, arith, length, Bool, true, false, List, [], ◌∷◌, Option, Some, None, refl, sym, ap, ◌∙◌, subst}
use Rattle.std.proofs.lemmas.Bool.{and_parts, eqb-true, false≢true, ltb-false, ltb-true}
use Rattle.um_base.specs.declared.limits.TheConstants.{THREADS}
use Rattle.um_machine.specs.Order.{Steps}
use Rattle.um_machine.specs.State.{State, nobody, thread_at}
use Rattle.um_machine.specs.declared.pending.Pending.{Pending}
use Rattle.um_machine.specs.declared.thread.Thread.{Thread}
use Rattle.um_fine.specs.Context.{Context}
use Rattle.um_fine.specs.Joins.{asleep_at}
use Rattle.um_fine.specs.Processor.{Processor}
use Rattle.um_fine.specs.Scheduler.{parked_at, waits}
use Rattle.um_refinement.specs.Fine.{Fine, scheduler, one_if, total, joins}
use Rattle.um_refinement.specs.Lists.{runs, runs_thread, adders, of_thread}
use Rattle.um_refinement.specs.Offers.{is_over, IsPutBack}
use Rattle.um_refinement.specs.Relation.{Rel}
use Rattle.um_refinement.specs.Threads.{runs_on, places, IsOf, as_cut}
use Rattle.um_refinement.specs.Threads as R
use Rattle.um_refinement.proofs.CleanSteps.{adds-one}
use Rattle.um_order.proofs.CallsKept.{AtMostOne, IsBack}
use Rattle.um_order.proofs.ParkedThreads.{one-part}

back-cut : (n : ℕ) (c : Context) → IsPutBack c → IsBack (as_cut n c).pending
back-cut zero c (inl none) = subst IsBack (sym none) tt
back-cut zero c (inr waiting) = by c.pending waiting
  where
    by : (steps : Steps) → IsTrue (waits steps) → IsBack steps
    by [] h = tt
    by (Pending.Resume ∷ rest) h = tt
    by (q ∷ rest) h = absurd (false≢true h)
back-cut (suc n) c put = refl

beyond : (xs : List Thread) (t : ℕ) → length xs ≤ t → slice_index_or xs t nobody ≡ nobody
beyond [] t l = refl
beyond (x ∷ xs) zero l = absurd (omega (arith, l))
beyond (x ∷ xs) (suc t) l = beyond xs t (omega (arith, l))

module _ (f : Fine) (m : State) (rel : Rel f m) (one : f.cpus ≡ 1) (long : length m.threads ≡ THREADS) where
  abbrev p : Processor
  p = f.processors 0

  back-of : (u : ℕ) (c : Context) → IsOf f m c → c.thread ≡ u → IsPutBack c → IsBack (thread_at m u).pending
  back-of u c of same put =
      subst (λ n. IsBack (thread_at m n).pending) same
      (subst IsBack (ap (λ (th : Thread). th.pending) of.own) (back-cut (R.cutters f c.thread) c put))

  back-there : (u : ℕ) → u < THREADS → runs_on u (f.processors 0) ≡ false → IsBack (thread_at m u).pending
  back-there u few apart = by-parked (parked_at (scheduler f) u) refl
    where
      part : ℕ → ℕ
      part k = one_if (runs_on u (f.processors k)) + of_thread u (adders (f.processors k).todo)

      nowhere : parked_at (scheduler f) u ≡ None → asleep_at (joins f) u ≡ None → (n : ℕ) → of_thread u (adders (f.processors 0).todo) ≡ n → IsBack (thread_at m u).pending
      nowhere up awake (suc n) some =
          let d = adds-one u (f.processors 0).todo (omega (arith, some)) in
          let added = rel.contexts.added 0 d.0 (omega (arith, one)) d.1 in
          back-of u d.0 added.0 d.2 (inl added.2)
      nowhere up awake zero none =
          let sum : total part f.cpus ≡ part 0 = one-part part f.cpus one in
          let whole : places f u ≡ total part f.cpus + one_if (is_some (parked_at (scheduler f) u)) + one_if (is_some (asleep_at (joins f) u)) = refl in
          let first = ap one_if apart in
          let second = ap (λ o. one_if (is_some o)) up in
          let third = ap (λ o. one_if (is_some o)) awake in
          subst IsBack (sym ((rel.threads u few).away.away (omega (arith, sum, whole, first, second, third, none))).1) tt

      by-asleep : (o : Option Context) → asleep_at (joins f) u ≡ o → parked_at (scheduler f) u ≡ None → IsBack (thread_at m u).pending
      by-asleep None awake up = nowhere up awake (of_thread u (adders (f.processors 0).todo)) refl
      by-asleep (Some c) there up = let asleep = rel.contexts.asleep u c there in back-of u c asleep.0 asleep.1 (inl asleep.3)

      by-parked : (o : Option Context) → parked_at (scheduler f) u ≡ o → IsBack (thread_at m u).pending
      by-parked None up = by-asleep (asleep_at (joins f) u) refl up
      by-parked (Some c) there = let parked = rel.contexts.parked u c there in back-of u c parked.0 parked.1 parked.3

  -- whoever it doesn't run isn't within one
  pub back-unless : (u : ℕ) → runs_on u (f.processors 0) ≡ false → IsBack (thread_at m u).pending
  back-unless u apart = by (nat_lt u THREADS) refl
    where
      by : (b : Bool) → nat_lt u THREADS ≡ b → IsBack (thread_at m u).pending
      by true h = back-there u (ltb-true u THREADS h) apart
      by false h = let past = ltb-false u THREADS h in subst (λ (me : Thread). IsBack me.pending) (sym (beyond m.threads u (omega (arith, past, long)))) tt

  pub at-most-one : AtMostOne m
  at-most-one v w other = by (runs_on v (f.processors 0)) refl (runs_on w (f.processors 0)) refl
    where
      mine : (u : ℕ) → runs_on u (f.processors 0) ≡ true → (f.processors 0).context.thread ≡ u
      mine u h = eqb-true (f.processors 0).context.thread u (and_parts (runs (f.processors 0)) ((f.processors 0).context.thread == u) (and_parts (runs_thread u (f.processors 0)) (not (is_over (f.processors 0).context)) h).0).1

      by : (a : Bool) → runs_on v (f.processors 0) ≡ a → (b : Bool) → runs_on w (f.processors 0) ≡ b → IsBack (thread_at m v).pending ⊎ IsBack (thread_at m w).pending
      by false h b k = inl (back-unless v h)
      by true h false k = inr (back-unless w k)
      by true h true k = absurd (other (sym (mine v h) ∙ mine w k))
