-- Steps beside a thread's own: time goes on, timers run out, and who waits is told, or cut.
use Rattle.std.proofs.Common.{◌≡◌, ◌<◌, ◌≤◌, ℕ, true, not, ◌==◌, List, [], ◌∷◌, length, refl, subst, arith, Option, Some, None, is_some, unwrap_or}
use Rattle.std.specs.List.{list_all}
use Rattle.std.proofs.lemmas.Bool.{and_parts, false≢true}
use Rattle.um_base.specs.declared.ask.Waiter.{Waiter}
use Rattle.um_base.specs.declared.limits.TheConstants.{JOIN_CELL}
use Rattle.um_base.specs.declared.names.ThreadIx.{ThreadIx}
use Rattle.um_machine.specs.declared.contents.Contents.{Contents}
use Rattle.um_machine.specs.declared.pending.Pending.{Pending}
use Rattle.um_machine.specs.declared.thread.Life.{Life}
use Rattle.um_machine.specs.Joins.{joins, is_joined, all_joined, without_joins}
use Rattle.um_machine.specs.Order.{Steps}
use Rattle.um_machine.specs.Run.{stands_in}
use Rattle.um_machine.specs.Services.{in_order, without, runs_out}
use Rattle.um_machine.specs.State.{State, is_to_resume, waiters_in, with_waiters, thread_at, object_at, with_object}
use Rattle.um_machine.specs.Table.{after, all_woken}
use Rattle.um_machine.specs.Time.{next_deadline, has_run_out, told_late}
use Rattle.um_machine.specs.Writes.{cut as cut_short}
use Rattle.um_measure.specs.Measure.{one_if, is_running}
use Rattle.um_measure.specs.Reached.{may_wait, IsReached}
use Rattle.um_measure.proofs.EasedLemmas.{all-same}
use Rattle.um_measure.proofs.MadeLemmas.{IsMade, cost-pending, lowers, writes}
use Rattle.um_measure.proofs.StoreLemmas.{store_of, deadline-less, filter-few, filter-less, store-set, store-waiters, store-woken}
use Rattle.um_measure.proofs.WaitLemmas.{base-cell}
use Rattle.um_measure.proofs.WriteLemmas.{IsBase, base-woken}

-- a timer that ran out is stopped
out-stopped : (ws order : List Waiter) → (length (runs_out ws order).1 ≤ length ws) × (one_if (is_running (runs_out ws order).0) ≡ 0)
out-stopped ws [] = (omega arith, refl)
out-stopped ws (first ∷ order) = (filter-few (λ (w : Waiter). not (w.thread.0 == first.thread.0)) ws, refl)

was-running : (now : ℕ) (contents : Contents) → has_run_out now contents ≡ true → one_if (is_running contents) ≡ 1
was-running now (Contents.Running deadline) h = refl
was-running now contents h = absurd (false≢true h)

-- a thread that waits is in a call
waits-first : (steps : Steps) → is_to_resume steps ≡ true → (rest : Steps) × (steps ≡ Pending.Resume ∷ rest)
waits-first (Pending.Resume ∷ rest) h = (rest, refl)
waits-first steps h = absurd (false≢true h)

living-life : (life : Life) → may_wait life Pending.Resume ≡ true → life ≡ Life.Living
living-life Life.Unborn h = absurd (false≢true h)
living-life Life.Living h = refl
living-life Life.Ended h = absurd (false≢true h)

module _ (s : State) (reached : IsReached s) (t x : ℕ) (rest : Steps) where
  abbrev Makes : State → Type 0
  Makes s2 = IsMade s s2 (Unit {0})

  pub left : is_joined s t ≡ true → Makes (after s t x Pending.Left rest)
  left joined =
      let ws = without_joins s t in
      let s1 = with_waiters s JOIN_CELL ws in
      let woken = all_joined s t in
      let less = filter-less (joins t) s.joins joined in
      let store = store-waiters s JOIN_CELL ws in
      let same = store-woken woken s1 in
      let base = base-woken s s1 0 (base-cell s reached JOIN_CELL 0 ws (omega (arith, less))) woken in
      let armed = base.armed in
      lowers s reached (all_woken woken s1) 0 base (omega (arith, less, store, same)) (omega (arith, armed))

  tick-by : (o : Option ℕ) → next_deadline s.now s.armed ≡ o → is_some o ≡ true → Makes (record s { now = unwrap_or o s.now })
  tick-by None e h = absurd (false≢true h)
  tick-by (Some d) e h =
      let less = (deadline-less s.now d s.armed e).1 in
      lowers s reached (record s { now = d }) 0 (record { image = refl; eased = all-same s.threads; sized = reached.sized; store = omega (arith, less); armed = omega arith }) (omega (arith, less)) (omega arith)

  pub tick : is_some (next_deadline s.now s.armed) ≡ true → Makes (after s t x Pending.Tick rest)
  tick h = tick-by (next_deadline s.now s.armed) refl h

  module _ (who : ThreadIx) (stands : stands_in who.0 (waiters_in s x) ≡ true) where
    abbrev Others : List Waiter
    Others = without who.0 (waiters_in s x)

    abbrev Without : State
    Without = with_waiters s x Others

    fewer : length Others < length (waiters_in s x)
    fewer = filter-less (λ (w : Waiter). w.thread.0 == who.0) (waiters_in s x) stands

    without-base : IsBase s Without 0
    without-base = let less = fewer in base-cell s reached x 0 Others (omega (arith, less))

    without-less : store_of Without < store_of s
    without-less = let less = fewer in let store = store-waiters s x Others in omega (arith, less, store)

    pub timeout : Makes (after s t x (Pending.TimeOut who) rest)
    timeout =
        let told = told_late who x in
        let less = without-less in
        let same = store-woken told Without in
        let base = base-woken s Without 0 without-base told in
        let armed = base.armed in
        lowers s reached (all_woken told Without) 0 base (omega (arith, less, same)) (omega (arith, armed))

    pub cut : is_to_resume (thread_at s who.0).pending ≡ true → Makes (after s t x (Pending.Cut who) rest)
    cut resumes =
        let me = thread_at s who.0 in
        let less = without-less in
        let (others, are) = waits-first me.pending resumes in
        let before = cost-pending s.image me Pending.Resume others are in
        let behind = cost-pending s.image (cut_short me) Pending.Killed [] refl in
        let sound = reached.sound who.0 in
        let living = living-life me.life (and_parts (may_wait me.life Pending.Resume) _ (subst (λ (steps : Steps). list_all (may_wait me.life) steps ≡ true) are sound.waits)).0 in
        writes s reached who.0 Without 0 without-base (cut_short me) (Unit {0}) (record { place = sound.place; waits = rw living refl; passes = refl }) (λ due. omega (arith, less, before, behind)) (omega (arith, before, behind))

  pub expire : has_run_out s.now (object_at s x).contents ≡ true → Makes (after s t x Pending.Expire rest)
  expire h =
      let ws = (object_at s x).waiters in
      let out = runs_out ws (in_order ws) in
      let o = record (object_at s x) { contents = out.0; waiters = out.1 } in
      let s1 = with_object s x o in
      let set = store-set s.pairs s.objects x o in
      let stopped = out-stopped ws (in_order ws) in
      let few = stopped.0 in
      let still = stopped.1 in
      let ran = was-running s.now (object_at s x).contents h in
      let same = store-woken out.2 s1 in
      let base : IsBase s s1 0 = record { image = refl; eased = all-same s.threads; sized = reached.sized; store = omega (arith, set, few, still); armed = omega arith } in
      let woken = base-woken s s1 0 base out.2 in
      let armed = woken.armed in
      lowers s reached (all_woken out.2 s1) 0 woken (omega (arith, set, few, still, ran, same)) (omega (arith, armed))
