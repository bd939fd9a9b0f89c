-- Where no processor runs a thread and none is ready, no event is a step of the access-matrix machine.
use Rattle.um_refinement.proofs.Words.{and_parts, as_thread, nat_le, list_any, is_wipe, ThreadIx, IsOf, Todo, ◌≡◌, ◌≢◌, ◌⊎◌, inl, inr, ℕ, zero, suc, ◌+◌, ◌<◌, ◌≤◌, Bool, true, false, List, [], ◌∷◌, length, Option, Some, None, refl, sym, ap, ◌∙◌, subst, arith, ◌==◌, ◌&&◌, ◌||◌, not, IsTrue, if◌then◌else◌, is_some, nat_lt, slice_index_or, slice_set, eqb-false, eqb-true, false≢true, ltb-true, true≢false, nat_tests, get_or-set_at, get_or-set_other, or-true, Image, ROWS, THREADS, own_row, Object, Pending, Life, Thread, Steps, is_empty, IsComplete, MayChoose, Offers, begins, exits, goes, skips_drops, skips_inherit, State, is_living, nobody, object_at, thread_at, vacant, Stage, is_dying, Context, Todos, parked_at, told_at, waits, call_claims, context_claims, Fine, one_if, over_processors, row, scheduler, total, adders, counted, has_steps, is_end_call, is_recycle, of_thread, runs, wake_of, recyclers, is_over, Rel, first_told, flags_of, is_ready_there, occurs, places, runs_on, told_by, MayClean, ThreadIs, tends, is_tending, may_go}
use Rattle.um_base.specs.declared.limits.TheConstants.{FUTEX_CELL, JOIN_CELL}
use Rattle.um_machine.specs.declared.contents.Contents.{Contents}
use Rattle.um_machine.specs.Joins.{has_ended, is_end}
use Rattle.um_machine.specs.Objects as Plain
use Rattle.um_machine.specs.Run.{leaves, must_stop, stands_in, stops, waits_at}
use Rattle.um_machine.specs.State.{is_waiting, waiters_in}
use Rattle.um_machine.specs.Time.{has_come, has_run_out, next_deadline}
use Rattle.um_words.specs.declared.fine.Mark.{Mark}
use Rattle.um_fine.specs.Clock.{Marked, first_due, is_due, later as next_time, same_mark}
use Rattle.um_fine.specs.Joins.{asleep_at}
use Rattle.um_fine.specs.Scheduler.{is_cut}
use Rattle.um_refinement.specs.Fine.{clock, joins}
use Rattle.um_refinement.specs.Lists.{is_cut_told, times}
use Rattle.um_refinement.specs.Stops.{IsCutComing, IsRouseComing, is_reread_asleep, is_rouse, looks, reads, rouses, sleeps}
use Rattle.um_refinement.specs.Stops as C
use Rattle.um_refinement.specs.Threads.{as_cut, cutters}
use Rattle.um_refinement.specs.Timing as M
use Rattle.um_refinement.specs.Timing.{IsToCome, handles, held, is_left, is_open, open_marks, settles}
use Rattle.um_refinement.specs.Claims.{claims, creates}
use Rattle.um_refinement.proofs.ChildrenKnown.{AllCreate}
use Rattle.um_refinement.proofs.ChildSteps.{Creates}
use Rattle.um_refinement.proofs.ContextsPart.{flags-long}
use Rattle.um_refinement.proofs.HeldRows.{some-part, total-zero}
use Rattle.um_refinement.proofs.Reachable.{IsWide}
use Rattle.um_refinement.proofs.Sums.{one-true}

-- No processor runs a thread, and none is ready. No mark is due, and time doesn't go on.
pub record IsIdle (f : Fine) : Type 0 where
  pub lists : (k : ℕ) → k < f.cpus → (f.processors k).todo ≡ []
  pub ready : (t : ℕ) → t < THREADS → occurs t (scheduler f).ready ≡ 0
  pub due : first_due (clock f).now (clock f).marks ≡ None
  pub next : next_time (clock f) ≡ None

-- What a list has behind its end.

pub outside : {A : Type 0} (xs : List A) (n : ℕ) (d : A) → length xs ≤ n → slice_index_or xs n d ≡ d
outside [] n d h = refl
outside (x ∷ xs) zero d h = absurd (omega (arith, h))
outside (x ∷ xs) (suc n) d h = outside xs n d (omega (arith, h))

pub past : (x n : ℕ) → nat_lt x n ≡ false → n ≤ x
past x n z = grind (arith, nat_tests)

-- A row that is claimed is flagged.

pub occurs-flagged : (x : ℕ) (xs : List ℕ) → x < ROWS → 0 < occurs x xs → slice_index_or (flags_of xs) x false ≡ true
occurs-flagged x [] few h = absurd (omega (arith, h))
occurs-flagged x (y ∷ ys) few h = by (x == y) refl h (occurs-flagged x ys few)
  where
    by : (b : Bool) → (x == y) ≡ b → 0 < (if b then occurs x ys + 1 else occurs x ys) → (0 < occurs x ys → slice_index_or (flags_of ys) x false ≡ true)
        → slice_index_or (slice_set (flags_of ys) y true) x false ≡ true
    by true e some more = let long = flags-long ys in let same = eqb-true x y e in get_or-set_at (flags_of ys) y x true false same (omega (arith, few, long, same))
    by false e some more = get_or-set_other (flags_of ys) y x true false (eqb-false x y e) ∙ more some

-- Who holds a row.

pub one-holds : (image : Image) (x i : ℕ) (threads : List Thread) (j : ℕ) → j < length threads → Plain.thread_holds image x (i + j) (slice_index_or threads j nobody) ≡ true
    → Plain.any_holds image x i threads ≡ true
one-holds image x i [] j l h = absurd (omega (arith, l))
one-holds image x i (th ∷ threads) zero l h =
    let here : i + 0 ≡ i = omega arith in
    ap (λ b. b || Plain.any_holds image x (i + 1) threads) (subst (λ n. Plain.thread_holds image x n th ≡ true) here h)
one-holds image x i (th ∷ threads) (suc j) l h =
    let there : i + suc j ≡ i + 1 + j = omega arith in
    let more = one-holds image x (i + 1) threads j (omega (arith, l)) (subst (λ n. Plain.thread_holds image x n (slice_index_or threads j nobody) ≡ true) there h) in
    ap (λ b. Plain.thread_holds image x i th || b) more ∙ or-true (Plain.thread_holds image x i th)

-- A thread at rest may neither begin nor stop.
abbrev Still : Thread → Type 0
Still me = (me.life ≢ Life.Living) ⊎ ((may_go me ≡ false) × (must_stop me ≡ false))

-- A thread makes no step of its own: it is at rest and may not begin, or it waits and was told nothing.
abbrev Rests : Thread → Type 0
Rests me = ((me.pending ≡ []) × Still me) ⊎ ((rest : Steps) × (me.pending ≡ Pending.Resume ∷ rest) × (me.told ≡ None))

doomed-still : (doomed aborted suspended : Bool) → doomed ≡ true → (not (doomed || aborted || suspended) ≡ false) × ((not doomed && aborted) ≡ false)
doomed-still true aborted suspended h = (refl, refl)
doomed-still false aborted suspended h = absurd (false≢true h)

suspended-still : (doomed aborted suspended : Bool) → suspended ≡ true → aborted ≡ false → (not (doomed || aborted || suspended) ≡ false) × ((not doomed && aborted) ≡ false)
suspended-still true aborted suspended h k = (refl, refl)
suspended-still false true suspended h k = absurd (true≢false k)
suspended-still false false true h k = (refl, refl)
suspended-still false false false h k = absurd (false≢true h)

-- a mark that is left, and isn't to be settled, is due once its deadline has come
left-due : (now deadline : ℕ) (mark : Mark) (ms : List Marked) → list_any (is_left deadline mark) ms ≡ true → open_marks deadline mark ms ≡ 0 → nat_le deadline now ≡ true → is_some (first_due now ms) ≡ true
left-due now deadline mark [] left none come = absurd (false≢true left)
left-due now deadline mark (x ∷ ms) left none come = by (is_due now x) refl (is_left deadline mark x) refl left (is_open deadline mark x) refl none (λ rest closed. left-due now deadline mark ms rest closed come)
  where
    due : (given settled : Bool) → (not given && x.deadline == deadline && same_mark x.mark mark) ≡ true → (not settled && x.deadline == deadline && same_mark x.mark mark) ≡ false
        → (nat_le x.deadline now && settled && not given) ≡ true
    due true settled left closed = absurd (false≢true left)
    due false false left closed = absurd (true≢false (sym left ∙ closed))
    due false true left closed =
        let same = eqb-true x.deadline deadline (and_parts (x.deadline == deadline) (same_mark x.mark mark) left).0 in
        λ i. (ap (λ n. nat_le n now) same ∙ come) i && true && true

    by : (a : Bool) → is_due now x ≡ a → (b : Bool) → is_left deadline mark x ≡ b → (b || list_any (is_left deadline mark) ms) ≡ true
        → (c : Bool) → is_open deadline mark x ≡ c → (if c then open_marks deadline mark ms + 1 else open_marks deadline mark ms) ≡ 0
        → (list_any (is_left deadline mark) ms ≡ true → open_marks deadline mark ms ≡ 0 → is_some (first_due now ms) ≡ true) → is_some (if a then Some x else first_due now ms) ≡ true
    by true e b g left c o none more = refl
    by false e b g left true o none more = absurd (omega (arith, none))
    by false e true g left false o none more = absurd (true≢false (sym (due x.given x.settled g o) ∙ e))
    by false e false g left false o none more = more left none

is-living : (life : Life) → is_living life ≡ true → life ≡ Life.Living
is-living Life.Unborn h = absurd (false≢true h)
is-living Life.Living h = refl
is-living Life.Ended h = absurd (false≢true h)

waiting : (steps : Steps) → waits steps ≡ true → (rest : Steps) × (steps ≡ Pending.Resume ∷ rest)
waiting [] h = absurd (false≢true h)
waiting (Pending.Resume ∷ rest) h = (rest, refl)
waiting (q ∷ rest) h = absurd (false≢true h)

not-ready : (a b c : Bool) → one_if (not a || b || c) ≡ 0 → (a ≡ true) × (b ≡ false) × (c ≡ false)
not-ready true false false h = (refl, refl, refl)
not-ready true false true h = absurd (omega (arith, h))
not-ready true true c h = absurd (omega (arith, h))
not-ready false b c h = absurd (omega (arith, h))

is-none : {A : Type 0} (o : Option A) → is_some o ≡ false → o ≡ None
is-none None h = refl
is-none (Some a) h = absurd (true≢false h)

module _ (f : Fine) (m : State) (rel : Rel f m) (idle : IsIdle f) (wide : IsWide m) (orderly : AllCreate m) where
  runs-none : (k : ℕ) → k < f.cpus → runs (f.processors k) ≡ false
  runs-none k l = ap (λ (z : Todos). has_steps z && not (times z)) (idle.lists k l)

  -- Threads.

  lies-none : (t k : ℕ) → k < f.cpus → (one_if (runs_on t (f.processors k)) + of_thread t (adders (f.processors k).todo)) ≡ 0
  lies-none t k l =
      let p = f.processors k in
      ap (λ (todo : Todos). one_if (((has_steps todo && not (times todo)) && (p.context.thread == t)) && not (is_over p.context)) + of_thread t (adders todo)) (idle.lists k l)

  lies-nowhere : (t : ℕ) → parked_at (scheduler f) t ≡ None → asleep_at (joins f) t ≡ None → places f t ≡ 0
  lies-nowhere t none awake =
      let all = total-zero (λ k. one_if (runs_on t (f.processors k)) + of_thread t (adders (f.processors k).todo)) f.cpus (lies-none t) in
      let rests : one_if (is_some (parked_at (scheduler f) t)) ≡ 0 = ap (λ o. one_if (is_some o)) none in
      let sleeps : one_if (is_some (asleep_at (joins f) t)) ≡ 0 = ap (λ o. one_if (is_some o)) awake in
      omega (arith, all, rests, sleeps)

  cutters-none : (t : ℕ) → is_cut (scheduler f) t ≡ false → cutters f t ≡ 0
  cutters-none t uncut =
      let all = total-zero (λ k. counted (is_cut_told t) (f.processors k).todo) f.cpus (λ k l. ap (counted (is_cut_told t)) (idle.lists k l)) in
      let here = ap one_if uncut in omega (arith, all, here)

  uncut-at-rest : (c : Context) → IsOf f m c → c.pending ≡ [] → cutters f c.thread ≡ 0
  uncut-at-rest c of rests = by (cutters f c.thread) refl
    where
      by : (n : ℕ) → cutters f c.thread ≡ n → n ≡ 0
      by zero e = refl
      by (suc n) e = absurd (false≢true (sym (ap waits rests) ∙ of.waiting (omega (arith, e))))

  told-none : (t n : ℕ) → n ≤ f.cpus → told_by f t n ≡ told_at (scheduler f) t
  told-none t zero h = refl
  told-none t (suc k) h =
      ap (λ todo. first_told (wake_of t todo) (told_by f t k)) (idle.lists k (omega (arith, h))) ∙ told-none t k (omega (arith, h))

  thread-rests : (t : ℕ) → t < THREADS → Rests (thread_at m t)
  thread-rests t few = by (parked_at (scheduler f) t) refl
    where
      th : ThreadIs f m t
      th = rel.threads t few

      none-any : {A : Type 0} (test : Todo → Bool) (k : ℕ) → k < f.cpus → list_any test (f.processors k).todo ≡ true → A
      none-any test k l h = absurd (false≢true (sym (ap (list_any test) (idle.lists k l)) ∙ h))

      asleep-still : (c : Context) → asleep_at (joins f) t ≡ Some c → IsRouseComing f t → Still (thread_at m t)
      asleep-still c there (sleeps suspended unaborted) =
          inr (suspended-still (thread_at m t).doomed (thread_at m t).aborted (thread_at m t).suspended (sym th.word.suspended ∙ suspended) (sym th.word.aborted ∙ unaborted))
      asleep-still c there (rouses k l h) = none-any (is_rouse t) k l h
      asleep-still c there (reads k l same h) = none-any is_reread_asleep k l h

      somewhere : parked_at (scheduler f) t ≡ None → (o : Option Context) → asleep_at (joins f) t ≡ o → Rests (thread_at m t)
      somewhere none None awake = let is = th.away.away (lies-nowhere t none awake) in inl (is.1, still is.0)
        where
          still : ((thread_at m t).life ≢ Life.Living) ⊎ ((thread_at m t).doomed ≡ true) → Still (thread_at m t)
          still (inl dead) = inl dead
          still (inr doomed) = inr (doomed-still (thread_at m t).doomed (thread_at m t).aborted (thread_at m t).suspended doomed)
      somewhere none (Some c) there =
          let (of, same, ended, rests, claims) = rel.contexts.asleep t c there in
          let uncut = uncut-at-rest c of rests in
          let own : c.pending ≡ (thread_at m c.thread).pending = ap (λ (z : Thread). z.pending) (ap (λ n. as_thread (as_cut n c)) (sym uncut) ∙ of.own) in
          inl (ap (λ n. (thread_at m n).pending) (sym same) ∙ (sym own ∙ rests), asleep-still c there (th.sleep.comes c there))

      by : (o : Option Context) → parked_at (scheduler f) t ≡ o → Rests (thread_at m t)
      by None none = somewhere none (asleep_at (joins f) t) refl
      by (Some c) some =
          let parked = rel.contexts.parked t c some in
          let count : one_if (is_ready_there (Some c) (told_at (scheduler f) t) (is_cut (scheduler f) t)) ≡ 0 =
          ap (λ o. one_if (is_ready_there o (told_at (scheduler f) t) (is_cut (scheduler f) t))) (sym some) ∙ (sym th.ready.ready ∙ idle.ready t few) in
          let is = not-ready (waits c.pending) (is_some (told_at (scheduler f) t)) (is_cut (scheduler f) t) count in
          let steps = waiting c.pending is.0 in
          let uncut = ap (cutters f) parked.1 ∙ cutters-none t is.2 in
          let own : c.pending ≡ (thread_at m c.thread).pending = ap (λ (z : Thread). z.pending) (ap (λ n. as_thread (as_cut n c)) (sym uncut) ∙ parked.0.own) in
          inr (
            steps.0,
            ap (λ n. (thread_at m n).pending) (sym parked.1) ∙ (sym own ∙ steps.1),
            th.told.told ∙ (told-none t f.cpus (omega arith) ∙ is-none (told_at (scheduler f) t) is.1),
          )

  -- no index beyond them has a thread
  rests : (t : ℕ) → Rests (thread_at m t)
  rests t = by (nat_lt t THREADS) refl
    where
      by : (b : Bool) → nat_lt t THREADS ≡ b → Rests (thread_at m t)
      by true e = thread-rests t (ltb-true t THREADS e)
      by false e =
          let many = wide.threads in
          let more = past t THREADS e in
          subst Rests (sym (outside m.threads t nobody (omega (arith, many, more)))) (inl (refl, inl unborn))
        where
          unborn : Life.Unborn ≢ Life.Living
          unborn h = false≢true (ap is_living h)

  childless : (t : ℕ) → (thread_at m t).child ≡ None
  childless t = by (rests t)
    where
      by : Rests (thread_at m t) → (thread_at m t).child ≡ None
      by (inl h) = (subst (Creates (thread_at m t).child) h.0 (orderly t)).0
      by (inr h) = (subst (Creates (thread_at m t).child) h.1 (orderly t)).0

  -- Objects.

  module _ (x : ℕ) (few : x < ROWS) where
    held-by : (t : ℕ) → t < THREADS → Plain.thread_holds m.image x t (thread_at m t) ≡ true → Plain.is_held m x ≡ true
    held-by t l h =
        let many = wide.threads in
        let at : 0 + t ≡ t = omega arith in
        one-holds m.image x 0 m.threads t (omega (arith, many, l)) (subst (λ n. Plain.thread_holds m.image x n (thread_at m t) ≡ true) (sym at) h)

    calls-none : over_processors f (call_claims x) ≡ 0
    calls-none =
        total-zero (λ k. call_claims x (f.processors k)) f.cpus
        (λ k l. ap (λ (z : List ℕ × Todos). occurs x z.0 + counted (is_end_call x) z.1) (λ i. ((rel.processors k l).idle.idle (runs-none k l) i, idle.lists k l i)))

    parked-holds : (t : ℕ) → t < THREADS → (o : Option Context) → parked_at (scheduler f) t ≡ o → 0 < context_claims x o → Plain.is_held m x ≡ true
    parked-holds t l None e some = absurd (omega (arith, some))
    parked-holds t l (Some c) e some =
        let parked = rel.contexts.parked t c e in
        let flagged : slice_index_or (thread_at m c.thread).checked x false ≡ true =
        ap (λ (flags : List Bool). slice_index_or flags x false) parked.0.claims ∙ occurs-flagged x c.claims few some in
        let here : slice_index_or (thread_at m t).checked x false ≡ true = ap (λ n. slice_index_or (thread_at m n).checked x false) (sym parked.1) ∙ flagged in
        held-by t l (ap (λ b. b || ((thread_at m t).keeps_own && (own_row m.image t == x))) here)

    lives-holds : (t : ℕ) → t < THREADS → ((thread_at m t).keeps_own && (own_row f.image t == x)) ≡ true → Plain.is_held m x ≡ true
    lives-holds t l h =
        let here : ((thread_at m t).keeps_own && (own_row m.image t == x)) ≡ true = ap (λ (i : Image). (thread_at m t).keeps_own && (own_row i t == x)) rel.image ∙ h in
        held-by t l (ap (λ b. slice_index_or (thread_at m t).checked x false || b) here ∙ or-true (slice_index_or (thread_at m t).checked x false))

    children-none : total (λ t. one_if (creates f.image x (thread_at m t).child)) THREADS ≡ 0
    children-none =
        total-zero (λ t. one_if (creates f.image x (thread_at m t).child)) THREADS
        (λ t l. ap (λ o. one_if (creates f.image x o)) (childless t))

    -- a row that is claimed is one of an object that is held
    claimed-held : 0 < claims f m x → Plain.is_held m x ≡ true
    claimed-held some = by (total parked THREADS) refl
      where
        parked : ℕ → ℕ
        parked t = context_claims x (parked_at (scheduler f) t)

        lives : ℕ → ℕ
        lives t = one_if ((thread_at m t).keeps_own && (own_row f.image t == x))

        by : (n : ℕ) → total parked THREADS ≡ n → Plain.is_held m x ≡ true
        by zero e =
            let calls = calls-none in
            let children = children-none in
            let one = some-part lives THREADS (omega (arith, some, e, calls, children)) in
            lives-holds one.0 one.1 (one-true _ one.2)
        by (suc n) e = let one = some-part parked THREADS (omega (arith, e)) in parked-holds one.0 one.1 (parked_at (scheduler f) one.0) refl one.2

    dying-held : Plain.is_gone (object_at m x).status ≡ true → Plain.is_held m x ≡ true
    dying-held gone = claimed-held (subst (λ n. 0 < n) (rel.rows x few).claims.claimed ((rel.rows x few).claims.dying stage))
      where
        none : recyclers f x ≡ 0
        none = total-zero (λ k. counted (is_recycle x) (f.processors k).todo) f.cpus (λ k l. ap (counted (is_recycle x)) (idle.lists k l))

        dies : (b : Bool) → one_if (not b) ≡ 0 → b ≡ true
        dies true h = refl
        dies false h = absurd (omega (arith, h))

        dying : is_dying (row f x).stage ≡ true
        dying =
            dies (is_dying (row f x).stage)
            (ap (λ b. one_if (b && not (is_dying (row f x).stage))) (sym gone) ∙ (sym (rel.rows x few).cleaners.cleaner ∙ none))

        is-dying : (s : Stage) → is_dying s ≡ true → s ≡ Stage.Dying
        is-dying Stage.Free h = absurd (false≢true h)
        is-dying Stage.Live h = absurd (false≢true h)
        is-dying Stage.Dying h = refl
        is-dying Stage.Cleaning h = absurd (false≢true h)

        stage : (row f x).stage ≡ Stage.Dying
        stage = is-dying (row f x).stage dying

  -- no object is to be cleaned
  cleans-none : (t x : ℕ) → MayClean m t x → ⊥
  cleans-none t x may = by (nat_lt x ROWS) refl
    where
      held : (b : Bool) → b ≡ true → IsTrue (not b) → ⊥
      held true e h = false≢true h
      held false e h = false≢true e

      by : (b : Bool) → nat_lt x ROWS ≡ b → ⊥
      by true e = held (Plain.is_held m x) (dying-held x (ltb-true x ROWS e) may.0) may.1
      by false e =
          let many = wide.objects in
          let more = past x ROWS e in
          false≢true (sym (ap (λ (o : Object). Plain.is_gone o.status) (outside m.objects x vacant (omega (arith, many, more)))) ∙ may.0)

  -- Steps.

  no-list : {A : Type 0} (test : Todo → Bool) (k : ℕ) → k < f.cpus → list_any test (f.processors k).todo ≡ true → A
  no-list test k l h = absurd (false≢true (sym (ap (list_any test) (idle.lists k l)) ∙ h))

  -- no mark is to come whose deadline has
  none-comes : (deadline : ℕ) (mark : Mark) → IsToCome f deadline mark → nat_le deadline m.now ≡ true → ⊥
  none-comes deadline mark (M.waits h) come =
      let closed = rel.marks.unsettled deadline mark ∙ total-zero (λ k. counted (settles deadline mark) (f.processors k).todo) f.cpus (λ k l. ap (counted (settles deadline mark)) (idle.lists k l)) in
      false≢true
      (sym (ap is_some idle.due) ∙ left-due (clock f).now deadline mark (clock f).marks h closed (ap (nat_le deadline) rel.clock.now ∙ come))
  none-comes deadline mark (held k l h) come = no-list (handles deadline mark) k l h

  -- a cell beyond all has nobody
  cell-inside : (t x : ℕ) → stands_in t (waiters_in m x) ≡ true → x < ROWS + 2
  cell-inside t x h = by (nat_lt x (ROWS + 2)) refl
    where
      none : (a : Bool) → (x == JOIN_CELL) ≡ a → (b : Bool) → (x == FUTEX_CELL) ≡ b → ROWS + 2 ≤ x → stands_in t (if a then m.joins else if b then m.futexes else (object_at m x).waiters) ≡ true → ⊥
      none true e b g past h = let at = eqb-true x JOIN_CELL e in omega (arith, past, at)
      none false e true g past h = let at = eqb-true x FUTEX_CELL g in omega (arith, past, at)
      none false e false g past h =
          let many = wide.objects in
          false≢true (sym (ap (λ (o : Object). stands_in t o.waiters) (outside m.objects x vacant (omega (arith, many, past)))) ∙ h)

      by : (b : Bool) → nat_lt x (ROWS + 2) ≡ b → x < ROWS + 2
      by true e = ltb-true x (ROWS + 2) e
      by false e = absurd (none (x == JOIN_CELL) refl (x == FUTEX_CELL) refl (past x (ROWS + 2) e) h)

  -- so has a thread beyond all nothing to wait for
  thread-inside : (t : ℕ) → is_waiting (thread_at m t) ≡ true → t < THREADS
  thread-inside t h = by (nat_lt t THREADS) refl
    where
      by : (b : Bool) → nat_lt t THREADS ≡ b → t < THREADS
      by true e = ltb-true t THREADS e
      by false e =
          let many = wide.threads in
          let more = past t THREADS e in
          absurd (false≢true (sym (ap is_waiting (outside m.threads t nobody (omega (arith, many, more)))) ∙ h))

  timeout-none : (x : ℕ) (who : ThreadIx) (until : Option ℕ) → (thread_at m who.0).until ≡ until → has_come m.now until ≡ true → waits_at m who.0 x ≡ true → ⊥
  timeout-none x who None e come at-cell = false≢true come
  timeout-none x who (Some d) e come at-cell =
      let parts = and_parts (is_waiting (thread_at m who.0)) (stands_in who.0 (waiters_in m x)) at-cell in
      none-comes d _ ((rel.threads who.0 (thread-inside who.0 parts.0)).timeout.comes x d (cell-inside who.0 x parts.1) parts.1 e) come

  cut-none : (x : ℕ) (who : ThreadIx) → (thread_at m who.0).aborted ≡ true → waits_at m who.0 x ≡ true → ⊥
  cut-none x who aborted at-cell =
      let parts = and_parts (is_waiting (thread_at m who.0)) (stands_in who.0 (waiters_in m x)) at-cell in
      let th = rel.threads who.0 (thread-inside who.0 parts.0) in
      by (th.cut_comes.comes x (cell-inside who.0 x parts.1) (th.word.aborted ∙ aborted) parts.1)
    where
      by : IsCutComing f who.0 x → ⊥
      by (looks k l h) = no-list _ k l h
      by (C.reads k l same h) = no-list _ k l h

  expiry-none : (x : ℕ) (contents : Contents) → (object_at m x).contents ≡ contents → has_run_out m.now contents ≡ true → ⊥
  expiry-none x (Contents.Running d) e come = by (nat_lt x ROWS) refl
    where
      none : (test : Todo → Bool) → over_processors f (λ p. counted test p.todo) ≡ 0
      none test = total-zero (λ k. counted test (f.processors k).todo) f.cpus (λ k l. ap (counted test) (idle.lists k l))

      by : (b : Bool) → nat_lt x ROWS ≡ b → ⊥
      by true l = none-comes d _ ((rel.rows x (ltb-true x ROWS l)).expiry.comes d (none (is_wipe x) ∙ sym (none (is_recycle x))) e) come
      by false l =
          let many = wide.objects in
          let more = past x ROWS l in
          false≢true (sym (ap (has_run_out m.now) (sym e ∙ ap (λ (o : Object). o.contents) (outside m.objects x vacant (omega (arith, many, more))))) ∙ come)
  expiry-none x contents e come = false≢true come

  tends-none : (t x : ℕ) (p : Pending) → IsTrue (is_tending p) → MayChoose m t x p → ⊥
  tends-none t x (Pending.CleanPair who) is may = cleans-none t (own_row m.image who.0) may.0
  tends-none t x Pending.Recycle is may = cleans-none t x may.0
  tends-none t x Pending.Tick is may =
      false≢true (sym (ap is_some idle.next) ∙ ((λ i. is_some (next_deadline (rel.clock.now i) (rel.clock.armed i))) ∙ may))
  tends-none t x (Pending.TimeOut who) is may =
      let parts = and_parts (has_come m.now (thread_at m who.0).until) (waits_at m who.0 x) may in timeout-none x who (thread_at m who.0).until refl parts.0 parts.1
  tends-none t x Pending.Expire is may = expiry-none x (object_at m x).contents refl may
  tends-none t x (Pending.Cut who) is may =
      let parts = and_parts (thread_at m who.0).aborted (waits_at m who.0 x) may in cut-none x who parts.0 parts.1
  tends-none t x p is may = cc

  at-rest : (t : ℕ) (q : Pending) (rest : Steps) (x : ℕ) → (thread_at m t).pending ≡ [] → Still (thread_at m t) → Offers m t q rest → MayChoose m t x q → ⊥
  at-rest t q rest x none dead offers chosen = by offers chosen
    where
      lives : IsTrue (is_living (thread_at m t).life) → IsTrue (may_go (thread_at m t)) → Still (thread_at m t) → ⊥
      lives living free (inl h) = h (is-living (thread_at m t).life living)
      lives living free (inr h) = false≢true (sym h.0 ∙ free)

      stopped : IsTrue (is_living (thread_at m t).life) → IsTrue (must_stop (thread_at m t)) → Still (thread_at m t) → ⊥
      stopped living must (inl h) = h (is-living (thread_at m t).life living)
      stopped living must (inr h) = false≢true (sym h.1 ∙ must)

      by : {q : Pending} {rest : Steps} → Offers m t q rest → MayChoose m t x q → ⊥
      by (goes e) may = false≢true (ap (λ steps. not (is_empty steps)) (sym none ∙ e))
      by (skips_inherit e due) may = false≢true (ap (λ steps. not (is_empty steps)) (sym none ∙ e))
      by (skips_drops e due) may = false≢true (ap (λ steps. not (is_empty steps)) (sym none ∙ e))
      by (begins e living free there) may = lives living free dead
      by (exits e living free there) may = lives living free dead
      by (stops e living must) may = stopped living must dead
      by (leaves ends) may = false≢true (sym (ap is_end none) ∙ (and_parts (has_ended (thread_at m t).life) (is_end (thread_at m t).pending) ends).1)
      by (tends {p} is started) may = tends-none t x p is may

  no-told : (t : ℕ) (x : ℕ) (q : Pending) (rest : Steps) (left : Steps) → q ∷ rest ≡ Pending.Resume ∷ left → (thread_at m t).told ≡ None → MayChoose m t x q → ⊥
  no-told t x Pending.Resume rest left e none may = false≢true (ap is_some (sym none ∙ may.1))
  no-told t x q rest left e none may = false≢true (ap waits e)

  in-wait : (t : ℕ) (q : Pending) (rest : Steps) (x : ℕ) (left : Steps) → (thread_at m t).pending ≡ Pending.Resume ∷ left → (thread_at m t).told ≡ None
      → Offers m t q rest → MayChoose m t x q → ⊥
  in-wait t q rest x left resume none offers chosen = by offers chosen
    where
      by : {q : Pending} {rest : Steps} → Offers m t q rest → MayChoose m t x q → ⊥
      by (goes {p} {rest} e) may = no-told t x p rest left (sym e ∙ resume) none may
      by (skips_inherit e due) may = false≢true (ap waits (sym e ∙ resume))
      by (skips_drops e due) may = false≢true (ap waits (sym e ∙ resume))
      by (begins e living free there) may = false≢true (ap (λ steps. not (is_empty steps)) (sym e ∙ resume))
      by (exits e living free there) may = false≢true (ap (λ steps. not (is_empty steps)) (sym e ∙ resume))
      by (stops e living must) may = false≢true (ap (λ steps. not (is_empty steps)) (sym e ∙ resume))
      by (leaves ends) may = false≢true (sym (ap is_end resume) ∙ (and_parts (has_ended (thread_at m t).life) (is_end (thread_at m t).pending) ends).1)
      by (tends {p} is started) may = tends-none t x p is may

  pub idle-complete : IsComplete m
  idle-complete event s2 step = by (rests event.thread.0)
    where
      by : Rests (thread_at m event.thread.0) → ⊥
      by (inl h) = at-rest event.thread.0 step.step step.rest step.row h.0 h.1 step.offered step.chosen
      by (inr h) = in-wait event.thread.0 step.step step.rest step.row h.0 h.1 h.2 step.offered step.chosen
