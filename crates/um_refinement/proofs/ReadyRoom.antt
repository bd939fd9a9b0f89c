-- The ready list has a place for each thread that is put there next: that one isn't in it.
use Rattle.um_refinement.proofs.Words.{Bool, zero, suc, as_thread, over_processors, ◌≡◌, inl, ℕ, ◌+◌, ◌<◌, ◌≤◌, true, false, List, ◌∷◌, length, Option, Some, None, refl, sym, ap, ◌∙◌, subst, arith, eq-eqb, ◌&&◌, ◌||◌, IsTrue, if◌then◌else◌, is_some, nat_lt, not, list_all, and_parts, false≢true, ltb-true, true≢false, Told, THREADS, Thread, State, thread_at, Context, Todo, Todos, parked_at, told_at, waits, Fine, one_if, scheduler, Adds, counted, is_wake, wake_of, Fits, Rel, is_ready_there, occurs}
use Rattle.um_fine.specs.Scheduler.{is_cut}
use Rattle.um_refinement.specs.Lists.{is_cut_told}
use Rattle.um_refinement.specs.Stops.{CutIs}
use Rattle.um_refinement.specs.Threads.{as_cut, cutters, tellers}
use Rattle.um_refinement.proofs.MemorySteps.{part-total}
use Rattle.um_refinement.proofs.Offered.{runs-first}
use Rattle.um_refinement.proofs.Bounds.{AreBounded, AreThreads}
use Rattle.um_refinement.proofs.FirstThreads.{one-most}
use Rattle.um_refinement.proofs.ListWakes.{wakers}
use Rattle.um_refinement.proofs.PlacesFacts.{added-unparked, adds-count, running-unparked, wake-told, wake-untold}
use Rattle.um_refinement.proofs.ResumeSteps.{TellsWaiters, some-is}
use Rattle.um_refinement.proofs.Stuck.{readies}
use Rattle.um_refinement.proofs.ToldFacts.{untold as untold-none}
use Rattle.um_refinement.proofs.Totals.{occurs-total, total-gap}

-- a list of threads, each once at most and one not at all
some-place : (ready : List ℕ) (t : ℕ) → list_all (λ u. nat_lt u THREADS) ready ≡ true → t < THREADS → ((u : ℕ) → u < THREADS → occurs u ready ≤ 1) → occurs t ready ≡ 0 → length ready < THREADS
some-place ready t below few once none =
    let all = occurs-total THREADS ready below in
    let less = total-gap (λ u. occurs u ready) THREADS 0 t (omega arith) few (λ u l. absurd (omega (arith, l))) once none in
    omega (arith, all, less)

module _ (f : Fine) (m : State) (rel : Rel f m) (tells : TellsWaiters m) (bounds : AreBounded f) where
  -- a thread that isn't parked, or that waits and isn't told anything, isn't ready
  not-ready : (t : ℕ) → t < THREADS → is_ready_there (parked_at (scheduler f) t) (told_at (scheduler f) t) (is_cut (scheduler f) t) ≡ false → length (scheduler f).ready < THREADS
  not-ready t few none =
      some-place (scheduler f).ready t bounds.ready few
      (λ u l. let count = (rel.threads u l).ready.ready in let most = one-most (is_ready_there (parked_at (scheduler f) u) (told_at (scheduler f) u) (is_cut (scheduler f) u)) in omega (arith, count, most))
      ((rel.threads t few).ready.ready ∙ ap one_if none)

  unparked : (t : ℕ) → t < THREADS → is_some (parked_at (scheduler f) t) ≡ false → length (scheduler f).ready < THREADS
  unparked t few none = not-ready t few (by (parked_at (scheduler f) t) none)
    where
      by : (o : Option Context) → is_some o ≡ false → is_ready_there o (told_at (scheduler f) t) (is_cut (scheduler f) t) ≡ false
      by None h = refl
      by (Some c) h = absurd (true≢false h)

  -- one that nobody cut isn't kept as cut
  uncut-there : (t : ℕ) → cutters f t ≡ 0 → is_cut (scheduler f) t ≡ false
  uncut-there t none = which (is_cut (scheduler f) t) refl
    where
      which : (b : Bool) → is_cut (scheduler f) t ≡ b → b ≡ false
      which false e = refl
      which true e = let there = ap one_if e in absurd (omega (arith, none, there))

  -- a thread that is woken waits, and isn't told anything yet
  woken : (k who : ℕ) (told : Told) (rest : Todos) → k < f.cpus → (f.processors k).todo ≡ Todo.wake who told ∷ rest → length (scheduler f).ready < THREADS
  woken k who told rest l at = not-ready who few (by (parked_at (scheduler f) who) refl)
    where
      few : who < THREADS
      few = ltb-true who THREADS (and_parts _ _ (subst (λ (z : Todos). AreThreads (wakers z)) at (bounds.wakes k l))).0

      here : 0 < counted (is_wake who) (f.processors k).todo
      here =
          let count : counted (is_wake who) (f.processors k).todo ≡ counted (is_wake who) rest + 1 =
          ap (counted (is_wake who)) at ∙ ap (λ b. if b then counted (is_wake who) rest + 1 else counted (is_wake who) rest) (eq-eqb who who refl) in
          omega (arith, count)

      untold : is_some (told_at (scheduler f) who) ≡ false
      untold = wake-untold f m rel who few k l here

      is-told : is_some (thread_at m who).told ≡ true
      is-told =
          wake-told f m rel who few k l
          (ap (λ (z : Todos). is_some (wake_of who z)) at ∙ ap (λ b. is_some (if b then Some told else wake_of who rest)) (eq-eqb who who refl))

      waiting : IsTrue (waits (thread_at m who).pending)
      waiting = let some = some-is (thread_at m who).told is-told in tells who some.0 some.1

      -- so it isn't cut
      whole : cutters f who ≡ 0
      whole = which (cutters f who) refl
        where
          which : (n : ℕ) → cutters f who ≡ n → n ≡ 0
          which zero e = refl
          which (suc n) e =
              let left = (rel.threads who few).cut.left (omega (arith, e)) in
              absurd (false≢true (sym (ap waits left) ∙ waiting))

      by : (o : Option Context) → parked_at (scheduler f) who ≡ o → is_ready_there (parked_at (scheduler f) who) (told_at (scheduler f) who) (is_cut (scheduler f) who) ≡ false
      by None e = ap (λ (o : Option Context). is_ready_there o (told_at (scheduler f) who) (is_cut (scheduler f) who)) e
      by (Some c) e =
          let is = rel.contexts.parked who c e in
          let own = ap (λ n. as_thread (as_cut n c)) (sym (ap (cutters f) is.1 ∙ whole)) ∙ is.0.own in
          let pending : waits c.pending ≡ true = ap (λ (th : Thread). waits th.pending) own ∙ (ap (λ n. waits (thread_at m n).pending) is.1 ∙ waiting) in
          ap (λ (o : Option Context). is_ready_there o (told_at (scheduler f) who) (is_cut (scheduler f) who)) e ∙ (λ i. not (pending i) || untold i || uncut-there who whole i)

  -- a thread that was cut waits, and nobody tells it anything
  cut-room : (k who : ℕ) (rest : Todos) → k < f.cpus → (f.processors k).todo ≡ Todo.tell_cut who ∷ rest → length (scheduler f).ready < THREADS
  cut-room k who rest l at = not-ready who few (by (parked_at (scheduler f) who) refl)
    where
      here : counted (is_cut_told who) (f.processors k).todo ≡ counted (is_cut_told who) rest + 1
      here = ap (counted (is_cut_told who)) at ∙ ap (λ b. if b then counted (is_cut_told who) rest + 1 else counted (is_cut_told who) rest) (eq-eqb who who refl)

      part : counted (is_cut_told who) (f.processors k).todo ≤ over_processors f (λ p. counted (is_cut_told who) p.todo)
      part = part-total (λ j. counted (is_cut_told who) (f.processors j).todo) f.cpus k l

      some : 0 < cutters f who
      some = let one = here in let less = part in omega (arith, one, less)

      few : who < THREADS
      few = which (nat_lt who THREADS) refl
        where
          which : (b : Bool) → nat_lt who THREADS ≡ b → who < THREADS
          which true e = ltb-true who THREADS e
          which false e = absurd (let none = bounds.uncut who e in let more = some in omega (arith, none, more))

      cut : CutIs f m who
      cut = (rel.threads who few).cut

      uncut : is_cut (scheduler f) who ≡ false
      uncut = which (is_cut (scheduler f) who) refl
        where
          which : (b : Bool) → is_cut (scheduler f) who ≡ b → b ≡ false
          which false e = refl
          which true e = let once = cut.once in let there = ap one_if e in let one = here in let less = part in absurd (omega (arith, once, there, one, less))

      untold : is_some (told_at (scheduler f) who) ≡ false
      untold = which (told_at (scheduler f) who) refl
        where
          none : tellers f who ≡ 0
          none = untold-none f m rel who few ((rel.threads who few).told.told ∙ cut.told some)

          which : (o : Option Told) → told_at (scheduler f) who ≡ o → is_some o ≡ false
          which None e = refl
          which (Some told) e = let zero = none in let there = ap (λ (o : Option Told). one_if (is_some o)) e in absurd (omega (arith, zero, there))

      by : (o : Option Context) → parked_at (scheduler f) who ≡ o → is_ready_there (parked_at (scheduler f) who) (told_at (scheduler f) who) (is_cut (scheduler f) who) ≡ false
      by None e = ap (λ (o : Option Context). is_ready_there o (told_at (scheduler f) who) (is_cut (scheduler f) who)) e
      by (Some c) e =
          let is = rel.contexts.parked who c e in
          let pending = is.0.waiting (subst (λ n. 0 < cutters f n) (sym is.1) some) in
          ap (λ (o : Option Context). is_ready_there o (told_at (scheduler f) who) (is_cut (scheduler f) who)) e ∙ (λ i. not (pending i) || untold i || uncut i)

  pub ready-room : (k : ℕ) (q : Todo) (rest : Todos) → k < f.cpus → (f.processors k).todo ≡ q ∷ rest → readies q ≡ true → length (scheduler f).ready < THREADS
  ready-room k (Todo.wake who told) rest l at h = woken k who told rest l at
  ready-room k (Todo.add c) rest l at h =
      let there = subst (Adds c) (sym at) (inl refl) in
      let few = (rel.contexts.added k c l there).0.index in
      unparked c.thread few (added-unparked f m rel c.thread few k l (adds-count c (f.processors k).todo there))
  ready-room k (Todo.tell_cut who) rest l at h = cut-room k who rest l at
  ready-room k Todo.park rest l at h =
      let c = (f.processors k).context in
      let run = runs-first rel l Todo.park rest at (λ hand. hand) in
      let few = (rel.contexts.running k l run).index in
      let on = (subst (Fits f.image c) at (rel.processors k l).list.fits).1 in
      unparked c.thread few (running-unparked f m rel c.thread few k l (λ i. (run i && eq-eqb c.thread c.thread refl i) && not (on i)))
  ready-room k q rest l at h = absurd (false≢true h)
