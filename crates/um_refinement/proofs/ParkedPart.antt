-- Parked threads, and those that sleep, are as the machine's threads say, after every lawful step.
use Rattle.um_refinement.proofs.Words.{Answer, Adds, is_ending, sched_after, ◌≡◌, inl, inr, ℕ, ◌<◌, Bool, true, false, cond, List, [], ◌∷◌, Option, Some, None, refl, sym, ap, ◌∙◌, subst, arith, ◌==◌, ◌&&◌, IsTrue, if◌then◌else◌, is_some, slice_index_or, slice_set, unwrap_or, list_all, eqb-false, eqb-true, false≢true, true≢false, get_or-set_at, get_or-set_other, Act, Told, THREADS, Pending, Thread, Steps, to_thread, is_empty, State, FineAct, Unseen, context_in, is_visit, is_word_read, ready_in, says, says_show, Context, Todo, Todos, Scheduler, parked_at, put_back, waits, same_site, same-itself, same-sound, SiteState, s_next, site_after, Exchange, FineStep, Site, Fine, one_if, scheduler, Fits, IsPutBack, is_over, IsOf}
use Rattle.um_fine.specs.Answers.{is_due_act, is_killed, is_shut_act, is_tick, is_void}
use Rattle.um_fine.specs.Asks.{begins, says_turn}
use Rattle.um_fine.specs.Joins.{Joins, asleep_at, begins_waiting, join_after, join_after_act}
use Rattle.um_fine.specs.Scheduler.{is_cut}
use Rattle.um_refinement.specs.Fine.{joins, joins_state}
use Rattle.um_refinement.proofs.CallsKnown.{RestsHoldNothing}
use Rattle.um_refinement.proofs.ContextsPart.{flags-none, is_shown, not-idle, own-of, taken-lies}
use Rattle.um_refinement.proofs.Erased.{around}
use Rattle.um_refinement.proofs.Kept.{joins-sort}
use Rattle.um_refinement.proofs.Leaves.{Beside, Lawful, Leaves, beside, cleans, cuts, drops, event, expires, leaves, nothing, passes, recycles, resumes, ticks, times_out}
use Rattle.um_refinement.proofs.ListClaims.{IsThread}
use Rattle.um_refinement.proofs.Offered.{own-unless, runs-first}
use Rattle.um_refinement.proofs.PartsElsewhere.{Apart, elsewhere-of}
use Rattle.um_refinement.proofs.PlacesFacts.{lies-unslept, parked-unslept, running-unparked, set-none}
use Rattle.um_refinement.proofs.RunningPart.{todo-elsewhere}
use Rattle.um_refinement.proofs.SchedulerSteps.{made-at, made-moves, made-says, sched-else, sched-later}
use Rattle.um_refinement.proofs.StepReads.{is-placed}
use Rattle.um_refinement.proofs.StepsLeft.{rests-on}
use Rattle.um_refinement.proofs.Taking.{Idles, IsTaken, idles, kill-thread, parks-after, takes, tends}

-- what changes who sleeps
abbrev pub is_sleeping : FineAct → Bool
is_sleeping (FineAct.Unseen Unseen.Sleep) = true
is_sleeping (FineAct.Unseen (Unseen.Rouse who)) = true
is_sleeping act = false

either-awake : (b : Bool) (one other : FineAct) → is_sleeping one ≡ false → is_sleeping other ≡ false → is_sleeping (if b then one else other) ≡ false
either-awake true one other h k = h
either-awake false one other h k = k

asleep-kept : (j : Joins) (act : FineAct) (moved : Exchange) → is_sleeping act ≡ false → (join_after j act moved).asleep ≡ j.asleep
asleep-kept j (FineAct.Shown said more) moved h = by said.act
  where
    waits-on : (answer : Answer) → (begins_waiting j moved answer).asleep ≡ j.asleep
    waits-on Answer.Wait = refl
    waits-on answer = refl

    by : (act : Act) → (join_after_act j moved act).asleep ≡ j.asleep
    by (Act.Join who answer) = waits-on answer
    by act = refl
asleep-kept j (FineAct.Unseen Unseen.Sleep) moved h = absurd (true≢false h)
asleep-kept j (FineAct.Unseen (Unseen.Rouse who)) moved h = absurd (true≢false h)
asleep-kept j (FineAct.Unseen u) moved h = refl

abbrev pub moves_sleepers : Todo → Bool
moves_sleepers Todo.sleep = true
moves_sleepers (Todo.rouse who) = true
moves_sleepers q = false

module _ (f : Fine) (m : State) (e : FineStep) (law : Lawful f m e) where
  open around f e use {later, processor as p, now}

  -- a step that no trace shows is of no thread
  pub apart-unseen : is_shown e.act ≡ false → (s : State) (how : Leaves f m e s) (v : ℕ) → Apart f m e law s how s how v
  apart-unseen quiet s how v = by s how
    where
      seen : {A : Type 0} → is_shown e.act ≡ true → A
      seen h = absurd (true≢false (sym h ∙ quiet))

      on-beside : (t x : ℕ) (q : Pending) → Beside f m e t x q → is_shown e.act ≡ true
      on-beside _ _ _ (cuts who site before x todo at place inside said) = ap is_shown said
      on-beside _ _ _ (times_out deadline site x who todo at place inside said) = ap is_shown said
      on-beside _ _ _ (expires deadline x todo at inside said) = ap is_shown said
      on-beside _ _ _ (ticks at said) = ap is_shown said
      on-beside _ _ _ (leaves todo at said) = ap is_shown said

      by : (z : State) (l : Leaves f m e z) → Apart f m e law z l z l v
      by _ (nothing u said) = tt
      by _ (event q rest todo x h shown is) = seen (ap is_shown is.said)
      by _ (resumes c told rest idle moved said) = seen (ap is_shown said)
      by _ (passes who x rest todo h said) = seen (ap is_shown said)
      by _ (drops from x rest todo h said) = seen (ap is_shown said)
      by _ (cleans who x rest todo h said) = tt
      by _ (recycles x rest todo at few said chosen) = tt
      by _ (beside t x q made chosen started) = seen (on-beside t x q made)

  -- Parked threads.

  abbrev IsParked : State → ℕ → Context → Type 0
  IsParked s t c = IsOf later s c × (c.thread ≡ t) × (c.ended ≡ false) × IsPutBack c

  parked-stays : (s : State) (how : Leaves f m e s) (t : ℕ) (c : Context) → parked_at (scheduler f) t ≡ Some c
      → ((d : Context) (told : Option Told) → p.todo ≡ [] → e.moved ≡ Exchange.thread d told → d.thread ≡ t → ⊥) → IsParked s t c
  parked-stays s how t c there untaken =
      let is = law.rel.contexts.parked t c there in
      let few = is.0.index in (
        elsewhere-of f m e law s how c.thread few c is.0 refl (rests-on c is.2)
            (λ mine-on. true≢false (sym (ap (λ n. is_some (parked_at (scheduler f) n)) is.1 ∙ ap is_some there) ∙ running-unparked f m law.rel c.thread few e.cpu law.by.named mine-on))
            (λ d told idle moved same. untaken d told idle moved (same ∙ is.1)),
        is.1,
        is.2,
        is.3,
      )

  some-one : {c d : Context} → Some c ≡ Some d → c ≡ d
  some-one {c} h = ap (λ (o : Option Context). unwrap_or o c) h

  -- an own part is put back
  puts-back : (s : State) (t : ℕ) (b : Bool) (d c : Context) → IsParked s d.thread d → d.thread < THREADS → parked_at (put_back (scheduler f) b d) t ≡ Some c
      → ((c : Context) → parked_at (scheduler f) t ≡ Some c → IsParked s t c) → IsParked s t c
  puts-back s t b d c is few there old = which (t == d.thread) refl
    where
      which : (v : Bool) → (t == d.thread) ≡ v → IsParked s t c
      which true same =
          let equal = eqb-true t d.thread same in
          let long = law.rel.scheduler.parked in
          let here = get_or-set_at (scheduler f).parked d.thread t (Some d) None equal (omega (arith, few, long, equal)) in
          let one : d ≡ c = some-one (sym here ∙ there) in
          subst (IsParked s t) one (is.0, sym equal, is.2, is.3)
      which false other = old c (sym (get_or-set_other (scheduler f).parked d.thread t (Some d) None (eqb-false t d.thread other)) ∙ there)

  pub parked-field : (s : State) (how : Leaves f m e s) (t : ℕ) (c : Context) → parked_at (scheduler later) t ≡ Some c → IsParked s t c
  parked-field s how t c there = by p.todo refl
    where
      old : (q : Todo) (todo : Todos) → p.todo ≡ q ∷ todo → (c : Context) → parked_at (scheduler f) t ≡ Some c → IsParked s t c
      old q todo at c there = parked-stays s how t c there (λ d told idle. absurd (not-idle f m e law q todo at idle))

      taken : (first : IsTaken f e) → IsParked s t c
      taken first = which (t == first.thread) refl
        where
          stands : slice_index_or (slice_set (scheduler f).parked first.thread None) t None ≡ Some c
          stands = sym (ap (λ (z : Scheduler). parked_at z t) first.after) ∙ there

          thread_of : Exchange → ℕ
          thread_of (Exchange.thread d w) = d.thread
          thread_of moved = 0

          which : (b : Bool) → (t == first.thread) ≡ b → IsParked s t c
          which true same =
              absurd (false≢true (ap is_some (sym (subst (λ n. slice_index_or (slice_set (scheduler f).parked first.thread None) n None ≡ None) (sym (eqb-true t first.thread same)) (set-none (scheduler f).parked first.thread)) ∙ stands)))
          which false other =
              let apart = eqb-false t first.thread other in
              parked-stays s how t c (sym (get_or-set_other (scheduler f).parked first.thread t None None apart) ∙ stands)
              (λ d told idle moved same. apart (sym same ∙ (ap thread_of (sym moved ∙ first.moved) ∙ (kill-thread (is_cut (scheduler f) first.thread) first.parked ∙ first.same))))

      resting : Idles f e → IsParked s t c
      resting (takes first) = taken first
      resting (tends is) =
          parked-stays s how t c (sym (ap (λ (z : Scheduler). parked_at z t) (sched-else f m e law (ap (λ i. same_site i Site.scheduler) is.site))) ∙ there)
          (λ d told idle moved same. is.other (subst IsThread (sym moved) tt))

      parks : (todo : Todos) → p.todo ≡ Todo.park ∷ todo → IsParked s t c
      parks todo at =
          puts-back s t (ready_in e.act) p.context c
          (own-of f m e law s how p.context of (λ free. apart-unseen (ap is_shown (made-says f m e law (Todo.park ∷ todo) at)) s how p.context.thread) (λ d told idle. absurd (not-idle f m e law Todo.park todo at idle)), refl, lives p.context.ended refl, fits.0)
          of.index (sym (ap (λ (z : Scheduler). parked_at z t) (parks-after f m e law todo at)) ∙ there) (old Todo.park todo at)
        where
          fits : IsPutBack p.context × (is_over p.context ≡ false) × (todo ≡ [])
          fits = subst (Fits f.image p.context) at (law.rel.processors e.cpu law.by.named).list.fits

          of : IsOf f m p.context
          of = (law.rel.contexts.running e.cpu law.by.named (runs-first law.rel law.by.named Todo.park todo at (λ hand. hand))).of fits.1

          waiting : (steps : Steps) → IsTrue (waits steps) → list_all is_ending steps ≡ true → ⊥
          waiting (Pending.Resume ∷ rest) h ends = false≢true ends
          waiting steps h ends = absurd (false≢true h)

          -- one that has ended has no step to wait for, so it would be over
          lives : (b : Bool) → p.context.ended ≡ b → b ≡ false
          lives false k = refl
          lives true k = put fits.0
            where
              put : IsPutBack p.context → true ≡ false
              put (inl none) = sym (λ i. k i && is_empty (none i)) ∙ fits.1
              put (inr waits-it) = absurd (waiting p.context.pending waits-it ((law.rel.processors e.cpu law.by.named).domain.ends k))

      adds : (d : Context) (todo : Todos) → p.todo ≡ Todo.add d ∷ todo → IsParked s t c
      adds d todo at =
          let new = law.rel.contexts.added e.cpu d law.by.named (subst (Adds d) (sym at) (inl refl)) in
          let act = FineAct.Unseen (Unseen.Add (to_thread d.thread)) in
          let said = made-says f m e law (Todo.add d ∷ todo) at in
          let after = sched-later f m e law (made-at f m e law (Todo.add d ∷ todo) at) act said
          ∙ ap (λ (mv : Exchange). put_back (scheduler f) true (context_in mv)) (made-moves f m e law (Todo.add d ∷ todo) at) in
          puts-back s t true d c
          (own-of f m e law s how d new.0 (λ free. apart-unseen (ap is_shown said) s how d.thread) (λ z told idle. absurd (not-idle f m e law (Todo.add d) todo at idle)), refl, new.1, inl new.2) new.0.index
          (sym (ap (λ (z : Scheduler). parked_at z t) after) ∙ there) (old (Todo.add d) todo at)

      -- a step of the scheduler's that leaves who is parked
      beside-it : (q : Todo) (todo : Todos) (act : FineAct) → p.todo ≡ q ∷ todo → e.site ≡ Site.scheduler → e.act ≡ act → parked_at (sched_after (scheduler f) act e.moved) t ≡ parked_at (scheduler f) t → IsParked s t c
      beside-it q todo act at site said same = old q todo at c (sym same ∙ (sym (ap (λ (z : Scheduler). parked_at z t) (sched-later f m e law site act said)) ∙ there))

      by : (todo : Todos) → p.todo ≡ todo → IsParked s t c
      by [] at = resting (idles f m e law at)
      by (Todo.park ∷ todo) at = parks todo at
      by (Todo.add d ∷ todo) at = adds d todo at
      by (Todo.wake who told ∷ todo) at = beside-it (Todo.wake who told) todo _ at (made-at f m e law (Todo.wake who told ∷ todo) at) (made-says f m e law (Todo.wake who told ∷ todo) at) refl
      by (Todo.tell_cut who ∷ todo) at = beside-it (Todo.tell_cut who) todo _ at (made-at f m e law (Todo.tell_cut who ∷ todo) at) (made-says f m e law (Todo.tell_cut who ∷ todo) at) refl
      by (Todo.owe ∷ todo) at = beside-it Todo.owe todo _ at (made-at f m e law (Todo.owe ∷ todo) at) (made-says f m e law (Todo.owe ∷ todo) at) refl
      by (Todo.paid ∷ todo) at = beside-it Todo.paid todo _ at (made-at f m e law (Todo.paid ∷ todo) at) (made-says f m e law (Todo.paid ∷ todo) at) refl
      by (Todo.done ∷ todo) at = beside-it Todo.done todo _ at (made-at f m e law (Todo.done ∷ todo) at) (made-says f m e law (Todo.done ∷ todo) at) refl
      by (q ∷ todo) at =
          old q todo at c
          (sym (ap (λ (z : Scheduler). parked_at z t) (sched-else f m e law (ap (λ i. same_site i Site.scheduler) (made-at f m e law (q ∷ todo) at) ∙ todo-elsewhere f.image p q todo refl (is-placed f m e law q todo at)))) ∙ there)

  -- The cell of the joins.

  pub joins-else : same_site e.site Site.joins ≡ false → joins later ≡ joins f
  joins-else off = ap (λ b. joins_state (cond b (s_next f.image (f.sites Site.joins) e) (f.sites Site.joins))) off

  pub joins-later : e.site ≡ Site.joins → (act : FineAct) → e.act ≡ act → joins later ≡ join_after (joins f) act e.moved
  joins-later site act said =
      ap (λ b. joins_state (cond b (s_next f.image (f.sites Site.joins) e) (f.sites Site.joins))) (ap (λ i. same_site i Site.joins) site ∙ same-itself Site.joins)
      ∙ (ap (λ (s : SiteState). joins_state (site_after f.image s e.act e.moved)) (joins-sort (f.sites Site.joins) (law.rel.sorts Site.joins)).1 ∙ ap (λ a. join_after (joins f) a e.moved) said)

  -- who sleeps does so after each step but a sleep and a rouse
  pub asleep-same : is_sleeping e.act ≡ false → (joins later).asleep ≡ (joins f).asleep
  asleep-same awake = by (same_site e.site Site.joins) refl
    where
      by : (b : Bool) → same_site e.site Site.joins ≡ b → (joins later).asleep ≡ (joins f).asleep
      by true on = ap (λ (j : Joins). j.asleep) (joins-later (same-sound e.site Site.joins on) e.act refl) ∙ asleep-kept (joins f) e.act e.moved awake
      by false off = ap (λ (j : Joins). j.asleep) (joins-else off)

  pub awake-act : (q : Todo) (todo : Todos) → p.todo ≡ q ∷ todo → moves_sleepers q ≡ false → is_sleeping e.act ≡ false
  awake-act q todo at other = ap is_sleeping (made-says f m e law (q ∷ todo) at) ∙ by q other
    where
      rests : (r : Pending) → is_sleeping (begins f.image p r e.act) ≡ false
      rests r = either-awake (is_word_read e.act) _ _ refl (either-awake (is_killed e.act) _ _ refl refl)

      shown : (r : Pending) → is_sleeping (says_show f.image p r e.act) ≡ false
      shown Pending.Begin = rests Pending.Begin
      shown Pending.Exit = rests Pending.Exit
      shown r = refl

      by : (q : Todo) → moves_sleepers q ≡ false → is_sleeping (says f.image p (q ∷ todo) e.act e.moved) ≡ false
      by Todo.sleep h = absurd (true≢false h)
      by (Todo.rouse who) h = absurd (true≢false h)
      by (Todo.show r rest) h = shown r
      by (Todo.look who site before) h = either-awake (is_void e.act) _ _ refl refl
      by Todo.leave h = either-awake (is_shut_act e.act) _ _ refl refl
      by (Todo.handle deadline mark) h = either-awake (is_void e.act) _ _ refl refl
      by (Todo.pass who x) h = either-awake (is_visit e.act) _ _ refl refl
      by (Todo.drop x) h = either-awake (is_visit e.act) _ _ refl refl
      by (Todo.clean_pair who x) h = either-awake (is_visit e.act) _ _ refl refl
      by r h = refl

  pub idle-awake : p.todo ≡ [] → is_sleeping e.act ≡ false
  idle-awake at = ap is_sleeping (made-says f m e law [] at) ∙ either-awake (is_due_act e.act) _ _ refl (either-awake (is_tick e.act) _ _ refl (turn e.moved))
    where
      turn : (moved : Exchange) → is_sleeping (says_turn f.image p moved) ≡ false
      turn (Exchange.thread c None) = refl
      turn (Exchange.thread c (Some told)) = refl
      turn moved = refl

  -- Threads that sleep.

  abbrev IsAsleep : State → ℕ → Context → Type 0
  IsAsleep s t c = IsOf later s c × (c.thread ≡ t) × (c.ended ≡ false) × (c.pending ≡ []) × (c.claims ≡ [])

  pub asleep-field : RestsHoldNothing m → (s : State) (how : Leaves f m e s) (t : ℕ) (c : Context) → asleep_at (joins later) t ≡ Some c → IsAsleep s t c
  asleep-field rests s how t c there = by p.todo refl
    where
      old : asleep_at (joins f) t ≡ Some c → IsAsleep s t c
      old here =
          let is = law.rel.contexts.asleep t c here in
          let few = is.0.index in
          let slept : is_some (asleep_at (joins f) c.thread) ≡ true = ap (λ n. is_some (asleep_at (joins f) n)) is.1 ∙ ap is_some here in (
            elsewhere-of f m e law s how c.thread few c is.0 refl (rests-on c is.2)
                (λ mine-on. let one = ap one_if mine-on in true≢false (sym slept ∙ lies-unslept f m law.rel c.thread few e.cpu law.by.named (omega (arith, one))))
                (λ d told idle moved same.
                true≢false (sym slept ∙ parked-unslept f m law.rel c.thread few (subst (λ n. is_some (parked_at (scheduler f) n) ≡ true) same (taken-lies f m e law idle d told moved)))),
            is.1,
            is.2,
            is.3,
            is.4,
          )

      still : is_sleeping e.act ≡ false → IsAsleep s t c
      still awake = old (sym (ap (λ (l : List (Option Context)). slice_index_or l t None) (asleep-same awake)) ∙ there)

      sleeps-now : (todo : Todos) → p.todo ≡ Todo.sleep ∷ todo → IsAsleep s t c
      sleeps-now todo at = which (t == p.context.thread) refl
        where
          said : e.act ≡ FineAct.Unseen Unseen.Sleep
          said = made-says f m e law (Todo.sleep ∷ todo) at

          after : joins later ≡ record (joins f) { asleep = slice_set (joins f).asleep p.context.thread (Some p.context) }
          after =
              joins-later (made-at f m e law (Todo.sleep ∷ todo) at) (FineAct.Unseen Unseen.Sleep) said
              ∙ ap (λ (mv : Exchange). join_after (joins f) (FineAct.Unseen Unseen.Sleep) mv) (made-moves f m e law (Todo.sleep ∷ todo) at)

          stands : slice_index_or (slice_set (joins f).asleep p.context.thread (Some p.context)) t None ≡ Some c
          stands = sym (ap (λ (j : Joins). asleep_at j t) after) ∙ there

          fits : (p.context.pending ≡ []) × (p.context.ended ≡ false) × (todo ≡ Todo.reread_asleep ∷ Todo.done ∷ [])
          fits = subst (Fits f.image p.context) at (law.rel.processors e.cpu law.by.named).list.fits

          of : IsOf f m p.context
          of = (law.rel.contexts.running e.cpu law.by.named (runs-first law.rel law.by.named Todo.sleep todo at (λ hand. hand))).of (rests-on p.context fits.1)

          -- one at rest holds nothing
          free : p.context.claims ≡ []
          free =
              let none = sym (ap (λ (z : Thread). z.pending) (own-unless of (ap waits fits.0))) ∙ fits.0 in
              flags-none p.context.claims of.below (λ x. ap (λ (flags : List Bool). slice_index_or flags x false) (sym of.claims) ∙ rests p.context.thread x (inr none))

          which : (b : Bool) → (t == p.context.thread) ≡ b → IsAsleep s t c
          which true same =
              let equal = eqb-true t p.context.thread same in
              let few = of.index in
              let long = law.rel.joins.asleep in
              let here = get_or-set_at (joins f).asleep p.context.thread t (Some p.context) None equal (omega (arith, few, long, equal)) in
              let one : p.context ≡ c = some-one (sym here ∙ stands) in
              subst (IsAsleep s t) one
              (own-of f m e law s how p.context of (λ apart. apart-unseen (ap is_shown said) s how p.context.thread) (λ d told idle. absurd (not-idle f m e law Todo.sleep todo at idle)), sym equal, fits.1, fits.0, free)
          which false other = old (sym (get_or-set_other (joins f).asleep p.context.thread t (Some p.context) None (eqb-false t p.context.thread other)) ∙ stands)

      rouses-now : (who : ℕ) (todo : Todos) → p.todo ≡ Todo.rouse who ∷ todo → (b : Bool) → is_void e.act ≡ b → IsAsleep s t c
      rouses-now who todo at true void =
          still (ap is_sleeping (made-says f m e law (Todo.rouse who ∷ todo) at ∙ ap (λ b. if b then FineAct.Unseen Unseen.Void else FineAct.Unseen (Unseen.Rouse (to_thread who))) void))
      rouses-now who todo at false found = which (t == who) refl
        where
          stands : slice_index_or (slice_set (joins f).asleep who None) t None ≡ Some c
          stands =
              sym (ap (λ (j : Joins). asleep_at j t)
              (joins-later (made-at f m e law (Todo.rouse who ∷ todo) at) (FineAct.Unseen (Unseen.Rouse (to_thread who)))
              (made-says f m e law (Todo.rouse who ∷ todo) at ∙ ap (λ b. if b then FineAct.Unseen Unseen.Void else FineAct.Unseen (Unseen.Rouse (to_thread who))) found)))
              ∙ there

          which : (b : Bool) → (t == who) ≡ b → IsAsleep s t c
          which true same =
              absurd (false≢true (ap is_some (sym (subst (λ n. slice_index_or (slice_set (joins f).asleep who None) n None ≡ None) (sym (eqb-true t who same)) (set-none (joins f).asleep who)) ∙ stands)))
          which false other = old (sym (get_or-set_other (joins f).asleep who t None None (eqb-false t who other)) ∙ stands)

      by : (todo : Todos) → p.todo ≡ todo → IsAsleep s t c
      by [] at = still (idle-awake at)
      by (Todo.sleep ∷ todo) at = sleeps-now todo at
      by (Todo.rouse who ∷ todo) at = rouses-now who todo at (is_void e.act) refl
      by (q ∷ todo) at = still (awake-act q todo at refl)
