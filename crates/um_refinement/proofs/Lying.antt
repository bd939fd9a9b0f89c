-- An own part that lies somewhere after a step, with a note, lay somewhere before with the same note; or its thread has noted that down right now.
use Rattle.um_refinement.proofs.Words.{◌≡◌, ◌⊎◌, inl, inr, ℕ, ◌<◌, Bool, true, false, cond, List, [], ◌∷◌, Option, Some, None, refl, sym, ap, ◌∙◌, subst, arith, eq-eqb, ◌==◌, ◌&&◌, if◌then◌else◌, is_some, not, slice_index_or, slice_set, unwrap_or, and_parts, eqb-false, eqb-true, false≢true, true≢false, get_or-set_at, get_or-set_other, Told, THREADS, Image, Change, Next, Pending, Steps, gone_part, to_thread, State, FineAct, Unseen, context_in, domain_in, is_visit, is_word_read, ready_in, begins_cleaning, Context, after_claim, after_show, after_take, dropped_at, goes_on_by, p_next, resumed, resumed_at, Todo, Todos, Scheduler, parked_at, put_back, sched_after, same_site, Exchange, FineStep, Site, AreBlocks, Fine, scheduler, word, has_steps, runs, runs_thread, Adds, Fits, is_over}
use Rattle.um_fine.specs.Answers.{is_void, thread_in}
use Rattle.um_fine.specs.Continues.{changed_part}
use Rattle.um_fine.specs.Follows.{shown_step}
use Rattle.um_fine.specs.Joins.{Joins, asleep_at, join_after}
use Rattle.um_fine.specs.Places.{put_away}
use Rattle.um_fine.specs.Scheduler.{is_cut, to_kill}
use Rattle.um_refinement.specs.Fine.{joins}
use Rattle.um_refinement.specs.Lists.{times}
use Rattle.um_refinement.specs.Stops.{LiesAt, asleep, parked, runs_it}
use Rattle.um_refinement.proofs.Continued.{Held, resumed-held}
use Rattle.um_refinement.proofs.ContextsPart.{now-context, take-context}
use Rattle.um_refinement.proofs.Erased.{around}
use Rattle.um_refinement.proofs.Leaves.{Lawful, Leaves}
use Rattle.um_refinement.proofs.ListGrips.{next-thread}
use Rattle.um_refinement.proofs.ListGrowth.{is_end}
use Rattle.um_refinement.proofs.ListRuns.{ends-rests, goes-runs, takes-none}
use Rattle.um_refinement.proofs.LooksListed.{word-now}
use Rattle.um_refinement.proofs.Offered.{runs-first}
use Rattle.um_refinement.proofs.OncePart.{stays-over}
use Rattle.um_refinement.proofs.ParkedPart.{asleep-same, awake-act, idle-awake, is_sleeping, joins-later}
use Rattle.um_refinement.proofs.PlacesFacts.{set-none}
use Rattle.um_refinement.proofs.Rousing.{said, sleepers}
use Rattle.um_refinement.proofs.RunningPart.{todo-elsewhere}
use Rattle.um_refinement.proofs.SchedulerSteps.{made-at, made-moves, made-says, sched-else, sched-later}
use Rattle.um_refinement.proofs.StepReads.{is-behind, is-placed, reads-last}
use Rattle.um_refinement.proofs.StepsLeft.{rests-on}
use Rattle.um_refinement.proofs.Taking.{Idles, IsTaken, idles, kill-thread, parks-after, takes, tends}

-- A note stays as a thread goes on, or goes.

none-some : {A : Type 0} {n : ℕ} → None ≡ Some n → A
none-some h = absurd (false≢true (ap is_some h))

noted-changed : (change : Change) (c : Context) → (changed_part change c).noted ≡ c.noted
noted-changed Change.nothing c = refl
noted-changed (Change.register to value) c = refl
noted-changed (Change.copies bs) c = refl
noted-changed (Change.says reply) c = refl
noted-changed (Change.outcome reply taken) c = refl
noted-changed (Change.until deadline) c = refl

noted-gone : (image : Image) (left : Steps) (next : Next) (c : Context) (n : ℕ) → (gone_part image left next c).noted ≡ Some n → c.noted ≡ Some n
noted-gone image left (Next.on change way) c n h = sym (noted-changed change c) ∙ h
noted-gone image left (Next.checks x None way) c n h = h
noted-gone image left (Next.checks x (Some e) way) c n h = h
noted-gone image left (Next.answers to reply) c n h = none-some h
noted-gone image left (Next.begins None) c n h = h
noted-gone image left (Next.begins (Some instr)) c n h = h
noted-gone image left (Next.resumes None) c n h = h
noted-gone image left (Next.resumes (Some told)) c n h = h
noted-gone image left Next.exits c n h = none-some h
noted-gone image left (Next.fatal reason) c n h = none-some h
noted-gone image left next c n h = h

noted-resumed : (image : Image) (c : Context) (told : Told) (n : ℕ) → (resumed image c told).noted ≡ Some n → c.noted ≡ Some n
noted-resumed image c told n h = by c.pending h
  where
    by : (steps : Steps) → (resumed_at image c told steps).noted ≡ Some n → c.noted ≡ Some n
    by (Pending.Resume ∷ rest) h = h
    by steps h = h

noted-killed : (b : Bool) (c : Context) → (to_kill b c).noted ≡ c.noted
noted-killed true c = refl
noted-killed false c = refl

module _ (f : Fine) (m : State) (e : FineStep) (law : Lawful f m e) (s : State) (how : Leaves f m e s) (t : ℕ) (few : t < THREADS) where
  open around f e use {later, processor as p, now}
  open is-behind f m e law use {frame}

  -- where it lay before with this note, or that it is noted right now
  abbrev pub Before : ℕ → Type 0
  Before n = ((d : Context) × LiesAt f t d × (d.noted ≡ Some n)) ⊎ (((word later t).number ≡ n) × (site : ℕ) × (todo : Todos) × (p.todo ≡ Todo.note site ∷ todo) × (p.context.thread ≡ t))

  -- the maker's thread lay with it
  mine-lay : (n : ℕ) → runs p ≡ true → p.context.thread ≡ t → is_over p.context ≡ false → p.context.noted ≡ Some n → Before n
  mine-lay n running same on noted = inl (p.context, runs_it e.cpu law.by.named (λ i. running i && eq-eqb p.context.thread t same i) on, noted)

  claim-noted : (d : ℕ) (init : Bool) (todo : Todos) → (after_claim p d init 0 todo).context.noted ≡ p.context.noted
  claim-noted d true todo = refl
  claim-noted d false todo = refl

  drop-noted : (x : ℕ) (b : Bool) → (dropped_at f.image p.context x b).noted ≡ p.context.noted
  drop-noted x true = refl
  drop-noted x false = refl

  some-of : {a b : ℕ} → Some a ≡ Some b → a ≡ b
  some-of {a} {b} h = ap (λ o. unwrap_or o a) h

  -- The thread of the maker.

  module _ (n : ℕ) (running : runs now ≡ true) (same : now.context.thread ≡ t) (on : is_over now.context ≡ false) (noted : now.context.noted ≡ Some n) where
    took : (first : IsTaken f e) → p.todo ≡ [] → Before n
    took first at = inl (first.parked, parked first.parked (subst (λ u. parked_at (scheduler f) u ≡ Some first.parked) index first.there), kept first.told (sym (ap (λ (c : Context). c.noted) context) ∙ noted))
      where
        c : Context
        c = to_kill (is_cut (scheduler f) first.thread) first.parked

        context : now.context ≡ (after_take f.image p (Exchange.thread c first.told)).context
        context = now-context f m e law [] at ∙ ap (λ (mv : Exchange). (after_take f.image p mv).context) first.moved

        thread-of : (told : Option Told) → (after_take f.image p (Exchange.thread c told)).context.thread ≡ c.thread
        thread-of None = ap (λ (d : Context). d.thread) (take-context f.image p c)
        thread-of (Some w) = ap (λ (h : Held). h.0) (resumed-held f.image c w)

        index : first.thread ≡ t
        index = sym (ap (λ (d : Context). d.thread) context ∙ (thread-of first.told ∙ (kill-thread (is_cut (scheduler f) first.thread) first.parked ∙ first.same))) ∙ same

        kept : (told : Option Told) → (after_take f.image p (Exchange.thread c told)).context.noted ≡ Some n → first.parked.noted ≡ Some n
        kept None h = sym (noted-killed (is_cut (scheduler f) first.thread) first.parked) ∙ (sym (ap (λ (d : Context). d.noted) (take-context f.image p c)) ∙ h)
        kept (Some w) h = sym (noted-killed (is_cut (scheduler f) first.thread) first.parked) ∙ noted-resumed f.image c w n h

    idle-lay : p.todo ≡ [] → Idles f e → Before n
    idle-lay at (takes first) = took first at
    idle-lay at (tends is) = absurd (false≢true (sym (takes-none f.image p e at is.other is.quiet) ∙ running))

    -- one that goes on with its list
    goes : (q : Todo) (todo : Todos) → p.todo ≡ q ∷ todo → is_end q ≡ false → p.context.noted ≡ Some n → Before n
    goes q todo at ends was =
        let steps = goes-runs f.image p e q todo at ends (frame q todo at) (reads-last f m e law q todo at) (subst (AreBlocks f.image) at (law.rel.processors e.cpu law.by.named).blocks) in
        mine-lay n (sym steps ∙ running) (sym (next-thread f.image p e q todo at ends) ∙ same) (by (is_over p.context) refl) was
      where
        by : (b : Bool) → is_over p.context ≡ b → b ≡ false
        by true over = absurd (true≢false (sym (stays-over f m e law s how t few q todo at ends over) ∙ on))
        by false still = refl

    ended : (q : Todo) (todo : Todos) → p.todo ≡ q ∷ todo → is_end q ≡ true → begins_cleaning e ≡ false → Before n
    ended q todo at over quiet = absurd (false≢true (sym (ap (λ (z : Todos). has_steps z && not (times z)) (ends-rests f.image p e q todo at over quiet)) ∙ running))

    here : (q : Todo) (todo : Todos) → p.todo ≡ q ∷ todo → (goes_on_by f.image p e (q ∷ todo)).context.noted ≡ Some n
    here q todo at = sym (ap (λ (c : Context). c.noted) (now-context f m e law (q ∷ todo) at)) ∙ noted

    lay : (todo : Todos) → p.todo ≡ todo → Before n
    lay [] at = idle-lay at (idles f m e law at)
    lay (Todo.show q rest ∷ todo) at = goes (Todo.show q rest) todo at refl (by (is_word_read e.act) (here (Todo.show q rest) todo at))
      where
        by : (b : Bool) → (if b then record p { todo = put_away (thread_in e.word).doomed } else after_show f.image p e (shown_step f.image q e.act) rest todo).context.noted ≡ Some n → p.context.noted ≡ Some n
        by true h = h
        by false h = noted-gone f.image rest _ p.context n h
    lay (Todo.note site ∷ todo) at =
        let thread = next-thread f.image p e (Todo.note site) todo at refl in
        let word-is = word-now f m e law t few (made-at f m e law (Todo.note site ∷ todo) at ∙ ap Site.thread (sym thread ∙ same)) in
        inr (sym (ap (λ w. w.number) word-is) ∙ some-of (here (Todo.note site) todo at), site, todo, at, sym thread ∙ same)
    lay (Todo.sleep ∷ todo) at = absurd (true≢false (sym (ap is_over (now-context f m e law (Todo.sleep ∷ todo) at)) ∙ on))
    lay (Todo.read_claim (Some d) ∷ todo) at = goes (Todo.read_claim (Some d)) todo at refl (sym (claim-noted d (domain_in e.word).init todo) ∙ here (Todo.read_claim (Some d)) todo at)
    lay (Todo.read_claim None ∷ todo) at = goes (Todo.read_claim None) todo at refl (here (Todo.read_claim None) todo at)
    lay (Todo.drop x ∷ todo) at = goes (Todo.drop x) todo at refl (sym (drop-noted x (is_visit e.act)) ∙ here (Todo.drop x) todo at)
    lay (Todo.park ∷ todo) at = ended Todo.park todo at refl (ap (λ a. begins_cleaning (record e { act = a })) (made-says f m e law (Todo.park ∷ todo) at))
    lay (Todo.done ∷ todo) at = ended Todo.done todo at refl (ap (λ a. begins_cleaning (record e { act = a })) (made-says f m e law (Todo.done ∷ todo) at))
    lay (Todo.paid ∷ todo) at = ended Todo.paid todo at refl (ap (λ a. begins_cleaning (record e { act = a })) (made-says f m e law (Todo.paid ∷ todo) at))
    lay (q ∷ todo) at = goes q todo at refl (here q todo at)

  some-one : {c d : Context} → Some c ≡ Some d → c ≡ d
  some-one {c} h = ap (λ (o : Option Context). unwrap_or o c) h

  -- One that is parked.

  put-lay : (n : ℕ) (b : Bool) (d c : Context) → d.thread < THREADS → parked_at (put_back (scheduler f) b d) t ≡ Some c → c.noted ≡ Some n → (d.thread ≡ t → d.noted ≡ Some n → Before n) → Before n
  put-lay n b d c small there noted mine = which (t == d.thread) refl
    where
      which : (v : Bool) → (t == d.thread) ≡ v → Before n
      which true same =
          let equal = eqb-true t d.thread same in
          let long = law.rel.scheduler.parked in
          let at = get_or-set_at (scheduler f).parked d.thread t (Some d) None equal (omega (arith, small, long, equal)) in
          mine (sym equal) (ap (λ (z : Context). z.noted) (some-one (sym at ∙ there)) ∙ noted)
      which false other = inl (c, parked c (sym (get_or-set_other (scheduler f).parked d.thread t (Some d) None (eqb-false t d.thread other)) ∙ there), noted)

  parked-lay : (n : ℕ) (c : Context) → parked_at (scheduler later) t ≡ Some c → c.noted ≡ Some n → Before n
  parked-lay n c there noted = by p.todo refl
    where
      still : scheduler later ≡ scheduler f → Before n
      still same = inl (c, parked c (sym (ap (λ (z : Scheduler). parked_at z t) same) ∙ there), noted)

      resting : Idles f e → Before n
      resting (tends is) = still (sched-else f m e law (ap (λ i. same_site i Site.scheduler) is.site))
      resting (takes first) = which (t == first.thread) refl
        where
          stands : slice_index_or (slice_set (scheduler f).parked first.thread None) t None ≡ Some c
          stands = sym (ap (λ (z : Scheduler). parked_at z t) first.after) ∙ there

          which : (b : Bool) → (t == first.thread) ≡ b → Before n
          which true same =
              absurd (false≢true (ap is_some (sym (subst (λ n. slice_index_or (slice_set (scheduler f).parked first.thread None) n None ≡ None) (sym (eqb-true t first.thread same)) (set-none (scheduler f).parked first.thread)) ∙ stands)))
          which false other = inl (c, parked c (sym (get_or-set_other (scheduler f).parked first.thread t None None (eqb-false t first.thread other)) ∙ stands), noted)

      parks : (todo : Todos) → p.todo ≡ Todo.park ∷ todo → Before n
      parks todo at =
          let fits = subst (Fits f.image p.context) at (law.rel.processors e.cpu law.by.named).list.fits in
          let running = runs-first law.rel law.by.named Todo.park todo at (λ hand. hand) in
          put-lay n (ready_in e.act) p.context c (law.rel.contexts.running e.cpu law.by.named running).index (sym (ap (λ (z : Scheduler). parked_at z t) (parks-after f m e law todo at)) ∙ there) noted
          (λ same was. mine-lay n running same fits.1 was)

      adds : (d : Context) (todo : Todos) → p.todo ≡ Todo.add d ∷ todo → Before n
      adds d todo at =
          let new = law.rel.contexts.added e.cpu d law.by.named (subst (Adds d) (sym at) (inl refl)) in
          let after = sched-later f m e law (made-at f m e law (Todo.add d ∷ todo) at) (FineAct.Unseen (Unseen.Add (to_thread d.thread))) (made-says f m e law (Todo.add d ∷ todo) at)
          ∙ ap (λ (mv : Exchange). put_back (scheduler f) true (context_in mv)) (made-moves f m e law (Todo.add d ∷ todo) at) in
          put-lay n true d c new.0.index (sym (ap (λ (z : Scheduler). parked_at z t) after) ∙ there) noted (λ same was. none-some (sym new.3 ∙ was))

      at-scheduler : (q : Todo) (todo : Todos) (act : FineAct) → e.site ≡ Site.scheduler → e.act ≡ act → parked_at (sched_after (scheduler f) act e.moved) t ≡ parked_at (scheduler f) t → Before n
      at-scheduler q todo act site said same = inl (c, parked c (sym same ∙ (sym (ap (λ (z : Scheduler). parked_at z t) (sched-later f m e law site act said)) ∙ there)), noted)

      by : (todo : Todos) → p.todo ≡ todo → Before n
      by [] at = resting (idles f m e law at)
      by (Todo.park ∷ todo) at = parks todo at
      by (Todo.add d ∷ todo) at = adds d todo at
      by (Todo.wake who told ∷ todo) at = at-scheduler (Todo.wake who told) todo _ (made-at f m e law (Todo.wake who told ∷ todo) at) (made-says f m e law (Todo.wake who told ∷ todo) at) refl
      by (Todo.tell_cut who ∷ todo) at = at-scheduler (Todo.tell_cut who) todo _ (made-at f m e law (Todo.tell_cut who ∷ todo) at) (made-says f m e law (Todo.tell_cut who ∷ todo) at) refl
      by (Todo.owe ∷ todo) at = at-scheduler Todo.owe todo _ (made-at f m e law (Todo.owe ∷ todo) at) (made-says f m e law (Todo.owe ∷ todo) at) refl
      by (Todo.paid ∷ todo) at = at-scheduler Todo.paid todo _ (made-at f m e law (Todo.paid ∷ todo) at) (made-says f m e law (Todo.paid ∷ todo) at) refl
      by (Todo.done ∷ todo) at = at-scheduler Todo.done todo _ (made-at f m e law (Todo.done ∷ todo) at) (made-says f m e law (Todo.done ∷ todo) at) refl
      by (q ∷ todo) at = still (sched-else f m e law (ap (λ i. same_site i Site.scheduler) (made-at f m e law (q ∷ todo) at) ∙ todo-elsewhere f.image p q todo refl (is-placed f m e law q todo at)))

  -- One that sleeps.

  asleep-lay : (n : ℕ) (c : Context) → asleep_at (joins later) t ≡ Some c → c.noted ≡ Some n → Before n
  asleep-lay n c there noted = by p.todo refl
    where
      still : (joins later).asleep ≡ (joins f).asleep → Before n
      still same = inl (c, asleep c (sym (ap (λ (l : List (Option Context)). slice_index_or l t None) same) ∙ there), noted)

      sleeps-now : (todo : Todos) → p.todo ≡ Todo.sleep ∷ todo → Before n
      sleeps-now todo at = which (t == p.context.thread) refl
        where
          stands : slice_index_or (slice_set (joins f).asleep p.context.thread (Some p.context)) t None ≡ Some c
          stands =
              sym (ap (λ (j : Joins). asleep_at j t)
              (joins-later f m e law (made-at f m e law (Todo.sleep ∷ todo) at) (FineAct.Unseen Unseen.Sleep) (made-says f m e law (Todo.sleep ∷ todo) at)
              ∙ ap (λ (mv : Exchange). join_after (joins f) (FineAct.Unseen Unseen.Sleep) mv) (made-moves f m e law (Todo.sleep ∷ todo) at)))
              ∙ there

          which : (v : Bool) → (t == p.context.thread) ≡ v → Before n
          which true same =
              let fits = subst (Fits f.image p.context) at (law.rel.processors e.cpu law.by.named).list.fits in
              let running = runs-first law.rel law.by.named Todo.sleep todo at (λ hand. hand) in
              let small = (law.rel.contexts.running e.cpu law.by.named running).index in
              let equal = eqb-true t p.context.thread same in
              let long = law.rel.joins.asleep in
              let here = get_or-set_at (joins f).asleep p.context.thread t (Some p.context) None equal (omega (arith, small, long, equal)) in
              mine-lay n running (sym equal) (rests-on p.context fits.1) (ap (λ (z : Context). z.noted) (some-one (sym here ∙ stands)) ∙ noted)
          which false other = inl (c, asleep c (sym (get_or-set_other (joins f).asleep p.context.thread t (Some p.context) None (eqb-false t p.context.thread other)) ∙ stands), noted)

      rouses-now : (who : ℕ) (todo : Todos) → p.todo ≡ Todo.rouse who ∷ todo → (b : Bool) → is_void e.act ≡ b → Before n
      rouses-now who todo at true void = still (asleep-same f m e law (ap is_sleeping (said f m e law who todo at true void)))
      rouses-now who todo at false found = which (t == who) refl
        where
          stands : slice_index_or (slice_set (joins f).asleep who None) t None ≡ Some c
          stands = sym (ap (λ (l : List (Option Context)). slice_index_or l t None) (sleepers f m e law who todo at found)) ∙ there

          which : (v : Bool) → (t == who) ≡ v → Before n
          which true same =
              absurd (false≢true (ap is_some (sym (subst (λ n. slice_index_or (slice_set (joins f).asleep who None) n None ≡ None) (sym (eqb-true t who same)) (set-none (joins f).asleep who)) ∙ stands)))
          which false other = inl (c, asleep c (sym (get_or-set_other (joins f).asleep who t None None (eqb-false t who other)) ∙ stands), noted)

      by : (todo : Todos) → p.todo ≡ todo → Before n
      by [] at = still (asleep-same f m e law (idle-awake f m e law at))
      by (Todo.sleep ∷ todo) at = sleeps-now todo at
      by (Todo.rouse who ∷ todo) at = rouses-now who todo at (is_void e.act) refl
      by (q ∷ todo) at = still (asleep-same f m e law (awake-act f m e law q todo at refl))

  pub lay-before : (n : ℕ) (c : Context) → LiesAt later t c → c.noted ≡ Some n → Before n
  lay-before n _ (runs_it k l running on) noted = by (e.cpu == k) refl running on noted
    where
      by : (b : Bool) → (e.cpu == k) ≡ b → runs_thread t (cond b (p_next f.image (f.processors k) e) (f.processors k)) ≡ true → is_over (cond b (p_next f.image (f.processors k) e) (f.processors k)).context ≡ false
          → (cond b (p_next f.image (f.processors k) e) (f.processors k)).context.noted ≡ Some n → Before n
      by true q running on noted =
          subst (λ j. runs_thread t (p_next f.image (f.processors j) e) ≡ true → is_over (p_next f.image (f.processors j) e).context ≡ false → (p_next f.image (f.processors j) e).context.noted ≡ Some n → Before n) (eqb-true e.cpu k q)
          (λ running on noted. let parts = and_parts (runs now) _ running in lay n parts.0 (eqb-true now.context.thread t parts.1) on noted p.todo refl) running on noted
      by false q running on noted = inl ((f.processors k).context, runs_it k l running on, noted)
  lay-before n _ (parked c there) noted = parked-lay n c there noted
  lay-before n _ (asleep c there) noted = asleep-lay n c there noted
