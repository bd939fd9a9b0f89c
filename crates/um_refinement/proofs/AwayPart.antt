-- A thread whose own part lies nowhere has no step left, and was never started, has ended, or is doomed, after every lawful step.
use Rattle.um_refinement.proofs.Words.{List, MayChoose, goes_on_by, sched_after, slice_index_or, slice_set, waits, ◌≡◌, ◌≢◌, ◌⊎◌, inl, inr, ℕ, zero, suc, ◌+◌, ◌<◌, ◌≤◌, Bool, true, false, cond, [], ◌∷◌, Option, Some, None, refl, sym, ap, ◌∙◌, subst, arith, eq-eqb, ◌==◌, ◌&&◌, if◌then◌else◌, is_some, not, list_any, and_parts, eqb-false, eqb-true, false≢true, not-true, true≢false, get_or-set_at, get_or-set_other, Told, THREADS, Pending, Life, Thread, Steps, to_thread, is_empty, State, thread_at, FineAct, Unseen, act_in, context_in, ready_in, Context, continues, after_show, after_take, dropped_at, p_next, Todo, Todos, Processor, Scheduler, parked_at, put_back, same_site, Exchange, FineStep, Site, AreBlocks, Fine, one_if, over_processors, scheduler, AreFramed, adders, has_steps, is_done, of_thread, runs, runs_thread, Fits, is_over, IsOf, places, runs_on, AwayIs}
use Rattle.um_words.specs.declared.fine.Mark.{Mark}
use Rattle.um_machine.specs.State.{is_to_resume, is_waiting}
use Rattle.um_fine.specs.Answers.{is_void, thread_in}
use Rattle.um_fine.specs.Follows.{shown_step}
use Rattle.um_fine.specs.Joins.{Joins, asleep_at, join_after}
use Rattle.um_fine.specs.Places.{put_away}
use Rattle.um_fine.specs.Scheduler.{is_cut, to_kill}
use Rattle.um_refinement.specs.Fine.{joins}
use Rattle.um_refinement.specs.Lists.{is_sleep, times}
use Rattle.um_refinement.proofs.ContextsPart.{ended-not, event-uncut, is_shown, is_sleep_step, not-idle, now-context, quiet-context, take-context}
use Rattle.um_refinement.proofs.ParkedPart.{apart-unseen, awake-act, idle-awake, is_sleeping, joins-later, moves_sleepers}
use Rattle.um_refinement.proofs.Rousing.{list, said, sleepers}
use Rattle.um_refinement.proofs.Kept.{rouses-sleeper}
use Rattle.um_refinement.proofs.ListAdders.{is_rouse_step}
use Rattle.um_refinement.proofs.Taking.{Idles, IsTaken, idles, kill-thread, parks-after, taken-parked, takes, tends}
use Rattle.um_refinement.proofs.VisitSteps.{visit-runs}
use Rattle.um_refinement.proofs.DonePart.{doomed-kept}
use Rattle.um_refinement.proofs.Continued.{Held, resumed-held}
use Rattle.um_refinement.proofs.Erased.{around, stepped}
use Rattle.um_refinement.proofs.LawfulSteps.{Suits}
use Rattle.um_refinement.proofs.Leaves.{Beside, HasStep, beside, cuts, expires, leaves, ticks, times_out, Lawful, Leaves, cleans, drops, event, nothing, passes, recycles, resumes}
use Rattle.um_refinement.proofs.ListClaims.{IsThread}
use Rattle.um_refinement.proofs.ListGrips.{next-thread}
use Rattle.um_refinement.proofs.ListGrowth.{is_end}
use Rattle.um_refinement.proofs.ListRuns.{goes-runs, takes-runs}
use Rattle.um_refinement.proofs.MemoryPart.{InDomains}
use Rattle.um_refinement.proofs.MemorySteps.{part-total}
use Rattle.um_refinement.proofs.Offered.{own-part, own-unless, shows-runs, Shows, behind-is, shown-on}
use Rattle.um_refinement.proofs.OfKept.{of-kept}
use Rattle.um_refinement.proofs.OncePart as O
use Rattle.um_refinement.proofs.OncePart.{no-steps, no-thread}
use Rattle.um_refinement.proofs.Others.{doing, starts_other}
use Rattle.um_refinement.proofs.PartsElsewhere.{Apart, stays}
use Rattle.um_refinement.proofs.RunningPart.{todo-elsewhere}
use Rattle.um_refinement.proofs.StepReads.{is-placed, reads-last}
use Rattle.um_refinement.proofs.SchedulerSteps.{made-at, made-moves, made-says, sched-else, sched-later}
use Rattle.um_refinement.proofs.WordsKept.{IsShown}
use Rattle.um_refinement.proofs.StepsLeft.{drops-on, passes-on, rests-on, steps-on}

abbrev IsAway : Thread → Type 0
IsAway me = ((me.life ≢ Life.Living) ⊎ (me.doomed ≡ true)) × (me.pending ≡ [])

pub none-left : (steps : Steps) → is_empty steps ≡ true → steps ≡ []
none-left [] h = refl
none-left (q ∷ rest) h = absurd (false≢true h)

module _ (f : Fine) (m : State) (e : FineStep) (law : Lawful f m e) (suits : Suits f m) (all : InDomains f m) (s : State) (how : Leaves f m e s) (has : HasStep f m e s how)
    (t : ℕ) (few : t < THREADS) (gone : places (stepped f.image f.cpus f.processors f.sites e) t ≡ 0) where
  open around f e use {later, processor as p, now}

  abbrev lies : Processor → ℕ
  lies z = one_if (runs_on t z) + of_thread t (adders z.todo)

  abbrev parked : Fine → ℕ
  parked g = one_if (is_some (parked_at (scheduler g) t))

  abbrev sleeps : Fine → ℕ
  sleeps g = one_if (is_some (asleep_at (joins g) t))

  slept : is_sleeping e.act ≡ false → sleeps later ≡ sleeps f
  slept awake = O.slept f m e law s how t few awake

  sums : over_processors later lies + lies p ≡ over_processors f lies + lies now
  sums = O.sums f m e law s how t few

  -- it doesn't lie with the processor that makes the step
  now-none : lies now ≡ 0
  now-none =
      let part = part-total (λ k. lies (later.processors k)) f.cpus e.cpu law.by.named in
      let here : lies (later.processors e.cpu) ≡ lies now = ap (λ b. lies (cond b (p_next f.image (f.processors e.cpu) e) (f.processors e.cpu))) (eq-eqb e.cpu e.cpu refl) in
      omega (arith, part, here, gone)

  -- a thread that isn't the step's, and lay nowhere
  away-stays : Apart f m e law s how s how t → IsAway (thread_at m t) → IsAway (thread_at s t)
  away-stays apart away = (by away.0, ap (λ (th : Thread). th.pending) same ∙ away.1)
    where
      same : doing (thread_at s t) ≡ doing (thread_at m t)
      same = stays f m e law s how t apart

      by : ((thread_at m t).life ≢ Life.Living) ⊎ ((thread_at m t).doomed ≡ true) → ((thread_at s t).life ≢ Life.Living) ⊎ ((thread_at s t).doomed ≡ true)
      by (inl ended) = inl (λ lives. ended (sym (ap (λ (th : Thread). th.life) same) ∙ lives))
      by (inr doomed) = inr (doomed-kept f m e law s how t few doomed)

  mine-lies : runs p ≡ true → is_over p.context ≡ false → p.context.thread ≡ t → lies p ≡ 0 → ⊥
  mine-lies steps on same none =
      let runs-it : runs_on t p ≡ true = λ i. (steps i && eq-eqb p.context.thread t same i) && not (on i) in
      let one = ap one_if runs-it in omega (arith, one, none)

  was-away : places f t ≡ 0 → IsAway (thread_at s t)
  was-away none = away-stays (by s how) ((law.rel.threads t few).away.away none)
    where
      lay-none : lies p ≡ 0
      lay-none = let part = part-total (λ k. lies (f.processors k)) f.cpus e.cpu law.by.named in omega (arith, part, none)

      starts : (q : Pending) (rest : Steps) (todo : Todos) → Shows f m e.cpu e q rest todo → IsShown q → starts_other t q
      starts (Pending.Start who script stack priority mode) rest todo h shown = λ same.
          let list = O.behind f m e law s how t few (Todo.show h.listed rest) todo h.at refl in
          let one : of_thread t (adders todo) ≡ 0 + 1 = ap (λ (z : Todos). of_thread t (adders z)) (behind-is h) ∙ ap (λ b. if b then 0 + 1 else 0) (eq-eqb who.0 t same) in
          let nothing-now = now-none in
          omega (arith, list, one, nothing-now)
      starts (Pending.Cut who) rest todo h shown = absurd shown
      starts q rest todo h shown = tt

      by : (z : State) (l : Leaves f m e z) → Apart f m e law z l z l t
      by _ (nothing u said) = tt
      by _ (event q rest todo x h shown is) = (λ same. mine-lies (shows-runs h) (shown-on h) same lay-none, starts q rest todo h shown)
      by _ (resumes c told rest idle moved said) = λ same.
          let there = taken-parked f m e law idle c told moved in
          let one : parked f ≡ 1 = ap (λ n. one_if (is_some (parked_at (scheduler f) n))) (sym same) ∙ ap (λ (o : Option Context). one_if (is_some o)) there in
          omega (arith, one, none)
      by _ (passes who x rest todo h said) = λ same.
          mine-lies (visit-runs h (λ hand. hand)) (passes-on f.image p.context who todo (subst (Fits f.image p.context) h.at (law.rel.processors e.cpu law.by.named).list.fits).0) same lay-none
      by _ (drops from x rest todo h said) = λ same.
          mine-lies (visit-runs h (λ hand. hand)) (drops-on f.image p.context todo (subst (Fits f.image p.context) h.at (law.rel.processors e.cpu law.by.named).list.fits)) same lay-none
      by _ (cleans who x rest todo h said) = tt
      by _ (recycles x rest todo at l said chosen) = tt
      by _ (beside u x q made chosen started) = on-beside u x q made chosen
        where
          -- one that is cut waits, and this one has no step left
          waits-none : (me : Thread) → me.pending ≡ [] → is_waiting me ≡ true → ⊥
          waits-none me rests h = false≢true (sym (ap is_to_resume rests) ∙ (and_parts (is_to_resume me.pending) _ h).0)

          on-beside : (u x : ℕ) (q : Pending) → Beside f m e u x q → MayChoose m u x q → starts_other t q
          on-beside u x _ (cuts who site before _ todo at place inside said) chosen = λ same.
              let waiting = (and_parts (is_waiting (thread_at m who)) _ (and_parts (thread_at m who).aborted _ chosen).1).0 in
              waits-none (thread_at m t) ((law.rel.threads t few).away.away none).1 (ap (λ n. is_waiting (thread_at m n)) (sym same) ∙ waiting)
          on-beside _ _ _ (times_out deadline site x who todo at place inside said) chosen = tt
          on-beside _ _ _ (expires deadline x todo at inside said) chosen = tt
          on-beside _ _ _ (ticks at said) chosen = tt
          on-beside _ _ _ (leaves todo at said) chosen = tt

  -- The thread of the processor, whose last step was made.

  over-away : (q : Todo) (todo : Todos) → p.todo ≡ q ∷ todo → is_end q ≡ false → is_sleep_step q ≡ false → p.context.thread ≡ t → is_over p.context ≡ false → is_over now.context ≡ true → IsAway (thread_at s t)
  over-away q todo at goes awake same on over = by s how
    where
      stayed : (z : State) → is_over now.context ≡ is_over p.context → IsAway (thread_at z t)
      stayed z as-before = absurd (true≢false (sym over ∙ (as-before ∙ on)))

      kept : (z : State) (r : Todo) (more : Todos) → p.todo ≡ r ∷ more → (goes_on_by f.image p e (r ∷ more)).context ≡ p.context → IsAway (thread_at z t)
      kept z r more there as-is = stayed z (ap is_over (now-context f m e law (r ∷ more) there ∙ as-is))

      on-beside : (z : State) (u x : ℕ) (r : Pending) → Beside f m e u x r → IsAway (thread_at z t)
      on-beside z _ _ _ (cuts who site before x more there inside few said) = kept z (Todo.look who site before) more there refl
      on-beside z _ _ _ (times_out deadline site x who more there inside few said) = kept z (Todo.handle deadline (Mark.Thread who site)) more there refl
      on-beside z _ _ _ (expires deadline x more there inside said) = kept z (Todo.handle deadline (Mark.Timer x)) more there refl
      on-beside z _ _ _ (ticks idle said) = absurd (not-idle f m e law q todo at idle)
      on-beside z _ _ _ (leaves more there said) = kept z Todo.leave more there refl

      by : (z : State) (l : Leaves f m e z) → IsAway (thread_at z t)
      by z (nothing u said) = stayed z (ap is_over (quiet-context f m e law q todo at goes awake (ap is_shown said)).1)
      by z (event r rest more x h shown is) =
          let c = continues f.image p.context 0 r rest (act_in e.act) e.moved in
          let context : now.context ≡ c =
          now-context f m e law (Todo.show h.listed rest ∷ more) h.at
          ∙ (ap (λ b. (if b then record p { todo = put_away (thread_in e.word).doomed } else after_show f.image p e (shown_step f.image h.listed e.act) rest more).context) h.shown
          ∙ ap (λ v. (after_show f.image p e v rest more).context) h.made) in
          let uncut = event-uncut f m e law suits all z (event r rest more x h shown is) (Todo.show h.listed rest) more h.at tt (own-part h) h.awake in
          let of = of-kept f m e law suits all rest more x r h shown is uncut in
          let ends = and_parts c.ended (is_empty c.pending) (sym (ap is_over context) ∙ over) in
          let ended : c.ended ≡ true = ends.0 in
          let index : c.thread ≡ t = sym (ap (λ (d : Context). d.thread) context) ∙ (next-thread f.image p e q todo at goes ∙ same) in (
            inl (λ lives. ended-not (thread_at z c.thread).life (sym of.ended ∙ ended) (ap (λ n. (thread_at z n).life) index ∙ lives)),
            ap (λ n. (thread_at z n).pending) (sym index) ∙ (sym (ap (λ (th : Thread). th.pending) (own-unless of (ap waits (none-left c.pending ends.1)))) ∙ none-left c.pending ends.1),
          )
      by z (resumes c told rest idle moved said) = absurd (not-idle f m e law q todo at idle)
      by z (passes who x rest more h said) = kept z (Todo.pass who x) more h.at refl
      by z (drops from x rest more h said) =
          let context : now.context ≡ dropped_at f.image p.context x false = now-context f m e law (Todo.drop x ∷ more) h.at ∙ ap (λ b. dropped_at f.image p.context x b) h.shown in
          absurd (true≢false (sym over ∙ (ap is_over context ∙ steps-on (dropped_at f.image p.context x false) (Pending.Drops (x + 1)) _ refl)))
      by z (cleans who x rest more h said) = kept z (Todo.clean_pair who x) more h.at refl
      by z (recycles x rest more there l said chosen) = kept z (Todo.recycle x) more there refl
      by z (beside u x r made chosen started) = on-beside z u x r made

  -- the processor ran it
  ran : (b : Bool) → runs_on t p ≡ b → 0 < one_if b → (runs p ≡ true) × (p.context.thread ≡ t) × (is_over p.context ≡ false)
  ran true h some =
      let parts = and_parts (runs_thread t p) _ h in
      let two = and_parts (runs p) _ parts.0 in (two.0, eqb-true p.context.thread t two.1, not-true _ parts.1)
  ran false h some = absurd (omega (arith, some))

  goes-away : (q : Todo) (todo : Todos) → p.todo ≡ q ∷ todo → is_end q ≡ false → is_sleep_step q ≡ false → of_thread t (adders p.todo) ≤ of_thread t (adders now.todo) → parked f ≤ parked later → sleeps f ≤ sleeps later
      → 0 < places f t → IsAway (thread_at s t)
  goes-away q todo at goes awake adds put sleeping some =
      let sum = sums in
      let none = now-none in
      let is = ran (runs_on t p) refl (omega (arith, sum, none, adds, put, sleeping, some, gone)) in
      by is.1 is.2 (is_over now.context) refl
    where
      by : p.context.thread ≡ t → is_over p.context ≡ false → (b : Bool) → is_over now.context ≡ b → IsAway (thread_at s t)
      by same on true over = over-away q todo at goes awake same on over
      by same on false still =
          let k = law.rel.processors e.cpu law.by.named in
          let is = ran (runs_on t p) refl (let sum = sums in let none = now-none in omega (arith, sum, none, adds, put, sleeping, some, gone)) in
          let steps = goes-runs f.image p e q todo at goes (subst (AreFramed f.image) at k.frames).0 (reads-last f m e law q todo at) (subst (AreBlocks f.image) at k.blocks) ∙ is.0 in
          let thread : now.context.thread ≡ t = next-thread f.image p e q todo at goes ∙ same in
          let runs-it : runs_on t now ≡ true = λ i. (steps i && eq-eqb now.context.thread t thread i) && not (still i) in
          let one = ap one_if runs-it in
          let none = now-none in
          absurd (omega (arith, one, none))

  -- what stands behind the step is all that is added
  same-adds : (q : Todo) (todo : Todos) → p.todo ≡ q ∷ todo → is_rouse_step q ≡ false → of_thread t (adders (q ∷ todo)) ≤ of_thread t (adders todo) → of_thread t (adders p.todo) ≤ of_thread t (adders now.todo)
  same-adds q todo at other fewer =
      let list = O.behind f m e law s how t few q todo at other in
      let first : of_thread t (adders p.todo) ≡ of_thread t (adders (q ∷ todo)) = ap (λ (z : Todos). of_thread t (adders z)) at in
      omega (arith, list, first, fewer)

  -- with nothing on its list it had nothing of the thread
  still-there : p.todo ≡ [] → parked later ≡ parked f → 0 < places f t → ⊥
  still-there at put some =
      let none = now-none in
      let sum = sums in
      let idle = O.idle-runs f m e law s how t few at in
      let bare = O.idle-adds f m e law s how t few at in
      let sleeping = slept (idle-awake f m e law at) in
      omega (arith, put, none, sum, idle, bare, sleeping, some, gone)

  -- a thread that is taken lies with the processor
  took : p.todo ≡ [] → IsTaken f e → 0 < places f t → ⊥
  took at first some = which (t == first.thread) refl
    where
      c : Context
      c = to_kill (is_cut (scheduler f) first.thread) first.parked

      context : now.context ≡ (after_take f.image p (Exchange.thread c first.told)).context
      context = now-context f m e law [] at ∙ ap (λ (mv : Exchange). (after_take f.image p mv).context) first.moved

      thread-of : (told : Option Told) → (after_take f.image p (Exchange.thread c told)).context.thread ≡ c.thread
      thread-of None = ap (λ (d : Context). d.thread) (take-context f.image p c)
      thread-of (Some w) = ap (λ (h : Held). h.0) (resumed-held f.image c w)

      ended-of : (told : Option Told) → (after_take f.image p (Exchange.thread c told)).context.ended ≡ c.ended
      ended-of None = ap (λ (d : Context). d.ended) (take-context f.image p c)
      ended-of (Some w) = ap (λ (h : Held). h.2) (resumed-held f.image c w)

      kill-ended : (b : Bool) (d : Context) → (to_kill b d).ended ≡ d.ended
      kill-ended true d = refl
      kill-ended false d = refl

      still : is_over now.context ≡ false
      still =
          rests-on now.context
          (ap (λ (c : Context). c.ended) context
          ∙ (ended-of first.told ∙ (kill-ended (is_cut (scheduler f) first.thread) first.parked ∙ (law.rel.contexts.parked first.thread first.parked first.there).2)))

      which : (b : Bool) → (t == first.thread) ≡ b → ⊥
      which true same =
          let steps = takes-runs f.image p e at (subst IsThread (sym first.moved) tt) in
          let thread : now.context.thread ≡ t =
          ap (λ (c : Context). c.thread) context
          ∙ (thread-of first.told ∙ (kill-thread (is_cut (scheduler f) first.thread) first.parked ∙ (first.same ∙ sym (eqb-true t first.thread same)))) in
          let runs-it : runs_on t now ≡ true = λ i. (steps i && eq-eqb now.context.thread t thread i) && not (still i) in
          let one = ap one_if runs-it in
          let none = now-none in
          omega (arith, one, none)
      which false other =
          let put : parked later ≡ parked f =
          ap (λ (z : Scheduler). one_if (is_some (parked_at z t))) first.after ∙ ap (λ (o : Option Context). one_if (is_some o)) (get_or-set_other (scheduler f).parked first.thread t None None (eqb-false t first.thread other)) in
          still-there at put some

  idle-took : p.todo ≡ [] → Idles f e → 0 < places f t → ⊥
  idle-took at (takes first) some = took at first some
  idle-took at (tends is) some =
      let put : parked later ≡ parked f = ap (λ (z : Scheduler). one_if (is_some (parked_at z t))) (sched-else f m e law (ap (λ i. same_site i Site.scheduler) is.site)) in
      still-there at put some

  -- an own part that is put back is parked
  put-there : (b : Bool) (c : Context) → (c.thread == t) ≡ true → one_if (is_some (parked_at (put_back (scheduler f) b c) t)) ≡ 1
  put-there b c same =
      let long = law.rel.scheduler.parked in
      let equal : t ≡ c.thread = sym (eqb-true c.thread t same) in
      ap (λ (o : Option Context). one_if (is_some o)) (get_or-set_at (scheduler f).parked c.thread t (Some c) None equal (omega (arith, few, long, equal)))

  put-other : (b : Bool) (c : Context) → (c.thread == t) ≡ false → is_some (parked_at (put_back (scheduler f) b c) t) ≡ is_some (parked_at (scheduler f) t)
  put-other b c other = ap is_some (get_or-set_other (scheduler f).parked c.thread t (Some c) None (λ same. true≢false (sym (eq-eqb c.thread t (sym same)) ∙ other)))

  parks : (todo : Todos) → p.todo ≡ Todo.park ∷ todo → 0 < places f t → ⊥
  parks todo at some = which (p.context.thread == t) refl
    where
      last : todo ≡ []
      last = (subst (Fits f.image p.context) at (law.rel.processors e.cpu law.by.named).list.fits).2

      which : (b : Bool) → (p.context.thread == t) ≡ b → ⊥
      which true same =
          let one : parked later ≡ 1 = ap (λ (z : Scheduler). one_if (is_some (parked_at z t))) (parks-after f m e law todo at) ∙ put-there (ready_in e.act) p.context same in omega (arith, one, gone)
      which false other =
          let put : parked later ≡ parked f = ap (λ (z : Scheduler). one_if (is_some (parked_at z t))) (parks-after f m e law todo at) ∙ ap one_if (put-other (ready_in e.act) p.context other) in
          let sleeping = slept (awake-act f m e law Todo.park todo at refl) in
          let lacks = no-thread (runs p) (p.context.thread == t) (not (is_over p.context)) other in
          let bare : of_thread t (adders p.todo) ≡ 0 = ap (λ (z : Todos). of_thread t (adders z)) at ∙ ap (λ (z : Todos). of_thread t (adders z)) last in
          let none = now-none in
          let sum = sums in
          omega (arith, put, sleeping, lacks, bare, none, sum, some, gone)

  finishes : (todo : Todos) → p.todo ≡ Todo.done ∷ todo → 0 < places f t → IsAway (thread_at s t)
  finishes todo at some =
      let put : parked later ≡ parked f = ap (λ (z : Scheduler). one_if (is_some (parked_at z t))) (sched-later f m e law (made-at f m e law (Todo.done ∷ todo) at) (FineAct.Unseen Unseen.Done) said) in
      let bare : of_thread t (adders p.todo) ≡ 0 = ap (λ (z : Todos). of_thread t (adders z)) list in
      let none = now-none in
      let sum = sums in
      let sleeping = slept (awake-act f m e law Todo.done todo at refl) in
      let is = ran (runs_on t p) refl (omega (arith, put, bare, none, sum, sleeping, some, gone)) in
      away-stays (apart-unseen f m e law (ap is_shown said) s how t) (rested is.0 is.1 is.2)
    where
      said : e.act ≡ FineAct.Unseen Unseen.Done
      said = made-says f m e law (Todo.done ∷ todo) at

      list : p.todo ≡ Todo.done ∷ []
      list = at ∙ ap (λ (z : Todos). Todo.done ∷ z) (subst (AreFramed f.image) at (law.rel.processors e.cpu law.by.named).frames).0

      rested : runs p ≡ true → p.context.thread ≡ t → is_over p.context ≡ false → IsAway (thread_at m t)
      rested running same on = by done.1
        where
          done : (p.context.pending ≡ []) × ((p.context.ended ≡ true) ⊎ ((thread_at m p.context.thread).doomed ≡ true))
          done = law.rel.contexts.done e.cpu law.by.named (ap (λ (z : Todos). list_any is_done z) list) (ap (λ (z : Todos). list_any is_sleep z) list)

          of : IsOf f m p.context
          of = (law.rel.contexts.running e.cpu law.by.named running).of on

          by : (p.context.ended ≡ true) ⊎ ((thread_at m p.context.thread).doomed ≡ true) → IsAway (thread_at m t)
          by (inl ended) = absurd (true≢false (sym (λ i. ended i && is_empty (done.0 i)) ∙ on))
          by (inr doomed) = (
            inr (ap (λ n. (thread_at m n).doomed) (sym same) ∙ doomed),
            ap (λ n. (thread_at m n).pending) (sym same) ∙ (sym (ap (λ (th : Thread). th.pending) (own-unless of (ap waits done.0))) ∙ done.0),
          )

  -- a mark in the hand is of no thread's turn
  paid-off : (todo : Todos) → p.todo ≡ Todo.paid ∷ todo → 0 < places f t → ⊥
  paid-off todo at some =
      let list : p.todo ≡ Todo.paid ∷ [] = at ∙ ap (λ (z : Todos). Todo.paid ∷ z) (subst (AreFramed f.image) at (law.rel.processors e.cpu law.by.named).frames).0 in
      let put : parked later ≡ parked f =
      ap (λ (z : Scheduler). one_if (is_some (parked_at z t))) (sched-later f m e law (made-at f m e law (Todo.paid ∷ todo) at) (FineAct.Unseen Unseen.Paid) (made-says f m e law (Todo.paid ∷ todo) at)) in
      let bare : of_thread t (adders p.todo) ≡ 0 = ap (λ (z : Todos). of_thread t (adders z)) list in
      let lacks = no-steps (runs p) (p.context.thread == t) (not (is_over p.context)) (ap (λ (z : Todos). has_steps z && not (times z)) list) in
      let none = now-none in
      let sum = sums in
      let sleeping = slept (awake-act f m e law Todo.paid todo at refl) in
      omega (arith, put, bare, lacks, none, sum, sleeping, some, gone)

  adds : (d : Context) (todo : Todos) → p.todo ≡ Todo.add d ∷ todo → 0 < places f t → IsAway (thread_at s t)
  adds d todo at some = which (d.thread == t) refl
    where
      act : FineAct
      act = FineAct.Unseen (Unseen.Add (to_thread d.thread))

      after : scheduler later ≡ put_back (scheduler f) true d
      after =
          sched-later f m e law (made-at f m e law (Todo.add d ∷ todo) at) act (made-says f m e law (Todo.add d ∷ todo) at)
          ∙ ap (λ (mv : Exchange). put_back (scheduler f) true (context_in mv)) (made-moves f m e law (Todo.add d ∷ todo) at)

      which : (b : Bool) → (d.thread == t) ≡ b → IsAway (thread_at s t)
      which true same =
          let one : parked later ≡ 1 = ap (λ (z : Scheduler). one_if (is_some (parked_at z t))) after ∙ put-there true d same in absurd (omega (arith, one, gone))
      which false other =
          let put : parked later ≡ parked f = ap (λ (z : Scheduler). one_if (is_some (parked_at z t))) after ∙ ap one_if (put-other true d other) in
          let list : of_thread t (adders (Todo.add d ∷ todo)) ≡ of_thread t (adders todo) = ap (λ b. if b then of_thread t (adders todo) + 1 else of_thread t (adders todo)) other in
          let sleeping = slept (awake-act f m e law (Todo.add d) todo at refl) in
          goes-away (Todo.add d) todo at refl refl (same-adds (Todo.add d) todo at refl (omega (arith, list))) (omega (arith, put)) (omega (arith, sleeping)) some

  -- one that goes to sleep lies there
  goes-to-sleep : (todo : Todos) → p.todo ≡ Todo.sleep ∷ todo → 0 < places f t → ⊥
  goes-to-sleep todo at some = which (p.context.thread == t) refl
    where
      after : sleeps later ≡ one_if (is_some (slice_index_or (slice_set (joins f).asleep p.context.thread (Some p.context)) t None))
      after =
          ap (λ (j : Joins). one_if (is_some (asleep_at j t)))
          (joins-later f m e law (made-at f m e law (Todo.sleep ∷ todo) at) (FineAct.Unseen Unseen.Sleep) (made-says f m e law (Todo.sleep ∷ todo) at)
          ∙ ap (λ (mv : Exchange). join_after (joins f) (FineAct.Unseen Unseen.Sleep) mv) (made-moves f m e law (Todo.sleep ∷ todo) at))

      which : (b : Bool) → (p.context.thread == t) ≡ b → ⊥
      which true same =
          let long = law.rel.joins.asleep in
          let equal : t ≡ p.context.thread = sym (eqb-true p.context.thread t same) in
          let one : sleeps later ≡ 1 = after ∙ ap (λ (o : Option Context). one_if (is_some o)) (get_or-set_at (joins f).asleep p.context.thread t (Some p.context) None equal (omega (arith, few, long, equal))) in
          omega (arith, one, gone)
      which false other =
          let kept : sleeps later ≡ sleeps f =
          after ∙ ap (λ (o : Option Context). one_if (is_some o)) (get_or-set_other (joins f).asleep p.context.thread t (Some p.context) None (λ same. eqb-false p.context.thread t other (sym same))) in
          let put : parked later ≡ parked f = ap (λ (z : Scheduler). one_if (is_some (parked_at z t))) (sched-else f m e law (ap (λ i. same_site i Site.scheduler) (made-at f m e law (Todo.sleep ∷ todo) at))) in
          let lacks = no-thread (runs p) (p.context.thread == t) (not (is_over p.context)) other in
          let adds = same-adds Todo.sleep todo at refl (omega arith) in
          let none = now-none in
          let sum = sums in
          omega (arith, kept, put, lacks, adds, none, sum, some, gone)

  rouses-one : (who : ℕ) (todo : Todos) → p.todo ≡ Todo.rouse who ∷ todo → 0 < places f t → (b : Bool) → is_void e.act ≡ b → IsAway (thread_at s t)
  rouses-one who todo at some b found =
      goes-away (Todo.rouse who) todo at refl refl (adds-all b found) (omega (arith, put)) (by-void b found) some
    where
      put : parked later ≡ parked f
      put = ap (λ (z : Scheduler). one_if (is_some (parked_at z t))) (sched-else f m e law (ap (λ i. same_site i Site.scheduler) (made-at f m e law (Todo.rouse who ∷ todo) at)))

      first : of_thread t (adders p.todo) ≡ of_thread t (adders todo)
      first = ap (λ (z : Todos). of_thread t (adders z)) at

      more : (b : Bool) → of_thread t (adders todo) ≤ (if b then of_thread t (adders todo) + 1 else of_thread t (adders todo))
      more true = omega arith
      more false = omega arith

      adds-all : (b : Bool) → is_void e.act ≡ b → of_thread t (adders p.todo) ≤ of_thread t (adders now.todo)
      adds-all true k = let left = ap (of_thread t) (list f m e law who todo at true k) in let before = first in omega (arith, left, before)
      adds-all false k =
          let left = ap (of_thread t) (list f m e law who todo at false k) in
          let before = first in
          let least = more ((context_in e.moved).thread == t) in
          omega (arith, left, before, least)

      -- who is roused is to be added, so this one isn't
      by-void : (b : Bool) → is_void e.act ≡ b → sleeps f ≤ sleeps later
      by-void true k = let same = slept (ap is_sleeping (said f m e law who todo at true k)) in omega (arith, same)
      by-void false k = which (who == t) refl
        where
          which : (v : Bool) → (who == t) ≡ v → sleeps f ≤ sleeps later
          which true same =
              let (c, here, moved) = rouses-sleeper f m law.rel p e law.by.may law.taken who todo at k in
              let is = law.rel.contexts.asleep who c here in
              let left : of_thread t (adders now.todo) ≡ of_thread t (adders todo) + 1 =
              ap (of_thread t) (list f m e law who todo at false k)
              ∙ (ap (λ n. if n == t then of_thread t (adders todo) + 1 else of_thread t (adders todo)) (ap (λ (mv : Exchange). (context_in mv).thread) moved ∙ is.1)
              ∙ ap (λ v. if v then of_thread t (adders todo) + 1 else of_thread t (adders todo)) same) in
              let none = now-none in
              absurd (omega (arith, left, none))
          which false other =
              let kept : sleeps later ≡ sleeps f =
              ap (λ (l : List (Option Context)). one_if (is_some (slice_index_or l t None))) (sleepers f m e law who todo at k)
              ∙ ap (λ (o : Option Context). one_if (is_some o)) (get_or-set_other (joins f).asleep who t None None (λ same. eqb-false who t other (sym same))) in
              omega (arith, kept)

  -- a step that leaves who is parked, and who sleeps
  passing : (q : Todo) (todo : Todos) → p.todo ≡ q ∷ todo → is_end q ≡ false → is_sleep_step q ≡ false → is_rouse_step q ≡ false → moves_sleepers q ≡ false → of_thread t (adders (q ∷ todo)) ≤ of_thread t (adders todo)
      → parked later ≡ parked f → 0 < places f t → IsAway (thread_at s t)
  passing q todo at goes awake other calm fewer put some =
      let sleeping = slept (awake-act f m e law q todo at calm) in goes-away q todo at goes awake (same-adds q todo at other fewer) (omega (arith, put)) (omega (arith, sleeping)) some

  at-scheduler : (q : Todo) (todo : Todos) (act : FineAct) → e.site ≡ Site.scheduler → e.act ≡ act → parked_at (sched_after (scheduler f) act e.moved) t ≡ parked_at (scheduler f) t → parked later ≡ parked f
  at-scheduler q todo act site said same = ap (λ (z : Scheduler). one_if (is_some (parked_at z t))) (sched-later f m e law site act said) ∙ ap (λ (o : Option Context). one_if (is_some o)) same

  left-away : 0 < places f t → IsAway (thread_at s t)
  left-away some = by p.todo refl
    where
      by : (todo : Todos) → p.todo ≡ todo → IsAway (thread_at s t)
      by [] at = absurd (idle-took at (idles f m e law at) some)
      by (Todo.park ∷ todo) at = absurd (parks todo at some)
      by (Todo.done ∷ todo) at = finishes todo at some
      by (Todo.paid ∷ todo) at = absurd (paid-off todo at some)
      by (Todo.add d ∷ todo) at = adds d todo at some
      by (Todo.sleep ∷ todo) at = absurd (goes-to-sleep todo at some)
      by (Todo.rouse who ∷ todo) at = rouses-one who todo at some (is_void e.act) refl
      by (Todo.wake who told ∷ todo) at =
          passing (Todo.wake who told) todo at refl refl refl refl (omega arith)
          (at-scheduler (Todo.wake who told) todo _ (made-at f m e law (Todo.wake who told ∷ todo) at) (made-says f m e law (Todo.wake who told ∷ todo) at) refl) some
      by (Todo.tell_cut who ∷ todo) at =
          passing (Todo.tell_cut who) todo at refl refl refl refl (omega arith)
          (at-scheduler (Todo.tell_cut who) todo _ (made-at f m e law (Todo.tell_cut who ∷ todo) at) (made-says f m e law (Todo.tell_cut who ∷ todo) at) refl) some
      by (Todo.owe ∷ todo) at =
          passing Todo.owe todo at refl refl refl refl (omega arith) (at-scheduler Todo.owe todo _ (made-at f m e law (Todo.owe ∷ todo) at) (made-says f m e law (Todo.owe ∷ todo) at) refl) some
      by (Todo.show r rest ∷ todo) at =
          passing (Todo.show r rest) todo at refl refl refl refl (omega arith)
          (ap (λ (z : Scheduler). one_if (is_some (parked_at z t)))
          (sched-else f m e law (ap (λ i. same_site i Site.scheduler) (made-at f m e law (Todo.show r rest ∷ todo) at) ∙ todo-elsewhere f.image p (Todo.show r rest) todo refl tt))) some
      by (q ∷ todo) at =
          passing q todo at refl refl refl refl (omega arith)
          (ap (λ (z : Scheduler). one_if (is_some (parked_at z t)))
          (sched-else f m e law (ap (λ i. same_site i Site.scheduler) (made-at f m e law (q ∷ todo) at) ∙ todo-elsewhere f.image p q todo refl (is-placed f m e law q todo at)))) some

  pub away-now : IsAway (thread_at s t)
  away-now = by (places f t) refl
    where
      by : (n : ℕ) → places f t ≡ n → IsAway (thread_at s t)
      by zero q = was-away q
      by (suc n) q = left-away (omega (arith, q))

-- each thread index
pub away-part : (f : Fine) (m : State) (e : FineStep) (law : Lawful f m e) → Suits f m → InDomains f m → (s : State) (how : Leaves f m e s) → HasStep f m e s how → (t : ℕ) → t < THREADS
    → AwayIs (stepped f.image f.cpus f.processors f.sites e) s t
away-part f m e law suits all s how has t few = record { away = λ gone. away-now f m e law suits all s how has t few gone }
