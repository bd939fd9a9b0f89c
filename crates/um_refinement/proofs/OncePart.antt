-- An own part lies in one place at most, after every lawful step.
use Rattle.um_refinement.proofs.Words.{List, AreBlocks, goes_on_by, sched_after, ◌≡◌, ℕ, zero, suc, ◌+◌, ◌<◌, ◌≤◌, Bool, true, false, [], ◌∷◌, Option, Some, None, refl, sym, ap, ◌∙◌, subst, arith, eq-eqb, ℤ, ◌==◌, ◌&&◌, if◌then◌else◌, is_some, not, slice_index_or, slice_set, and_parts, eqb-false, eqb-true, not-true, true≢false, get_or-set_other, Told, THREADS, Mode, Row, ThreadIx, Pending, Steps, to_thread, State, FineAct, Unseen, context_in, ready_in, begins_cleaning, Context, after_take, Todo, Todos, Processor, Scheduler, parked_at, put_back, same_site, Exchange, FineStep, Site, Fine, one_if, over_processors, scheduler, adders, has_steps, of_thread, runs, runs_thread, Fits, is_over, IsOf, places, runs_on}
use Rattle.um_words.specs.declared.fine.Mark.{Mark}
use Rattle.um_fine.specs.Answers.{is_void}
use Rattle.um_fine.specs.Joins.{Joins, asleep_at, join_after}
use Rattle.um_fine.specs.Places.{armed_for, settling}
use Rattle.um_fine.specs.Scheduler.{is_cut, to_kill}
use Rattle.um_refinement.specs.Fine.{joins}
use Rattle.um_refinement.specs.Lists.{times}
use Rattle.um_refinement.specs.Timing.{IsHand}
use Rattle.um_refinement.proofs.Kept.{rouses-sleeper}
use Rattle.um_refinement.proofs.ParkedPart.{asleep-same, awake-act, idle-awake, is_sleeping, joins-later, moves_sleepers}
use Rattle.um_refinement.proofs.Taking.{Idles, IsTaken, idles, kill-thread, parks-after, takes, tends}
use Rattle.um_refinement.proofs.CleanSteps.{adds-one}
use Rattle.um_refinement.proofs.ContextsPart.{is_shown, not-idle, take-context, now-context, quiet-context, read-only}
use Rattle.um_refinement.proofs.Continued.{Held, resumed-held}
use Rattle.um_refinement.proofs.Erased.{around}
use Rattle.um_refinement.proofs.FirstThreads.{one-most}
use Rattle.um_refinement.proofs.HeldRows.{some-part}
use Rattle.um_refinement.proofs.Leaves.{Beside, Lawful, Leaves, beside, cuts, expires, leaves, ticks, times_out, cleans, drops, event, nothing, passes, recycles, resumes}
use Rattle.um_refinement.proofs.ListAdders.{is_rouse_step, next-adders, takes-adders}
use Rattle.um_refinement.proofs.ListGrips.{next-thread, read-rests}
use Rattle.um_refinement.proofs.ListRuns.{ends-rests, goes-runs, takes-none}
use Rattle.um_refinement.proofs.ListGrowth.{is_end}
use Rattle.um_refinement.proofs.Offered.{runs-first, Shows, behind-is, shown-on}
use Rattle.um_refinement.proofs.PartsElsewhere.{starts-apart}
use Rattle.um_refinement.proofs.PlacesFacts.{set-none}
use Rattle.um_refinement.proofs.ResumeSteps.{some-is}
use Rattle.um_refinement.proofs.Rousing.{list, said, sleepers}
use Rattle.um_refinement.proofs.RunningPart.{todo-elsewhere}
use Rattle.um_refinement.proofs.SchedulerSteps.{made-at, made-moves, made-says, sched-else, sched-later}
use Rattle.um_refinement.proofs.StepReads.{is-behind, is-placed, reads-last, behind_first, shows_first}
use Rattle.um_refinement.proofs.StepsLeft.{drops-on, passes-on, rests-on}
use Rattle.um_refinement.proofs.Sums.{over-changed}

never : (a b c : Bool) → c ≡ false → one_if ((a && b) && c) ≡ 0
never true true false h = refl
never true false false h = refl
never false b false h = refl
never a b true h = absurd (true≢false h)

pub no-thread : (a b c : Bool) → b ≡ false → one_if ((a && b) && c) ≡ 0
no-thread true false c h = refl
no-thread false false c h = refl
no-thread a true c h = absurd (true≢false h)

pub no-steps : (a b c : Bool) → a ≡ false → one_if ((a && b) && c) ≡ 0
no-steps false b c h = refl
no-steps true b c h = absurd (true≢false h)

module _ (f : Fine) (m : State) (e : FineStep) (law : Lawful f m e) (s : State) (how : Leaves f m e s) (t : ℕ) (few : t < THREADS) where
  open around f e use {later, processor as p, now}

  abbrev pub lies : Processor → ℕ
  lies z = one_if (runs_on t z) + of_thread t (adders z.todo)

  abbrev pub parked : Fine → ℕ
  parked g = one_if (is_some (parked_at (scheduler g) t))

  abbrev pub sleeps : Fine → ℕ
  sleeps g = one_if (is_some (asleep_at (joins g) t))

  pub sums : over_processors later lies + lies p ≡ over_processors f lies + lies now
  sums = over-changed f e lies law.by.named

  was : over_processors f lies + parked f + sleeps f ≤ 1
  was = law.rel.contexts.once t few

  -- who sleeps does so after each step but a sleep and a rouse
  pub slept : is_sleeping e.act ≡ false → sleeps later ≡ sleeps f
  slept awake = ap (λ (l : List (Option Context)). one_if (is_some (slice_index_or l t None))) (asleep-same f m e law awake)

  open is-behind f m e law use {frame}

  -- A thread whose steps are over stays so while its processor goes on.
  pub stays-over : (q : Todo) (todo : Todos) → p.todo ≡ q ∷ todo → is_end q ≡ false → is_over p.context ≡ true → is_over now.context ≡ true
  stays-over q todo at goes over = by s how
    where
      off : (is_over p.context ≡ false) → is_over now.context ≡ true
      off on = absurd (true≢false (sym over ∙ on))

      quiet-over : (q : Todo) → p.todo ≡ q ∷ todo → is_end q ≡ false → is_shown e.act ≡ false → is_over now.context ≡ true
      quiet-over Todo.sleep at goes quiet = ap is_over (now-context f m e law (Todo.sleep ∷ todo) at)
      quiet-over r at goes quiet = ap is_over (quiet-context f m e law r todo at goes refl quiet).1 ∙ over

      kept : (r : Todo) (more : Todos) → p.todo ≡ r ∷ more → (goes_on_by f.image p e (r ∷ more)).context ≡ p.context → is_over now.context ≡ true
      kept r more there same = ap is_over (now-context f m e law (r ∷ more) there ∙ same) ∙ over

      on-beside : (t x : ℕ) (r : Pending) → Beside f m e t x r → is_over now.context ≡ true
      on-beside _ _ _ (cuts who site before x more there inside few said) = kept (Todo.look who site before) more there refl
      on-beside _ _ _ (times_out deadline site x who more there inside few said) = kept (Todo.handle deadline (Mark.Thread who site)) more there refl
      on-beside _ _ _ (expires deadline x more there inside said) = kept (Todo.handle deadline (Mark.Timer x)) more there refl
      on-beside _ _ _ (ticks idle said) = absurd (not-idle f m e law q todo at idle)
      on-beside _ _ _ (leaves more there said) = kept Todo.leave more there refl

      by : (z : State) → Leaves f m e z → is_over now.context ≡ true
      by _ (nothing u said) = quiet-over q at goes (ap is_shown said)
      by _ (event r rest more x h shown is) = off (shown-on h)
      by _ (resumes c told rest idle moved said) = absurd (not-idle f m e law q todo at idle)
      by _ (passes who x rest more h said) =
          off (passes-on f.image p.context who more (subst (Fits f.image p.context) h.at (law.rel.processors e.cpu law.by.named).list.fits).0)
      by _ (drops from x rest more h said) =
          off (drops-on f.image p.context more (subst (Fits f.image p.context) h.at (law.rel.processors e.cpu law.by.named).list.fits))
      by _ (cleans who x rest more h said) = kept (Todo.clean_pair who x) more h.at refl
      by _ (recycles x rest more there l said chosen) = kept (Todo.recycle x) more there refl
      by _ (beside u x r made chosen started) = on-beside u x r made

  -- so it runs no more threads than before
  runs-less : (q : Todo) (todo : Todos) → p.todo ≡ q ∷ todo → is_end q ≡ false → one_if (runs_on t now) ≤ one_if (runs_on t p)
  runs-less q todo at goes = by (is_over p.context) refl
    where
      thread : now.context.thread ≡ p.context.thread
      thread = next-thread f.image p e q todo at goes

      runs-same : runs now ≡ runs p
      runs-same =
          goes-runs f.image p e q todo at goes (frame q todo at) (reads-last f m e law q todo at) (subst (AreBlocks f.image) at (law.rel.processors e.cpu law.by.named).blocks)

      same : one_if (runs_on t now) ≡ one_if ((runs p && (p.context.thread == t)) && not (is_over now.context))
      same = λ i. one_if ((runs-same i && (thread i == t)) && not (is_over now.context))

      lacks : is_over now.context ≡ true → one_if (runs_on t now) ≤ one_if (runs_on t p)
      lacks over = let none = never (runs p) (p.context.thread == t) (not (is_over now.context)) (ap not over) in omega (arith, same, none)

      by : (b : Bool) → is_over p.context ≡ b → one_if (runs_on t now) ≤ one_if (runs_on t p)
      by true over = lacks (stays-over q todo at goes over)
      by false on = which (is_over now.context) refl
        where
          which : (c : Bool) → is_over now.context ≡ c → one_if (runs_on t now) ≤ one_if (runs_on t p)
          which true over = lacks over
          which false still =
              let first : one_if ((runs p && (p.context.thread == t)) && not (is_over now.context)) ≡ one_if ((runs p && (p.context.thread == t)) && true) =
              ap (λ b. one_if ((runs p && (p.context.thread == t)) && not b)) still in
              let last : one_if (runs_on t p) ≡ one_if ((runs p && (p.context.thread == t)) && true) = ap (λ b. one_if ((runs p && (p.context.thread == t)) && not b)) on in
              omega (arith, same, first, last)

  pub behind : (q : Todo) (todo : Todos) → p.todo ≡ q ∷ todo → is_rouse_step q ≡ false → of_thread t (adders now.todo) ≡ of_thread t (adders todo)
  behind q todo at other = ap (of_thread t) (next-adders f.image p e q todo at other (frame q todo at) (reads-last f m e law q todo at))

  -- a step that neither adds nor starts a thread
  goes-on : (q : Todo) (todo : Todos) → p.todo ≡ q ∷ todo → is_end q ≡ false → is_rouse_step q ≡ false → moves_sleepers q ≡ false → of_thread t (adders todo) ≤ of_thread t (adders (q ∷ todo)) → parked later ≡ parked f
      → places later t ≤ 1
  goes-on q todo at goes other awake fewer same =
      let all = sums in let before = was in
      let less = runs-less q todo at goes in
      let after = behind q todo at other in
      let list : of_thread t (adders p.todo) ≡ of_thread t (adders (q ∷ todo)) = ap (λ (z : Todos). of_thread t (adders z)) at in
      let sleepers = slept (awake-act f m e law q todo at awake) in
      omega (arith, all, before, less, after, list, fewer, same, sleepers)

  -- who is started next lies nowhere
  unplaced : (who : ThreadIx) (script : ℕ) (stack : Row) (priority : ℤ) (mode : Mode) (rest : Steps) (todo : Todos)
      → Shows f m e.cpu e (Pending.Start who script stack priority mode) rest todo → who.0 ≡ t → over_processors f lies + parked f + sleeps f ≡ 0
  unplaced who script stack priority mode rest todo h same = by (places f t) refl
    where
      apart : (c : Context) → IsOf f m c → is_over c ≡ false → c.thread ≡ t → ⊥
      apart c of on at = starts-apart f m e law c of on (Pending.Start who script stack priority mode) rest todo h tt (same ∙ sym at)

      lies-there : (b : Bool) → is_some (parked_at (scheduler f) t) ≡ b → (d : Bool) → is_some (asleep_at (joins f) t) ≡ d → 0 < places f t → ⊥
      lies-there true q d r some =
          let c = some-is (parked_at (scheduler f) t) q in
          let is = law.rel.contexts.parked t c.0 c.1 in
          apart c.0 is.0 (rests-on c.0 is.2) is.1
      lies-there false q true r some =
          let c = some-is (asleep_at (joins f) t) r in
          let is = law.rel.contexts.asleep t c.0 c.1 in
          apart c.0 is.0 (rests-on c.0 is.2) is.1
      lies-there false q false r some =
          let none : parked f ≡ 0 = ap one_if q in
          let awake : sleeps f ≡ 0 = ap one_if r in
          let k = some-part (λ j. lies (f.processors j)) f.cpus (omega (arith, some, none, awake)) in with-processor k.0 k.1 k.2
        where
          with-processor : (k : ℕ) → k < f.cpus → 0 < lies (f.processors k) → ⊥
          with-processor k l some = which (runs_on t (f.processors k)) refl
            where
              which : (b : Bool) → runs_on t (f.processors k) ≡ b → ⊥
              which true runs-it =
                  let all = and_parts (runs_thread t (f.processors k)) _ runs-it in
                  let parts = and_parts _ _ all.0 in
                  let on = not-true _ all.1 in
                  apart (f.processors k).context ((law.rel.contexts.running k l parts.0).of on) on (eqb-true (f.processors k).context.thread t parts.1)
              which false off =
                  let none : one_if (runs_on t (f.processors k)) ≡ 0 = ap one_if off in
                  let c = adds-one t (f.processors k).todo (omega (arith, some, none)) in
                  let is = law.rel.contexts.added k c.0 l c.1 in
                  apart c.0 is.0 (rests-on c.0 is.1) c.2

      by : (n : ℕ) → places f t ≡ n → over_processors f lies + parked f + sleeps f ≡ 0
      by zero q = q
      by (suc n) q = absurd (lies-there (is_some (parked_at (scheduler f) t)) refl (is_some (asleep_at (joins f) t)) refl (omega (arith, q)))

  -- an event
  shows : (q : Pending) (rest : Steps) (todo : Todos) → p.todo ≡ Todo.show q rest ∷ todo → parked later ≡ parked f → places later t ≤ 1
  shows q rest todo at same = by s how
    where
      plain : of_thread t (adders todo) ≡ 0 → places later t ≤ 1
      plain none = goes-on (Todo.show q rest) todo at refl refl refl (omega (arith, none)) same

      settled : (o : Option ℕ) (r : Pending) → of_thread t (adders (settling f.image p.context o r)) ≡ 0
      settled None r = refl
      settled (Some deadline) r = refl

      started : (r : Pending) (more : Steps) (x : ℕ) → Shows f m e.cpu e r more todo → places later t ≤ 1
      started (Pending.Start who script stack priority mode) more x h = which (who.0 == t) refl
        where
          list : of_thread t (adders todo) ≡ (if who.0 == t then 0 + 1 else 0)
          list = ap (λ (z : Todos). of_thread t (adders z)) (behind-is h)

          which : (b : Bool) → (who.0 == t) ≡ b → places later t ≤ 1
          which true here =
              let none = unplaced who script stack priority mode more todo h (eqb-true who.0 t here) in
              let all = sums in
              let less = runs-less (Todo.show q rest) todo at refl in
              let after = behind (Todo.show q rest) todo at refl in
              let sleepers = slept (awake-act f m e law (Todo.show q rest) todo at refl) in
              let one : (if who.0 == t then 0 + 1 else 0) ≡ 1 = ap (λ b. if b then 0 + 1 else 0) here in
              omega (arith, none, all, less, after, list, one, same, sleepers)
          which false other = plain (list ∙ ap (λ b. if b then 0 + 1 else 0) other)
      started (Pending.Work a ask) more x h = plain (ap (λ (z : Todos). of_thread t (adders z)) (behind-is h) ∙ settled (armed_for f.image p.context (Pending.Work a ask)) (Pending.Work a ask))
      started (Pending.Join who timeout) more x h =
          plain (ap (λ (z : Todos). of_thread t (adders z)) (behind-is h) ∙ settled (armed_for f.image p.context (Pending.Join who timeout)) (Pending.Join who timeout))
      started (Pending.FutexWait a value timeout) more x h =
          plain (ap (λ (z : Todos). of_thread t (adders z)) (behind-is h) ∙ settled (armed_for f.image p.context (Pending.FutexWait a value timeout)) (Pending.FutexWait a value timeout))
      started r more x h = plain (ap (λ (z : Todos). of_thread t (adders z)) (behind-is h))

      by : (z : State) → Leaves f m e z → places later t ≤ 1
      by _ (nothing u said) =
          plain (ap (λ (z : Todos). of_thread t (adders z))
          ((subst (Fits f.image p.context) at (law.rel.processors e.cpu law.by.named).list.fits).1
          ∙ read-rests f.image p p.context q e.act (made-says f m e law (Todo.show q rest ∷ todo) at) (read-only f m e law q (made-says f m e law (Todo.show q rest ∷ todo) at) (ap is_shown said))))
      by _ (event r more later-todo x h shown is) = started r more x (subst (λ (z : Todos). Shows f m e.cpu e r more z) (ap behind_first (sym h.at ∙ at)) h)
      by _ (resumes c told more idle moved said) = absurd (true≢false (ap has_steps (sym at ∙ idle)))
      by _ (passes who x more l h said) = absurd (true≢false (ap shows_first (sym at ∙ h.at)))
      by _ (drops from x more l h said) = absurd (true≢false (ap shows_first (sym at ∙ h.at)))
      by _ (cleans who x more l h said) = absurd (true≢false (ap shows_first (sym at ∙ h.at)))
      by _ (recycles x more l there few said chosen) = absurd (true≢false (ap shows_first (sym at ∙ there)))
      by _ (beside u x r made chosen began) = on-beside u x r made
        where
          on-beside : (u x : ℕ) (r : Pending) → Beside f m e u x r → places later t ≤ 1
          on-beside _ _ _ (cuts who site before x l there inside few said) = absurd (true≢false (ap shows_first (sym at ∙ there)))
          on-beside _ _ _ (times_out deadline site x who l there inside few said) = absurd (true≢false (ap shows_first (sym at ∙ there)))
          on-beside _ _ _ (expires deadline x l there inside said) = absurd (true≢false (ap shows_first (sym at ∙ there)))
          on-beside _ _ _ (ticks idle said) = absurd (not-idle f m e law (Todo.show q rest) todo at idle)
          on-beside _ _ _ (leaves l there said) = absurd (true≢false (ap shows_first (sym at ∙ there)))

  -- nothing is on its list
  pub idle-runs : p.todo ≡ [] → one_if (runs_on t p) ≡ 0
  idle-runs at = no-steps (runs p) (p.context.thread == t) (not (is_over p.context)) (ap (λ (z : Todos). has_steps z && not (times z)) at)

  pub idle-adds : p.todo ≡ [] → of_thread t (adders p.todo) ≡ 0
  idle-adds at = ap (λ (z : Todos). of_thread t (adders z)) at

  now-adds : p.todo ≡ [] → of_thread t (adders now.todo) ≡ 0
  now-adds at = ap (of_thread t) (takes-adders f.image p e at)

  -- a thread is taken
  taken : p.todo ≡ [] → IsTaken f e → places later t ≤ 1
  taken at first = which (t == first.thread) refl
    where
      after : parked later ≡ one_if (is_some (slice_index_or (slice_set (scheduler f).parked first.thread None) t None))
      after = ap (λ (z : Scheduler). one_if (is_some (parked_at z t))) first.after

      c : Context
      c = to_kill (is_cut (scheduler f) first.thread) first.parked

      thread : now.context.thread ≡ first.thread
      thread =
          ap (λ (c : Context). c.thread) (now-context f m e law [] at ∙ ap (λ (mv : Exchange). (after_take f.image p mv).context) first.moved)
          ∙ (by first.told ∙ (kill-thread (is_cut (scheduler f) first.thread) first.parked ∙ first.same))
        where
          by : (told : Option Told) → (after_take f.image p (Exchange.thread c told)).context.thread ≡ c.thread
          by None = ap (λ (d : Context). d.thread) (take-context f.image p c)
          by (Some w) = ap (λ (h : Held). h.0) (resumed-held f.image c w)

      which : (b : Bool) → (t == first.thread) ≡ b → places later t ≤ 1
      which true same =
          let gone : slice_index_or (slice_set (scheduler f).parked first.thread None) t None ≡ None =
          subst (λ n. slice_index_or (slice_set (scheduler f).parked first.thread None) n None ≡ None) (sym (eqb-true t first.thread same)) (set-none (scheduler f).parked first.thread) in
          let none = after ∙ ap (λ (o : Option Context). one_if (is_some o)) gone in
          let all = sums in
          let before = was in
          let most = one-most (runs_on t now) in
          let there : parked f ≡ 1 = ap (λ n. one_if (is_some (parked_at (scheduler f) n))) (eqb-true t first.thread same) ∙ ap (λ (o : Option Context). one_if (is_some o)) first.there in
          let r = idle-runs at in
          let a = idle-adds at in
          let n = now-adds at in
          let sleepers = slept (idle-awake f m e law at) in
          omega (arith, none, all, before, most, there, r, a, n, sleepers)
      which false other =
          let apart = eqb-false t first.thread other in
          let kept = after ∙ ap (λ (o : Option Context). one_if (is_some o)) (get_or-set_other (scheduler f).parked first.thread t None None apart) in
          let all = sums in
          let before = was in
          let lacks = no-thread (runs now) (now.context.thread == t) (not (is_over now.context)) (ap (λ n. n == t) thread ∙ swapped) in
          let r = idle-runs at in
          let a = idle-adds at in
          let n = now-adds at in
          let sleepers = slept (idle-awake f m e law at) in
          omega (arith, kept, all, before, lacks, r, a, n, sleepers)
        where
          swapped : (first.thread == t) ≡ false
          swapped = by (first.thread == t) refl
            where
              by : (b : Bool) → (first.thread == t) ≡ b → b ≡ false
              by false h = refl
              by true h = absurd (true≢false (sym (eq-eqb t first.thread (sym (eqb-true first.thread t h))) ∙ other))

  resting : p.todo ≡ [] → Idles f e → places later t ≤ 1
  resting at (takes first) = taken at first
  resting at (tends is) =
      let same = ap (λ (z : Scheduler). one_if (is_some (parked_at z t))) (sched-else f m e law (ap (λ i. same_site i Site.scheduler) is.site)) in
      let all = sums in let before = was in
      let lacks = no-steps (runs now) (now.context.thread == t) (not (is_over now.context)) (takes-none f.image p e at is.other is.quiet) in
      let r = idle-runs at in
      let a = idle-adds at in
      let n = now-adds at in
      let sleepers = slept (idle-awake f m e law at) in
      omega (arith, same, all, before, lacks, r, a, n, sleepers)

  -- the end of a turn
  pub ends : (q : Todo) (todo : Todos) → p.todo ≡ q ∷ todo → is_end q ≡ true → begins_cleaning e ≡ false → lies now ≡ 0
  ends q todo at over quiet =
      let none = ends-rests f.image p e q todo at over quiet in
      let runs-none = no-steps (runs now) (now.context.thread == t) (not (is_over now.context)) (ap (λ (z : Todos). has_steps z && not (times z)) none) in
      let adds-none : of_thread t (adders now.todo) ≡ 0 = ap (λ (z : Todos). of_thread t (adders z)) none in
      omega (arith, runs-none, adds-none)

  -- the thread of a processor that isn't over
  runs-it : (q : Todo) (todo : Todos) → p.todo ≡ q ∷ todo → (IsHand (q ∷ todo) → ⊥) → is_over p.context ≡ false → one_if (runs_on t p) ≡ one_if (p.context.thread == t)
  runs-it q todo at free on = (λ i. one_if ((runs-first law.rel law.by.named q todo at free i && (p.context.thread == t)) && not (on i))) ∙ ap one_if (both (p.context.thread == t))
    where
      both : (b : Bool) → (b && true) ≡ b
      both true = refl
      both false = refl

  -- what is put back
  put-rests : (b : Bool) (c : Context) → is_some (parked_at (put_back (scheduler f) b c) t) ≡ true → (c.thread == t) ≡ false → is_some (parked_at (scheduler f) t) ≡ true
  put-rests b c h other =
      ap is_some (sym (get_or-set_other (scheduler f).parked c.thread t (Some c) None (λ same. true≢false (sym (eq-eqb c.thread t (sym same)) ∙ other)))) ∙ h

  puts : (b : Bool) (c : Context) → parked later ≡ one_if (is_some (parked_at (put_back (scheduler f) b c) t)) → parked later ≤ parked f + one_if (c.thread == t)
  puts b c now-parked = by (c.thread == t) refl
    where
      by : (v : Bool) → (c.thread == t) ≡ v → parked later ≤ parked f + one_if v
      by true h = let most = one-most (is_some (parked_at (put_back (scheduler f) b c) t)) in omega (arith, now-parked, most)
      by false h = which (is_some (parked_at (put_back (scheduler f) b c) t)) refl
        where
          which : (w : Bool) → is_some (parked_at (put_back (scheduler f) b c) t) ≡ w → parked later ≤ parked f + 0
          which true q = let here = ap one_if (put-rests b c q h) in let one = ap one_if q in omega (arith, now-parked, here, one)
          which false q = let none = ap one_if q in omega (arith, now-parked, none)

  -- and one goes to sleep
  goes-to-sleep : (todo : Todos) → p.todo ≡ Todo.sleep ∷ todo → places later t ≤ 1
  goes-to-sleep todo at =
      let fits = subst (Fits f.image p.context) at (law.rel.processors e.cpu law.by.named).list.fits in
      let more = sleepers (p.context.thread == t) refl in
      let same = ap (λ (z : Scheduler). one_if (is_some (parked_at z t))) (sched-else f m e law (ap (λ i. same_site i Site.scheduler) (made-at f m e law (Todo.sleep ∷ todo) at))) in
      let none = never (runs now) (now.context.thread == t) (not (is_over now.context)) (ap (λ c. not (is_over c)) (now-context f m e law (Todo.sleep ∷ todo) at)) in
      let ran = runs-it Todo.sleep todo at (λ hand. hand) (rests-on p.context fits.1) in
      let list = behind Todo.sleep todo at refl in
      let before-list : of_thread t (adders p.todo) ≡ of_thread t (adders todo) = ap (λ (z : Todos). of_thread t (adders z)) at in
      let all = sums in let before = was in
      omega (arith, more, same, none, ran, list, before-list, all, before)
    where
      after : sleeps later ≡ one_if (is_some (slice_index_or (slice_set (joins f).asleep p.context.thread (Some p.context)) t None))
      after =
          ap (λ (j : Joins). one_if (is_some (asleep_at j t)))
          (joins-later f m e law (made-at f m e law (Todo.sleep ∷ todo) at) (FineAct.Unseen Unseen.Sleep) (made-says f m e law (Todo.sleep ∷ todo) at)
          ∙ ap (λ (mv : Exchange). join_after (joins f) (FineAct.Unseen Unseen.Sleep) mv) (made-moves f m e law (Todo.sleep ∷ todo) at))

      sleepers : (v : Bool) → (p.context.thread == t) ≡ v → sleeps later ≤ sleeps f + one_if v
      sleepers true h = let most = one-most (is_some (asleep_at (joins later) t)) in omega (arith, most)
      sleepers false h =
          let other = get_or-set_other (joins f).asleep p.context.thread t (Some p.context) None (λ same. eqb-false p.context.thread t h (sym same)) in
          let kept = after ∙ ap (λ (o : Option Context). one_if (is_some o)) other in
          omega (arith, kept)

  -- one that sleeps is taken from there, to be added
  rouses-one : (who : ℕ) (todo : Todos) → p.todo ≡ Todo.rouse who ∷ todo → places later t ≤ 1
  rouses-one who todo at = by (is_void e.act) refl
    where
      same : parked later ≡ parked f
      same = ap (λ (z : Scheduler). one_if (is_some (parked_at z t))) (sched-else f m e law (ap (λ i. same_site i Site.scheduler) (made-at f m e law (Todo.rouse who ∷ todo) at)))

      before-list : of_thread t (adders p.todo) ≡ of_thread t (adders todo)
      before-list = ap (λ (z : Todos). of_thread t (adders z)) at

      by : (b : Bool) → is_void e.act ≡ b → places later t ≤ 1
      by true void =
          let left = ap (of_thread t) (list f m e law who todo at true void) in
          let sleepers = slept (ap is_sleeping (said f m e law who todo at true void)) in
          let less = runs-less (Todo.rouse who) todo at refl in
          let first = before-list in
          let all = sums in
          let before = was in
          let kept = same in
          omega (arith, left, sleepers, less, first, all, before, kept)
      by false found =
          let (c, here, moved) = rouses-sleeper f m law.rel p e law.by.may law.taken who todo at found in
          let is = law.rel.contexts.asleep who c here in
          let left = ap (of_thread t) (list f m e law who todo at false found) in
          let now-left : of_thread t (adders now.todo) ≡ of_thread t (adders todo) + one_if (who == t) =
          left ∙ (ap (λ n. if n == t then of_thread t (adders todo) + 1 else of_thread t (adders todo)) (ap (λ (mv : Exchange). (context_in mv).thread) moved ∙ is.1) ∙ added (who == t)) in
          let less = runs-less (Todo.rouse who) todo at refl in
          let first = before-list in
          let all = sums in
          let before = was in
          let kept = same in
          let fewer = gone c here (who == t) refl in
          omega (arith, now-left, less, first, all, before, kept, fewer)
        where
          added : (b : Bool) → (if b then of_thread t (adders todo) + 1 else of_thread t (adders todo)) ≡ of_thread t (adders todo) + one_if b
          added true = refl
          added false = omega arith

          after : sleeps later ≡ one_if (is_some (slice_index_or (slice_set (joins f).asleep who None) t None))
          after = ap (λ (l : List (Option Context)). one_if (is_some (slice_index_or l t None))) (sleepers f m e law who todo at found)

          gone : (c : Context) → asleep_at (joins f) who ≡ Some c → (v : Bool) → (who == t) ≡ v → sleeps later + one_if v ≤ sleeps f
          gone c here true h =
              let none = after ∙ ap (λ (o : Option Context). one_if (is_some o)) (subst (λ n. slice_index_or (slice_set (joins f).asleep who None) n None ≡ None) (eqb-true who t h) (set-none (joins f).asleep who)) in
              let one : sleeps f ≡ 1 = ap (λ n. one_if (is_some (asleep_at (joins f) n))) (sym (eqb-true who t h)) ∙ ap (λ (o : Option Context). one_if (is_some o)) here in
              omega (arith, none, one)
          gone c here false h =
              let kept = after ∙ ap (λ (o : Option Context). one_if (is_some o)) (get_or-set_other (joins f).asleep who t None None (λ same. eqb-false who t h (sym same))) in
              omega (arith, kept)

  -- a step of the scheduler's that leaves who is parked
  beside-it : (q : Todo) (todo : Todos) (act : FineAct) → p.todo ≡ q ∷ todo → e.site ≡ Site.scheduler → e.act ≡ act → is_end q ≡ false → is_rouse_step q ≡ false → moves_sleepers q ≡ false
      → of_thread t (adders todo) ≤ of_thread t (adders (q ∷ todo)) → parked_at (sched_after (scheduler f) act e.moved) t ≡ parked_at (scheduler f) t → places later t ≤ 1
  beside-it q todo act at site said goes other awake fewer same =
      goes-on q todo at goes other awake fewer (ap (λ (z : Scheduler). one_if (is_some (parked_at z t))) (sched-later f m e law site act said) ∙ ap (λ (o : Option Context). one_if (is_some o)) same)

  -- the end of a turn, or of a mark in the hand
  turn-ends : (q : Todo) (todo : Todos) (act : FineAct) → p.todo ≡ q ∷ todo → e.site ≡ Site.scheduler → e.act ≡ act → is_end q ≡ true → moves_sleepers q ≡ false
      → begins_cleaning (record e { act = act }) ≡ false → parked_at (sched_after (scheduler f) act e.moved) t ≡ parked_at (scheduler f) t → places later t ≤ 1
  turn-ends q todo act at site said over awake quiet kept =
      let same = ap (λ (z : Scheduler). one_if (is_some (parked_at z t))) (sched-later f m e law site act said) ∙ ap (λ (o : Option Context). one_if (is_some o)) kept in
      let none = ends q todo at over (ap (λ a. begins_cleaning (record e { act = a })) said ∙ quiet) in
      let sleepers = slept (awake-act f m e law q todo at awake) in
      let all = sums in let before = was in
      omega (arith, same, none, sleepers, all, before)

  by-todo : (todo : Todos) → p.todo ≡ todo → places later t ≤ 1
  by-todo [] at = resting at (idles f m e law at)
  by-todo (Todo.park ∷ todo) at =
      let more = puts (ready_in e.act) p.context (ap (λ (z : Scheduler). one_if (is_some (parked_at z t))) (parks-after f m e law todo at)) in
      let none = ends Todo.park todo at refl (ap (λ a. begins_cleaning (record e { act = a })) (made-says f m e law (Todo.park ∷ todo) at)) in
      let ran = runs-it Todo.park todo at (λ hand. hand) (subst (Fits f.image p.context) at (law.rel.processors e.cpu law.by.named).list.fits).1 in
      let sleepers = slept (awake-act f m e law Todo.park todo at refl) in
      let all = sums in let before = was in
      omega (arith, more, none, ran, sleepers, all, before)
  by-todo (Todo.done ∷ todo) at = turn-ends Todo.done todo _ at (made-at f m e law (Todo.done ∷ todo) at) (made-says f m e law (Todo.done ∷ todo) at) refl refl refl refl
  by-todo (Todo.paid ∷ todo) at = turn-ends Todo.paid todo _ at (made-at f m e law (Todo.paid ∷ todo) at) (made-says f m e law (Todo.paid ∷ todo) at) refl refl refl refl
  by-todo (Todo.add d ∷ todo) at =
      let act = FineAct.Unseen (Unseen.Add (to_thread d.thread)) in
      let after = sched-later f m e law (made-at f m e law (Todo.add d ∷ todo) at) act (made-says f m e law (Todo.add d ∷ todo) at)
      ∙ ap (λ (mv : Exchange). put_back (scheduler f) true (context_in mv)) (made-moves f m e law (Todo.add d ∷ todo) at) in
      let more = puts true d (ap (λ (z : Scheduler). one_if (is_some (parked_at z t))) after) in
      let less = runs-less (Todo.add d) todo at refl in
      let list = behind (Todo.add d) todo at refl in
      let first : of_thread t (adders p.todo) ≡ of_thread t (adders todo) + one_if (d.thread == t) = ap (λ (z : Todos). of_thread t (adders z)) at ∙ added (d.thread == t) in
      let sleepers = slept (awake-act f m e law (Todo.add d) todo at refl) in
      let all = sums in let before = was in
      omega (arith, more, less, list, first, sleepers, all, before)
    where
      added : (b : Bool) → (if b then of_thread t (adders todo) + 1 else of_thread t (adders todo)) ≡ of_thread t (adders todo) + one_if b
      added true = refl
      added false = omega arith
  by-todo (Todo.sleep ∷ todo) at = goes-to-sleep todo at
  by-todo (Todo.rouse who ∷ todo) at = rouses-one who todo at
  by-todo (Todo.show q rest ∷ todo) at =
      shows q rest todo at
      (ap (λ (z : Scheduler). one_if (is_some (parked_at z t))) (sched-else f m e law (ap (λ i. same_site i Site.scheduler) (made-at f m e law (Todo.show q rest ∷ todo) at) ∙ todo-elsewhere f.image p (Todo.show q rest) todo refl tt)))
  by-todo (Todo.wake who told ∷ todo) at = beside-it (Todo.wake who told) todo _ at (made-at f m e law (Todo.wake who told ∷ todo) at) (made-says f m e law (Todo.wake who told ∷ todo) at) refl refl refl (omega arith) refl
  by-todo (Todo.tell_cut who ∷ todo) at = beside-it (Todo.tell_cut who) todo _ at (made-at f m e law (Todo.tell_cut who ∷ todo) at) (made-says f m e law (Todo.tell_cut who ∷ todo) at) refl refl refl (omega arith) refl
  by-todo (Todo.owe ∷ todo) at = beside-it Todo.owe todo _ at (made-at f m e law (Todo.owe ∷ todo) at) (made-says f m e law (Todo.owe ∷ todo) at) refl refl refl (omega arith) refl
  by-todo (q ∷ todo) at =
      goes-on q todo at refl refl refl (omega arith)
      (ap (λ (z : Scheduler). one_if (is_some (parked_at z t)))
      (sched-else f m e law (ap (λ i. same_site i Site.scheduler) (made-at f m e law (q ∷ todo) at) ∙ todo-elsewhere f.image p q todo refl (is-placed f m e law q todo at))))

  pub once-part : places later t ≤ 1
  once-part = by-todo p.todo refl
