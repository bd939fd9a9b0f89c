-- A step that shows no event leaves the point as it is. By such steps threads that were woken, cut, started or roused come into the scheduler's ready
-- list, as does the processor's own thread at the end of its turn. In the point's ready list they stand already.
use Rattle.std.proofs.Common.{◌≡◌, ◌⊎◌, inl, inr, ℕ, ◌+◌, ◌<◌, Bool, true, false, List, [], ◌∷◌, ◌++◌, map, Option, Some, None, refl, sym, ap, ◌∙◌, subst, arith, append_assoc, eq-eqb}
use Rattle.std.specs.Prelude.{if◌then◌else◌, is_some, nat_lt}
use Rattle.std.specs.List.{list_all, list_any}
use Rattle.std.proofs.lemmas.Bool.{and_parts, false≢true, ltb-true, true≢false}
use Rattle.um_base.specs.declared.ask.Told.{Told}
use Rattle.um_base.specs.declared.limits.TheConstants.{THREADS}
use Rattle.um_machine.specs.declared.pending.Pending.{Pending}
use Rattle.um_machine.specs.Order.{Steps, to_thread}
use Rattle.um_machine.specs.Services.{is_empty}
use Rattle.um_machine.specs.State.{thread_at}
use Rattle.um_invariants.specs.InOrder.{Point}
use Rattle.um_words.specs.declared.fine.FineAct.{FineAct}
use Rattle.um_words.specs.declared.fine.Mark.{Mark}
use Rattle.um_words.specs.declared.fine.Unseen.{Unseen}
use Rattle.um_fine.specs.Context.{Context}
use Rattle.um_fine.specs.Answers.{act_in, context_in, due_in, mark_in, ready_in, thread_in, woken_in}
use Rattle.um_fine.specs.Clock.{Clock}
use Rattle.um_fine.specs.Follows.{goes_on_by, told_all}
use Rattle.um_fine.specs.Follows as F
use Rattle.um_fine.specs.Places.{Todo, Todos}
use Rattle.um_fine.specs.Scheduler.{Scheduler, behind, parked_at, waits}
use Rattle.um_fine.specs.Sites.{same_site}
use Rattle.um_fine.specs.Steps.{Exchange, FineStep, Site}
use Rattle.um_refinement.specs.Cleaning.{AreBlocks}
use Rattle.um_refinement.specs.Fine.{Fine, clock, scheduler}
use Rattle.um_refinement.specs.Frames.{Behind}
use Rattle.um_refinement.specs.Lists.{adders, counted, has_steps, is_cut_told, is_sleep, wake_of}
use Rattle.um_refinement.specs.Relation.{ProcessorIs}
use Rattle.um_refinement.specs.Offers.{Fits, is_over}
use Rattle.um_refinement.specs.Threads as R
use Rattle.um_refinement.specs.Threads.{IsOf, IsRun, as_cut, places, runs_on}
use Rattle.um_refinement.proofs.AwayPart.{none-left}
use Rattle.um_refinement.proofs.Bounds.{AreBounded, AreThreads}
use Rattle.um_refinement.proofs.CallsProper.{AreProper}
use Rattle.um_refinement.proofs.ClockSteps.{clock-else, clock-later, is_timing, off-clock}
use Rattle.um_refinement.proofs.ContextsPart.{is_shown, is_sleep_step, now-context, quiet-context, read-only}
use Rattle.um_refinement.proofs.Erased.{around}
use Rattle.um_refinement.proofs.Leaves.{Lawful}
use Rattle.um_refinement.proofs.ListAdders.{is_rouse_step, next-adders}
use Rattle.um_refinement.proofs.ListDone.{says_done}
use Rattle.um_refinement.proofs.ListGrowth.{is_end}
use Rattle.um_refinement.proofs.ListRuns.{goes-on}
use Rattle.um_refinement.proofs.ListWakes.{Wakes, named, next-wakers, wakers, woken_by}
use Rattle.um_refinement.proofs.MemorySteps.{part-total}
use Rattle.um_refinement.proofs.PlacesFacts.{wake-told}
use Rattle.um_refinement.proofs.ResumeSteps.{TellsWaiters, some-is}
use Rattle.um_refinement.proofs.RunningPart.{is_scheduling, todo-elsewhere}
use Rattle.um_refinement.proofs.SchedulerSteps.{made-at, made-moves, made-says, sched-else, sched-later, sched-said}
use Rattle.um_refinement.proofs.StepReads.{is-behind, is-placed, last-read, reads-last}
use Rattle.um_order.proofs.ArmingOrder.{Plain, settles-plain}
use Rattle.um_order.proofs.ListCalm.{is_plain, next-calm, next-cutters, plain-calm, plain-cutters, reread-calm, reread-cutters}
use Rattle.um_order.proofs.ListShapes.{next-ends, next-shows}
use Rattle.um_order.proofs.Standing.{Begun, ComeAlone, Idles, Turns, back, comers, cutters, inside_of, is_calm, is_show, woken_of}
use Rattle.um_order.proofs.ParkedThreads.{waits-left, come-alone, own-waits, or-later, read-rests, lies-parked, not-added, not-asleep, not-run}
use Rattle.um_order.proofs.TurnEnds.{parks, dones}

module _ (f : Fine) (at : Point) (e : FineStep) (law : Lawful f at.state e) (one : f.cpus ≡ 1) (tells : TellsWaiters at.state) (proper : AreProper at.state.image at.state) (bounds : AreBounded f) where
  open around f e use {later, processor as p, now}

  abbrev s : Scheduler
  s = scheduler f

  abbrev t : ℕ
  t = p.context.thread

  frame : (q : Todo) (todo : Todos) → p.todo ≡ q ∷ todo → Behind f.image q todo
  frame = (is-behind f at.state e law).frame

  fits-at : (todo : Todos) → p.todo ≡ todo → Fits f.image p.context todo
  fits-at todo h = subst (Fits f.image p.context) h (law.rel.processors e.cpu law.by.named).list.fits

  module _ (was : Begun p s (clock f).marks at) (quiet : is_shown e.act ≡ false) (calm-word : (site : ℕ) (todo : Todos) → p.todo ≡ Todo.reread site ∷ todo → (thread_in e.word).aborted ≡ false) where
    turn : Turns p p.todo [] s (clock f).marks at
    turn = was.0

    -- no event is first on the list
    unread : (q : Pending) (rest : Steps) (todo : Todos) → p.todo ≡ Todo.show q rest ∷ todo → ⊥
    unread q rest todo list =
        let read = read-only f at.state e law q (made-says f at.state e law (Todo.show q rest ∷ todo) list) quiet in
        let none = turn.shows (ap is_empty (read-rests f at e law one tells proper bounds q rest todo list read)) in
        true≢false (sym (ap (list_any is_show) list) ∙ none)

    calm-behind : (q : Todo) (todo : Todos) → p.todo ≡ q ∷ todo → list_all is_calm todo ≡ true
    calm-behind q todo list = (and_parts (is_calm q) (list_all is_calm todo) (sym (ap (list_all is_calm) list) ∙ turn.calm)).1

    calm-first : (q : Todo) (todo : Todos) → p.todo ≡ q ∷ todo → is_calm q ≡ true
    calm-first q todo list = (and_parts (is_calm q) (list_all is_calm todo) (sym (ap (list_all is_calm) list) ∙ turn.calm)).0

    -- a step that changes at most the scheduler's ready list, the clock and the processor's list, if together they give the same ready threads
    ordinary : (q : Todo) (todo : Todos) → p.todo ≡ q ∷ todo → is_end q ≡ false → is_show q ≡ false → is_sleep_step q ≡ false → is_sleep q ≡ false → list_all is_calm now.todo ≡ true → ComeAlone now.todo
        → Plain (clock later).marks at.armings → s.ready ++ (comers p.todo ++ back p.context) ≡ (scheduler later).ready ++ (comers now.todo ++ back p.context) → Begun now (scheduler later) (clock later).marks at
    ordinary q todo list on plain awake sleepless calm alone armings ready = (
      record {
        runs = (goes-on f.image p e q todo list on (frame q todo list) (reads-last f at.state e law q todo list) (subst (AreBlocks f.image) list proc.blocks)).0;
        calm = calm;
        last = turn.last ∙ ap (λ (c : Context). Some (to_thread c.thread)) (sym same);
        ready = turn.ready ∙ (ready ∙ ap (λ (c : Context). (scheduler later).ready ++ (comers now.todo ++ back c)) (sym same));
        inside = turn.inside ∙ ap inside_of (sym same);
        shows = λ rests.
            let before : is_empty p.context.pending ≡ true = ap (λ (c : Context). is_empty c.pending) (sym same) ∙ rests in
            next-shows f.image p e q todo list (ap (λ (c : Context). c.pending) context ∙ none-left p.context.pending before) (frame q todo list)
            (or-later (is_show q) (list_any is_show todo) (sym (ap (list_any is_show) list) ∙ turn.shows before));
        ends = λ done.
            ap (λ (c : Context). c.ended) (now-context f at.state e law (q ∷ todo) list)
            ∙ next-ends f.image p e q todo list (fits-at (q ∷ todo) list) (λ h. absurd (true≢false (sym h ∙ plain))) sleepless (λ h. turn.ends (ap says_done list ∙ h)) done;
        told = λ h. ap (λ (c : Context). (thread_at at.state c.thread).told) same ∙ turn.told (ap (λ (c : Context). waits c.pending) (sym same) ∙ h);
        whole = λ h. ap (λ (c : Context). waits (thread_at at.state c.thread).pending) same ∙ turn.whole (ap (λ (c : Context). waits c.pending) (sym same) ∙ h);
        alone = alone;
        armings = armings;
      },
      was.1,
    )
      where
        noted : (n : Option ℕ) × (now.context ≡ record p.context { noted = n })
        noted = quiet-context f at.state e law q todo list on awake quiet

        same : now.context ≡ record p.context { noted = noted.0 }
        same = noted.1

        proc : ProcessorIs f at.state e.cpu
        proc = law.rel.processors e.cpu law.by.named

        context : (goes_on_by f.image p e (q ∷ todo)).context ≡ record p.context { noted = noted.0 }
        context = sym (now-context f at.state e law (q ∷ todo) list) ∙ same

    -- the threads that the list makes ready after the step
    coming : (q : Todo) (todo : Todos) → p.todo ≡ q ∷ todo → is_rouse_step q ≡ false → (cut : List ℕ) → cutters now.todo ≡ cut
        → comers now.todo ≡ woken_of (woken_by e q ++ wakers todo) ++ (cut ++ map (λ (c : Context). c.thread) (adders todo))
    coming q todo list off cut cuts =
        λ i.
        woken_of (next-wakers f.image p e q todo list (frame q todo list) (last-read f at.state e law q todo list) i)
        ++ (cuts i ++ map (λ (c : Context). c.thread) (next-adders f.image p e q todo list off (frame q todo list) (reads-last f at.state e law q todo list) i))

    elsewhere : (q : Todo) (todo : Todos) → p.todo ≡ q ∷ todo → is_scheduling q ≡ false → scheduler later ≡ s
    elsewhere q todo list off =
        sched-else f at.state e law
        (ap (λ i. same_site i Site.scheduler) (made-at f at.state e law (q ∷ todo) list) ∙ todo-elsewhere f.image p q todo off (is-placed f at.state e law q todo list))

    timeless : (q : Todo) (todo : Todos) → p.todo ≡ q ∷ todo → is_timing q ≡ false → Plain (clock later).marks at.armings
    timeless q todo list off =
        let left = clock-else f at.state e law (ap (λ i. same_site i Site.clock) (made-at f at.state e law (q ∷ todo) list) ∙ off-clock f.image p q todo off (is-placed f at.state e law q todo list)) in
        subst (λ (c : Clock). Plain c.marks at.armings) (sym left) turn.armings

    awaken : (q : Todo) (todo : Todos) → p.todo ≡ q ∷ todo → (ws : Wakes) → woken_by e q ++ wakers todo ≡ ws → wakers now.todo ≡ ws
    awaken q todo list ws is = next-wakers f.image p e q todo list (frame q todo list) (last-read f at.state e law q todo list) ∙ is

    added : (q : Todo) (todo : Todos) → p.todo ≡ q ∷ todo → is_rouse_step q ≡ false → adders now.todo ≡ adders todo
    added q todo list off = next-adders f.image p e q todo list off (frame q todo list) (reads-last f at.state e law q todo list)

    -- a step that makes nobody ready, and puts nobody on the list that gets ready
    plainly : (q : Todo) (todo : Todos) → p.todo ≡ q ∷ todo → is_end q ≡ false → is_show q ≡ false → is_sleep_step q ≡ false → is_sleep q ≡ false → is_rouse_step q ≡ false → list_all is_calm now.todo ≡ true
        → cutters now.todo ≡ cutters todo → (scheduler later).ready ≡ s.ready → Plain (clock later).marks at.armings → woken_by e q ++ wakers todo ≡ wakers (q ∷ todo) → cutters todo ≡ cutters (q ∷ todo) → adders todo ≡ adders (q ∷ todo)
        → Begun now (scheduler later) (clock later).marks at
    plainly q todo list on none awake sleepless off calm cuts away timing w c a =
        ordinary q todo list on none awake sleepless calm
        (come-alone now.todo p.todo (awaken q todo list (wakers (q ∷ todo)) w ∙ ap wakers (sym list)) (cuts ∙ (c ∙ ap cutters (sym list))) (added q todo list off ∙ (a ∙ ap adders (sym list))) turn.alone) timing
        (λ i.
        sym away i
        ++ ((ap comers list
        ∙ sym (coming q todo list off (cutters (q ∷ todo)) (cuts ∙ c) ∙ λ j. woken_of (w j) ++ (cutters (q ∷ todo) ++ map (λ (d : Context). d.thread) (a j)))) i
        ++ back p.context))

    easily : (q : Todo) (todo : Todos) → p.todo ≡ q ∷ todo → is_end q ≡ false → is_plain q ≡ true → is_show q ≡ false → is_sleep_step q ≡ false → is_sleep q ≡ false → is_rouse_step q ≡ false → is_scheduling q ≡ false → is_timing q ≡ false
        → woken_by e q ++ wakers todo ≡ wakers (q ∷ todo) → cutters todo ≡ cutters (q ∷ todo) → adders todo ≡ adders (q ∷ todo) → Begun now (scheduler later) (clock later).marks at
    easily q todo list on plain none awake sleepless off away timing w c a =
        plainly q todo list on none awake sleepless off (plain-calm f.image p e q todo list plain (calm-behind q todo list)) (plain-cutters f.image p e q todo list plain)
        (ap (λ (z : Scheduler). z.ready) (elsewhere q todo list away)) (timeless q todo list timing) w c a

    -- it reads its word once more: that shows no abort
    reads-again : (site : ℕ) (todo : Todos) → p.todo ≡ Todo.reread site ∷ todo → Begun now (scheduler later) (clock later).marks at
    reads-again site todo list =
        let calm = calm-word site todo list in
        let q = Todo.reread site in
        plainly q todo list refl refl refl refl refl (reread-calm f.image p e site todo list calm (calm-behind q todo list)) (reread-cutters f.image p e site todo list calm)
        (ap (λ (z : Scheduler). z.ready) (elsewhere q todo list refl)) (timeless q todo list refl) refl refl refl

    -- the end of a thread for which nobody waits
    shuts : (todo : Todos) → p.todo ≡ Todo.leave ∷ todo → Begun now (scheduler later) (clock later).marks at
    shuts todo list = by e.act refl
      where
        q : Todo
        q = Todo.leave

        by : (act : FineAct) → e.act ≡ act → Begun now (scheduler later) (clock later).marks at
        by (FineAct.Shown said more) is = absurd (true≢false (ap is_shown (sym is) ∙ quiet))
        by (FineAct.Unseen u) is =
            let none : woken_in (act_in e.act) ≡ [] = ap (λ (a : FineAct). woken_in (act_in a)) is in
            let same : (goes_on_by f.image p e (q ∷ todo)).todo ≡ todo = ap (λ ws. F.wakes (told_all ws) todo) none in
            plainly q todo list refl refl refl refl refl (next-calm f.image p e q todo list (ap (list_all is_calm) same ∙ calm-behind q todo list)) (next-cutters f.image p e q todo list (cutters todo) (ap cutters same))
            (ap (λ (z : Scheduler). z.ready) (elsewhere q todo list refl)) (timeless q todo list refl) (ap (λ ws. named (told_all ws) ++ wakers todo) none) refl refl

    owes : (todo : Todos) → p.todo ≡ Todo.owe ∷ todo → Begun now (scheduler later) (clock later).marks at
    owes todo list =
        let q = Todo.owe in
        let made = made-at f at.state e law (q ∷ todo) list in
        let said = made-says f at.state e law (q ∷ todo) list in
        plainly q todo list refl refl refl refl refl (plain-calm f.image p e q todo list refl (calm-behind q todo list)) (plain-cutters f.image p e q todo list refl)
        (ap (λ (z : Scheduler). z.ready) (sched-later f at.state e law made (FineAct.Unseen Unseen.Owe) said)) (timeless q todo list refl) refl refl refl

    settles : (deadline : ℕ) (mark : Mark) (todo : Todos) → p.todo ≡ Todo.settle deadline mark ∷ todo → Begun now (scheduler later) (clock later).marks at
    settles deadline mark todo list =
        let q = Todo.settle deadline mark in
        let made = made-at f at.state e law (q ∷ todo) list in
        let said = made-says f at.state e law (q ∷ todo) list in
        let after = clock-later f at.state e law made (FineAct.Unseen Unseen.Settle) said in
        plainly q todo list refl refl refl refl refl (plain-calm f.image p e q todo list refl (calm-behind q todo list)) (plain-cutters f.image p e q todo list refl)
        (ap (λ (z : Scheduler). z.ready) (elsewhere q todo list refl))
        (subst (λ (c : Clock). Plain c.marks at.armings) (sym after) (settles-plain (due_in e.moved) (mark_in e.moved) (clock f).marks at.armings turn.armings)) refl refl refl

    -- Threads get ready.

    woken-parked : (who : ℕ) (told : Told) (todo : Todos) → p.todo ≡ Todo.wake who told ∷ todo → is_some (parked_at s who) ≡ true
    woken-parked who told todo list = lies-parked f at e law one tells proper bounds who few left (not-run f at e law one tells proper bounds who mine) (not-added f at e law one tells proper bounds who none) (not-asleep f at e law one tells proper bounds who none)
      where
        few : who < THREADS
        few = ltb-true who THREADS (and_parts _ _ (subst (λ (z : Todos). AreThreads (wakers z)) list (bounds.wakes e.cpu law.by.named))).0

        some : is_some (wake_of who p.todo) ≡ true
        some = ap (λ (l : Todos). is_some (wake_of who l)) list ∙ ap (λ b. is_some (if b then Some told else wake_of who todo)) (eq-eqb who who refl)

        w : (x : Told) × ((thread_at at.state who).told ≡ Some x)
        w = some-is (thread_at at.state who).told (wake-told f at.state law.rel who few e.cpu law.by.named some)

        waiting : waits (thread_at at.state who).pending ≡ true
        waiting = tells who w.0 w.1

        left : is_empty (thread_at at.state who).pending ≡ false
        left = waits-left (thread_at at.state who).pending waiting

        none : (c : Context) → c.thread ≡ who → IsOf f at.state c → c.pending ≡ [] → ⊥
        none c same of rests = false≢true (ap waits (sym rests) ∙ own-waits of (ap (λ n. waits (thread_at at.state n).pending) same ∙ waiting))

        mine : is_over p.context ≡ false → t ≡ who → IsOf f at.state p.context → ⊥
        mine on same of =
            let own = own-waits of (ap (λ n. waits (thread_at at.state n).pending) same ∙ waiting) in
            false≢true (ap is_some (sym (turn.told own) ∙ (ap (λ n. (thread_at at.state n).told) same ∙ w.1)))

    wakes : (who : ℕ) (told : Told) (todo : Todos) → p.todo ≡ Todo.wake who told ∷ todo → Begun now (scheduler later) (clock later).marks at
    wakes who told todo list =
        ordinary (Todo.wake who told) todo list refl refl refl refl (plain-calm f.image p e (Todo.wake who told) todo list refl (calm-behind (Todo.wake who told) todo list)) (
          λ some. absurd (cons-not (ap wakers (sym list) ∙ turn.alone.0 (ap (λ z. is_empty (cutters z)) list ∙ (ap is_empty (sym (plain-cutters f.image p e (Todo.wake who told) todo list refl)) ∙ some)))),
          λ some. absurd (cons-not (ap wakers (sym list) ∙ (turn.alone.1 (ap (λ z. is_empty (adders z)) list ∙ (ap is_empty (sym (added (Todo.wake who told) todo list refl)) ∙ some))).0)),
        )
        (timeless (Todo.wake who told) todo list refl) (before ∙ after)
      where
        cons-not : {w : ℕ × Told} {ws : Wakes} → w ∷ ws ≡ [] → ⊥
        cons-not h = false≢true (ap is_empty h)

        act : FineAct
        act = FineAct.Unseen (Unseen.Wake (to_thread who) (ready_in e.act))

        said : e.act ≡ act
        said = made-says f at.state e law (Todo.wake who told ∷ todo) list

        site : e.site ≡ Site.scheduler
        site = made-at f at.state e law (Todo.wake who told ∷ todo) list

        answer : is_some (parked_at s who) ≡ ready_in e.act
        answer = ap ready_in (sched-said f at.state e law site act said)

        ready : (scheduler later).ready ≡ s.ready ++ who ∷ []
        ready = ap (λ (z : Scheduler). z.ready) (sched-later f at.state e law site act said) ∙ ap (λ b. behind b who s.ready) (sym answer ∙ woken-parked who told todo list)

        rest : List ℕ
        rest = comers todo

        before : s.ready ++ (comers p.todo ++ back p.context) ≡ s.ready ++ ((who ∷ rest) ++ back p.context)
        before = ap (λ (z : Todos). s.ready ++ (comers z ++ back p.context)) list

        after : s.ready ++ ((who ∷ rest) ++ back p.context) ≡ (scheduler later).ready ++ (comers now.todo ++ back p.context)
        after =
            sym (append_assoc s.ready (who ∷ []) (rest ++ back p.context))
            ∙ λ i. sym ready i ++ (sym (coming (Todo.wake who told) todo list refl (cutters todo) (plain-cutters f.image p e (Todo.wake who told) todo list refl)) i ++ back p.context)

    -- One that was cut is told that after all that were woken: nobody is to be woken then.
    cut-parked : (who : ℕ) (todo : Todos) → p.todo ≡ Todo.tell_cut who ∷ todo → is_some (parked_at s who) ≡ true
    cut-parked who todo list = lies-parked f at e law one tells proper bounds who few left (not-run f at e law one tells proper bounds who mine) (not-added f at e law one tells proper bounds who none) (not-asleep f at e law one tells proper bounds who none)
      where
        some : 0 < R.cutters f who
        some =
            let part = part-total (λ j. counted (is_cut_told who) (f.processors j).todo) f.cpus e.cpu law.by.named in
            let here = ap (λ (l : Todos). counted (is_cut_told who) l) list ∙ ap (λ b. if b then counted (is_cut_told who) todo + 1 else counted (is_cut_told who) todo) (eq-eqb who who refl) in
            omega (arith, part, here)

        few : who < THREADS
        few = which (nat_lt who THREADS) refl
          where
            which : (b : Bool) → nat_lt who THREADS ≡ b → who < THREADS
            which true h = ltb-true who THREADS h
            which false h = let none = bounds.uncut who h in absurd (omega (arith, some, none))

        killed : (thread_at at.state who).pending ≡ Pending.Killed ∷ []
        killed = (law.rel.threads who few).cut.left some

        left : is_empty (thread_at at.state who).pending ≡ false
        left = ap is_empty killed

        none : (c : Context) → c.thread ≡ who → IsOf f at.state c → c.pending ≡ [] → ⊥
        none c same of rests = false≢true (ap waits (sym rests) ∙ of.waiting (subst (λ n. 0 < R.cutters f n) (sym same) some))

        mine : is_over p.context ≡ false → t ≡ who → IsOf f at.state p.context → ⊥
        mine on same of =
            let own = of.waiting (subst (λ n. 0 < R.cutters f n) (sym same) some) in
            false≢true (ap waits (sym killed) ∙ (ap (λ n. waits (thread_at at.state n).pending) (sym same) ∙ turn.whole own))

    cuts : (who : ℕ) (todo : Todos) → p.todo ≡ Todo.tell_cut who ∷ todo → Begun now (scheduler later) (clock later).marks at
    cuts who todo list =
        ordinary q todo list refl refl refl refl (plain-calm f.image p e q todo list refl (calm-behind q todo list)) (
          λ some. awaken q todo list (wakers todo) refl ∙ unwoken,
          λ some. absurd (true≢false (ap is_empty (sym (turn.alone.1 (ap (λ z. is_empty (adders z)) list ∙ (ap is_empty (sym (added q todo list refl)) ∙ some))).1 ∙ ap cutters list))),
        ) (timeless q todo list refl) (before ∙ after)
      where
        q : Todo
        q = Todo.tell_cut who

        unwoken : wakers todo ≡ []
        unwoken = ap wakers (sym list) ∙ turn.alone.0 (ap (λ z. is_empty (cutters z)) list)

        act : FineAct
        act = FineAct.Unseen (Unseen.Cut (to_thread who) (ready_in e.act))

        said : e.act ≡ act
        said = made-says f at.state e law (q ∷ todo) list

        site : e.site ≡ Site.scheduler
        site = made-at f at.state e law (q ∷ todo) list

        answer : is_some (parked_at s who) ≡ ready_in e.act
        answer = ap ready_in (sched-said f at.state e law site act said)

        ready : (scheduler later).ready ≡ s.ready ++ who ∷ []
        ready = ap (λ (z : Scheduler). z.ready) (sched-later f at.state e law site act said) ∙ ap (λ b. behind b who s.ready) (sym answer ∙ cut-parked who todo list)

        rest : List ℕ
        rest = cutters todo ++ map (λ (c : Context). c.thread) (adders todo)

        before : s.ready ++ (comers p.todo ++ back p.context) ≡ s.ready ++ ((who ∷ rest) ++ back p.context)
        before = ap (λ (z : Todos). s.ready ++ (comers z ++ back p.context)) list ∙ ap (λ (ws : Wakes). s.ready ++ ((woken_of ws ++ who ∷ rest) ++ back p.context)) unwoken

        left : comers now.todo ≡ rest
        left = coming q todo list refl (cutters todo) (plain-cutters f.image p e q todo list refl) ∙ ap (λ (ws : Wakes). woken_of ws ++ rest) unwoken

        after : s.ready ++ ((who ∷ rest) ++ back p.context) ≡ (scheduler later).ready ++ (comers now.todo ++ back p.context)
        after = sym (append_assoc s.ready (who ∷ []) (rest ++ back p.context)) ∙ λ i. sym ready i ++ (sym left i ++ back p.context)

    adds : (c : Context) (todo : Todos) → p.todo ≡ Todo.add c ∷ todo → Begun now (scheduler later) (clock later).marks at
    adds c todo list =
        ordinary q todo list refl refl refl refl (plain-calm f.image p e q todo list refl (calm-behind q todo list)) (λ some. absurd (false≢true (sym some ∙ ap is_empty (cut ∙ uncut))), λ some. (awaken q todo list (wakers todo) refl ∙ unwoken, cut ∙ uncut))
        (timeless q todo list refl) (before ∙ after)
      where
        q : Todo
        q = Todo.add c

        act : FineAct
        act = FineAct.Unseen (Unseen.Add (to_thread c.thread))

        said : e.act ≡ act
        said = made-says f at.state e law (q ∷ todo) list

        site : e.site ≡ Site.scheduler
        site = made-at f at.state e law (q ∷ todo) list

        moved : e.moved ≡ Exchange.thread c None
        moved = made-moves f at.state e law (q ∷ todo) list

        alone : (wakers p.todo ≡ []) × (cutters p.todo ≡ [])
        alone = turn.alone.1 (ap (λ z. is_empty (adders z)) list)

        unwoken : wakers todo ≡ []
        unwoken = ap wakers (sym list) ∙ alone.0

        uncut : cutters todo ≡ []
        uncut = ap cutters (sym list) ∙ alone.1

        cut : cutters now.todo ≡ cutters todo
        cut = plain-cutters f.image p e q todo list refl

        rest : List ℕ
        rest = map (λ (d : Context). d.thread) (adders todo)

        ready : (scheduler later).ready ≡ s.ready ++ c.thread ∷ []
        ready = ap (λ (z : Scheduler). z.ready) (sched-later f at.state e law site act said) ∙ ap (λ (d : Context). s.ready ++ d.thread ∷ []) (ap context_in moved)

        before : s.ready ++ (comers p.todo ++ back p.context) ≡ s.ready ++ ((c.thread ∷ rest) ++ back p.context)
        before = ap (λ (z : Todos). s.ready ++ (comers z ++ back p.context)) list ∙ λ i. s.ready ++ ((woken_of (unwoken i) ++ (uncut i ++ c.thread ∷ rest)) ++ back p.context)

        left : comers now.todo ≡ rest
        left = coming q todo list refl (cutters todo) cut ∙ λ i. woken_of (unwoken i) ++ (uncut i ++ rest)

        after : s.ready ++ ((c.thread ∷ rest) ++ back p.context) ≡ (scheduler later).ready ++ (comers now.todo ++ back p.context)
        after = sym (append_assoc s.ready (c.thread ∷ []) (rest ++ back p.context)) ∙ λ i. sym ready i ++ (sym left i ++ back p.context)

    -- the turn goes on, or has ended
    pub quiet-begun : Begun now (scheduler later) (clock later).marks at ⊎ Idles now (scheduler later) (clock later).marks at
    quiet-begun = by p.todo refl
      where
        by : (todo : Todos) → p.todo ≡ todo → Begun now (scheduler later) (clock later).marks at ⊎ Idles now (scheduler later) (clock later).marks at
        by [] list = absurd (false≢true (sym (ap has_steps list) ∙ turn.runs))
        by (Todo.show q rest ∷ todo) list = absurd (unread q rest todo list)
        by (Todo.wake who told ∷ todo) list = inl (wakes who told todo list)
        by (Todo.add c ∷ todo) list = inl (adds c todo list)
        by (Todo.tell_cut who ∷ todo) list = inl (cuts who todo list)
        by (Todo.reread site ∷ todo) list = inl (reads-again site todo list)
        by (Todo.leave ∷ todo) list = inl (shuts todo list)
        by (Todo.owe ∷ todo) list = inl (owes todo list)
        by (Todo.settle deadline mark ∷ todo) list = inl (settles deadline mark todo list)
        by (Todo.look who site before ∷ todo) list = absurd (false≢true (calm-first (Todo.look who site before) todo list))
        by (Todo.rouse who ∷ todo) list = absurd (false≢true (calm-first (Todo.rouse who) todo list))
        by (Todo.sleep ∷ todo) list = absurd (false≢true (calm-first Todo.sleep todo list))
        by (Todo.reread_asleep ∷ todo) list = absurd (false≢true (calm-first Todo.reread_asleep todo list))
        by (Todo.handle deadline mark ∷ todo) list = absurd (false≢true (calm-first (Todo.handle deadline mark) todo list))
        by (Todo.paid ∷ todo) list = absurd (false≢true (calm-first Todo.paid todo list))
        by (Todo.park ∷ todo) list = inr (parks f at e law was todo list)
        by (Todo.done ∷ todo) list = inr (dones f at e law was todo list)
        by (q ∷ todo) list = inl (easily q todo list refl refl refl refl refl refl refl refl refl refl refl)
