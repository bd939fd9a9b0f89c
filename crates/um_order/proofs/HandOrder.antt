-- A mark in the hand: its step of time follows, or it makes none and is passed over. Behind it those are told whom the step wakes, and the mark is paid.
use Rattle.std.proofs.Common.{◌≡◌, ◌⊎◌, inl, inr, ℕ, ◌<◌, ◌≤◌, true, false, List, [], ◌∷◌, ◌++◌, Option, Some, refl, sym, ap, ◌∙◌, subst, arith, append-nil, append_assoc, eq-eqb}
use Rattle.std.specs.Prelude.{◌==◌, ◌&&◌, not, if◌then◌else◌, is_some}
use Rattle.std.proofs.lemmas.Bool.{and_parts, false≢true, ltb-true}
use Rattle.um_base.specs.declared.act.Act.{Act}
use Rattle.um_base.specs.declared.ask.Told.{Told}
use Rattle.um_base.specs.declared.limits.TheConstants.{THREADS}
use Rattle.um_base.specs.declared.names.ThreadIx.{ThreadIx}
use Rattle.um_machine.specs.Order.{to_thread}
use Rattle.um_machine.specs.Services.{is_empty}
use Rattle.um_machine.specs.State.{State, thread_at}
use Rattle.um_invariants.specs.Armings.{Arming, gone_through, late_cell, late_step, makes_step}
use Rattle.um_invariants.specs.InOrder.{Makes, Point, time_cell, time_step}
use Rattle.um_invariants.specs.Lines.{all_join}
use Rattle.um_invariants.specs.Ready.{next_ready, readied, roused, running_or, with_readied}
use Rattle.um_words.specs.declared.fine.FineAct.{FineAct}
use Rattle.um_words.specs.declared.fine.Unseen.{Unseen}
use Rattle.um_fine.specs.Answers.{act_in, is_void, ready_in, woken_in}
use Rattle.um_fine.specs.Asks.{begins_cleaning, by_actor, marks_end}
use Rattle.um_fine.specs.Clock.{Clock}
use Rattle.um_fine.specs.Context.{Context}
use Rattle.um_fine.specs.Follows.{goes_on_by, told_marked, wakes, with_actor}
use Rattle.um_fine.specs.Places.{Todo, Todos}
use Rattle.um_fine.specs.Processor.{Processor, actor_or}
use Rattle.um_fine.specs.Scheduler.{Scheduler, behind, parked_at, waits}
use Rattle.um_fine.specs.Sites.{same_site}
use Rattle.um_fine.specs.Steps.{FineStep, Site}
use Rattle.um_refinement.specs.Fine.{Fine, clock, scheduler}
use Rattle.um_refinement.specs.Lists.{counted, has_steps, is_wake, times, wake_of}
use Rattle.um_refinement.specs.Offers.{is_over}
use Rattle.um_refinement.specs.Relation.{Rel}
use Rattle.um_refinement.specs.Threads.{IsOf, occurs, runs_on}
use Rattle.um_refinement.specs.Timing.{IsPaying}
use Rattle.um_refinement.proofs.Bounds.{AreBounded, AreThreads}
use Rattle.um_refinement.proofs.CallsProper.{AreProper}
use Rattle.um_refinement.proofs.ChildrenKnown.{AllCreate}
use Rattle.um_refinement.proofs.Erased.{around}
use Rattle.um_refinement.proofs.Leaves.{Lawful}
use Rattle.um_refinement.proofs.ListRuns.{ends-rests}
use Rattle.um_refinement.proofs.ListTails.{exact-next}
use Rattle.um_refinement.proofs.ListWakes.{Wakes, named, told_times, wake-times, wakers}
use Rattle.um_refinement.proofs.MarksPart.{clock-same}
use Rattle.um_refinement.proofs.MemorySteps.{part-total}
use Rattle.um_refinement.proofs.PlacesFacts.{wake-told}
use Rattle.um_refinement.proofs.ResumeSteps.{TellsWaiters, some-is}
use Rattle.um_refinement.proofs.RunningPart.{todo-elsewhere}
use Rattle.um_refinement.proofs.SchedulerSteps.{made-at, made-says, sched-else, sched-later, sched-said}
use Rattle.um_refinement.proofs.StepReads.{is-placed}
use Rattle.um_order.proofs.ArmingOrder.{IsArmed, Passed, Plain, Steps, hand-steps, hand-void}
use Rattle.um_order.proofs.EventLines.{below-woken, occurs-woken}
use Rattle.um_order.proofs.Follow.{Followed, FollowsBy, cleans-none, here}
use Rattle.um_order.proofs.ListShapes.{is_own}
use Rattle.um_order.proofs.LookSteps.{filled-same}
use Rattle.um_order.proofs.ParkedThreads.{lies-parked, not-added, not-asleep, own-waits, waits-left}
use Rattle.um_order.proofs.ReadyLines.{all-join-new}
use Rattle.um_order.proofs.Standing.{Holds, Idles, Pays, pays, woken_of}
use Rattle.um_order.proofs.TickOrder.{none-next}

paying-some : (todo : Todos) → IsPaying todo → has_steps todo ≡ true
paying-some [] h = absurd h
paying-some (q ∷ todo) h = refl

paying-times : (todo : Todos) → IsPaying todo → times todo ≡ true
paying-times [] h = absurd h
paying-times (Todo.wake who told ∷ todo) h = paying-times todo h
paying-times (Todo.paid ∷ todo) h = refl
paying-times (q ∷ todo) h = absurd h

wakes-paying : (ws : List (ThreadIx × Told)) (todo : Todos) → IsPaying todo → IsPaying (wakes ws todo)
wakes-paying [] todo h = h
wakes-paying (w ∷ ws) todo h = wakes-paying ws todo h

wakes-named : (ws : List (ThreadIx × Told)) (todo : Todos) → wakers todo ≡ [] → wakers (wakes ws todo) ≡ named ws
wakes-named [] todo h = h
wakes-named (w ∷ ws) todo h = ap (λ (l : Wakes). (w.0.0, w.1) ∷ l) (wakes-named ws todo h)

module _ (f : Fine) (at : Point) (e : FineStep) (law : Lawful f at.state e) (one : f.cpus ≡ 1) where
  open around f e use {later, processor as p, now}

  abbrev m : State
  m = at.state

  abbrev s : Scheduler
  s = scheduler f

  -- It tells those whom the mark woke, and pays.

  module _ (tells : TellsWaiters at.state) (proper : AreProper at.state.image at.state) (bounds : AreBounded f) (was : Pays p s (clock f).marks at) where
    -- the processor runs no thread meanwhile
    runs-none : (who : ℕ) → runs_on who p ≡ false
    runs-none who = λ i. ((paying-some p.todo was.list i && not (paying-times p.todo was.list i)) && p.context.thread == who) && not (is_over p.context)

    woken-parked : (who : ℕ) (told : Told) (todo : Todos) → p.todo ≡ Todo.wake who told ∷ todo → is_some (parked_at s who) ≡ true
    woken-parked who told todo list = lies-parked f at e law one tells proper bounds who few left (runs-none who) (not-added f at e law one tells proper bounds who none) (not-asleep f at e law one tells proper bounds who none)
      where
        few : who < THREADS
        few = ltb-true who THREADS (and_parts _ _ (subst (λ (z : Todos). AreThreads (wakers z)) list (bounds.wakes e.cpu law.by.named))).0

        some : is_some (wake_of who p.todo) ≡ true
        some = ap (λ (l : Todos). is_some (wake_of who l)) list ∙ ap (λ b. is_some (if b then Some told else wake_of who todo)) (eq-eqb who who refl)

        w : (x : Told) × ((thread_at at.state who).told ≡ Some x)
        w = some-is (thread_at at.state who).told (wake-told f at.state law.rel who few e.cpu law.by.named some)

        waiting : waits (thread_at at.state who).pending ≡ true
        waiting = tells who w.0 w.1

        left : is_empty (thread_at at.state who).pending ≡ false
        left = waits-left (thread_at at.state who).pending waiting

        none : (c : Context) → c.thread ≡ who → IsOf f at.state c → c.pending ≡ [] → ⊥
        none c same of rests = false≢true (ap waits (sym rests) ∙ own-waits of (ap (λ n. waits (thread_at at.state n).pending) same ∙ waiting))

    tells-one : (who : ℕ) (told : Told) (todo : Todos) → p.todo ≡ Todo.wake who told ∷ todo → IsPaying todo → Pays now (scheduler later) (clock later).marks at
    tells-one who told todo list paying =
        record {
          list = subst IsPaying (sym todo-is) paying;
          skipped = was.skipped;
          still = was.still;
          ready = was.ready ∙ ap (λ l. was.skipped ++ l) (ap (λ (z : Todos). s.ready ++ woken_of (wakers z)) list ∙ (sym (append_assoc s.ready (who ∷ []) (woken_of (wakers todo))) ∙ λ i. sym ready i ++ woken_of (wakers (sym todo-is i))));
          inside = was.inside;
          cut = was.cut;
          armings = inl (subst (λ (c : Clock). Plain c.marks at.armings) (sym (clock-same f m e law (Todo.wake who told) todo list refl)) (plain was.armings));
        }
      where
        act : FineAct
        act = FineAct.Unseen (Unseen.Wake (to_thread who) (ready_in e.act))

        said : e.act ≡ act
        said = made-says f at.state e law (Todo.wake who told ∷ todo) list

        site : e.site ≡ Site.scheduler
        site = made-at f at.state e law (Todo.wake who told ∷ todo) list

        answer : is_some (parked_at s who) ≡ ready_in e.act
        answer = ap ready_in (sched-said f at.state e law site act said)

        ready : (scheduler later).ready ≡ s.ready ++ who ∷ []
        ready = ap (λ (z : Scheduler). z.ready) (sched-later f at.state e law site act said) ∙ ap (λ b. behind b who s.ready) (sym answer ∙ woken-parked who told todo list)

        todo-is : now.todo ≡ todo
        todo-is =
            ap (λ (z : Processor). z.todo)
            (exact-next f.image p e (Todo.wake who told ∷ todo) list (ap (λ (a : FineAct). begins_cleaning (record e { act = a })) said) ∙ ap (λ (a : FineAct). with_actor f.image (goes_on_by f.image p e (Todo.wake who told ∷ todo)) a) said)
            ∙ filled-same f.image p.context todo (paying-some todo paying)

        plain : Plain (clock f).marks at.armings ⊎ (Passed m (clock f).marks at.armings × (s.ready ≡ []) × (wakers p.todo ≡ [])) → Plain (clock f).marks at.armings
        plain (inl is) = is
        plain (inr passed) = absurd (false≢true (ap is_empty (ap wakers (sym list) ∙ passed.2)))

    pays-up : (todo : Todos) → p.todo ≡ Todo.paid ∷ todo → todo ≡ [] → Idles now (scheduler later) (clock later).marks at
    pays-up todo list empty =
        record {
          list = ends-rests f.image p e Todo.paid todo list refl (ap (λ (a : FineAct). begins_cleaning (record e { act = a })) said);
          skipped = was.skipped;
          still = was.still;
          ready = was.ready ∙ ap (λ l. was.skipped ++ l) (ap (λ (z : Todos). s.ready ++ woken_of (wakers z)) (list ∙ ap (λ (z : Todos). Todo.paid ∷ z) empty) ∙ (append-nil s.ready ∙ sym ready));
          inside = was.inside;
          cut = was.cut;
          armings = left was.armings;
        }
      where
        said : e.act ≡ FineAct.Unseen Unseen.Paid
        said = made-says f at.state e law (Todo.paid ∷ todo) list

        ready : (scheduler later).ready ≡ s.ready
        ready = ap (λ (z : Scheduler). z.ready) (sched-later f at.state e law (made-at f at.state e law (Todo.paid ∷ todo) list) (FineAct.Unseen Unseen.Paid) said)

        time : clock later ≡ clock f
        time = clock-same f m e law Todo.paid todo list refl

        left : Plain (clock f).marks at.armings ⊎ (Passed m (clock f).marks at.armings × (s.ready ≡ []) × (wakers p.todo ≡ []))
            → Plain (clock later).marks at.armings ⊎ (Passed m (clock later).marks at.armings × ((scheduler later).ready ≡ []))
        left (inl plain) = inl (subst (λ (c : Clock). Plain c.marks at.armings) (sym time) plain)
        left (inr passed) = inr (subst (λ (c : Clock). Passed m c.marks at.armings) (sym time) passed.0, ready ∙ passed.1)

    pub pays-on : Pays now (scheduler later) (clock later).marks at ⊎ Idles now (scheduler later) (clock later).marks at
    pays-on = by p.todo refl was.list
      where
        by : (todo : Todos) → p.todo ≡ todo → IsPaying todo → Pays now (scheduler later) (clock later).marks at ⊎ Idles now (scheduler later) (clock later).marks at
        by [] list paying = absurd paying
        by (Todo.wake who told ∷ todo) list paying = inl (tells-one who told todo list paying)
        by (Todo.paid ∷ todo) list paying = inr (pays-up todo list paying)
        by (q ∷ todo) list paying = absurd paying

  -- The mark makes no step, or it makes its step.

  module _ (was : Holds p s (clock f).marks at) where
    abbrev rest : Todos
    rest = Todo.paid ∷ []

    same : scheduler later ≡ s
    same =
        sched-else f m e law
        (ap (λ i. same_site i Site.scheduler) (made-at f m e law (Todo.handle was.deadline was.mark ∷ Todo.paid ∷ []) was.list)
        ∙ todo-elsewhere f.image p (Todo.handle was.deadline was.mark) (Todo.paid ∷ []) refl (is-placed f m e law (Todo.handle was.deadline was.mark) (Todo.paid ∷ []) was.list))

    time : clock later ≡ clock f
    time = clock-same f m e law (Todo.handle was.deadline was.mark) (Todo.paid ∷ []) was.list refl

    pub hold-void : is_void e.act ≡ true → ((a : Arming) → IsArmed was.deadline was.mark a → makes_step m a ≡ false) → Pays now (scheduler later) (clock later).marks at
    hold-void void none =
        record {
          list = subst IsPaying (sym todo-is) refl;
          skipped = at.ready;
          still = was.still;
          ready = sym (ap (λ (l : List ℕ). at.ready ++ l) (λ i. (ap (λ (z : Scheduler). z.ready) same ∙ was.none) i ++ woken_of (wakers (todo-is i))) ∙ append-nil at.ready);
          inside = was.inside;
          cut = was.cut;
          armings = inr (
            subst (λ (c : Clock). Passed m c.marks at.armings) (sym time) (hand-void m was.deadline was.mark (clock f).marks at.armings was.armings none),
            ap (λ (z : Scheduler). z.ready) same ∙ was.none,
            ap wakers todo-is,
          );
        }
      where
        is : e.act ≡ FineAct.Unseen Unseen.Void
        is =
            made-says f m e law (Todo.handle was.deadline was.mark ∷ Todo.paid ∷ []) was.list
            ∙ ap (λ b. if b then FineAct.Unseen Unseen.Void else by_actor f.image p (marks_end f.image p was.mark e.act)) void

        todo-is : now.todo ≡ Todo.paid ∷ []
        todo-is =
            ap (λ (z : Processor). z.todo)
            (exact-next f.image p e (Todo.handle was.deadline was.mark ∷ Todo.paid ∷ []) was.list (ap (λ (a : FineAct). begins_cleaning (record e { act = a })) is)
            ∙ ap (λ (a : FineAct). with_actor f.image (goes_on_by f.image p e (Todo.handle was.deadline was.mark ∷ Todo.paid ∷ [])) a) is)
            ∙ ap (λ b. if b then Todo.paid ∷ [] else wakes (told_marked was.mark (woken_in (act_in e.act))) (Todo.paid ∷ [])) void

    module _ (orderly : AllCreate at.state) (s2 : State) (act : Act) (said : e.act ≡ by_actor f.image p act) (related : Rel later s2) (bounds : AreBounded later) (quiet : begins_cleaning e ≡ false)
        (last : at.last ≡ Some (to_thread (actor_or f.image (f.processors e.cpu).actor))) (nobody : roused s2 act ≡ []) (readies : readied act ≡ woken_of (named (told_marked was.mark (woken_in (act_in e.act)))))
        (on : (a : Arming) → IsArmed was.deadline was.mark a → makes_step at.state a ≡ true)
        (made : (a : Arming) → IsArmed was.deadline was.mark a → Makes at.state (record { thread = to_thread (actor_or f.image (f.processors e.cpu).actor); act = act }) s2 (late_step a.aim) (late_cell a.aim)) where
      steps : Steps m was.deadline was.mark (clock f).marks at.armings
      steps = hand-steps m was.deadline was.mark (clock f).marks at.armings was.armings on

      abbrev to : Point
      to = record at { state = s2; ready = with_readied [] act s2; armings = (gone_through m at.armings).0 }

      todo-is : now.todo ≡ wakes (told_marked was.mark (woken_in (act_in e.act))) (Todo.paid ∷ [])
      todo-is =
          ap (λ (z : Processor). z.todo)
          (exact-next f.image p e (Todo.handle was.deadline was.mark ∷ Todo.paid ∷ []) was.list quiet ∙ ap (λ (a : FineAct). with_actor f.image (goes_on_by f.image p e (Todo.handle was.deadline was.mark ∷ Todo.paid ∷ [])) a) said)
          ∙ ap (λ b. if b then Todo.paid ∷ [] else wakes (told_marked was.mark (woken_in (act_in e.act))) (Todo.paid ∷ [])) (ap is_void said)

      woken : wakers now.todo ≡ named (told_marked was.mark (woken_in (act_in e.act)))
      woken = ap wakers todo-is ∙ wakes-named (told_marked was.mark (woken_in (act_in e.act))) (Todo.paid ∷ []) refl

      -- each of them is woken once
      once : (u : ℕ) → 0 < occurs u (woken_of (wakers now.todo)) → occurs u ([] ++ woken_of (wakers now.todo)) ≤ 1
      once u some =
          let there = occurs-woken u (wakers now.todo) in
          let few = below-woken u (wakers now.todo) (subst (λ (z : Processor). AreThreads (wakers z.todo)) (here f at e law one orderly) (bounds.wakes e.cpu law.by.named)) (omega (arith, some, there)) in
          let sum = part-total (λ j. counted (is_wake u) (later.processors j).todo) f.cpus e.cpu law.by.named in
          let mine : counted (is_wake u) (later.processors e.cpu).todo ≡ told_times u (wakers now.todo) = ap (λ (z : Processor). counted (is_wake u) z.todo) (here f at e law one orderly) ∙ wake-times u now.todo in
          let most = (related.threads u few).told.once in
          omega (arith, there, sum, mine, most)

      line : with_readied [] act s2 ≡ woken_of (wakers now.todo)
      line = (λ i. all_join (all_join [] ((readies ∙ ap (λ (ws : Wakes). woken_of ws) (sym woken)) i)) (nobody i)) ∙ all-join-new [] (woken_of (wakers now.todo)) once

      pub hold-follows : Followed f at e law one orderly s2
      hold-follows =
          record {
            point = to;
            follows = subst (λ a. FollowsBy at a to) (sym said)
                (inr (inr (inr (record {
                  clean = cleans-none f at e law one orderly (ap (is_own f.image) was.list) at.last;
                  uncut = was.cut;
                  none = ap (λ o. running_or o (next_ready m at.ready)) was.inside ∙ none-next m at.ready was.still;
                  by = last;
                  made = subst (λ (o : Option Arming). Makes m (record { thread = to_thread (actor_or f.image p.actor); act = act }) s2 (time_step o) (time_cell o)) (sym steps.first) (made steps.arming steps.armed);
                  leaves = refl;
                }))));
            state = refl;
            stands = pays
                (record {
                  list = subst IsPaying (sym todo-is) (wakes-paying (told_marked was.mark (woken_in (act_in e.act))) (Todo.paid ∷ []) refl);
                  skipped = [];
                  still = tt;
                  ready = line ∙ ap (λ (l : List ℕ). l ++ woken_of (wakers now.todo)) (sym (ap (λ (z : Scheduler). z.ready) same ∙ was.none));
                  inside = was.inside;
                  cut = was.cut;
                  armings = inl (subst (λ (c : Clock). Plain c.marks (gone_through m at.armings).0) (sym time) steps.plain);
                });
          }
