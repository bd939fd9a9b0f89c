-- A woken thread is taken from the ready list, the first behind those that stand still, and resumes.
use Rattle.std.proofs.Common.{◌≡◌, ◌⊎◌, inl, inr, ℕ, suc, ◌<◌, Bool, true, false, [], ◌∷◌, ◌++◌, map, length, drop, Some, None, refl, sym, ap, ◌∙◌, subst, arith}
use Rattle.std.specs.Prelude.{◌==◌, ◌&&◌, ◌||◌, not, if◌then◌else◌, is_some, slice_get}
use Rattle.std.specs.List.{list_all, list_any}
use Rattle.std.proofs.lemmas.Bool.{and_parts, true≢false}
use Rattle.std.proofs.lemmas.Bool.Decides.{nat_tests}
use Rattle.um_base.specs.declared.act.Act.{Act}
use Rattle.um_base.specs.declared.ask.Told.{Told}
use Rattle.um_machine.specs.declared.pending.Pending.{Pending}
use Rattle.um_machine.specs.declared.thread.Thread.{Thread}
use Rattle.um_machine.specs.Goes.{Next, gone, went}
use Rattle.um_machine.specs.Order.{Steps, to_thread}
use Rattle.um_machine.specs.Services.{is_empty}
use Rattle.um_machine.specs.State.{State, thread_at}
use Rattle.um_machine.specs.Table as T
use Rattle.um_invariants.specs.InOrder.{Point}
use Rattle.um_invariants.specs.NextSteps.{IsNext, first_or, rest_step}
use Rattle.um_invariants.specs.Ready.{behind_next, is_still, next_ready, running_or}
use Rattle.um_words.specs.declared.fine.FineAct.{FineAct}
use Rattle.um_words.specs.declared.fine.More.{More}
use Rattle.um_fine.specs.Asks.{begins_cleaning}
use Rattle.um_fine.specs.Clock.{Clock}
use Rattle.um_fine.specs.Context.{Context}
use Rattle.um_fine.specs.Continues.{resumed}
use Rattle.um_fine.specs.Follows.{after_take, goes_on_by, with_actor}
use Rattle.um_fine.specs.Places.{end_of_turn, next_steps}
use Rattle.um_fine.specs.Processor.{Processor}
use Rattle.um_fine.specs.Scheduler.{Scheduler, is_cut, told_at}
use Rattle.um_fine.specs.Sites.{same_site}
use Rattle.um_fine.specs.Steps.{Exchange, FineStep, Site}
use Rattle.um_refinement.specs.Fine.{Fine, clock, scheduler}
use Rattle.um_refinement.specs.Lists.{has_steps, runs}
use Rattle.um_refinement.specs.Relation.{Rel}
use Rattle.um_refinement.specs.Threads.{IsOf, cutters as cuts}
use Rattle.um_refinement.proofs.AwayPart.{none-left}
use Rattle.um_refinement.proofs.Bounds.{AreBounded}
use Rattle.um_refinement.proofs.ChildrenKnown.{AllCreate}
use Rattle.um_refinement.proofs.ClockSteps.{clock-else}
use Rattle.um_refinement.proofs.Continued.{Held, resumed-held}
use Rattle.um_refinement.proofs.CuttersKept.{cutters-taken}
use Rattle.um_refinement.proofs.Erased.{around}
use Rattle.um_refinement.proofs.Leaves.{Lawful}
use Rattle.um_refinement.proofs.ListAdders.{takes-adders}
use Rattle.um_refinement.proofs.ListClaims.{IsThread}
use Rattle.um_refinement.proofs.ListDone.{says_done, take-ends}
use Rattle.um_refinement.proofs.ListRuns.{takes-runs}
use Rattle.um_refinement.proofs.ListTails.{exact-next}
use Rattle.um_refinement.proofs.ListWakes.{takes-wakers, wakers}
use Rattle.um_refinement.proofs.OfVisits.{of-resumes, scheduler-tells}
use Rattle.um_refinement.proofs.ResumeSteps.{TellsWaiters}
use Rattle.um_refinement.proofs.Taking.{IsTaken, kill-thread, taken-index, taken-parked, taken-told, taken-uncut, takes-first}
use Rattle.um_refinement.proofs.ThreadLists.{at-here}
use Rattle.um_order.proofs.ArmingOrder.{Passed, Plain}
use Rattle.um_order.proofs.EventLines.{own-is}
use Rattle.um_order.proofs.Follow.{Followed, follow}
use Rattle.um_order.proofs.ListCalm.{calm-expands, cuts-expands}
use Rattle.um_order.proofs.ListShapes.{is_own}
use Rattle.um_order.proofs.ReadyLines.{behind-skips, next-skips}
use Rattle.um_order.proofs.Standing.{Idles, cutters, is_calm, is_show, woken_of}

not-zero : (n : ℕ) → (suc n == 0) ≡ false
not-zero n = grind (arith, nat_tests)

-- the steps of a list are at least one where it shows anything
has-one : (p : Processor) → runs p ≡ true → has_steps p.todo ≡ true
has-one p h = (and_parts (has_steps p.todo) _ h).0

module _ (f : Fine) (at : Point) (e : FineStep) (law : Lawful f at.state e) (one : f.cpus ≡ 1) (orderly : AllCreate at.state) where
  open around f e use {later, processor as p, now}

  abbrev m : State
  m = at.state

  abbrev s : Scheduler
  s = scheduler f

  module _ (c : Context) (told : Told) (rest : Steps) (was : Idles p s (clock f).marks at) (moved : e.moved ≡ Exchange.thread c (Some told))
      (said : e.act ≡ FineAct.Shown (record { thread = to_thread c.thread; act = Act.Resume }) More.Nothing) (has : c.pending ≡ Pending.Resume ∷ rest)
      (related : Rel later (T.after m c.thread 0 Pending.Resume rest)) (tells : TellsWaiters (T.after m c.thread 0 Pending.Resume rest)) (bounds : AreBounded later) where
    abbrev s2 : State
    s2 = T.after m c.thread 0 Pending.Resume rest

    abbrev taken : IsTaken f e
    taken = (takes-first f m e law was.list c (Some told) moved).0

    index : taken.thread ≡ c.thread
    index =
        let is = (takes-first f m e law was.list c (Some told) moved).1 in
        sym (ap (λ (z : Context). z.thread) is ∙ (kill-thread (is_cut s taken.thread) taken.parked ∙ taken.same))

    of-c : IsOf f m c
    of-c = (law.rel.contexts.parked c.thread c (taken-parked f m e law was.list c told moved)).0

    whole-before : cuts f c.thread ≡ 0
    whole-before = taken-uncut f m e law was.list c told moved of-c.index

    whole-after : cuts later c.thread ≡ 0
    whole-after =
        let counts = cutters-taken f m e law was.list taken.site taken.said taken.thread taken.list taken.ready (taken-index f m e law taken) in
        let before : cuts f taken.thread ≡ 0 = ap (cuts f) index ∙ whole-before in
        ap (cuts later) (sym index) ∙ omega (arith, counts, before)

    there : told_at s c.thread ≡ Some told
    there = taken-told f m e law was.list c told moved

    machine : (thread_at m c.thread).pending ≡ Pending.Resume ∷ rest
    machine = sym (ap (λ (z : Thread). z.pending) (own-is f m c of-c whole-before)) ∙ has

    told-is : (thread_at m c.thread).told ≡ Some told
    told-is = scheduler-tells f m law.rel c.thread of-c.index told there

    quiet-act : begins_cleaning e ≡ false
    quiet-act = ap (λ (a : FineAct). begins_cleaning (record e { act = a })) said

    next : now ≡ record (after_take f.image p (Exchange.thread c (Some told))) { actor = Some c.thread }
    next =
        exact-next f.image p e [] was.list quiet-act
        ∙ (ap (λ (a : FineAct). with_actor f.image (goes_on_by f.image p e []) a) said ∙ ap (λ (mv : Exchange). record (after_take f.image p mv) { actor = Some c.thread }) moved)

    context : now.context ≡ resumed f.image c told
    context = ap (λ (z : Processor). z.context) next

    thread : now.context.thread ≡ c.thread
    thread = ap (λ (z : Context). z.thread) context ∙ ap (λ (h : Held). h.0) (resumed-held f.image c told)

    ready : s.ready ≡ c.thread ∷ (scheduler later).ready
    ready = taken.ready ∙ λ i. index i ∷ ap (λ (z : Scheduler). z.ready) (sym taken.after) i

    still : is_still m c.thread ≡ false
    still =
        let me = thread_at m c.thread in
        ap (λ (steps : Steps). (me.doomed || me.suspended && not me.aborted) && length steps == 0) machine ∙ none (me.doomed || me.suspended && not me.aborted) (length rest)
      where
        none : (b : Bool) (n : ℕ) → (b && suc n == 0) ≡ false
        none true n = not-zero n
        none false n = refl

    -- marks that were given since the last event are no matter, since a thread is ready
    plain : Plain (clock f).marks at.armings ⊎ (Passed m (clock f).marks at.armings × (s.ready ≡ [])) → Plain (clock f).marks at.armings
    plain (inl is) = is
    plain (inr passed) = absurd (true≢false (ap is_empty (sym passed.1 ∙ ready)))

    todo-is : now.todo ≡ next_steps f.image (resumed f.image c told) (resumed f.image c told).pending
    todo-is = ap (λ (z : Processor). z.todo) next

    cut : cutters now.todo ≡ []
    cut = ap cutters todo-is ∙ cuts-expands f.image [] (resumed f.image c told) tt refl

    woken : wakers now.todo ≡ []
    woken = takes-wakers f.image p e was.list

    one-step : IsNext m c.thread Act.Resume s2
    one-step =
        record {
          step = Pending.Resume;
          row = 0;
          taken = 1;
          next = inl (refl, ap (λ steps. first_or (slice_get steps 0) (rest_step m c.thread)) machine);
          least = (((told, told-is), tt), λ y l. absurd (omega (arith, l)));
          says = refl;
          leaves = ap (T.after m c.thread 0 Pending.Resume) (sym (ap (drop 1) machine));
        }

    told-then : (thread_at s2 c.thread).told ≡ None
    told-then =
        let room : c.thread < length m.threads = (let many = law.sound.wide.threads in let few = of-c.index in omega (arith, few, many)) in
        ap (λ (z : Thread). z.told)
        ((λ i. thread_at (went rest m c.thread (Next.resumes (told-is i))) c.thread) ∙ at-here m.threads c.thread (gone rest m c.thread (Next.resumes (Some told)) (thread_at m c.thread)) room)

    no-show : (d : Context) → d.pending ≡ [] → list_any is_show (next_steps f.image d d.pending) ≡ false
    no-show d h = ap (λ steps. list_any is_show (next_steps f.image d steps)) h ∙ by d.ended
      where
        by : (b : Bool) → list_any is_show (end_of_turn f.image b) ≡ false
        by true = refl
        by false = refl

    pub resume-follows : Followed f at e law one orderly (T.after m c.thread 0 Pending.Resume rest)
    resume-follows =
        follow f at e law one orderly s2 related tells bounds c.thread Act.Resume More.Nothing
        (record {
          said = said;
          own = ap (is_own f.image) was.list;
          first = ap (λ o. running_or o (next_ready m at.ready)) was.inside
              ∙ (ap (next_ready m) (was.ready ∙ ap (λ z. was.skipped ++ z) ready)
              ∙ (next-skips m was.skipped (c.thread ∷ (scheduler later).ready) was.still ∙ ap (λ b. if b then next_ready m (scheduler later).ready else Some (to_thread c.thread)) still));
          next = one-step;
          base = ap (λ o. if is_some o then at.ready else behind_next m at.ready) was.inside
              ∙ (ap (behind_next m) (was.ready ∙ ap (λ z. was.skipped ++ z) ready)
              ∙ (behind-skips m was.skipped (c.thread ∷ (scheduler later).ready) was.still ∙ ap (λ b. if b then behind_next m (scheduler later).ready else (scheduler later).ready) still));
          uncut = was.cut;
          comes = λ i. woken_of (sym woken i) ++ (sym cut i ++ map (λ (d : Context). d.thread) (sym (takes-adders f.image p e was.list) i));
          nobody = refl;
          cuts_none = refl;
          whole = ap (cuts later) thread ∙ whole-after;
          steps = has-one now (takes-runs f.image p e was.list (subst IsThread (sym moved) tt));
          calm = ap (list_all is_calm) todo-is ∙ calm-expands f.image (resumed f.image c told) tt refl;
          alone = (λ some. absurd (true≢false (ap is_empty (sym cut) ∙ some)), λ some. (woken, cut));
          armings = subst (λ (z : Clock). Plain z.marks at.armings) (sym (clock-else f m e law (ap (λ i. same_site i Site.clock) taken.site))) (plain was.armings);
          thread = thread;
          of = subst (IsOf later s2) (sym context) (of-resumes f m e law c told rest of-c whole-before whole-after has there);
          runs = takes-runs f.image p e was.list (subst IsThread (sym moved) tt);
          shows = λ h. ap (λ (z : Processor). list_any is_show z.todo) next ∙ no-show (resumed f.image c told) (none-left (resumed f.image c told).pending (ap (λ (d : Context). is_empty d.pending) (sym context) ∙ h));
          ends = λ h. ap (λ (d : Context). d.ended) context ∙ (take-ends f.image p c (Some told) (ap (λ (z : Processor). says_done z.todo) (sym next) ∙ h)).1;
          told = λ h. ap (λ n. (thread_at s2 n).told) thread ∙ told-then;
        })
