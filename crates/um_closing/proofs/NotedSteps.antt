-- The scheduler's cell has the machine's priorities of all threads but those still to be added, after every lawful step.
use Rattle.std.specs.Prelude.{if◌then◌else◌, ◌==◌, ◌&&◌, not, slice_index_or, slice_set, ℤ, pos}
use Rattle.std.proofs.Common.{suc, zero, ◌+◌, ◌<◌, ◌∙◌, ◌∷◌, ◌≡◌, Bool, List, None, Some, [], ap, arith, cond, eq-eqb, false, inl, length, refl, subst, sym, true, ℕ}
use Rattle.std.proofs.lemmas.Bool.{eqb-false, eqb-true, false≢true}
use Rattle.std.proofs.lemmas.Grind.{get_or-set_at}
use Rattle.std.proofs.lemmas.List.{get_or-set_other, length-set}
use Rattle.um_base.specs.declared.act.Act.{Act}
use Rattle.um_base.specs.declared.image.Image.{Image}
use Rattle.um_base.specs.declared.names.ThreadIx.{ThreadIx}
use Rattle.um_base.specs.declared.limits.TheConstants.{THREADS}
use Rattle.um_machine.specs.Order.{Steps, to_thread}
use Rattle.um_machine.specs.State.{State, thread_at}
use Rattle.um_machine.specs.declared.pending.Pending.{Pending}
use Rattle.um_machine.specs.declared.thread.Thread.{Thread}
use Rattle.um_words.specs.declared.fine.FineAct.{FineAct}
use Rattle.um_words.specs.declared.fine.More.{More}
use Rattle.um_words.specs.declared.fine.Unseen.{Unseen}
use Rattle.um_fine.specs.Answers.{act_in, context_in, is_due_act, is_tick, is_void, now_in}
use Rattle.um_fine.specs.Asks.{by_actor, marks_end, me, says, says_idle, says_turn, site_by}
use Rattle.um_fine.specs.Context.{Context}
use Rattle.um_fine.specs.Follows.{p_next}
use Rattle.um_fine.specs.Places.{Todo, Todos}
use Rattle.um_fine.specs.Processor.{Processor, actor_or}
use Rattle.um_fine.specs.Scheduler.{Scheduler, first_taken, sched_after}
use Rattle.um_fine.specs.Sites.{same_site}
use Rattle.um_fine.specs.Steps.{Exchange, FineStep, Site}
use Rattle.um_fine.proofs.Keys.{same-sound}
use Rattle.um_refinement.specs.Fine.{Fine, scheduler}
use Rattle.um_refinement.specs.Frames.{AreFramed}
use Rattle.um_refinement.specs.Lists.{Adds, adders, has_steps, of_thread, times}
use Rattle.um_refinement.specs.Offers.{Fits, IsPutBack, is_over}
use Rattle.um_refinement.specs.Threads.{IsOf, as_cut, cutters}
use Rattle.um_refinement.proofs.Erased.{around}
use Rattle.um_refinement.proofs.Leaves.{Beside, Lawful, Leaves, beside, cleans, cuts, drops, event, expires, leaves, nothing, passes, recycles, resumes, ticks, times_out}
use Rattle.um_refinement.proofs.ListAdders.{is_rouse_step, next-adders}
use Rattle.um_refinement.proofs.ListGrips.{read-rests}
use Rattle.um_refinement.proofs.ListGrowth.{ReadsLast}
use Rattle.um_refinement.proofs.Offered.{Shows, behind-is}
use Rattle.um_refinement.proofs.Rousing.{list}
use Rattle.um_refinement.proofs.SchedulerSteps.{made-at, made-moves, made-says, sched-else, sched-later, shown-elsewhere}
use Rattle.um_closing.specs.Idle.{IsAdded}
use Rattle.um_closing.specs.ReadOff.{priority_there}
use Rattle.um_closing.proofs.Priorities.{StartsOther, priority-stays}

-- The cell has a place for each thread index, and there the machine's priority of each thread but those still to be added.
pub record IsNoted (f : Fine) (m : State) : Type 0 where
  pub wide : length (scheduler f).priorities ≡ THREADS
  pub noted : (t : ℕ) → t < THREADS → IsAdded f t → priority_there f.sites t ≡ (thread_at m t).priority

-- What steps there do to the priorities.

taken-same : (s : Scheduler) (ready : List ℕ) → (first_taken s ready).priorities ≡ s.priorities
taken-same s [] = refl
taken-same s (t ∷ ready) = refl

after-wide : (s : Scheduler) (act : FineAct) (moved : Exchange) → length (sched_after s act moved).priorities ≡ length s.priorities
after-wide s (FineAct.Shown _ more) moved = ap length (taken-same s s.ready)
after-wide s (FineAct.Unseen (Unseen.Next who)) moved = ap length (taken-same s s.ready)
after-wide s (FineAct.Unseen (Unseen.Park who ready)) moved = length-set s.priorities _ _
after-wide s (FineAct.Unseen (Unseen.Add who)) moved = length-set s.priorities _ _
after-wide s (FineAct.Unseen u) moved = refl

turn-same : (image : Image) (p : Processor) (s : Scheduler) (moved exchange : Exchange) → (sched_after s (says_turn image p exchange) moved).priorities ≡ s.priorities
turn-same image p s moved (Exchange.thread c None) = taken-same s s.ready
turn-same image p s moved (Exchange.thread c (Some told)) = taken-same s s.ready
turn-same image p s moved exchange = taken-same s s.ready

idle-same : (image : Image) (p : Processor) (s : Scheduler) (act : FineAct) (moved exchange : Exchange) → (sched_after s (says_idle image p act exchange) moved).priorities ≡ s.priorities
idle-same image p s act moved exchange = by (is_due_act act) (is_tick act)
  where
    by : (due tick : Bool)
        → (sched_after s (if due then FineAct.Unseen Unseen.Due else if tick then by_actor image p (Act.Tick (now_in (act_in act))) else says_turn image p exchange) moved).priorities ≡ s.priorities
    by true tick = refl
    by false true = taken-same s s.ready
    by false false = turn-same image p s moved exchange

-- what isn't added to a list is in it if it was before
added-less : {n : ℕ} (b : Bool) → (if b then n + 1 else n) ≡ 0 → n ≡ 0
added-less true h = omega (arith, h)
added-less false h = h

-- a cut leaves the priority
cut-same : (n : ℕ) (c : Context) → (as_cut n c).priority ≡ c.priority
cut-same zero c = refl
cut-same (suc n) c = refl

-- a look that finds somebody, or nobody
found-same : (s : Scheduler) (void : Bool) (t : ThreadIx) (act : Act) (moved : Exchange)
    → (sched_after s (if void then FineAct.Unseen Unseen.Void else FineAct.Shown (record { thread = t; act = act }) More.Nothing) moved).priorities ≡ s.priorities
found-same s true t act moved = refl
found-same s false t act moved = taken-same s s.ready

module _ (f : Fine) (m : State) (e : FineStep) (law : Lawful f m e) where
  open around f e use {later, processor as p, now}

  wide-kept : length (scheduler f).priorities ≡ THREADS → length (scheduler later).priorities ≡ THREADS
  wide-kept was = by (same_site e.site Site.scheduler) refl ∙ was
    where
      by : (b : Bool) → same_site e.site Site.scheduler ≡ b → length (scheduler later).priorities ≡ length (scheduler f).priorities
      by true here =
          ap (λ (s : Scheduler). length s.priorities) (sched-later f m e law (same-sound e.site Site.scheduler here) e.act refl)
          ∙ after-wide (scheduler f) e.act e.moved
      by false off = ap (λ (s : Scheduler). length s.priorities) (sched-else f m e law off)

  module _ (was : IsNoted f m) (s : State) (how : Leaves f m e s) (t : ℕ) (few : t < THREADS) (added : IsAdded later t) where
    -- nothing is left to add on the maker's list
    now-none : of_thread t (adders now.todo) ≡ 0
    now-none = ap (λ b. of_thread t (adders (cond b now p).todo)) (sym (eq-eqb e.cpu e.cpu refl)) ∙ added e.cpu law.by.named

    -- if nothing was to be added there before, nothing was anywhere
    added-before : of_thread t (adders p.todo) ≡ 0 → IsAdded f t
    added-before none k l = by (e.cpu == k) refl
      where
        by : (b : Bool) → (e.cpu == k) ≡ b → of_thread t (adders (f.processors k).todo) ≡ 0
        by true same = subst (λ n. of_thread t (adders (f.processors n).todo) ≡ 0) (eqb-true e.cpu k same) none
        by false other = ap (λ b. of_thread t (adders (cond b (p_next f.image (f.processors k) e) (f.processors k)).todo)) (sym other) ∙ added k l

    -- where one that sleeps is roused, it is added to what was to be added
    roused : (q : Todo) (todo : Todos) → p.todo ≡ q ∷ todo → is_rouse_step q ≡ true → of_thread t (adders todo) ≡ 0
    roused (Todo.rouse who) todo at h = found (is_void e.act) refl
      where
        found : (b : Bool) → is_void e.act ≡ b → of_thread t (adders todo) ≡ 0
        found true void = ap (of_thread t) (sym (list f m e law who todo at true void)) ∙ now-none
        found false there = added-less ((context_in e.moved).thread == t) (ap (of_thread t) (sym (list f m e law who todo at false there)) ∙ now-none)
    roused q todo at h = absurd (false≢true h)

    -- the rest of the maker's list is what is left to add there
    behind : (q : Todo) (todo : Todos) → p.todo ≡ q ∷ todo → of_thread t (adders todo) ≡ 0
    behind q todo at = by (is_rouse_step q) refl
      where
        last : (q : Todo) → p.todo ≡ q ∷ todo → ReadsLast e q todo
        last (Todo.show r rest) at = λ read.
            (subst (Fits f.image p.context) at (law.rel.processors e.cpu law.by.named).list.fits).1
            ∙ read-rests f.image p p.context r e.act (made-says f m e law (Todo.show r rest ∷ todo) at) read
        last r at = tt

        by : (b : Bool) → is_rouse_step q ≡ b → of_thread t (adders todo) ≡ 0
        by true rouses = roused q todo at rouses
        by false other =
            ap (of_thread t) (sym (next-adders f.image p e q todo at other (subst (AreFramed f.image) at (law.rel.processors e.cpu law.by.named).frames).0 (last q at))) ∙ now-none

    -- The machine's priority stays: a start of this thread would leave it to be added.

    not-started : (q : Pending) (rest : Steps) (todo : Todos) → Shows f m e.cpu e q rest todo → StartsOther t q
    not-started (Pending.Start who script stack priority mode) rest todo h = λ same. absurd (omega (arith, none, added-one, one same))
      where
        none : of_thread t (adders todo) ≡ 0
        none = behind (Todo.show h.listed rest) todo h.at

        added-one : of_thread t (adders todo) ≡ (if who.0 == t then 0 + 1 else 0)
        added-one = ap (λ (z : Todos). of_thread t (adders z)) (behind-is h)

        one : who.0 ≡ t → (if who.0 == t then 0 + 1 else 0) ≡ 1
        one same = ap (λ b. if b then 0 + 1 else 0) (eq-eqb who.0 t same)
    not-started q rest todo h = tt

    stays : (z : State) → Leaves f m e z → (thread_at z t).priority ≡ (thread_at m t).priority
    stays _ (nothing u said) = refl
    stays _ (event q rest todo x h shown is) = priority-stays m p.context.thread t x q rest (not-started q rest todo h)
    stays _ (resumes c told rest idle moved said) = priority-stays m c.thread t 0 Pending.Resume rest tt
    stays _ (passes who x rest todo h said) = priority-stays m p.context.thread t x (Pending.Inherit (to_thread who)) rest tt
    stays _ (drops from x rest todo h said) = priority-stays m p.context.thread t x (Pending.Drops from) rest tt
    stays _ (cleans who x rest todo h said) = priority-stays m p.context.thread t x (Pending.CleanPair (to_thread who)) rest tt
    stays _ (recycles x rest todo at l said chosen) = priority-stays m p.context.thread t x Pending.Recycle rest tt
    stays _ (beside u x q how chosen started) = priority-stays m u t x q (thread_at m u).pending (beside-other how)
      where
        beside-other : {u x : ℕ} {q : Pending} → Beside f m e u x q → StartsOther t q
        beside-other (cuts who site before x l there inside few said) = tt
        beside-other (times_out deadline site x who l there inside few said) = tt
        beside-other (expires deadline x l there inside said) = tt
        beside-other (ticks idle said) = tt
        beside-other (leaves l there said) = tt

    abbrev Noted : Type 0
    Noted = priority_there later.sites t ≡ (thread_at s t).priority

    -- a step that leaves all priorities
    kept : (scheduler later).priorities ≡ (scheduler f).priorities → of_thread t (adders p.todo) ≡ 0 → Noted
    kept same before = ap (λ (ps : List ℤ). slice_index_or ps t (pos 0)) same ∙ (was.noted t few (added-before before) ∙ sym (stays s how))

    -- a step that puts the machine's own part there
    puts : (c : Context) → (scheduler later).priorities ≡ slice_set (scheduler f).priorities c.thread c.priority → IsOf f m c
        → ((c.thread == t) ≡ false → of_thread t (adders p.todo) ≡ 0) → Noted
    puts c left of before = ap (λ (ps : List ℤ). slice_index_or ps t (pos 0)) left ∙ (by (c.thread == t) refl ∙ sym (stays s how))
      where
        by : (b : Bool) → (c.thread == t) ≡ b → slice_index_or (slice_set (scheduler f).priorities c.thread c.priority) t (pos 0) ≡ (thread_at m t).priority
        by true q =
            let same = eqb-true c.thread t q in
            let wide = was.wide in
            let index = of.index in
            get_or-set_at (scheduler f).priorities c.thread t c.priority (pos 0) (sym same) (omega (arith, wide, index))
            ∙ (sym (cut-same (cutters f c.thread) c) ∙ ap (λ (th : Thread). th.priority) of.own ∙ ap (λ n. (thread_at m n).priority) same)
        by false q =
            get_or-set_other (scheduler f).priorities c.thread t c.priority (pos 0) (λ same. eqb-false c.thread t q (sym same))
            ∙ was.noted t few (added-before (before q))

    -- what stands there after a step at the scheduler, and after one elsewhere
    there : (todo : Todos) → p.todo ≡ todo → site_by f.image p todo e.act ≡ Site.scheduler
        → (scheduler later).priorities ≡ (sched_after (scheduler f) (says f.image p todo e.act e.moved) e.moved).priorities
    there todo at here =
        ap (λ (z : Scheduler). z.priorities) (sched-later f m e law (made-at f m e law todo at ∙ here) (says f.image p todo e.act e.moved) (made-says f m e law todo at))

    elsewhere : (todo : Todos) → p.todo ≡ todo → same_site (site_by f.image p todo e.act) Site.scheduler ≡ false → (scheduler later).priorities ≡ (scheduler f).priorities
    elsewhere todo at off = ap (λ (z : Scheduler). z.priorities) (sched-else f m e law (ap (λ i. same_site i Site.scheduler) (made-at f m e law todo at) ∙ off))

    -- a step that leaves them there leaves them wherever it is made
    anywhere : (todo : Todos) → p.todo ≡ todo → (sched_after (scheduler f) (says f.image p todo e.act e.moved) e.moved).priorities ≡ (scheduler f).priorities
        → (scheduler later).priorities ≡ (scheduler f).priorities
    anywhere todo at same = by (same_site e.site Site.scheduler) refl
      where
        by : (b : Bool) → same_site e.site Site.scheduler ≡ b → (scheduler later).priorities ≡ (scheduler f).priorities
        by true here =
            ap (λ (z : Scheduler). z.priorities) (sched-later f m e law (same-sound e.site Site.scheduler here) (says f.image p todo e.act e.moved) (made-says f m e law todo at)) ∙ same
        by false off = ap (λ (z : Scheduler). z.priorities) (sched-else f m e law off)

    -- an own part that goes with a step is put there
    with-part : (c : Context) → e.moved ≡ Exchange.thread c None
        → slice_set (scheduler f).priorities (context_in e.moved).thread (context_in e.moved).priority ≡ slice_set (scheduler f).priorities c.thread c.priority
    with-part c moved = ap (λ (mv : Exchange). slice_set (scheduler f).priorities (context_in mv).thread (context_in mv).priority) moved

    on-park : (todo : Todos) → p.todo ≡ Todo.park ∷ todo → Noted
    on-park todo at =
        puts p.context
        (there (Todo.park ∷ todo) at refl ∙ with-part p.context (made-moves f m e law (Todo.park ∷ todo) at))
        ((law.rel.contexts.running e.cpu law.by.named (ap (λ (z : Todos). has_steps z && not (times z)) (at ∙ ap (λ (z : Todos). Todo.park ∷ z) fits.2))).of fits.1)
        (λ other. ap (λ (z : Todos). of_thread t (adders z)) (at ∙ ap (λ z. Todo.park ∷ z) fits.2))
      where
        fits : IsPutBack p.context × (is_over p.context ≡ false) × (todo ≡ [])
        fits = subst (Fits f.image p.context) at (law.rel.processors e.cpu law.by.named).list.fits

    on-add : (d : Context) (todo : Todos) → p.todo ≡ Todo.add d ∷ todo → Noted
    on-add d todo at =
        puts d
        (there (Todo.add d ∷ todo) at refl ∙ with-part d (made-moves f m e law (Todo.add d ∷ todo) at))
        (law.rel.contexts.added e.cpu d law.by.named (subst (Adds d) (sym at) (inl refl))).0
        (λ other.
        ap (λ (z : Todos). of_thread t (adders z)) at
        ∙ (ap (λ b. if b then of_thread t (adders todo) + 1 else of_thread t (adders todo)) other ∙ behind (Todo.add d) todo at))

    -- the maker's list has as much to add as its rest
    before : (q : Todo) (todo : Todos) → p.todo ≡ q ∷ todo → of_thread t (adders (q ∷ todo)) ≡ of_thread t (adders todo) → of_thread t (adders p.todo) ≡ 0
    before q todo at passed = ap (λ (z : Todos). of_thread t (adders z)) at ∙ (passed ∙ behind q todo at)

    by-todo : (todo : Todos) → p.todo ≡ todo → Noted
    by-todo [] at = kept (anywhere [] at (idle-same f.image p (scheduler f) e.act e.moved e.moved)) (ap (λ (z : Todos). of_thread t (adders z)) at)
    by-todo (Todo.show q rest ∷ todo) at =
        kept (elsewhere (Todo.show q rest ∷ todo) at (shown-elsewhere f.image p q)) (ap (λ (z : Todos). of_thread t (adders z)) at)
    by-todo (Todo.park ∷ todo) at = on-park todo at
    by-todo (Todo.add d ∷ todo) at = on-add d todo at
    by-todo (Todo.wake who told ∷ todo) at = kept (there (Todo.wake who told ∷ todo) at refl) (before (Todo.wake who told) todo at refl)
    by-todo (Todo.done ∷ todo) at = kept (there (Todo.done ∷ todo) at refl) (before Todo.done todo at refl)
    by-todo (Todo.tell_cut who ∷ todo) at = kept (there (Todo.tell_cut who ∷ todo) at refl) (before (Todo.tell_cut who) todo at refl)
    by-todo (Todo.look who site number ∷ todo) at =
        kept (anywhere (Todo.look who site number ∷ todo) at (found-same (scheduler f) (is_void e.act) (me f.image p) (Act.Cut (to_thread who)) e.moved)) (before (Todo.look who site number) todo at refl)
    by-todo (Todo.handle deadline mark ∷ todo) at =
        kept (anywhere (Todo.handle deadline mark ∷ todo) at (found-same (scheduler f) (is_void e.act) (to_thread (actor_or f.image p.actor)) (marks_end f.image p mark e.act) e.moved))
        (before (Todo.handle deadline mark) todo at refl)
    by-todo (Todo.owe ∷ todo) at = kept (there (Todo.owe ∷ todo) at refl) (before Todo.owe todo at refl)
    by-todo (Todo.paid ∷ todo) at = kept (there (Todo.paid ∷ todo) at refl) (before Todo.paid todo at refl)
    by-todo (q ∷ todo) at = kept (elsewhere (q ∷ todo) at refl) (before q todo at refl)

  pub noted-step : IsNoted f m → (s : State) → Leaves f m e s → IsNoted later s
  noted-step was s how = record { wide = wide-kept was.wide; noted = λ t few added. by-todo was s how t few added p.todo refl }
