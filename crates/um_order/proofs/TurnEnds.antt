-- A step by which a turn ends: its thread is put back, or was over. The ready lists agree then, and the processor has nothing to do.
use Rattle.std.proofs.Common.{◌≡◌, inl, inr, ℕ, Bool, true, false, [], ◌∷◌, ◌++◌, Some, None, refl, sym, ap, ◌∙◌, subst, arith, append-nil}
use Rattle.std.specs.Prelude.{◌&&◌, ◌||◌, not, IsTrue, if◌then◌else◌, is_some}
use Rattle.std.specs.List.{list_any}
use Rattle.std.proofs.lemmas.Bool.{false≢true, true≢false}
use Rattle.um_machine.specs.declared.pending.Pending.{Pending}
use Rattle.um_machine.specs.Order.{Steps, to_thread}
use Rattle.um_machine.specs.Services.{is_empty}
use Rattle.um_invariants.specs.InOrder.{Point}
use Rattle.um_words.specs.declared.fine.FineAct.{FineAct}
use Rattle.um_words.specs.declared.fine.Unseen.{Unseen}
use Rattle.um_fine.specs.Context.{Context}
use Rattle.um_fine.specs.Answers.{context_in, ready_in}
use Rattle.um_fine.specs.Asks.{begins_cleaning}
use Rattle.um_fine.specs.Clock.{Clock}
use Rattle.um_fine.specs.Places.{Todo, Todos}
use Rattle.um_fine.specs.Scheduler.{Scheduler, behind, is_cut, is_ready, told_at, waits}
use Rattle.um_fine.specs.Sites.{same_site}
use Rattle.um_fine.specs.Steps.{Exchange, FineStep, Site}
use Rattle.um_refinement.specs.Fine.{Fine, clock, one_if, scheduler}
use Rattle.um_refinement.specs.Frames.{Behind}
use Rattle.um_refinement.specs.Lists.{is_done, is_sleep}
use Rattle.um_refinement.specs.Offers as O
use Rattle.um_refinement.specs.Offers.{Fits, IsOffered, is_over}
use Rattle.um_refinement.specs.Threads.{IsRun}
use Rattle.um_refinement.proofs.ClockSteps.{clock-else, is_timing, off-clock}
use Rattle.um_refinement.proofs.Erased.{around}
use Rattle.um_refinement.proofs.Leaves.{Lawful}
use Rattle.um_refinement.proofs.ListDone.{says_done}
use Rattle.um_refinement.proofs.ListRuns.{ends-rests}
use Rattle.um_refinement.proofs.Offered.{runs-first}
use Rattle.um_refinement.proofs.ResumeSteps.{told-some}
use Rattle.um_refinement.proofs.SchedulerSteps.{made-at, made-moves, made-says, sched-later, sched-said}
use Rattle.um_refinement.proofs.StepReads.{is-behind, is-placed}
use Rattle.um_order.proofs.ArmingOrder.{Plain}
use Rattle.um_order.proofs.Standing.{Begun, Idles, Turns, back, comers, goes, inside_of}

module _ (f : Fine) (at : Point) (e : FineStep) (law : Lawful f at.state e) (was : Begun (f.processors e.cpu) (scheduler f) (clock f).marks at) where
  open around f e use {later, processor as p, now}

  abbrev s : Scheduler
  s = scheduler f

  abbrev t : ℕ
  t = p.context.thread

  frame : (q : Todo) (todo : Todos) → p.todo ≡ q ∷ todo → Behind f.image q todo
  frame = (is-behind f at.state e law).frame

  turn : Turns p p.todo [] s (clock f).marks at
  turn = was.0

  timeless : (q : Todo) (todo : Todos) → p.todo ≡ q ∷ todo → is_timing q ≡ false → Plain (clock later).marks at.armings
  timeless q todo list off =
      let left = clock-else f at.state e law (ap (λ i. same_site i Site.clock) (made-at f at.state e law (q ∷ todo) list) ∙ off-clock f.image p q todo off (is-placed f at.state e law q todo list)) in
      subst (λ (c : Clock). Plain c.marks at.armings) (sym left) turn.armings

  pub parks : (todo : Todos) → p.todo ≡ Todo.park ∷ todo → Idles now (scheduler later) (clock later).marks at
  parks todo list =
      record {
        list = ends-rests f.image p e Todo.park todo list refl (ap (λ (a : FineAct). begins_cleaning (record e { act = a })) said);
        skipped = [];
        still = tt;
        ready = turn.ready ∙ (ap (λ (z : Todos). s.ready ++ (comers z ++ back p.context)) (list ∙ ap (λ (z : Todos). Todo.park ∷ z) empty) ∙ by p.context.pending refl fits.0);
        inside = turn.inside ∙ out p.context fits.0;
        cut = was.1;
        armings = inl (timeless Todo.park todo list refl);
      }
    where
      act : FineAct
      act = FineAct.Unseen (Unseen.Park (to_thread t) (ready_in e.act))

      said : e.act ≡ act
      said = made-says f at.state e law (Todo.park ∷ todo) list

      site : e.site ≡ Site.scheduler
      site = made-at f at.state e law (Todo.park ∷ todo) list

      moved : e.moved ≡ Exchange.thread p.context None
      moved = made-moves f at.state e law (Todo.park ∷ todo) list

      empty : todo ≡ []
      empty = frame Todo.park todo list

      fits : O.IsPutBack p.context × (is_over p.context ≡ false) × (todo ≡ [])
      fits = subst (Fits f.image p.context) list (law.rel.processors e.cpu law.by.named).list.fits

      answer : is_ready s p.context ≡ ready_in e.act
      answer = ap (λ (c : Context). is_ready s c) (sym (ap context_in moved)) ∙ ap ready_in (sched-said f at.state e law site act said)

      ready : (scheduler later).ready ≡ behind (is_ready s p.context) t s.ready
      ready =
          ap (λ (z : Scheduler). z.ready) (sched-later f at.state e law site act said)
          ∙ λ i. behind (sym answer i) (context_in (moved i)).thread s.ready

      out : (c : Context) → O.IsPutBack c → inside_of c ≡ None
      out c (inl h) = ap (λ steps. if goes steps then Some (to_thread c.thread) else None) h
      out c (inr h) = which c.pending h
        where
          which : (steps : Steps) → IsTrue (waits steps) → (if goes steps then Some (to_thread c.thread) else None) ≡ None
          which [] k = absurd (false≢true k)
          which (Pending.Resume ∷ rest) k = refl
          which (q ∷ rest) k = absurd (false≢true k)

      of : IsRun f at.state p.context
      of = law.rel.contexts.running e.cpu law.by.named (runs-first law.rel law.by.named Todo.park todo list (λ hand. hand))

      -- if it waits, it was told nothing, and wasn't cut
      untold : IsTrue (waits p.context.pending) → is_some (told_at s t) ≡ false
      untold h = which (is_some (told_at s t)) refl
        where
          which : (b : Bool) → is_some (told_at s t) ≡ b → b ≡ false
          which false k = refl
          which true k =
              let some = told-some f at.state law.rel t f.cpus k in
              absurd (false≢true (ap is_some (sym (turn.told h)) ∙ (ap is_some (law.rel.threads t of.index).told.told ∙ some)))

      uncut : IsTrue (waits p.context.pending) → is_cut s t ≡ false
      uncut h = which (is_cut s t) refl
        where
          which : (b : Bool) → is_cut s t ≡ b → b ≡ false
          which false k = refl
          which true k =
              let here = ap one_if k in
              let left = (law.rel.threads t of.index).cut.left (omega (arith, here)) in
              absurd (false≢true (ap waits (sym left) ∙ turn.whole h))

      by : (steps : Steps) → p.context.pending ≡ steps → O.IsPutBack p.context → s.ready ++ ([] ++ back p.context) ≡ [] ++ (scheduler later).ready
      by [] h put =
          let on : p.context.ended ≡ false = not-over p.context h fits.1 in
          let mine : back p.context ≡ t ∷ [] = λ i. if is_empty (h i) && not (on i) then t ∷ [] else [] in
          let there : is_ready s p.context ≡ true = ap (λ z. not (waits z) || is_some (told_at s t) || is_cut s t) h in
          ap (λ z. s.ready ++ z) mine ∙ sym (ready ∙ ap (λ b. behind b t s.ready) there)
        where
          not-over : (c : Context) → c.pending ≡ [] → is_over c ≡ false → c.ended ≡ false
          not-over c h o = which c.ended refl
            where
              which : (b : Bool) → c.ended ≡ b → b ≡ false
              which false k = refl
              which true k = absurd (true≢false (sym (λ i. k i && is_empty (h i)) ∙ o))
      by (q ∷ rest) h put =
          let waiting : waits p.context.pending ≡ true = later-waits put in
          let mine : back p.context ≡ [] = ap (λ z. if is_empty z && not p.context.ended then t ∷ [] else []) h in
          let gone : is_ready s p.context ≡ false = λ i. not (waiting i) || untold waiting i || uncut waiting i in
          ap (λ z. s.ready ++ z) mine ∙ (append-nil s.ready ∙ sym (ready ∙ ap (λ b. behind b t s.ready) gone))
        where
          later-waits : O.IsPutBack p.context → waits p.context.pending ≡ true
          later-waits (inl none) = absurd (false≢true (sym (ap is_empty h) ∙ ap is_empty none))
          later-waits (inr w) = w

  pub dones : (todo : Todos) → p.todo ≡ Todo.done ∷ todo → Idles now (scheduler later) (clock later).marks at
  dones todo list =
      record {
        list = ends-rests f.image p e Todo.done todo list refl (ap (λ (a : FineAct). begins_cleaning (record e { act = a })) said);
        skipped = [];
        still = tt;
        ready = turn.ready ∙ (ap (λ (z : Todos). s.ready ++ (comers z ++ back p.context)) whole ∙ (ap (λ z. s.ready ++ z) mine ∙ (append-nil s.ready ∙ sym same)));
        inside = turn.inside ∙ ap (λ steps. if goes steps then Some (to_thread t) else None) rests;
        cut = was.1;
        armings = inl (timeless Todo.done todo list refl);
      }
    where
      said : e.act ≡ FineAct.Unseen Unseen.Done
      said = made-says f at.state e law (Todo.done ∷ todo) list

      site : e.site ≡ Site.scheduler
      site = made-at f at.state e law (Todo.done ∷ todo) list

      whole : p.todo ≡ Todo.done ∷ []
      whole = list ∙ ap (λ (z : Todos). Todo.done ∷ z) (frame Todo.done todo list)

      over : p.context.ended ≡ true
      over = turn.ends (ap says_done whole)

      rests : p.context.pending ≡ []
      rests = (law.rel.contexts.done e.cpu law.by.named (ap (list_any is_done) whole) (ap (list_any is_sleep) whole)).0

      mine : back p.context ≡ []
      mine = λ i. if is_empty (rests i) && not (over i) then t ∷ [] else []

      same : (scheduler later).ready ≡ s.ready
      same = ap (λ (z : Scheduler). z.ready) (sched-later f at.state e law site (FineAct.Unseen Unseen.Done) said)
