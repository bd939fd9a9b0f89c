-- A thread stops another one: the event follows, and the processor looks whether that one waits, if it has a note, or else whether it sleeps. One that stops
-- itself goes on to its end.
use Rattle.std.proofs.Common.{◌≡◌, ◌⊎◌, inl, inr, ℕ, ◌<◌, Bool, true, false, List, [], ◌∷◌, ◌++◌, Option, Some, None, refl, sym, ap, ◌∙◌, subst, arith, append-nil, eq-eqb}
use Rattle.std.specs.Prelude.{◌==◌, ◌&&◌, not, if◌then◌else◌, is_some}
use Rattle.std.specs.List.{list_any}
use Rattle.std.proofs.lemmas.Bool.{eqb-true, false≢true, true≢false}
use Rattle.um_base.specs.declared.act.Act.{Act}
use Rattle.um_base.specs.declared.act.Answer.{Answer}
use Rattle.um_base.specs.declared.image.Image.{Image}
use Rattle.um_base.specs.declared.limits.TheConstants.{THREADS}
use Rattle.um_base.specs.declared.names.ThreadIx.{ThreadIx}
use Rattle.um_machine.specs.declared.pending.Pending.{Pending}
use Rattle.um_machine.specs.declared.thread.Thread.{Thread}
use Rattle.um_machine.specs.Order.{Steps, to_thread}
use Rattle.um_machine.specs.Services.{is_empty}
use Rattle.um_machine.specs.State.{State, is_to_resume, is_waiting, thread_at}
use Rattle.um_machine.specs.Table as T
use Rattle.um_invariants.specs.InOrder.{Point, to_cut, waiting}
use Rattle.um_invariants.specs.Lines.{all_join}
use Rattle.um_invariants.specs.Ready.{behind_next, is_at_rest, next_ready, ready_after, roused, running_or}
use Rattle.um_words.specs.declared.fine.FineAct.{FineAct}
use Rattle.um_fine.specs.Answers.{act_in, answer_in, is_done_in, is_killed, thread_in}
use Rattle.um_fine.specs.Asks.{begins_cleaning, more_of, says_step}
use Rattle.um_fine.specs.Clock.{Clock}
use Rattle.um_fine.specs.Context.{Context}
use Rattle.um_fine.specs.Continues.{continues}
use Rattle.um_fine.specs.Follows.{after_show, filled_up, looks_for, rereads, with_actor}
use Rattle.um_fine.specs.Joins.{sleeps}
use Rattle.um_fine.specs.Places.{Todo, Todos, next_steps, put_away}
use Rattle.um_fine.specs.Processor.{Processor}
use Rattle.um_fine.specs.Sites.{same_site}
use Rattle.um_fine.specs.Steps.{FineStep, Site}
use Rattle.um_refinement.specs.Fine.{Fine, clock, joins, scheduler}
use Rattle.um_refinement.specs.Lists.{adders, of_thread, runs}
use Rattle.um_refinement.specs.Offers.{Fits, IsOffered, is_over}
use Rattle.um_refinement.specs.Relation.{Rel}
use Rattle.um_refinement.specs.Threads.{IsOf, cutters as cuts, runs_on}
use Rattle.um_refinement.proofs.ChildrenKnown.{AllCreate}
use Rattle.um_refinement.proofs.ContextsPart.{event-uncut}
use Rattle.um_refinement.proofs.Erased.{around}
use Rattle.um_refinement.proofs.LawfulSteps.{Suits}
use Rattle.um_refinement.proofs.Leaves.{Lawful, event}
use Rattle.um_refinement.proofs.ListAdders.{filled-adders}
use Rattle.um_refinement.proofs.ListTails.{exact-next}
use Rattle.um_refinement.proofs.MarksPart.{clock-same}
use Rattle.um_refinement.proofs.MemoryPart.{InDomains}
use Rattle.um_refinement.proofs.OfKept.{of-kept}
use Rattle.um_refinement.proofs.Offered.{IsStep, Shows, at-made, behind-is, own-part, own-same, shown-offers}
use Rattle.um_refinement.proofs.RunningPart.{todo-elsewhere}
use Rattle.um_refinement.proofs.SchedulerSteps.{made-at, sched-else}
use Rattle.um_refinement.proofs.Continued.{continues-thread}
use Rattle.um_order.proofs.ArmingOrder.{Plain}
use Rattle.um_order.proofs.EventLines.{own-is}
use Rattle.um_order.proofs.Follow.{Followed, here}
use Rattle.um_order.proofs.ListShapes.{is_own}
use Rattle.um_order.proofs.NextSteps.{leads, next-is}
use Rattle.um_order.proofs.RousedLines.{roused-line}
use Rattle.um_order.proofs.ShownLists.{goes-offered, goes-some}
use Rattle.um_order.proofs.Standing.{Begun, IsFull, back, comers, goes, is_show}
use Rattle.um_order.proofs.StirOrder.{IsStir, line, not-rests, to-itself, to-looks, to-rouses}

no-reread : (image : Image) (answer : Answer) → rereads image answer None [] ≡ []
no-reread image Answer.Wait = refl
no-reread image (Answer.Now reply) = refl

module _ (f : Fine) (at : Point) (e : FineStep) (law : Lawful f at.state e) (one : f.cpus ≡ 1) (orderly : AllCreate at.state) (suits : Suits f at.state) (all : InDomains f at.state)
    (was : Begun (f.processors e.cpu) (scheduler f) (clock f).marks at) (who : ThreadIx) (rest : Steps) (todo : Todos) (x : ℕ) (h : Shows f at.state e.cpu e (Pending.Abort who) rest todo) (is : IsStep f at.state e.cpu e x (Pending.Abort who))
    (done : is_done_in (act_in e.act) ≡ true) (full : IsFull at.state (f.processors e.cpu).context.thread (f.processors e.cpu).context.pending)
    (going : goes (continues f.image (f.processors e.cpu).context 0 (Pending.Abort who) rest (act_in e.act) e.moved).pending ≡ true) where
  open around f e use {later, processor as p, now}

  abbrev m : State
  m = at.state

  abbrev t : ℕ
  t = p.context.thread

  abbrev q : Pending
  q = Pending.Abort who

  abbrev s2 : State
  s2 = T.after m t x (Pending.Abort who) rest

  abbrev next : Context
  next = continues f.image p.context 0 (Pending.Abort who) rest (act_in e.act) e.moved

  list : p.todo ≡ Todo.show (Pending.Abort who) rest ∷ []
  list = at-made h tt ∙ ap (λ (z : Todos). Todo.show (Pending.Abort who) rest ∷ z) (behind-is h)

  after : now ≡ with_actor f.image (after_show f.image p e (Pending.Abort who) rest []) e.act
  after =
      exact-next f.image p e (Todo.show (Pending.Abort who) rest ∷ []) list (ap (λ (a : FineAct). begins_cleaning (record e { act = a })) is.said)
      ∙ λ i. with_actor f.image (if h.shown i then record p { todo = put_away (thread_in e.word).doomed } else after_show f.image p e (if ap is_killed is.said i then Pending.Killed else Pending.Abort who) rest []) e.act

  after-said : now ≡ record (after_show f.image p e (Pending.Abort who) rest []) { actor = Some t }
  after-said = after ∙ ap (λ (a : FineAct). with_actor f.image (after_show f.image p e (Pending.Abort who) rest []) a) is.said

  context : now.context ≡ continues f.image p.context 0 (Pending.Abort who) rest (act_in e.act) e.moved
  context = ap (λ (z : Processor). z.context) after-said

  -- what stands on the list then
  abbrev left : Todos
  left = next_steps f.image now.context now.context.pending

  list-by : (b : Bool) → (not (who.0 == t)) ≡ b → now.todo ≡ (if b then looks_for f.image who.0 (thread_in e.word) (next_steps f.image now.context now.context.pending) else next_steps f.image now.context now.context.pending)
  list-by b other =
      ap (λ (z : Processor). z.todo) after-said
      ∙ ((λ i. if done i && other i then looks_for f.image who.0 (thread_in e.word) (filled_up f.image next (no-reread f.image (answer_in (act_in e.act)) i)) else filled_up f.image next (no-reread f.image (answer_in (act_in e.act)) i))
      ∙ ap (λ (c : Context). if b then looks_for f.image who.0 (thread_in e.word) (next_steps f.image c c.pending) else next_steps f.image c c.pending) (sym context))

  thread : now.context.thread ≡ t
  thread = ap (λ (c : Context). c.thread) context ∙ continues-thread f.image p.context 0 (Pending.Abort who) rest (act_in e.act) e.moved

  uncut : cuts later t ≡ 0
  uncut = event-uncut f m e law suits all s2 (event (Pending.Abort who) rest todo x h tt is) (Todo.show h.listed rest) todo h.at tt (own-part h) h.awake

  of : IsOf later s2 now.context
  of = subst (IsOf later s2) (sym context) (of-kept f m e law suits all rest todo x (Pending.Abort who) h tt is uncut)

  same : scheduler later ≡ scheduler f
  same =
      sched-else f m e law
      (ap (λ i. same_site i Site.scheduler) (made-at f m e law (Todo.show (Pending.Abort who) rest ∷ []) list) ∙ todo-elsewhere f.image p (Todo.show (Pending.Abort who) rest) [] refl tt)

  offered : IsOffered f.image p.context (Pending.Abort who) rest
  offered = (subst (Fits f.image p.context) list (law.rel.processors e.cpu law.by.named).list.fits).0

  on : goes p.context.pending ≡ true
  on = by (goes-offered f.image p.context tt offered)
    where
      by : (p.context.pending ≡ []) ⊎ (goes p.context.pending ≡ true) → goes p.context.pending ≡ true
      by (inl none) = absurd (true≢false (sym (ap (list_any is_show) list) ∙ was.0.shows (ap is_empty none)))
      by (inr is) = is

  inside : at.inside ≡ Some (to_thread t)
  inside = was.0.inside ∙ (goes-some p.context on).1

  none-back : back p.context ≡ []
  none-back = ap (λ b. if b && not p.context.ended then t ∷ [] else []) (goes-some p.context on).0

  going-then : goes now.context.pending ≡ true
  going-then = ap (λ (c : Context). goes c.pending) context ∙ going

  is-stir : IsStir f at e law one orderly s2 t (says_step f.image p (Pending.Abort who) (act_in e.act)) (more_of f.image p (Pending.Abort who))
  is-stir =
      record {
        said = is.said;
        own = ap (is_own f.image) list;
        uncut = was.1;
        first = ap (λ o. running_or o (next_ready m at.ready)) inside;
        next = next-is m t x (Pending.Abort who) rest (says_step f.image p (Pending.Abort who) (act_in e.act)) tt
            (leads m t (Pending.Abort who) rest tt (shown-offers h) (subst (IsFull m t) (ap (λ (z : Thread). z.pending) (own-same h)) full)) tt is.chosen is.says;
        base = ap (λ o. if is_some o then at.ready else behind_next m at.ready) inside
            ∙ (was.0.ready ∙ ((λ i. (scheduler f).ready ++ (ap comers list i ++ none-back i)) ∙ (append-nil (scheduler f).ready ∙ ap (λ z. z.ready) (sym same))));
        readies = refl;
        thread = thread;
        of = of;
        whole = ap (cuts later) thread ∙ uncut;
        goes_then = going-then;
        armings = subst (λ (c : Clock). Plain c.marks at.armings) (sym (clock-same f m e law (Todo.show (Pending.Abort who) rest) [] list refl)) was.0.armings;
      }

  act-is : says_step f.image p (Pending.Abort who) (act_in e.act) ≡ Act.Abort who true
  act-is = ap (Act.Abort who) done

  module _ (related : Rel later (T.after at.state (f.processors e.cpu).context.thread x (Pending.Abort who) rest)) (few : who.0 < THREADS)
      (undoomed : (thread_at (T.after at.state (f.processors e.cpu).context.thread x (Pending.Abort who) rest) who.0).doomed ≡ false) where
    first : e.cpu ≡ 0
    first = let l = law.by.named in omega (arith, l, one)

    here-first : later.processors 0 ≡ now
    here-first = ap (λ k. later.processors k) (sym first) ∙ here f at e law one orderly

    join : (r front : List ℕ) → roused s2 (says_step f.image p (Pending.Abort who) (act_in e.act)) ≡ r → all_join (scheduler later).ready r ≡ (scheduler later).ready ++ front
        → ready_after (waiting at) t (says_step f.image p (Pending.Abort who) (act_in e.act)) s2 ≡ (scheduler later).ready ++ front
    join r front rouse joined = line f at e law one orderly s2 t (says_step f.image p (Pending.Abort who) (act_in e.act)) (more_of f.image p (Pending.Abort who)) is-stir r rouse front joined

    rouse-is : roused s2 (says_step f.image p (Pending.Abort who) (act_in e.act)) ≡ (if is_at_rest s2 who.0 then who.0 ∷ [] else [])
    rouse-is = ap (roused s2) act-is

    cut-is : to_cut (says_step f.image p (Pending.Abort who) (act_in e.act)) s2 ≡ (if is_waiting (thread_at s2 who.0) then Some who else None)
    cut-is = ap (λ a. to_cut a s2) act-is

    -- it stops itself
    pub aborts-itself : (who.0 == (f.processors e.cpu).context.thread) ≡ true → Followed f at e law one orderly (T.after at.state (f.processors e.cpu).context.thread x (Pending.Abort who) rest)
    aborts-itself mine =
        to-itself f at e law one orderly s2 t (says_step f.image p (Pending.Abort who) (act_in e.act)) (more_of f.image p (Pending.Abort who)) is-stir (list-by false (ap not mine))
        (cut-is ∙ ap (λ b. if b then Some who else None) (ap (λ n. is_waiting (thread_at s2 n)) itself ∙ not-waiting))
        (join [] [] (rouse-is ∙ ap (λ b. if b then who.0 ∷ [] else []) (ap (is_at_rest s2) itself ∙ not-rests f at e law one orderly s2 t (says_step f.image p (Pending.Abort who) (act_in e.act)) (more_of f.image p (Pending.Abort who)) is-stir))
        (sym (append-nil (scheduler later).ready)) ∙ append-nil (scheduler later).ready)
      where
        itself : who.0 ≡ t
        itself = eqb-true who.0 t mine

        goes-unwaiting : (steps : Steps) → goes steps ≡ true → is_to_resume steps ≡ false
        goes-unwaiting [] g = refl
        goes-unwaiting (Pending.Resume ∷ more) g = absurd (false≢true g)
        goes-unwaiting (r ∷ more) g = refl

        not-waiting : is_waiting (thread_at s2 t) ≡ false
        not-waiting =
            ap (λ n. is_waiting (thread_at s2 n)) (sym thread)
            ∙ ap (λ b. b && not (is_some (thread_at s2 now.context.thread).told))
            (ap is_to_resume (sym (ap (λ (th : Thread). th.pending) (own-is later s2 now.context of (ap (cuts later) thread ∙ uncut)))) ∙ goes-unwaiting now.context.pending going-then)

    module _ (other : (who.0 == (f.processors e.cpu).context.thread) ≡ false) where
      not-mine : runs_on who.0 (later.processors 0) ≡ false
      not-mine =
          ap (runs_on who.0) here-first
          ∙ ((λ i. (runs now && (thread i == who.0)) && not (is_over now.context)) ∙ ((λ i. (runs now && apart i) && not (is_over now.context)) ∙ by (runs now) (is_over now.context)))
        where
          apart : (t == who.0) ≡ false
          apart = which (t == who.0) refl
            where
              which : (b : Bool) → (t == who.0) ≡ b → b ≡ false
              which false k = refl
              which true k = absurd (true≢false (sym (eq-eqb who.0 t (sym (eqb-true t who.0 k))) ∙ other))

          by : (a b : Bool) → ((a && false) && not b) ≡ false
          by true b = refl
          by false b = refl

      -- it has no note
      pub aborts-rouses : (thread_in e.word).note ≡ None → is_waiting (thread_at (T.after at.state (f.processors e.cpu).context.thread x (Pending.Abort who) rest) who.0) ≡ false
          → Followed f at e law one orderly (T.after at.state (f.processors e.cpu).context.thread x (Pending.Abort who) rest)
      aborts-rouses bare idle =
          to-rouses f at e law one orderly s2 t (says_step f.image p (Pending.Abort who) (act_in e.act)) (more_of f.image p (Pending.Abort who)) is-stir who.0 list-then (cut-is ∙ ap (λ b. if b then Some who else None) idle)
          (join (if is_at_rest s2 who.0 then who.0 ∷ [] else []) (if sleeps (joins later) who.0 then who.0 ∷ [] else []) rouse-is (roused-line later s2 related one who.0 few undoomed not-mine not-new))
        where
          list-then : now.todo ≡ Todo.rouse who.0 ∷ next_steps f.image now.context now.context.pending
          list-then =
              list-by true (ap not other)
              ∙ ap (λ (o : Option ℕ). elim o as (λ _. Todos) [ Some site ↦ Todo.look who.0 site (thread_in e.word).number ∷ next_steps f.image now.context now.context.pending | None ↦ Todo.rouse who.0 ∷ next_steps f.image now.context now.context.pending ]) bare

          not-new : of_thread who.0 (adders (later.processors 0).todo) ≡ 0
          not-new = ap (λ (z : Processor). of_thread who.0 (adders z.todo)) here-first ∙ (ap (λ (z : Todos). of_thread who.0 (adders z)) list-then ∙ ap (of_thread who.0) (filled-adders f.image now.context []))

      -- it has one
      pub aborts-looks : (site : ℕ) → (thread_in e.word).note ≡ Some site → is_at_rest (T.after at.state (f.processors e.cpu).context.thread x (Pending.Abort who) rest) who.0 ≡ false
          → Followed f at e law one orderly (T.after at.state (f.processors e.cpu).context.thread x (Pending.Abort who) rest)
      aborts-looks site noted busy =
          to-looks f at e law one orderly s2 t (says_step f.image p (Pending.Abort who) (act_in e.act)) (more_of f.image p (Pending.Abort who)) is-stir who site (thread_in e.word).number list-then cut-is
          (join [] [] (rouse-is ∙ ap (λ b. if b then who.0 ∷ [] else []) busy) (sym (append-nil (scheduler later).ready)) ∙ append-nil (scheduler later).ready)
        where
          list-then : now.todo ≡ Todo.look who.0 site (thread_in e.word).number ∷ next_steps f.image now.context now.context.pending
          list-then =
              list-by true (ap not other)
              ∙ ap (λ (o : Option ℕ). elim o as (λ _. Todos) [ Some there ↦ Todo.look who.0 there (thread_in e.word).number ∷ next_steps f.image now.context now.context.pending | None ↦ Todo.rouse who.0 ∷ next_steps f.image now.context now.context.pending ]) noted
