-- A thread goes on with another one: the event follows, and the processor looks whether that one sleeps.
use Rattle.std.proofs.Common.{◌≡◌, ◌⊎◌, inl, inr, ℕ, ◌<◌, Bool, true, false, [], ◌∷◌, ◌++◌, Some, None, refl, sym, ap, ◌∙◌, subst, arith, append-nil, eq-eqb}
use Rattle.std.specs.Prelude.{◌==◌, ◌&&◌, not, if◌then◌else◌, is_some}
use Rattle.std.specs.List.{list_any}
use Rattle.std.proofs.lemmas.Bool.{eqb-true, true≢false}
use Rattle.um_base.specs.declared.act.Act.{Act}
use Rattle.um_base.specs.declared.act.Answer.{Answer}
use Rattle.um_base.specs.declared.image.Image.{Image}
use Rattle.um_base.specs.declared.limits.TheConstants.{THREADS}
use Rattle.um_base.specs.declared.names.ThreadIx.{ThreadIx}
use Rattle.um_machine.specs.declared.pending.Pending.{Pending}
use Rattle.um_machine.specs.declared.thread.Thread.{Thread}
use Rattle.um_machine.specs.Order.{Steps, to_thread}
use Rattle.um_machine.specs.Services.{is_empty}
use Rattle.um_machine.specs.State.{State, thread_at}
use Rattle.um_machine.specs.Table as T
use Rattle.um_invariants.specs.InOrder.{Point}
use Rattle.um_invariants.specs.Ready.{behind_next, is_at_rest, next_ready, roused, running_or}
use Rattle.um_words.specs.declared.fine.FineAct.{FineAct}
use Rattle.um_fine.specs.Answers.{act_in, answer_in, is_done_in, is_killed, thread_in}
use Rattle.um_fine.specs.Asks.{begins_cleaning, more_of, says_step}
use Rattle.um_fine.specs.Clock.{Clock}
use Rattle.um_fine.specs.Context.{Context}
use Rattle.um_fine.specs.Continues.{continues}
use Rattle.um_fine.specs.Follows.{after_show, filled_up, rereads, with_actor}
use Rattle.um_fine.specs.Joins.{asleep_at, sleeps}
use Rattle.um_fine.specs.Places.{Todo, Todos, next_steps, put_away}
use Rattle.um_fine.specs.Processor.{Processor}
use Rattle.um_fine.specs.Sites.{same_site}
use Rattle.um_fine.specs.Steps.{FineStep, Site}
use Rattle.um_refinement.specs.Cleaning.{AreBlocks}
use Rattle.um_refinement.specs.Fine.{Fine, clock, joins, one_if, scheduler}
use Rattle.um_refinement.specs.Lists.{adders, of_thread, runs}
use Rattle.um_refinement.specs.Offers.{Fits, IsOffered, is_over}
use Rattle.um_refinement.specs.Relation.{Rel}
use Rattle.um_refinement.specs.Threads.{IsOf, cutters as cuts, runs_on}
use Rattle.um_refinement.proofs.ChildrenKnown.{AllCreate}
use Rattle.um_refinement.proofs.ContextsPart.{event-uncut}
use Rattle.um_refinement.proofs.Erased.{around}
use Rattle.um_refinement.proofs.LawfulSteps.{Suits}
use Rattle.um_refinement.proofs.Leaves.{Lawful, event}
use Rattle.um_refinement.proofs.ListAdders.{filled-adders}
use Rattle.um_refinement.proofs.ListRuns.{goes-runs}
use Rattle.um_refinement.proofs.ListTails.{exact-next}
use Rattle.um_refinement.proofs.MarksPart.{clock-same}
use Rattle.um_refinement.proofs.MemoryPart.{InDomains}
use Rattle.um_refinement.proofs.OfKept.{of-kept}
use Rattle.um_refinement.proofs.Offered.{IsStep, Shows, at-made, behind-is, own-part, own-same, shown-offers, shows-runs}
use Rattle.um_refinement.proofs.PlacesFacts.{lies-unslept}
use Rattle.um_refinement.proofs.RunningPart.{todo-elsewhere}
use Rattle.um_refinement.proofs.SchedulerSteps.{made-at, sched-else}
use Rattle.um_refinement.proofs.StepReads.{is-behind, reads-last}
use Rattle.um_refinement.proofs.Continued.{continues-thread}
use Rattle.um_order.proofs.ArmingOrder.{Plain}
use Rattle.um_order.proofs.Follow.{Followed, here}
use Rattle.um_order.proofs.ListShapes.{is_own}
use Rattle.um_order.proofs.NextSteps.{leads, next-is}
use Rattle.um_order.proofs.RousedLines.{roused-line}
use Rattle.um_order.proofs.ShownLists.{goes-offered, goes-some}
use Rattle.um_order.proofs.Standing.{Begun, IsFull, back, comers, goes, is_show}
use Rattle.um_order.proofs.StirOrder.{IsStir, line, not-rests, to-rouses}

no-reread : (image : Image) (answer : Answer) → rereads image answer None [] ≡ []
no-reread image Answer.Wait = refl
no-reread image (Answer.Now reply) = refl

module _ (f : Fine) (at : Point) (e : FineStep) (law : Lawful f at.state e) (one : f.cpus ≡ 1) (orderly : AllCreate at.state) (suits : Suits f at.state) (all : InDomains f at.state)
    (was : Begun (f.processors e.cpu) (scheduler f) (clock f).marks at) (who : ThreadIx) (rest : Steps) (todo : Todos) (x : ℕ) (h : Shows f at.state e.cpu e (Pending.Continue who) rest todo) (is : IsStep f at.state e.cpu e x (Pending.Continue who))
    (done : is_done_in (act_in e.act) ≡ true) (full : IsFull at.state (f.processors e.cpu).context.thread (f.processors e.cpu).context.pending)
    (going : goes (continues f.image (f.processors e.cpu).context 0 (Pending.Continue who) rest (act_in e.act) e.moved).pending ≡ true) where
  open around f e use {later, processor as p, now}

  abbrev m : State
  m = at.state

  abbrev t : ℕ
  t = p.context.thread

  abbrev q : Pending
  q = Pending.Continue who

  abbrev s2 : State
  s2 = T.after m t x (Pending.Continue who) rest

  abbrev next : Context
  next = continues f.image p.context 0 (Pending.Continue who) rest (act_in e.act) e.moved

  list : p.todo ≡ Todo.show (Pending.Continue who) rest ∷ []
  list = at-made h tt ∙ ap (λ (z : Todos). Todo.show (Pending.Continue who) rest ∷ z) (behind-is h)

  after : now ≡ with_actor f.image (after_show f.image p e (Pending.Continue who) rest []) e.act
  after =
      exact-next f.image p e (Todo.show (Pending.Continue who) rest ∷ []) list (ap (λ (a : FineAct). begins_cleaning (record e { act = a })) is.said)
      ∙ λ i. with_actor f.image (if h.shown i then record p { todo = put_away (thread_in e.word).doomed } else after_show f.image p e (if ap is_killed is.said i then Pending.Killed else Pending.Continue who) rest []) e.act

  after-said : now ≡ record (after_show f.image p e (Pending.Continue who) rest []) { actor = Some t }
  after-said = after ∙ ap (λ (a : FineAct). with_actor f.image (after_show f.image p e (Pending.Continue who) rest []) a) is.said

  context : now.context ≡ continues f.image p.context 0 (Pending.Continue who) rest (act_in e.act) e.moved
  context = ap (λ (z : Processor). z.context) after-said

  list-then : now.todo ≡ Todo.rouse who.0 ∷ next_steps f.image now.context now.context.pending
  list-then =
      ap (λ (z : Processor). z.todo) after-said
      ∙ ((λ i. if done i then Todo.rouse who.0 ∷ filled_up f.image next (no-reread f.image (answer_in (act_in e.act)) i) else filled_up f.image next (rereads f.image (answer_in (act_in e.act)) None []))
      ∙ ap (λ (c : Context). Todo.rouse who.0 ∷ next_steps f.image c c.pending) (sym context))

  thread : now.context.thread ≡ t
  thread = ap (λ (c : Context). c.thread) context ∙ continues-thread f.image p.context 0 (Pending.Continue who) rest (act_in e.act) e.moved

  uncut : cuts later t ≡ 0
  uncut = event-uncut f m e law suits all s2 (event (Pending.Continue who) rest todo x h tt is) (Todo.show h.listed rest) todo h.at tt (own-part h) h.awake

  of : IsOf later s2 now.context
  of = subst (IsOf later s2) (sym context) (of-kept f m e law suits all rest todo x (Pending.Continue who) h tt is uncut)

  same : scheduler later ≡ scheduler f
  same =
      sched-else f m e law
      (ap (λ i. same_site i Site.scheduler) (made-at f m e law (Todo.show (Pending.Continue who) rest ∷ []) list) ∙ todo-elsewhere f.image p (Todo.show (Pending.Continue who) rest) [] refl tt)

  offered : IsOffered f.image p.context (Pending.Continue who) rest
  offered = (subst (Fits f.image p.context) list (law.rel.processors e.cpu law.by.named).list.fits).0

  on : goes p.context.pending ≡ true
  on = by (goes-offered f.image p.context tt offered)
    where
      by : (p.context.pending ≡ []) ⊎ (goes p.context.pending ≡ true) → goes p.context.pending ≡ true
      by (inl none) = absurd (true≢false (sym (ap (list_any is_show) list) ∙ was.0.shows (ap is_empty none)))
      by (inr is) = is

  inside : at.inside ≡ Some (to_thread t)
  inside = was.0.inside ∙ (goes-some p.context on).1

  none-back : back p.context ≡ []
  none-back = ap (λ b. if b && not p.context.ended then t ∷ [] else []) (goes-some p.context on).0

  going-then : goes now.context.pending ≡ true
  going-then = ap (λ (c : Context). goes c.pending) context ∙ going

  is-stir : IsStir f at e law one orderly s2 t (says_step f.image p (Pending.Continue who) (act_in e.act)) (more_of f.image p (Pending.Continue who))
  is-stir =
      record {
        said = is.said;
        own = ap (is_own f.image) list;
        uncut = was.1;
        first = ap (λ o. running_or o (next_ready m at.ready)) inside;
        next = next-is m t x (Pending.Continue who) rest (says_step f.image p (Pending.Continue who) (act_in e.act)) tt
            (leads m t (Pending.Continue who) rest tt (shown-offers h) (subst (IsFull m t) (ap (λ (z : Thread). z.pending) (own-same h)) full)) tt is.chosen is.says;
        base = ap (λ o. if is_some o then at.ready else behind_next m at.ready) inside
            ∙ (was.0.ready ∙ ((λ i. (scheduler f).ready ++ (ap comers list i ++ none-back i)) ∙ (append-nil (scheduler f).ready ∙ ap (λ z. z.ready) (sym same))));
        readies = refl;
        thread = thread;
        of = of;
        whole = ap (cuts later) thread ∙ uncut;
        goes_then = going-then;
        armings = subst (λ (c : Clock). Plain c.marks at.armings) (sym (clock-same f m e law (Todo.show (Pending.Continue who) rest) [] list refl)) was.0.armings;
      }

  module _ (related : Rel later (T.after at.state (f.processors e.cpu).context.thread x (Pending.Continue who) rest)) (few : who.0 < THREADS)
      (undoomed : (thread_at (T.after at.state (f.processors e.cpu).context.thread x (Pending.Continue who) rest) who.0).doomed ≡ false) (other : ((f.processors e.cpu).context.thread == who.0) ≡ false) where
    first : e.cpu ≡ 0
    first = let l = law.by.named in omega (arith, l, one)

    here-first : later.processors 0 ≡ now
    here-first = ap (λ k. later.processors k) (sym first) ∙ here f at e law one orderly

    not-mine : runs_on who.0 (later.processors 0) ≡ false
    not-mine =
        ap (runs_on who.0) here-first
        ∙ ((λ i. (runs now && (thread i == who.0)) && not (is_over now.context)) ∙ ((λ i. (runs now && other i) && not (is_over now.context)) ∙ by (runs now) (is_over now.context)))
      where
        by : (a b : Bool) → ((a && false) && not b) ≡ false
        by true b = refl
        by false b = refl

    not-new : of_thread who.0 (adders (later.processors 0).todo) ≡ 0
    not-new = ap (λ (z : Processor). of_thread who.0 (adders z.todo)) here-first ∙ (ap (λ (z : Todos). of_thread who.0 (adders z)) list-then ∙ ap (of_thread who.0) (filled-adders f.image now.context []))

    pub continue-follows : Followed f at e law one orderly (T.after at.state (f.processors e.cpu).context.thread x (Pending.Continue who) rest)
    continue-follows =
        to-rouses f at e law one orderly s2 t (says_step f.image p (Pending.Continue who) (act_in e.act)) (more_of f.image p (Pending.Continue who)) is-stir who.0 list-then refl
        (line f at e law one orderly s2 t (says_step f.image p (Pending.Continue who) (act_in e.act)) (more_of f.image p (Pending.Continue who)) is-stir (if is_at_rest s2 who.0 then who.0 ∷ [] else [])
        (ap (λ b. roused s2 (Act.Continue who b)) done)
        (if sleeps (joins later) who.0 then who.0 ∷ [] else []) (roused-line later s2 related one who.0 few undoomed not-mine not-new))

  -- it may go on with itself: it doesn't sleep
  module _ (related : Rel later (T.after at.state (f.processors e.cpu).context.thread x (Pending.Continue who) rest)) (mine : ((f.processors e.cpu).context.thread == who.0) ≡ true) where
    itself : who.0 ≡ t
    itself = sym (eqb-true t who.0 mine)

    runs-now : runs now ≡ true
    runs-now =
        goes-runs f.image p e (Todo.show (Pending.Continue who) rest) [] list refl ((is-behind f m e law).frame (Todo.show (Pending.Continue who) rest) [] list) (reads-last f m e law (Todo.show (Pending.Continue who) rest) [] list)
        (subst (AreBlocks f.image) list (law.rel.processors e.cpu law.by.named).blocks) ∙ shows-runs h

    not-over : is_over now.context ≡ false
    not-over = ap (λ b. now.context.ended && b) (goes-some now.context going-then).0 ∙ by now.context.ended
      where
        by : (b : Bool) → (b && false) ≡ false
        by true = refl
        by false = refl

    runs-it : runs_on t (later.processors e.cpu) ≡ true
    runs-it = ap (runs_on t) (here f at e law one orderly) ∙ λ i. (runs-now i && eq-eqb now.context.thread t thread i) && not (not-over i)

    awake : sleeps (joins later) who.0 ≡ false
    awake =
        let there = ap one_if runs-it in
        ap (λ n. is_some (asleep_at (joins later) n)) itself
        ∙ lies-unslept later s2 related t (subst (λ n. n < THREADS) thread of.index) e.cpu law.by.named (omega (arith, there))

    pub continues-itself : Followed f at e law one orderly (T.after at.state (f.processors e.cpu).context.thread x (Pending.Continue who) rest)
    continues-itself =
        let act = says_step f.image p (Pending.Continue who) (act_in e.act) in
        let more = more_of f.image p (Pending.Continue who) in
        to-rouses f at e law one orderly s2 t act more is-stir who.0 list-then refl
        (line f at e law one orderly s2 t act more is-stir []
        (ap (λ b. roused s2 (Act.Continue who b)) done ∙ ap (λ b. if b then who.0 ∷ [] else []) (ap (is_at_rest s2) itself ∙ not-rests f at e law one orderly s2 t act more is-stir))
        (if sleeps (joins later) who.0 then who.0 ∷ [] else []) (sym (append-nil (scheduler later).ready) ∙ ap (λ b. (scheduler later).ready ++ (if b then who.0 ∷ [] else [])) (sym awake)))
