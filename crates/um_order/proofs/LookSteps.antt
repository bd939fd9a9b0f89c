-- A processor that has stopped another thread, or has gone on with one, looks for it: one that sleeps is added, and one that waits is cut. A cut is an event.
use Rattle.std.proofs.Common.{◌≡◌, inl, inr, ℕ, zero, suc, ◌<◌, Bool, true, false, List, [], ◌∷◌, ◌++◌, map, Option, Some, None, refl, sym, ap, ◌∙◌, subst, arith, append-nil}
use Rattle.std.specs.Prelude.{◌&&◌, ◌||◌, not, if◌then◌else◌, is_some}
use Rattle.std.specs.List.{list_all, list_any}
use Rattle.std.proofs.lemmas.Bool.{and_parts, false≢true, not-true, true≢false}
use Rattle.um_base.specs.declared.act.Act.{Act}
use Rattle.um_base.specs.declared.ask.Told.{Told}
use Rattle.um_base.specs.declared.image.Image.{Image}
use Rattle.um_base.specs.declared.limits.TheConstants.{THREADS}
use Rattle.um_machine.specs.declared.pending.Pending.{Pending}
use Rattle.um_machine.specs.declared.thread.Thread.{Thread}
use Rattle.um_machine.specs.Order.{Steps, to_thread}
use Rattle.um_machine.specs.Run.{MayChoose, tends}
use Rattle.um_machine.specs.Services.{is_empty}
use Rattle.um_machine.specs.State.{State, is_to_resume, is_waiting, thread_at}
use Rattle.um_machine.specs.Table as T
use Rattle.um_invariants.specs.InOrder.{Point}
use Rattle.um_invariants.specs.Ready.{with_readied}
use Rattle.um_invariants.proofs.ThreadWords.{AreKept}
use Rattle.um_words.specs.declared.fine.FineAct.{FineAct}
use Rattle.um_words.specs.declared.fine.Unseen.{Unseen}
use Rattle.um_fine.specs.Answers.{context_in, is_void}
use Rattle.um_fine.specs.Asks.{begins_cleaning, by_me, or_void, roused_by}
use Rattle.um_fine.specs.Clock.{Clock}
use Rattle.um_fine.specs.Context.{Context}
use Rattle.um_fine.specs.Follows.{filled_up, goes_on_by, with_actor}
use Rattle.um_fine.specs.Joins.{asleep_at, join_moves, join_says, roused, sleeps}
use Rattle.um_fine.specs.Places.{Todo, Todos}
use Rattle.um_fine.specs.Processor.{Processor}
use Rattle.um_fine.specs.Scheduler.{Scheduler, is_cut, parked_at, told_at, waits}
use Rattle.um_fine.specs.Seeking.{looked_for}
use Rattle.um_fine.specs.Sites.{SiteState, same_site, site_answers, site_moves}
use Rattle.um_fine.specs.Steps.{Exchange, FineStep, Site}
use Rattle.um_refinement.specs.Fine.{Fine, clock, joins, one_if, scheduler}
use Rattle.um_refinement.specs.Lists.{adders, counted, has_steps, is_end_call, is_recycle}
use Rattle.um_refinement.specs.Threads.{cutters as cuts, is_ready_there, occurs}
use Rattle.um_refinement.proofs.ChildrenKnown.{AllCreate}
use Rattle.um_refinement.proofs.Erased.{around}
use Rattle.um_refinement.proofs.Kept.{joins-sort}
use Rattle.um_refinement.proofs.Leaves.{Lawful}
use Rattle.um_refinement.proofs.ListDone.{says_done}
use Rattle.um_refinement.proofs.ListTails.{exact-next}
use Rattle.um_refinement.proofs.MarksPart.{clock-same}
use Rattle.um_refinement.proofs.Offered.{runs-first}
use Rattle.um_refinement.proofs.ResumeSteps.{told-some}
use Rattle.um_refinement.proofs.RunningPart.{is_scheduling, todo-elsewhere}
use Rattle.um_refinement.proofs.SchedulerSteps.{made-at, made-moves, made-says, sched-else}
use Rattle.um_refinement.proofs.StepReads.{is-placed}
use Rattle.um_refinement.proofs.WaitersFound.{waiter-below}
use Rattle.um_order.proofs.ArmingOrder.{Plain}
use Rattle.um_order.proofs.EventLines.{own-is}
use Rattle.um_order.proofs.Follow.{Followed, FollowsBy, cleans-none-by, only}
use Rattle.um_order.proofs.LeaveOrder.{goes-awake}
use Rattle.um_order.proofs.ReadyLines.{joins-new}
use Rattle.um_order.proofs.ShownLists.{goes-some}
use Rattle.um_order.proofs.Standing.{Begun, ComeAlone, Looks, Rouses, Turns, back, begun, comers, inside_of, is_calm, is_show, woken_of}

pub filled-same : (image : Image) (c : Context) (todo : Todos) → has_steps todo ≡ true → filled_up image c todo ≡ todo
filled-same image c [] h = absurd (false≢true h)
filled-same image c (q ∷ todo) h = refl

unready-there : (o : Option Context) (told : Option Told) (cut : Bool) → ((c : Context) → o ≡ Some c → waits c.pending ≡ true) → is_some told ≡ false → cut ≡ false → is_ready_there o told cut ≡ false
unready-there None told cut waiting untold whole = refl
unready-there (Some c) told cut waiting untold whole = λ i. not (waiting c refl i) || untold i || whole i

module _ (f : Fine) (at : Point) (e : FineStep) (law : Lawful f at.state e) where
  open around f e use {later, processor as p, now}

  abbrev m : State
  m = at.state

  abbrev s : Scheduler
  s = scheduler f

  elsewhere : (q : Todo) (todo : Todos) → p.todo ≡ q ∷ todo → is_scheduling q ≡ false → scheduler later ≡ s
  elsewhere q todo list off =
      sched-else f m e law (ap (λ i. same_site i Site.scheduler) (made-at f m e law (q ∷ todo) list) ∙ todo-elsewhere f.image p q todo off (is-placed f m e law q todo list))

  -- the turn goes on with another list that comes to the same
  turn-list : (z y : Todos) (front : List ℕ) → Turns p z front s (clock f).marks at → now.context ≡ p.context → has_steps y ≡ true → list_all is_calm y ≡ true → list_any is_show y ≡ list_any is_show z → says_done y ≡ says_done z
      → ComeAlone y → (scheduler later).ready ≡ s.ready → clock later ≡ clock f → front ++ (comers z ++ back p.context) ≡ comers y ++ back p.context → now.todo ≡ y → at.cut ≡ None → Begun now (scheduler later) (clock later).marks at
  turn-list z y front turn same some calm shows ends alone ready time line list uncut = (
    subst (λ (l : Todos). Turns now l [] (scheduler later) (clock later).marks at) (sym list)
        (record {
          runs = some;
          calm = calm;
          last = turn.last ∙ ap (λ (c : Context). Some (to_thread c.thread)) (sym same);
          ready = turn.ready ∙ λ i. sym ready i ++ (line ∙ ap (λ (c : Context). comers y ++ back c) (sym same)) i;
          inside = turn.inside ∙ ap inside_of (sym same);
          shows = λ rests. shows ∙ turn.shows (ap (λ (c : Context). is_empty c.pending) (sym same) ∙ rests);
          ends = λ done. ap (λ (c : Context). c.ended) same ∙ turn.ends (sym ends ∙ done);
          told = λ k. ap (λ (c : Context). (thread_at m c.thread).told) same ∙ turn.told (ap (λ (c : Context). waits c.pending) (sym same) ∙ k);
          whole = λ k. ap (λ (c : Context). waits (thread_at m c.thread).pending) same ∙ turn.whole (ap (λ (c : Context). waits c.pending) (sym same) ∙ k);
          alone = alone;
          armings = subst (λ (c : Clock). Plain c.marks at.armings) (sym time) turn.armings;
        }),
    uncut,
  )

  -- It looks whether one sleeps.

  module _ (was : Rouses p s (joins f) (clock f).marks at) where
    abbrev q : Todo
    q = Todo.rouse was.who

    said : e.act ≡ or_void f.image p e.act (FineAct.Unseen (Unseen.Rouse (to_thread was.who)))
    said = made-says f m e law (Todo.rouse was.who ∷ was.todo) was.list

    site : e.site ≡ Site.joins
    site = made-at f m e law (Todo.rouse was.who ∷ was.todo) was.list

    asked : (act : FineAct) (moved : Exchange) → e.act ≡ act → e.moved ≡ moved → (join_says (joins f) moved act ≡ act) × (join_moves (joins f) act moved ≡ moved)
    asked act moved is move = (
      subst (λ (z : SiteState). site_answers f.image z moved act ≡ act) (joins-sort (f.sites Site.joins) (law.rel.sorts Site.joins)).1
          (subst (λ (z : Site × FineAct × Exchange). site_answers f.image (f.sites z.0) z.2 z.1 ≡ z.1) (λ j. (site j, is j, move j)) (ap (λ (z : FineStep). z.act) law.taken.filled_in)),
      subst (λ (z : SiteState). site_moves f.image z act moved ≡ moved) (joins-sort (f.sites Site.joins) (law.rel.sorts Site.joins)).1
          (subst (λ (z : Site × FineAct × Exchange). site_moves f.image (f.sites z.0) z.1 z.2 ≡ z.2) (λ j. (site j, is j, move j)) (ap (λ (z : FineStep). z.moved) law.taken.filled_in)),
    )

    step-is : (act : FineAct) → e.act ≡ act → begins_cleaning (record e { act = act }) ≡ false → with_actor f.image (goes_on_by f.image p e (Todo.rouse was.who ∷ was.todo)) act ≡ goes_on_by f.image p e (Todo.rouse was.who ∷ was.todo)
        → now ≡ goes_on_by f.image p e (Todo.rouse was.who ∷ was.todo)
    step-is act is quiet same =
        exact-next f.image p e (Todo.rouse was.who ∷ was.todo) was.list (ap (λ (a : FineAct). begins_cleaning (record e { act = a })) is ∙ quiet)
        ∙ (ap (λ (a : FineAct). with_actor f.image (goes_on_by f.image p e (Todo.rouse was.who ∷ was.todo)) a) is ∙ same)

    void-on : is_void e.act ≡ true → Begun now (scheduler later) (clock later).marks at
    void-on void =
        turn-list was.todo was.todo (if sleeps (joins f) was.who then was.who ∷ [] else []) was.turn (ap (λ (z : Processor). z.context) next) was.turn.runs was.turn.calm refl refl was.turn.alone
        (ap (λ (z : Scheduler). z.ready) (elsewhere (Todo.rouse was.who) was.todo was.list refl)) (clock-same f m e law (Todo.rouse was.who) was.todo was.list refl)
        (ap (λ b. (if b then was.who ∷ [] else []) ++ (comers was.todo ++ back p.context)) awake)
        (ap (λ (z : Processor). z.todo) next ∙ (ap (λ b. filled_up f.image p.context (if b then was.todo else Todo.add (context_in e.moved) ∷ was.todo)) void ∙ filled-same f.image p.context was.todo was.turn.runs)) was.cut
      where
        is : e.act ≡ FineAct.Unseen Unseen.Void
        is = said ∙ ap (λ b. if b then FineAct.Unseen Unseen.Void else FineAct.Unseen (Unseen.Rouse (to_thread was.who))) void

        moved : e.moved ≡ Exchange.sought (to_thread was.who) None
        moved = made-moves f m e law (Todo.rouse was.who ∷ was.todo) was.list ∙ ap (λ b. roused_by f.image p was.who b e.moved) void

        next : now ≡ goes_on_by f.image p e (Todo.rouse was.who ∷ was.todo)
        next = step-is (FineAct.Unseen Unseen.Void) is refl refl

        awake : sleeps (joins f) was.who ≡ false
        awake = by (sleeps (joins f) was.who) (asked (FineAct.Unseen Unseen.Void) (Exchange.sought (to_thread was.who) None) is moved).0
          where
            by : (b : Bool) → looked_for b (FineAct.Unseen Unseen.Void) ≡ FineAct.Unseen Unseen.Void → b ≡ false
            by true h = absurd (false≢true (ap is_void h))
            by false h = refl

    found-on : is_void e.act ≡ false → Begun now (scheduler later) (clock later).marks at
    found-on found = by (asleep_at (joins f) was.who) refl
      where
        is : e.act ≡ FineAct.Unseen (Unseen.Rouse (to_thread was.who))
        is = said ∙ ap (λ b. if b then FineAct.Unseen Unseen.Void else FineAct.Unseen (Unseen.Rouse (to_thread was.who))) found

        next : now ≡ goes_on_by f.image p e (Todo.rouse was.who ∷ was.todo)
        next = step-is (FineAct.Unseen (Unseen.Rouse (to_thread was.who))) is refl refl

        answer : (if sleeps (joins f) was.who then FineAct.Unseen (Unseen.Rouse (to_thread was.who)) else FineAct.Unseen Unseen.Void) ≡ FineAct.Unseen (Unseen.Rouse (to_thread was.who))
        answer = (asked (FineAct.Unseen (Unseen.Rouse (to_thread was.who))) e.moved is refl).0

        by : (o : Option Context) → asleep_at (joins f) was.who ≡ o → Begun now (scheduler later) (clock later).marks at
        by None there =
            absurd (true≢false (ap is_void (ap (λ b. if b then FineAct.Unseen (Unseen.Rouse (to_thread was.who)) else FineAct.Unseen Unseen.Void) (sym (ap is_some there)) ∙ answer)))
        by (Some c) there =
            turn-list was.todo (Todo.add c ∷ was.todo) (if sleeps (joins f) was.who then was.who ∷ [] else []) was.turn (ap (λ (z : Processor). z.context) next) refl was.turn.calm refl refl
            (λ some. absurd (true≢false (ap is_empty (sym was.bare.1) ∙ some)), λ some. (was.bare.0, was.bare.1))
            (ap (λ (z : Scheduler). z.ready) (elsewhere (Todo.rouse was.who) was.todo was.list refl)) (clock-same f m e law (Todo.rouse was.who) was.todo was.list refl)
            (line (ap is_some there) (law.rel.contexts.asleep was.who c there).1)
            (ap (λ (z : Processor). z.todo) next ∙ λ i. filled_up f.image p.context (if found i then was.todo else Todo.add (context_in (moved i)) ∷ was.todo)) was.cut
          where
            moved : e.moved ≡ Exchange.thread c None
            moved = sym (asked (FineAct.Unseen (Unseen.Rouse (to_thread was.who))) e.moved is refl).1 ∙ ap (roused (to_thread was.who)) there

            line : sleeps (joins f) was.who ≡ true → c.thread ≡ was.who → (if sleeps (joins f) was.who then was.who ∷ [] else []) ++ (comers was.todo ++ back p.context) ≡ comers (Todo.add c ∷ was.todo) ++ back p.context
            line on same =
                (λ i. (if on i then sym same i ∷ [] else []) ++ ((woken_of (was.bare.0 i) ++ (was.bare.1 i ++ map (λ (d : Context). d.thread) (adders was.todo))) ++ back p.context))
                ∙ λ i. (woken_of (sym was.bare.0 i) ++ (sym was.bare.1 i ++ c.thread ∷ map (λ (d : Context). d.thread) (adders was.todo))) ++ back p.context

    pub rouse-on : Begun now (scheduler later) (clock later).marks at
    rouse-on = by (is_void e.act) refl
      where
        by : (b : Bool) → is_void e.act ≡ b → Begun now (scheduler later) (clock later).marks at
        by true h = void-on h
        by false h = found-on h

  -- It looks whether one waits.

  module _ (was : Looks p s (clock f).marks at) where
    -- nobody waits there
    pub look-void : is_void e.act ≡ true → is_waiting (thread_at m was.who) ≡ false → Begun now (scheduler later) (clock later).marks at
    look-void void idle =
        turn-list was.todo was.todo [] was.turn (ap (λ (z : Processor). z.context) next) was.turn.runs was.turn.calm refl refl was.turn.alone
        (ap (λ (z : Scheduler). z.ready) (elsewhere (Todo.look was.who was.site was.before) was.todo was.list refl)) (clock-same f m e law (Todo.look was.who was.site was.before) was.todo was.list refl) refl
        (ap (λ (z : Processor). z.todo) next ∙ (ap (λ b. filled_up f.image p.context (if b then was.todo else Todo.tell_cut was.who ∷ was.todo)) void ∙ filled-same f.image p.context was.todo was.turn.runs))
        (was.cut ∙ ap (λ b. if b then Some (to_thread was.who) else None) idle)
      where
        is : e.act ≡ FineAct.Unseen Unseen.Void
        is =
            made-says f m e law (Todo.look was.who was.site was.before ∷ was.todo) was.list
            ∙ ap (λ b. if b then FineAct.Unseen Unseen.Void else by_me f.image p (Act.Cut (to_thread was.who))) void

        next : now ≡ goes_on_by f.image p e (Todo.look was.who was.site was.before ∷ was.todo)
        next =
            exact-next f.image p e (Todo.look was.who was.site was.before ∷ was.todo) was.list (ap (λ (a : FineAct). begins_cleaning (record e { act = a })) is)
            ∙ ap (λ (a : FineAct). with_actor f.image (goes_on_by f.image p e (Todo.look was.who was.site was.before ∷ was.todo)) a) is

    -- one that waits is cut: it follows, and gets ready
    module _ (one : f.cpus ≡ 1) (orderly : AllCreate at.state) (kept : AreKept at.state) (cell : ℕ) (said : e.act ≡ by_me f.image p (Act.Cut (to_thread was.who)))
        (chosen : MayChoose at.state (f.processors e.cpu).context.thread cell (Pending.Cut (to_thread was.who))) where
      abbrev t : ℕ
      t = p.context.thread

      abbrev s2 : State
      s2 = T.after m t cell (Pending.Cut (to_thread was.who)) (thread_at m t).pending

      waits-there : is_waiting (thread_at m was.who) ≡ true
      waits-there = (and_parts _ _ (and_parts _ _ chosen).1).0

      to-resume : is_to_resume (thread_at m was.who).pending ≡ true
      to-resume = (and_parts (is_to_resume (thread_at m was.who).pending) _ waits-there).0

      untold : is_some (thread_at m was.who).told ≡ false
      untold = not-true (is_some (thread_at m was.who).told) (and_parts (is_to_resume (thread_at m was.who).pending) _ waits-there).1

      few : was.who < THREADS
      few = waiter-below f m law.rel kept.many was.who waits-there

      machine-waits : waits (thread_at m was.who).pending ≡ true
      machine-waits = by (thread_at m was.who).pending to-resume
        where
          by : (steps : Steps) → is_to_resume steps ≡ true → waits steps ≡ true
          by (Pending.Resume ∷ rest) h = refl
          by steps h = absurd (false≢true h)

      -- it isn't ready
      none-cut : cuts f was.who ≡ 0
      none-cut = by (cuts f was.who) refl
        where
          by : (n : ℕ) → cuts f was.who ≡ n → n ≡ 0
          by zero h = refl
          by (suc n) h = absurd (false≢true (sym (ap waits ((law.rel.threads was.who few).cut.left (omega (arith, h)))) ∙ machine-waits))

      parked-waits : (c : Context) → parked_at s was.who ≡ Some c → waits c.pending ≡ true
      parked-waits c there =
          let is = law.rel.contexts.parked was.who c there in
          ap waits (ap (λ (th : Thread). th.pending) (own-is f m c is.0 (ap (cuts f) is.1 ∙ none-cut)) ∙ ap (λ n. (thread_at m n).pending) is.1) ∙ machine-waits

      none-told : is_some (told_at s was.who) ≡ false
      none-told = by (is_some (told_at s was.who)) refl
        where
          by : (b : Bool) → is_some (told_at s was.who) ≡ b → b ≡ false
          by false h = refl
          by true h = absurd (true≢false (sym (ap is_some (law.rel.threads was.who few).told.told ∙ told-some f m law.rel was.who f.cpus h) ∙ untold))

      whole : is_cut s was.who ≡ false
      whole = by (is_cut s was.who) refl
        where
          by : (b : Bool) → is_cut s was.who ≡ b → b ≡ false
          by false h = refl
          by true h = let one-there = ap one_if h in let none = none-cut in absurd (omega (arith, one-there, none))

      unready : occurs was.who s.ready ≡ 0
      unready = (law.rel.threads was.who few).ready.ready ∙ ap one_if (unready-there (parked_at s was.who) (told_at s was.who) (is_cut s was.who) parked-waits none-told whole)

      none-back : back p.context ≡ []
      none-back = ap (λ b. if b && not p.context.ended then p.context.thread ∷ [] else []) (goes-some p.context was.goes_then).0

      line : at.ready ≡ s.ready
      line = was.turn.ready ∙ ((λ i. s.ready ++ ((woken_of (was.bare.0 i) ++ (was.bare.1 i ++ map (λ (d : Context). d.thread) (was.bare.2 i))) ++ none-back i)) ∙ append-nil s.ready)

      abbrev to : Point
      to = record at { state = s2; cut = None; ready = with_readied at.ready (Act.Cut (to_thread was.who)) s2 }

      next : now ≡ record (goes_on_by f.image p e (Todo.look was.who was.site was.before ∷ was.todo)) { actor = Some p.context.thread }
      next =
          exact-next f.image p e (Todo.look was.who was.site was.before ∷ was.todo) was.list (ap (λ (a : FineAct). begins_cleaning (record e { act = a })) said)
          ∙ ap (λ (a : FineAct). with_actor f.image (goes_on_by f.image p e (Todo.look was.who was.site was.before ∷ was.todo)) a) said

      list : now.todo ≡ Todo.tell_cut was.who ∷ was.todo
      list = ap (λ (z : Processor). z.todo) next ∙ ap (λ b. filled_up f.image p.context (if b then was.todo else Todo.tell_cut was.who ∷ was.todo)) (ap is_void said)

      context : now.context ≡ p.context
      context = ap (λ (z : Processor). z.context) next

      awake : waits now.context.pending ≡ false
      awake = ap (λ (c : Context). waits c.pending) context ∙ goes-awake p.context.pending was.goes_then

      pub cut-follows : Followed f at e law one orderly (T.after at.state (f.processors e.cpu).context.thread cell (Pending.Cut (to_thread was.who)) (thread_at at.state (f.processors e.cpu).context.thread).pending)
      cut-follows =
          record {
            point = to;
            follows = subst (λ a. FollowsBy at a to) (sym said)
                (inr (inl (record {
                  clean = cleans-none-by f at e law one orderly
                      (record {
                        ends = λ k x l. subst (λ j. counted (is_end_call x) (f.processors j).todo ≡ 0) (only f at e law one orderly k l) (ap (counted (is_end_call x)) was.list ∙ (was.clear x).0);
                        cleans = λ k x l. subst (λ j. counted (is_recycle x) (f.processors j).todo ≡ 0) (only f at e law one orderly k l) (ap (counted (is_recycle x)) was.list ∙ (was.clear x).1);
                      }) at.last;
                  by = was.turn.last;
                  who = to_thread was.who;
                  cell = cell;
                  is_due = was.cut ∙ ap (λ b. if b then Some (to_thread was.who) else None) waits-there;
                  made =
                      record {
                        made =
                            record {
                              step = Pending.Cut (to_thread was.who);
                              rest = (thread_at m t).pending;
                              row = cell;
                              offered = tends refl (law.rel.contexts.running e.cpu law.by.named (runs-first law.rel law.by.named (Todo.look was.who was.site was.before) was.todo was.list (λ hand. hand))).started;
                              chosen = chosen;
                              says = refl;
                              leaves = refl;
                            };
                        is = refl;
                        at = refl;
                      };
                  leaves = refl;
                })));
            state = refl;
            stands = begun (
              subst (λ (l : Todos). Turns now l [] (scheduler later) (clock later).marks to) (sym list)
                  (record {
                    runs = refl;
                    calm = was.turn.calm;
                    last = was.turn.last ∙ ap (λ (c : Context). Some (to_thread c.thread)) (sym context);
                    ready = ap (λ l. with_readied l (Act.Cut (to_thread was.who)) s2) line
                        ∙ (joins-new s.ready was.who unready
                        ∙ λ i. (sym (elsewhere (Todo.look was.who was.site was.before) was.todo was.list refl) i).ready ++ ((woken_of (sym was.bare.0 i) ++ (was.who ∷ (sym was.bare.1 i ++ map (λ (d : Context). d.thread) (sym was.bare.2 i)))) ++ (sym none-back ∙ ap back (sym context)) i));
                    inside = was.turn.inside ∙ ap inside_of (sym context);
                    shows = λ rests. was.turn.shows (ap (λ (c : Context). is_empty c.pending) (sym context) ∙ rests);
                    ends = λ done. ap (λ (c : Context). c.ended) context ∙ was.turn.ends done;
                    told = λ k. absurd (true≢false (sym k ∙ awake));
                    whole = λ k. absurd (true≢false (sym k ∙ awake));
                    alone = (λ some. was.bare.0, λ some. absurd (true≢false (ap is_empty (sym was.bare.2) ∙ some)));
                    armings = subst (λ (c : Clock). Plain c.marks at.armings) (sym (clock-same f m e law (Todo.look was.who was.site was.before) was.todo was.list refl)) was.turn.armings;
                  }),
              refl,
            );
          }
