-- What makes an event of the processor's own thread follow. Behind it the processor's turn goes on.
use Rattle.std.proofs.Common.{◌≡◌, inl, inr, ℕ, ◌<◌, true, false, cond, [], ◌++◌, Option, Some, None, refl, sym, ap, ◌∙◌, subst, arith, eq-eqb}
use Rattle.std.specs.Prelude.{if◌then◌else◌}
use Rattle.std.specs.List.{list_all, list_any}
use Rattle.um_base.specs.declared.act.Act.{Act}
use Rattle.um_base.specs.declared.names.ThreadIx.{ThreadIx}
use Rattle.um_machine.specs.declared.thread.Thread.{Thread}
use Rattle.um_machine.specs.Order.{to_thread}
use Rattle.um_machine.specs.Services.{is_empty}
use Rattle.um_machine.specs.State.{State, thread_at}
use Rattle.um_invariants.specs.Armings.{armings_after}
use Rattle.um_invariants.specs.NextSteps.{IsNext}
use Rattle.um_invariants.specs.InOrder.{CleansNone, Point, waiting, Follows, to_cut}
use Rattle.um_invariants.specs.Ready.{next_ready, ready_after, readied, roused, running_or, goes_on}
use Rattle.um_words.specs.declared.fine.FineAct.{FineAct}
use Rattle.um_words.specs.declared.fine.More.{More}
use Rattle.um_fine.specs.Processor.{Processor}
use Rattle.um_fine.specs.Scheduler.{waits}
use Rattle.um_fine.specs.Steps.{FineStep}
use Rattle.um_refinement.specs.Fine.{Fine, clock, joins, scheduler}
use Rattle.um_refinement.specs.Lists.{counted, has_steps, is_end_call, is_recycle, runs}
use Rattle.um_refinement.specs.Relation.{Rel}
use Rattle.um_refinement.specs.Threads.{IsOf, cutters as cuts}
use Rattle.um_refinement.proofs.Bounds.{AreBounded}
use Rattle.um_refinement.proofs.ChildrenKnown.{AllCreate}
use Rattle.um_refinement.proofs.Erased.{around}
use Rattle.um_refinement.proofs.Leaves.{Lawful}
use Rattle.um_refinement.proofs.ListDone.{says_done}
use Rattle.um_refinement.proofs.ResumeSteps.{TellsWaiters}
use Rattle.um_order.proofs.ArmingOrder.{Plain}
use Rattle.um_order.proofs.CleanNow.{IsClear, none-chosen}
use Rattle.um_order.proofs.EventLines.{inside-is, line-is, own-is}
use Rattle.um_order.proofs.ListShapes.{is_own, own-clear}
use Rattle.um_order.proofs.Standing.{ComeAlone, Stands, back, begun, comers, is_calm, is_show}

-- an event follows, and leads to another point; an act without an event leaves the point
abbrev pub FollowsBy : Point → FineAct → Point → Type 0
FollowsBy at (FineAct.Shown event more) to = Follows at event to
FollowsBy at (FineAct.Unseen unseen) to = to ≡ at

module _ (f : Fine) (at : Point) (e : FineStep) (law : Lawful f at.state e) (one : f.cpus ≡ 1) (orderly : AllCreate at.state) where
  open around f e use {later, processor as p, now}

  pub only : (k : ℕ) → k < f.cpus → e.cpu ≡ k
  only k l = let mine = law.by.named in omega (arith, l, mine, one)

  clear : is_own f.image p.todo ≡ true → IsClear f
  clear own =
      let fits = (law.rel.processors e.cpu law.by.named).list.fits in
      record {
        ends = λ k x l. subst (λ j. counted (is_end_call x) (f.processors j).todo ≡ 0) (only k l) (own-clear f.image x p.context p.todo fits own).0;
        cleans = λ k x l. subst (λ j. counted (is_recycle x) (f.processors j).todo ≡ 0) (only k l) (own-clear f.image x p.context p.todo fits own).1;
      }

  -- no cleaning step is lawful where no list has the end of a claim, or a cleaning
  pub cleans-none-by : IsClear f → (last : Option ThreadIx) → CleansNone at.state last
  cleans-none-by clear None = tt
  cleans-none-by clear (Some u) =
      λ act s2 cleaning. none-chosen f at.state law.rel law.sound orderly clear u.0 cleaning.made.row cleaning.made.step cleaning.cleans cleaning.made.chosen

  -- so it is where the processor's own thread is to make an event
  pub cleans-none : is_own f.image p.todo ≡ true → (last : Option ThreadIx) → CleansNone at.state last
  cleans-none own last = cleans-none-by (clear own) last

  pub here : later.processors e.cpu ≡ now
  here = ap (λ b. cond b now p) (eq-eqb e.cpu e.cpu refl)

  -- what is asked of an event of the thread u that leads to the state s2, and neither rouses nor aborts one
  pub record IsEvent (s2 : State) (u : ℕ) (act : Act) (more : More) : Type 0 where
    pub said : e.act ≡ FineAct.Shown (record { thread = to_thread u; act = act }) more
    pub own : is_own f.image p.todo ≡ true
    pub uncut : at.cut ≡ None
    pub first : running_or at.inside (next_ready at.state at.ready) ≡ Some (to_thread u)
    pub next : IsNext at.state u act s2
    pub base : waiting at ≡ (scheduler later).ready
    pub comes : readied act ≡ comers now.todo
    pub nobody : roused s2 act ≡ []
    pub cuts_none : to_cut act s2 ≡ None
    pub thread : now.context.thread ≡ u
    pub of : IsOf later s2 now.context
    pub whole : cuts later now.context.thread ≡ 0
    pub runs : runs now ≡ true
    pub steps : has_steps now.todo ≡ true
    pub calm : list_all is_calm now.todo ≡ true
    pub shows : is_empty now.context.pending ≡ true → list_any is_show now.todo ≡ false
    pub ends : says_done now.todo ≡ true → now.context.ended ≡ true
    pub told : waits now.context.pending ≡ true → (thread_at s2 now.context.thread).told ≡ None
    pub alone : ComeAlone now.todo
    pub armings : Plain (clock later).marks (armings_after at.armings (to_thread u) act s2)

  pub record Followed (s2 : State) : Type 0 where
    pub point : Point
    pub follows : FollowsBy at e.act point
    pub state : point.state ≡ s2
    pub stands : Stands now (scheduler later) (joins later) (clock later).marks point

  module _ (s2 : State) (related : Rel later s2) (tells : TellsWaiters s2) (bounds : AreBounded later) where
    line-now : (act : Act) → runs now ≡ true → IsOf later s2 now.context → cuts later now.context.thread ≡ 0 → readied act ≡ comers now.todo → roused s2 act ≡ []
        → ready_after (scheduler later).ready now.context.thread act s2 ≡ (scheduler later).ready ++ (comers now.todo ++ back now.context)
    line-now act =
        subst
        (λ (z : Processor). runs z ≡ true → IsOf later s2 z.context → cuts later z.context.thread ≡ 0 → readied act ≡ comers z.todo → roused s2 act ≡ []
        → ready_after (scheduler later).ready z.context.thread act s2 ≡ (scheduler later).ready ++ (comers z.todo ++ back z.context))
        here (λ on of whole comes nobody. line-is later s2 related tells e.cpu law.by.named bounds on of whole act comes nobody)

    pub follow : (u : ℕ) (act : Act) (more : More) → IsEvent s2 u act more → Followed s2
    follow u act more is =
        let to : Point =
        record {
          state = s2;
          ready = ready_after (waiting at) u act s2;
          inside = if goes_on s2 u then Some (to_thread u) else None;
          cut = to_cut act s2;
          armings = armings_after at.armings (to_thread u) act s2;
          last = Some (to_thread u);
        } in
        record {
          point = to;
          follows = subst (λ a. FollowsBy at a to) (sym is.said)
              (inr (inr (inl (record { clean = cleans-none is.own at.last; uncut = is.uncut; thread = is.first; made = is.next; ready = refl; inside = refl; cut = refl; armings = refl; last = refl }))));
          state = refl;
          stands = begun (
            record {
              runs = is.steps;
              calm = is.calm;
              last = ap (λ n. Some (to_thread n)) (sym is.thread);
              ready = (λ i. ready_after (is.base i) (sym is.thread i) act s2) ∙ line-now act is.runs is.of is.whole is.comes is.nobody;
              inside = ap (λ n. if goes_on s2 n then Some (to_thread n) else None) (sym is.thread) ∙ inside-is later s2 now.context is.of is.whole is.told;
              shows = is.shows;
              ends = is.ends;
              told = is.told;
              whole = λ h. ap waits (sym (ap (λ (th : Thread). th.pending) (own-is later s2 now.context is.of is.whole))) ∙ h;
              alone = is.alone;
              armings = is.armings;
            },
            is.cuts_none,
          );
        }
