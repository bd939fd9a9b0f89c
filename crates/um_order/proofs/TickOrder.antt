-- Time goes on: no thread is ready but those that stand still, and each deadline that has come was gone through. A tick follows, by the thread of the last
-- event.
use Rattle.std.proofs.Common.{◌≡◌, ◌⊎◌, inl, inr, ℕ, true, false, List, [], ◌++◌, Option, Some, None, refl, sym, ap, ◌∙◌, subst, append-nil}
use Rattle.std.specs.Prelude.{unwrap_or}
use Rattle.std.proofs.lemmas.Bool.{false≢true}
use Rattle.um_base.specs.declared.act.Act.{Act}
use Rattle.um_base.specs.declared.image.Image.{Image}
use Rattle.um_machine.specs.declared.pending.Pending.{Pending}
use Rattle.um_machine.specs.Order.{to_thread}
use Rattle.um_machine.specs.Run.{MayChoose, tends}
use Rattle.um_machine.specs.State.{State, is_started, thread_at}
use Rattle.um_machine.specs.Table as T
use Rattle.um_machine.specs.Time.{next_deadline}
use Rattle.um_invariants.specs.Armings.{Arming, gone_through}
use Rattle.um_invariants.specs.InOrder.{Makes, Point, time_cell, time_step}
use Rattle.um_invariants.specs.Ready.{next_ready, running_or, with_readied}
use Rattle.um_words.specs.declared.fine.FineAct.{FineAct}
use Rattle.um_fine.specs.Answers.{is_tick}
use Rattle.um_fine.specs.Asks.{begins_cleaning, by_actor, says_turn}
use Rattle.um_fine.specs.Clock.{Clock, first_due}
use Rattle.um_fine.specs.Follows.{after_take, goes_on_by, with_actor}
use Rattle.um_fine.specs.Processor.{Processor, actor_or}
use Rattle.um_fine.specs.Scheduler.{Scheduler}
use Rattle.um_fine.specs.Sites.{same_site}
use Rattle.um_fine.specs.Steps.{Exchange, FineStep, Site}
use Rattle.um_refinement.specs.Choice.{IsChosen}
use Rattle.um_refinement.specs.Fine.{Fine, clock, scheduler}
use Rattle.um_refinement.proofs.ChildrenKnown.{AllCreate}
use Rattle.um_refinement.proofs.ClockSteps.{clock-later}
use Rattle.um_refinement.proofs.Erased.{around}
use Rattle.um_refinement.proofs.Kept.{IdleStep, gives, idle-step, ticks, turns}
use Rattle.um_refinement.proofs.Leaves.{Lawful}
use Rattle.um_refinement.proofs.ListTails.{exact-next}
use Rattle.um_refinement.proofs.SchedulerSteps.{sched-else}
use Rattle.um_order.proofs.ArmingOrder.{AreSettled, Passed, Plain, StepsNone, fresh, none-passed}
use Rattle.um_order.proofs.Follow.{Followed, FollowsBy, cleans-none}
use Rattle.um_order.proofs.ListShapes.{is_own}
use Rattle.um_order.proofs.ReadyLines.{next-skips}
use Rattle.um_order.proofs.Standing.{AllStill, Idles, idles}

-- where all stand still, none of them is next
pub none-next : (s : State) (ts : List ℕ) → AllStill s ts → next_ready s ts ≡ None
none-next s ts still = ap (next_ready s) (sym (append-nil ts)) ∙ next-skips s ts [] still

turn-untimed : (image : Image) (p : Processor) (moved : Exchange) → is_tick (says_turn image p moved) ≡ false
turn-untimed image p (Exchange.thread c None) = refl
turn-untimed image p (Exchange.thread c (Some told)) = refl
turn-untimed image p moved = refl

module _ (f : Fine) (at : Point) (e : FineStep) (law : Lawful f at.state e) (one : f.cpus ≡ 1) (orderly : AllCreate at.state) (was : Idles (f.processors e.cpu) (scheduler f) (clock f).marks at)
    (tick : is_tick e.act ≡ true) (chosen : IsChosen f e) (settled : AreSettled (clock f).marks) (last : at.last ≡ Some (to_thread (actor_or f.image (f.processors e.cpu).actor)))
    (may : MayChoose at.state (actor_or f.image (f.processors e.cpu).actor) 0 Pending.Tick) (started : is_started (thread_at at.state (actor_or f.image (f.processors e.cpu).actor)).life ≡ true) where
  open around f e use {later, processor as p, now}

  abbrev m : State
  m = at.state

  abbrev t : ℕ
  t = actor_or f.image p.actor

  abbrev s2 : State
  s2 = T.after m t 0 Pending.Tick (thread_at m t).pending

  -- no thread is ready, and no mark is due
  none : (scheduler f).ready ≡ []
  none = (chosen.tick tick).0

  passed : Plain (clock f).marks at.armings ⊎ (Passed m (clock f).marks at.armings × ((scheduler f).ready ≡ [])) → Passed m (clock f).marks at.armings
  passed (inl plain) = fresh plain
  passed (inr is) = is.0

  time : (clock f).now ≡ m.now
  time = law.rel.clock.now

  through : StepsNone m (clock f).marks at.armings
  through = none-passed m (clock f).marks at.armings (passed was.armings) settled (ap (λ n. first_due n (clock f).marks) (sym time) ∙ (chosen.tick tick).1)

  module _ (n : ℕ) (site : e.site ≡ Site.clock) (said : e.act ≡ by_actor f.image p (Act.Tick n)) (moved : e.moved ≡ Exchange.nothing) (says : Act.Tick n ≡ T.act_of m t 0 Pending.Tick) where
    next : now ≡ record p { actor = Some t }
    next =
        exact-next f.image p e [] was.list (ap (λ (a : FineAct). begins_cleaning (record e { act = a })) said)
        ∙ (ap (λ (a : FineAct). with_actor f.image (goes_on_by f.image p e []) a) said ∙ ap (λ (mv : Exchange). record (after_take f.image p mv) { actor = Some t }) moved)

    nobody : next_ready m at.ready ≡ None
    nobody = none-next m at.ready (subst (AllStill m) (sym (was.ready ∙ (ap (λ l. was.skipped ++ l) none ∙ append-nil was.skipped))) was.still)

    ticked : Followed f at e law one orderly (T.after m (actor_or f.image p.actor) 0 Pending.Tick (thread_at m (actor_or f.image p.actor)).pending)
    ticked =
        record {
          point = record at { state = s2; ready = with_readied [] (Act.Tick n) s2; armings = (gone_through m at.armings).0 };
          follows = subst (λ a. FollowsBy at a (record at { state = s2; ready = with_readied [] (Act.Tick n) s2; armings = (gone_through m at.armings).0 })) (sym said)
              (inr (inr (inr (record {
                clean = cleans-none f at e law one orderly (ap (is_own f.image) was.list) at.last;
                uncut = was.cut;
                none = ap (λ o. running_or o (next_ready m at.ready)) was.inside ∙ nobody;
                by = last;
                made = subst (λ (o : Option Arming). Makes m (record { thread = to_thread t; act = Act.Tick n }) s2 (time_step o) (time_cell o)) (sym through.none)
                    (record {
                      made = record { step = Pending.Tick; rest = (thread_at m t).pending; row = 0; offered = tends refl started; chosen = may; says = says; leaves = refl };
                      is = refl;
                      at = refl;
                    });
                leaves = refl;
              }))));
          state = refl;
          stands = idles
              (record {
                list = ap (λ (z : Processor). z.todo) next ∙ was.list;
                skipped = [];
                still = tt;
                ready = sym (ap (λ (z : Scheduler). z.ready) (sched-else f m e law (ap (λ i. same_site i Site.scheduler) site)) ∙ none);
                inside = was.inside;
                cut = was.cut;
                armings = inl
                    (subst (λ (c : Clock). Plain c.marks (gone_through m at.armings).0) (sym (clock-later f m e law site (by_actor f.image p (Act.Tick n)) said)) through.plain);
              });
        }

  pub tick-follows : Followed f at e law one orderly (T.after m (actor_or f.image p.actor) 0 Pending.Tick (thread_at m (actor_or f.image p.actor)).pending)
  tick-follows = by (idle-step f m law.rel p e law.by.may law.taken was.list)
    where
      by : IdleStep f p e → Followed f at e law one orderly (T.after m (actor_or f.image p.actor) 0 Pending.Tick (thread_at m (actor_or f.image p.actor)).pending)
      by (turns site said ready move) = absurd (false≢true (sym (turn-untimed f.image p e.moved) ∙ (sym (ap is_tick said) ∙ tick)))
      by (gives x site said due move) = absurd (false≢true (sym (ap is_tick said) ∙ tick))
      by (ticks n site said next move) = ticked n site said move (ap Act.Tick (sym (ap (λ (o : Option ℕ). unwrap_or o m.now) ((λ i. next_deadline (sym law.rel.clock.now i) (sym law.rel.clock.armed i)) ∙ next))))
