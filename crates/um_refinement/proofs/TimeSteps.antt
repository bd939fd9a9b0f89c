-- That a deadline is armed, and that time goes on, are those steps of the machine, where the relation holds: the clock has the machine's time and
-- deadlines.
use Rattle.um_refinement.proofs.Words.{length, ◌≡◌, ℕ, ◌+◌, ◌<◌, Some, refl, sym, ap, ◌∙◌, subst, is_some, unwrap_or, Act, Pending, Steps, tends, State, thread_at, act_in, FineStep, Site, SiteState, site_answers, Todos, shows, Fine, Rel, IsTrue, is_started}
use Rattle.um_machine.specs.Outcomes.{deadline_in}
use Rattle.um_machine.specs.Table as T
use Rattle.um_machine.specs.Time.{next_deadline}
use Rattle.um_fine.specs.Answers.{ticks_in}
use Rattle.um_fine.specs.Asks.{by_actor}
use Rattle.um_fine.specs.Clock.{later}
use Rattle.um_fine.specs.Processor.{actor_or}
use Rattle.um_refinement.specs.Fine.{clock}
use Rattle.um_refinement.proofs.Erased.{Goes, GoesBy}
use Rattle.um_refinement.proofs.Kept.{clock-sort}
use Rattle.um_refinement.proofs.Offered.{IsStep, Shows, act-is, machine-step, moved-made, says-at, site-is}

module _ {f : Fine} {m : State} {k : ℕ} {e : FineStep} {rest : Steps} {todo : Todos} where
  pub arm-step : (ticks : ℕ) → Shows f m k e (Pending.Arm ticks) rest todo → IsStep f m k e 0 (Pending.Arm ticks)
  arm-step ticks h =
      let act = shows f.image (f.processors k) (Pending.Arm ticks) e.act in
      let here = subst (λ (s : SiteState). site_answers f.image s e.moved act ≡ act) (clock-sort (f.sites Site.clock) (h.rel.sorts Site.clock)).1 (says-at h Site.clock act (site-is h) (act-is h)) in
      machine-step h 0 (act-is h) tt (ap Act.Arm (sym (ap (λ z. deadline_in (act_in z)) here) ∙ λ i. h.rel.clock.now i + ticks_in (moved-made h i)))

  pub arm-timer-step : (ticks : ℕ) → Shows f m k e (Pending.ArmTimer ticks) rest todo → IsStep f m k e 0 (Pending.ArmTimer ticks)
  arm-timer-step ticks h =
      let act = shows f.image (f.processors k) (Pending.ArmTimer ticks) e.act in
      let here = subst (λ (s : SiteState). site_answers f.image s e.moved act ≡ act) (clock-sort (f.sites Site.clock) (h.rel.sorts Site.clock)).1 (says-at h Site.clock act (site-is h) (act-is h)) in
      machine-step h 0 (act-is h) tt (ap Act.Arm (sym (ap (λ z. deadline_in (act_in z)) here) ∙ λ i. h.rel.clock.now i + ticks_in (moved-made h i)))

module _ (f : Fine) (m : State) (rel : Rel f m) (k : ℕ) (l : k < f.cpus) where
  -- the thread by which a processor makes the events of time
  abbrev pub acts_for : ℕ
  acts_for = actor_or f.image (f.processors k).actor

  pub acts-started : 0 < length f.image.boots → IsTrue (is_started (thread_at m (actor_or f.image (f.processors k).actor)).life)
  acts-started = (rel.processors k l).timer.actor

  module _ (now : ℕ) (next : later (clock f) ≡ Some now) where
    next-is : next_deadline m.now m.armed ≡ Some now
    next-is = (λ i. next_deadline (sym rel.clock.now i) (sym rel.clock.armed i)) ∙ next

    -- the least deadline above the present moment comes
    pub tick-chosen : IsTrue (is_some (next_deadline m.now m.armed))
    tick-chosen = ap is_some next-is

    pub tick-step : 0 < length f.image.boots → (e : FineStep) → e.act ≡ by_actor f.image (f.processors k) (Act.Tick now) → let t = actor_or f.image (f.processors k).actor in
        Goes m e (T.after m t 0 Pending.Tick (thread_at m t).pending)
    tick-step boots e said =
        let t = actor_or f.image (f.processors k).actor in
        subst (λ a. GoesBy m a (T.after m t 0 Pending.Tick (thread_at m t).pending)) (sym said)
        (record {
          step = Pending.Tick;
          rest = (thread_at m t).pending;
          row = 0;
          offered = tends refl (acts-started boots);
          chosen = tick-chosen;
          says = ap Act.Tick (sym (ap (λ o. unwrap_or o m.now) next-is));
          leaves = refl;
        })
