-- A processor's abort, suspension or resumption of a thread is that step of the machine, where the relation holds: the word of that thread says
-- whether it lives.
use Rattle.um_refinement.proofs.Words.{◌≡◌, ℕ, ◌<◌, sym, ap, ◌∙◌, subst, THREADS, Act, ThreadIx, Pending, Steps, is_living, State, act_in, FineStep, Site, SiteState, site_answers, Todos, shows, Fine}
use Rattle.um_machine.specs.Outcomes.{is_done_in}
use Rattle.um_refinement.proofs.Offered.{IsStep, Shows, act-is, machine-step, says-at, site-is}
use Rattle.um_refinement.proofs.RowSteps.{thread-sort}

module _ {f : Fine} {m : State} {k : ℕ} {e : FineStep} {rest : Steps} {todo : Todos} (who : ThreadIx) (few : who.0 < THREADS) where
  pub abort-step : Shows f m k e (Pending.Abort who) rest todo → IsStep f m k e 0 (Pending.Abort who)
  abort-step h =
      let act = shows f.image (f.processors k) (Pending.Abort who) e.act in
      let here = subst (λ (s : SiteState). site_answers f.image s e.moved act ≡ act) (thread-sort who.0 (f.sites (Site.thread who.0)) (h.rel.sorts (Site.thread who.0))) (says-at h (Site.thread who.0) act (site-is h) (act-is h)) in
      machine-step h 0 (act-is h) tt (ap (Act.Abort who) (sym (ap (λ z. is_done_in (act_in z)) here) ∙ ap is_living (h.rel.threads who.0 few).word.life))

  pub suspend-step : Shows f m k e (Pending.Suspend who) rest todo → IsStep f m k e 0 (Pending.Suspend who)
  suspend-step h =
      let act = shows f.image (f.processors k) (Pending.Suspend who) e.act in
      let here = subst (λ (s : SiteState). site_answers f.image s e.moved act ≡ act) (thread-sort who.0 (f.sites (Site.thread who.0)) (h.rel.sorts (Site.thread who.0))) (says-at h (Site.thread who.0) act (site-is h) (act-is h)) in
      machine-step h 0 (act-is h) tt (ap (Act.Suspend who) (sym (ap (λ z. is_done_in (act_in z)) here) ∙ ap is_living (h.rel.threads who.0 few).word.life))

  pub continue-step : Shows f m k e (Pending.Continue who) rest todo → IsStep f m k e 0 (Pending.Continue who)
  continue-step h =
      let act = shows f.image (f.processors k) (Pending.Continue who) e.act in
      let here = subst (λ (s : SiteState). site_answers f.image s e.moved act ≡ act) (thread-sort who.0 (f.sites (Site.thread who.0)) (h.rel.sorts (Site.thread who.0))) (says-at h (Site.thread who.0) act (site-is h) (act-is h)) in
      machine-step h 0 (act-is h) tt (ap (Act.Continue who) (sym (ap (λ z. is_done_in (act_in z)) here) ∙ ap is_living (h.rel.threads who.0 few).word.life))
