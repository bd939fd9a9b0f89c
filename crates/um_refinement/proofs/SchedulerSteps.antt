-- The cell of the scheduler after a lawful step: what it takes, and what it keeps then.
use Rattle.um_refinement.proofs.Words.{◌≡◌, ℕ, true, false, cond, Option, Some, None, refl, sym, ap, ◌∙◌, subst, if◌then◌else◌, nat_lt, and_parts, Image, row_at, Pending, FineAct, check_site, moves, says, site_of_step, Cell, Todos, Processor, fails, sched_after, sched_takes, SiteState, s_next, same_site, site_after, site_answers, site_moves, site_takes, word_of, Exchange, FineStep, Site, same-itself, Fine, scheduler, scheduler_state, State, sched_moves, sched_says}
use Rattle.um_fine.specs.Asks.{site_by}
use Rattle.um_refinement.proofs.Erased.{around}
use Rattle.um_refinement.proofs.Kept.{scheduler-sort}
use Rattle.um_refinement.proofs.Leaves.{Lawful, maker}

-- no event of a pending step is made there
pub shown-elsewhere : (image : Image) (p : Processor) (q : Pending) → same_site (site_of_step image p q) Site.scheduler ≡ false
shown-elsewhere image p (Pending.Check a kind want refusal) = by (row_at image a.0)
  where
    by : (o : Option ℕ) → same_site (check_site image p o) Site.scheduler ≡ false
    by None = refl
    by (Some x) = refl
shown-elsewhere image p (Pending.DomMove d who) =
    elim (fails p.reply) as (λ b. same_site (if b then Site.domain d else Site.thread who.0) Site.scheduler ≡ false) [ true ↦ refl | false ↦ refl ]
shown-elsewhere image p q = refl

module _ (f : Fine) (m : State) (e : FineStep) (law : Lawful f m e) where
  open around f e use {later}

  -- where a step is made, and what it says and moves
  pub made-at : (todo : Todos) → (maker f m e).todo ≡ todo → e.site ≡ site_by f.image (maker f m e) todo e.act
  made-at todo at = sym (ap (λ (s : FineStep). s.site) law.by.may.makes) ∙ ap (λ (z : Todos). site_by f.image (maker f m e) z e.act) at

  pub made-says : (todo : Todos) → (maker f m e).todo ≡ todo → e.act ≡ says f.image (maker f m e) todo e.act e.moved
  made-says todo at = sym (ap (λ (s : FineStep). s.act) law.by.may.makes) ∙ ap (λ (z : Todos). says f.image (maker f m e) z e.act e.moved) at

  pub made-moves : (todo : Todos) → (maker f m e).todo ≡ todo → e.moved ≡ moves f.image (maker f m e) todo e.act e.moved
  made-moves todo at = sym (ap (λ (s : FineStep). s.moved) law.by.may.makes) ∙ ap (λ (z : Todos). moves f.image (maker f m e) z e.act e.moved) at

  -- The word that a step leaves is the one that stands then.
  pub word-left : e.word ≡ word_of (s_next f.image (f.sites e.site) e)
  word-left =
      let filled = law.taken.filled_in in
      sym (ap (λ (z : FineStep). z.word) filled)
      ∙ ap (λ (z : FineAct × Exchange). word_of (site_after f.image (f.sites e.site) z.0 z.1)) (λ i. ((filled i).act, (filled i).moved))

  is-scheduler : (n : ℕ) × (f.sites Site.scheduler ≡ SiteState.cell n (Cell.scheduler (scheduler f)))
  is-scheduler = scheduler-sort (f.sites Site.scheduler) (law.rel.sorts Site.scheduler)

  -- a step elsewhere leaves the scheduler
  pub sched-else : same_site e.site Site.scheduler ≡ false → scheduler later ≡ scheduler f
  sched-else off = ap (λ b. scheduler_state (cond b (s_next f.image (f.sites Site.scheduler) e) (f.sites Site.scheduler))) off

  module _ (site : e.site ≡ Site.scheduler) (act : FineAct) (said : e.act ≡ act) where
    pub sched-later : scheduler later ≡ sched_after (scheduler f) act e.moved
    sched-later =
        ap (λ b. scheduler_state (cond b (s_next f.image (f.sites Site.scheduler) e) (f.sites Site.scheduler))) (ap (λ i. same_site i Site.scheduler) site ∙ same-itself Site.scheduler)
        ∙ (ap (λ (s : SiteState). scheduler_state (site_after f.image s e.act e.moved)) is-scheduler.1
        ∙ ap (λ a. sched_after (scheduler f) a e.moved) said)

    pub sched-took : sched_takes (scheduler f) act ≡ true
    sched-took =
        (and_parts (nat_lt is-scheduler.0 268435455) (sched_takes (scheduler f) act)
        (subst (λ (s : SiteState). site_takes s act ≡ true) is-scheduler.1
        (subst (λ (z : Site × FineAct). site_takes (f.sites z.0) z.1 ≡ true) (λ j. (site j, said j)) law.taken.takes))).1

    pub sched-said : sched_says (scheduler f) e.moved act ≡ act
    sched-said =
        subst (λ (s : SiteState). site_answers f.image s e.moved act ≡ act) is-scheduler.1
        (subst (λ (z : Site × FineAct). site_answers f.image (f.sites z.0) e.moved z.1 ≡ z.1) (λ j. (site j, said j)) (ap (λ (s : FineStep). s.act) law.taken.filled_in))

    pub sched-moved : sched_moves (scheduler f) act e.moved ≡ e.moved
    sched-moved =
        subst (λ (s : SiteState). site_moves f.image s act e.moved ≡ e.moved) is-scheduler.1
        (subst (λ (z : Site × FineAct). site_moves f.image (f.sites z.0) z.1 e.moved ≡ e.moved) (λ j. (site j, said j)) (ap (λ (s : FineStep). s.moved) law.taken.filled_in))
