-- The clock after a lawful step: which steps leave it, and what it keeps then.
use Rattle.um_refinement.proofs.Words.{◌≡◌, ℕ, Bool, true, false, cond, Option, Some, None, ◌∷◌, refl, sym, ap, ◌∙◌, subst, false≢true, if◌then◌else◌, Image, row_at, Pending, State, FineAct, check_site, site_at, site_of_step, Cell, Todo, Todos, Processor, fails, SiteState, s_next, same_site, site_after, site_answers, FineStep, Site, same-itself, Fine}
use Rattle.um_words.specs.declared.fine.Mark.{Mark}
use Rattle.um_fine.specs.Clock.{clock_after, clock_says}
use Rattle.um_refinement.specs.Fine.{clock, clock_state}
use Rattle.um_refinement.proofs.DomainReads.{IsPlaced}
use Rattle.um_refinement.proofs.Erased.{around}
use Rattle.um_refinement.proofs.Kept.{clock-sort}
use Rattle.um_refinement.proofs.Leaves.{Lawful}
use Rattle.um_refinement.proofs.WaitingSites.{waiting-apart}

-- the steps on lists that are made at the clock
abbrev pub is_timing : Todo → Bool
is_timing (Todo.show (Pending.Arm ticks) rest) = true
is_timing (Todo.show (Pending.ArmTimer ticks) rest) = true
is_timing (Todo.settle deadline mark) = true
is_timing q = false

shown-off-clock : (image : Image) (p : Processor) (q : Pending) (rest : _) → is_timing (Todo.show q rest) ≡ false → same_site (site_of_step image p q) Site.clock ≡ false
shown-off-clock image p (Pending.Arm ticks) rest off = absurd (false≢true (sym off))
shown-off-clock image p (Pending.ArmTimer ticks) rest off = absurd (false≢true (sym off))
shown-off-clock image p (Pending.Check a kind want refusal) rest off = by (row_at image a.0)
  where
    by : (o : Option ℕ) → same_site (check_site image p o) Site.clock ≡ false
    by None = refl
    by (Some x) = refl
shown-off-clock image p (Pending.DomMove d who) rest off =
    elim (fails p.reply) as (λ b. same_site (if b then Site.domain d else Site.thread who.0) Site.clock ≡ false) [ true ↦ refl | false ↦ refl ]
shown-off-clock image p q rest off = refl

pub off-clock : (image : Image) (p : Processor) (q : Todo) (todo : Todos) → is_timing q ≡ false → IsPlaced q → same_site (site_at image p (q ∷ todo)) Site.clock ≡ false
off-clock image p (Todo.show q rest) todo off at = shown-off-clock image p q rest off
off-clock image p (Todo.settle deadline mark) todo off at = absurd (false≢true (sym off))
off-clock image p (Todo.look who site before) todo off at = waiting-apart site Site.clock at (λ x. refl) refl refl
off-clock image p (Todo.handle deadline (Mark.Thread who site)) todo off at = waiting-apart site Site.clock at (λ x. refl) refl refl
off-clock image p (Todo.handle deadline (Mark.Timer x)) todo off at = refl
off-clock image p q todo off at = refl

module _ (f : Fine) (m : State) (e : FineStep) (law : Lawful f m e) where
  open around f e use {later}

  is-clock : (n : ℕ) × (f.sites Site.clock ≡ SiteState.cell n (Cell.clock (clock f)))
  is-clock = clock-sort (f.sites Site.clock) (law.rel.sorts Site.clock)

  -- a step elsewhere leaves the clock
  pub clock-else : same_site e.site Site.clock ≡ false → clock later ≡ clock f
  clock-else off = ap (λ b. clock_state (cond b (s_next f.image (f.sites Site.clock) e) (f.sites Site.clock))) off

  module _ (site : e.site ≡ Site.clock) (act : FineAct) (said : e.act ≡ act) where
    pub clock-later : clock later ≡ clock_after (clock f) act e.moved
    clock-later =
        ap (λ b. clock_state (cond b (s_next f.image (f.sites Site.clock) e) (f.sites Site.clock))) (ap (λ i. same_site i Site.clock) site ∙ same-itself Site.clock)
        ∙ (ap (λ (s : SiteState). clock_state (site_after f.image s e.act e.moved)) is-clock.1
        ∙ ap (λ a. clock_after (clock f) a e.moved) said)

    pub clock-said : clock_says (clock f) e.moved act ≡ act
    clock-said =
        subst (λ (s : SiteState). site_answers f.image s e.moved act ≡ act) is-clock.1
        (subst (λ (z : Site × FineAct). site_answers f.image (f.sites z.0) e.moved z.1 ≡ z.1) (λ j. (site j, said j)) (ap (λ (s : FineStep). s.act) law.taken.filled_in))
