-- The events of every fine run of a described image are a run of the access-matrix machine.
use Rattle.um_refinement.proofs.Words.{Act, Bool, Unseen, act_in, sched_takes, ◌||◌, if◌then◌else◌, ◌≡◌, ◌⊎◌, inl, inr, ℕ, zero, suc, ◌<◌, true, false, cond, List, [], ◌∷◌, length, refl, sym, ap, ◌∙◌, subst, arith, eq-eqb, nat_lt, list_all, and_parts, false≢true, Boot, Image, is_lawful_boot, Runs, opening, State, is_opening, is_sited, IsDescribed, FineAct, says_idle, shown, ByOneOf, IsFineRun, cpu_of, same_cpu, site_of, p_next, boot_index, s_start, has_ready, SiteMay, s_next, same_site, site_takes, FineStep, Site, same-itself, left_by, scheduler_state, Rel, idle, Run, has_key, sub, map}
use Rattle.um_fine.specs.Answers.{is_due_act, is_tick, now_in}
use Rattle.um_fine.specs.Asks.{by_actor, idle_site, says_turn}
use Rattle.um_refinement.proofs.FirstLawful.{erased-described, opens-described, some-objects}
use Rattle.um_refinement.proofs.FirstObjects.{opening-image}
use Rattle.um_refinement.proofs.Kept.{idle-takes}
use Rattle.um_refinement.proofs.Parts.{keeps-all}

pub none-or-some : (n : ℕ) → (n ≡ 0) ⊎ (0 < n)
none-or-some zero = inl refl
none-or-some (suc n) = inr (omega arith)

-- an image without objects has no boot entries
pub no-boots : (image : Image) (boots : List Boot) → list_all (is_lawful_boot image) boots ≡ true → length image.objects ≡ 0 → boots ≡ []
no-boots image [] h none = refl
no-boots image (boot ∷ boots) h none =
    let passes = and_parts _ _ (and_parts _ _ (and_parts _ _ (and_parts _ _ (and_parts _ _ (and_parts _ _ (and_parts (is_lawful_boot image boot) _ h).0).0).0).0).0).0 in
    let some = some-objects _ image.objects boot.thread.0 passes.0 in
    absurd (omega (arith, some, none))

module _ (image : Image) (cpus : ℕ) (described : IsDescribed image) where
  -- so nobody makes a step
  pub no-steps : length image.objects ≡ 0 → (e : FineStep) (h : List FineStep) → IsFineRun image cpus (e ∷ h) → ⊥
  no-steps none e h run = by (is_due_act e.act) refl (is_tick e.act) refl
    where
      may : ByOneOf image cpus idle e
      may =
          (subst (λ b. Run (ByOneOf image cpus) (p_next image) idle (cond b (e ∷ sub (has_key same_cpu cpu_of e.cpu) h) (sub (has_key same_cpu cpu_of e.cpu) h))) (eq-eqb e.cpu e.cpu refl)
          (run.processors e.cpu)).0

      taken : SiteMay image (s_start image e.site) e
      taken =
          (subst (λ b. Run (SiteMay image) (s_next image) (s_start image e.site) (cond b (e ∷ sub (has_key same_site site_of e.site) h) (sub (has_key same_site site_of e.site) h))) (same-itself e.site)
          (run.sites e.site)).0

      site : e.site ≡ idle_site image idle e.act
      site = sym (ap (λ (s : FineStep). s.site) may.may.makes)

      act : e.act ≡ says_idle image idle e.act e.moved
      act = sym (ap (λ (s : FineStep). s.act) may.may.makes)

      there : (i : Site) (said : FineAct) → e.site ≡ i → e.act ≡ said → site_takes (s_start image i) said ≡ true
      there i said at same = subst (λ (z : Site × FineAct). site_takes (s_start image z.0) z.1 ≡ true) (λ i. (at i, same i)) taken.takes

      nobody : has_ready (scheduler_state (s_start image Site.scheduler)) (scheduler_state (s_start image Site.scheduler)).ready ≡ false
      nobody =
          ap (λ (boots : List Boot). has_ready (scheduler_state (s_start image Site.scheduler)) (map (boot_index (opening image)) boots))
          (ap (λ (i : Image). i.boots) (opening-image image) ∙ no-boots image image.boots described.lawful.boots none)

      turns : site_takes (s_start image Site.scheduler) (says_turn image idle e.moved) ≡ true → ⊥
      turns takes =
          false≢true
          (sym nobody
          ∙ idle-takes image idle (scheduler_state (s_start image Site.scheduler)) e.moved (and_parts (nat_lt 0 268435455) (sched_takes (scheduler_state (s_start image Site.scheduler)) (says_turn image idle e.moved)) takes).1)

      by : (due : Bool) → is_due_act e.act ≡ due → (tick : Bool) → is_tick e.act ≡ tick → ⊥
      by true d tick t = false≢true (there Site.clock (FineAct.Unseen Unseen.Due) (site ∙ ap (λ b. if b || is_tick e.act then Site.clock else Site.scheduler) d) (act ∙ ap (λ b. if b then FineAct.Unseen Unseen.Due else if is_tick e.act then by_actor image idle (Act.Tick (now_in (act_in e.act))) else says_turn image idle e.moved) d))
      by false d true t =
          false≢true
          (there Site.clock (by_actor image idle (Act.Tick (now_in (act_in e.act)))) (site ∙ (λ i. if d i || t i then Site.clock else Site.scheduler))
          (act ∙ (λ i. if d i then FineAct.Unseen Unseen.Due else if t i then by_actor image idle (Act.Tick (now_in (act_in e.act))) else says_turn image idle e.moved)))
      by false d false t =
          turns
          (there Site.scheduler (says_turn image idle e.moved) (site ∙ (λ i. if d i || t i then Site.clock else Site.scheduler))
          (act ∙ (λ i. if d i then FineAct.Unseen Unseen.Due else if t i then by_actor image idle (Act.Tick (now_in (act_in e.act))) else says_turn image idle e.moved)))

  abbrev Erases : List FineStep → Type 0
  Erases h = (m : State) × Runs (opening image) (shown h) m × Rel (left_by image cpus h) m

  pub erased-runs : (h : List FineStep) → IsFineRun image cpus h → Erases h
  erased-runs h run = by (none-or-some (length image.objects)) h run
    where
      by : (length image.objects ≡ 0) ⊎ (0 < length image.objects) → (h : List FineStep) → IsFineRun image cpus h → Erases h
      by (inl none) [] run = (opening image, refl, opens-described image described cpus)
      by (inl none) (e ∷ h) run = absurd (no-steps none e h run)
      by (inr some) h run =
          let known = (is_opening image (is_sited image described.lawful described.few some) described.lawful).known in
          let r = erased-described image described cpus (keeps-all image cpus described known) h run in
          r
