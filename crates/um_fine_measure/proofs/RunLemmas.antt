-- Whole fine runs: steps that were made, and what is left, are no more than the weight of the image, where each step lowers what its
-- processor and its site, and all together, have left.
use Rattle.std.proofs.Common.{◌≡◌, ◌⊎◌, inl, inr, ⊎_elim, ◌<◌, ◌≤◌, ℕ, zero, suc, ◌+◌, Bool, true, false, List, [], ◌∷◌, ◌++◌, length, length-append, refl, sym, ap, ◌∙◌, subst, arith, eq-eqb}
use Rattle.std.specs.Prelude.{◌==◌}
use Rattle.std.proofs.lemmas.Bool.{eqb-false, eqb-true, false≢true}
use Rattle.um_base.specs.Lawful.{IsLawful}
use Rattle.um_base.specs.Weight.{weight}
use Rattle.um_base.specs.declared.image.Image.{Image}
use Rattle.um_fine.specs.FineRun.{ByOneOf, IsFineRun, cpu_of, p_start, same_cpu, site_of}
use Rattle.um_fine.specs.Follows.{p_next}
use Rattle.um_fine.specs.Opening.{s_start}
use Rattle.um_fine.specs.Processor.{Processor}
use Rattle.um_fine.specs.Runs.{changed, state_at}
use Rattle.um_fine.specs.Sites.{SiteMay, SiteState, s_next, same_site}
use Rattle.um_fine.specs.Steps.{FineStep, Site}
use Rattle.um_fine.proofs.Balance.{AllDifferent, In, total, total_changed}
use Rattle.um_fine.proofs.FineRuns.{by_last, runs_pop, state_push}
use Rattle.um_fine.proofs.Keys.{same-itself, same-sound}
use Rattle.um_refinement.specs.After.{left_by}
use Rattle.um_refinement.proofs.Erased.{later}
use Rattle.um_fine_measure.specs.Measure.{processor_cost, site_cost}
use Rattle.um_fine_measure.specs.Whole.{whole_cost}
use Rattle.um_fine_measure.proofs.OpeningLemmas.{others-nothing, scheduler-start, whole-start}

-- Names of processors.

abbrev below : ℕ → List ℕ
below zero = []
below (suc n) = n ∷ below n

in-below : (n k : ℕ) → In k (below n) → k < n
in-below zero k i = absurd i
in-below (suc n) k i = ⊎_elim (λ e. omega (arith, e)) (λ r. let less = in-below n k r in omega (arith, less)) i

below-in : (n k : ℕ) → k < n → In k (below n)
below-in zero k h = absurd (omega (arith, h))
below-in (suc n) k h = by (n == k) refl (below-in n k)
  where
    by : (b : Bool) → (n == k) ≡ b → (k < n → In k (below n)) → In k (below (suc n))
    by true e rest = inl (eqb-true n k e)
    by false e rest = inr (rest (let other = eqb-false n k e in omega (arith, h, other)))

different : (n : ℕ) → AllDifferent (below n)
different zero = tt
different (suc n) = (λ i. let less = in-below n n i in omega (arith, less), different n)

cpu-itself : (k : ℕ) → same_cpu k k ≡ true
cpu-itself k = eq-eqb k k refl

cpu-sound : (j k : ℕ) → same_cpu j k ≡ true → j ≡ k
cpu-sound j k h = eqb-true j k h

-- whether a site is in a list
among : (i : Site) (sites : List Site) → In i sites ⊎ (In i sites → ⊥)
among i [] = inr (λ none. none)
among i (j ∷ sites) = by (same_site j i) refl (among i sites)
  where
    by : (b : Bool) → same_site j i ≡ b → In i sites ⊎ (In i sites → ⊥) → In i (j ∷ sites) ⊎ (In i (j ∷ sites) → ⊥)
    by true e rest = inl (inl (same-sound j i e))
    by false e (inl there) = inl (inr there)
    by false e (inr off) =
        inr (λ q. ⊎_elim (λ same. false≢true (sym e ∙ subst (λ (z : Site). same_site z i ≡ true) (sym same) (same-itself i))) off q)

module _ (image : Image) where
  -- what processors and sites are after steps
  abbrev pub processors : List FineStep → ℕ → Processor
  processors h = state_at same_cpu cpu_of (p_next image) p_start h

  abbrev pub sites : List FineStep → Site → SiteState
  sites h = state_at same_site site_of (s_next image) (s_start image) h

  -- one more step changes one of each
  pub processors-now : (cpus : ℕ) (h : List FineStep) (e : FineStep) (k : ℕ) → processors (h ++ e ∷ []) k ≡ changed same_cpu cpu_of (p_next image) (processors h) e k
  processors-now cpus h e k = state_push same_cpu cpu-itself cpu-sound cpu_of (ByOneOf image cpus) (p_next image) p_start h e k

  pub sites-now : (h : List FineStep) (e : FineStep) (i : Site) → sites (h ++ e ∷ []) i ≡ changed same_site site_of (s_next image) (sites h) e i
  sites-now h e i = state_push same_site same-itself same-sound site_of (SiteMay image) (s_next image) (s_start image) h e i

module _ (image : Image) (cpus : ℕ) where
  pub left-now : (h : List FineStep) (e : FineStep) → left_by image cpus (h ++ e ∷ []) ≡ later (left_by image cpus h) e
  left-now h e = λ i. record { image = image; cpus = cpus; processors = λ k. processors-now image cpus h e k i; sites = λ j. sites-now image h e j i }

  -- one more step lowers what its processor and its site, and all together, have left
  abbrev pub StepFalls : List FineStep → FineStep → Type 0
  StepFalls h e =
      let p = processors image h e.cpu in
      let s = sites image h e.site in
      processor_cost image (p_next image p e) + site_cost image (s_next image s e) + whole_cost (left_by image cpus (h ++ e ∷ [])) + 1
      ≤ processor_cost image p + site_cost image s + whole_cost (left_by image cpus h)

  -- steps, and what is left at any sites, are no more than the weight
  abbrev pub Bounded : List FineStep → Type 0
  Bounded h =
      (is : List Site) → AllDifferent is
      → total (processor_cost image) (processors image h) (below cpus) + total (site_cost image) (sites image h) is + whole_cost (left_by image cpus h) + length h ≤ weight image

  idle-cost : (n : ℕ) → total (processor_cost image) p_start (below n) ≡ 0
  idle-cost zero = refl
  idle-cost (suc n) = let rest = idle-cost n in omega (arith, rest)

  module _ (lawful : IsLawful image) where
    none-start : (is : List Site) → (In Site.scheduler is → ⊥) → total (site_cost image) (s_start image) is ≡ 0
    none-start [] off = refl
    none-start (i ∷ is) off =
        let here = others-nothing image lawful i (λ e. off (inl e)) in
        let rest = none-start is (λ q. off (inr q)) in omega (arith, here, rest)

    all-start : (is : List Site) → AllDifferent is → total (site_cost image) (s_start image) is ≤ weight image
    all-start [] apart = omega arith
    all-start (i ∷ is) apart = by (same_site i Site.scheduler) refl (all-start is apart.1)
      where
        by : (b : Bool) → same_site i Site.scheduler ≡ b → total (site_cost image) (s_start image) is ≤ weight image → total (site_cost image) (s_start image) (i ∷ is) ≤ weight image
        by true e rest =
            let same = same-sound i Site.scheduler e in
            let here : site_cost image (s_start image i) ≡ site_cost image (s_start image Site.scheduler) = ap (λ (z : Site). site_cost image (s_start image z)) same in
            let none = none-start is (λ q. apart.0 (subst (λ (z : Site). In z is) (sym same) q)) in
            let start = scheduler-start image lawful in omega (arith, here, none, start)
        by false e rest =
            let here = others-nothing image lawful i (λ same. false≢true (sym e ∙ subst (λ (z : Site). same_site z Site.scheduler ≡ true) (sym same) (same-itself Site.scheduler))) in
            omega (arith, here, rest)

    starts : Bounded []
    starts is apart =
        let none = idle-cost cpus in
        let whole = whole-start image cpus in
        let start = all-start is apart in omega (arith, none, whole, start)

  module _ (h : List FineStep) (e : FineStep) (named : e.cpu < cpus) (run : IsFineRun image cpus (h ++ e ∷ [])) where
    -- where the site of the step is counted
    falls-in : StepFalls h e → Bounded h → (is : List Site) → AllDifferent is → In e.site is
        → total (processor_cost image) (processors image (h ++ e ∷ [])) (below cpus) + total (site_cost image) (sites image (h ++ e ∷ [])) is + whole_cost (left_by image cpus (h ++ e ∷ [])) + length (h ++ e ∷ []) ≤ weight image
    falls-in falls before is apart there =
        let was = before is apart in
        let ps : total (processor_cost image) (processors image (h ++ e ∷ [])) (below cpus) ≡ total (processor_cost image) (changed same_cpu cpu_of (p_next image) (processors image h) e) (below cpus)
        = ap (λ (z : ℕ → Processor). total (processor_cost image) z (below cpus)) (λ j k. processors-now image cpus h e k j) in
        let ss : total (site_cost image) (sites image (h ++ e ∷ [])) is ≡ total (site_cost image) (changed same_site site_of (s_next image) (sites image h) e) is
        = ap (λ (z : Site → SiteState). total (site_cost image) z is) (λ j k. sites-now image h e k j) in
        let x = total_changed same_cpu cpu-itself cpu-sound cpu_of (p_next image) (processor_cost image) (processors image h) e (below cpus) (different cpus) (below-in cpus e.cpu named) in
        let y = total_changed same_site same-itself same-sound site_of (s_next image) (site_cost image) (sites image h) e is apart there in
        let long = length-append h (e ∷ []) in omega (arith, was, ps, ss, x, y, falls, long)

    falls-all : StepFalls h e → Bounded h → Bounded (h ++ e ∷ [])
    falls-all falls before is apart =
        ⊎_elim (λ there. falls-in falls before is apart there)
        (λ off. let more = falls-in falls before (e.site ∷ is) (off, apart) (inl refl) in omega (arith, more))
        (among e.site is)

  -- each step of a run falls
  abbrev pub StepsFall : Type 0
  StepsFall =
      (h : List FineStep) (e : FineStep) → IsFineRun image cpus h → Bounded h
      → ByOneOf image cpus (processors image h e.cpu) e → SiteMay image (sites image h e.site) e → StepFalls h e

  pub run-bounded : IsLawful image → StepsFall → (h : List FineStep) → IsFineRun image cpus h → Bounded h
  run-bounded lawful falls =
      by_last (λ h. IsFineRun image cpus h → Bounded h) (λ run. starts lawful)
      (λ h e before run.
      let a = runs_pop same_cpu cpu-itself cpu-sound cpu_of (ByOneOf image cpus) (p_next image) p_start h e run.processors in
      let b = runs_pop same_site same-itself same-sound site_of (SiteMay image) (s_next image) (s_start image) h e run.sites in
      let first : IsFineRun image cpus h = record { processors = a.0; sites = b.0 } in
      falls-all h e a.1.named run (falls h e first (before first) a.1 b.1) (before first))
