-- No fine run of a described image, by at most so many processors, has more steps than the weight of the image: before each step the relation with
-- the access-matrix machine holds, so that the processor is one that may make it.
use Rattle.std.proofs.Common.{◌≡◌, ◌≤◌, ℕ, List, [], ◌∷◌, ◌++◌, length, sym, ap, subst, arith}
use Rattle.um_base.specs.Weight.{weight}
use Rattle.um_base.specs.declared.act.Event.{Event}
use Rattle.um_base.specs.declared.image.Image.{Image}
use Rattle.um_machine.specs.Run.{Runs, opening}
use Rattle.um_machine.specs.State.{State}
use Rattle.um_measure.specs.Reached.{IsReached}
use Rattle.um_measure.proofs.OpenLemmas.{opens}
use Rattle.um_measure.proofs.StepLemmas.{keeps}
use Rattle.um_invariants.specs.Described.{IsDescribed}
use Rattle.um_fine.specs.Erasure.{shown}
use Rattle.um_fine.specs.FineRun.{ByOneOf, IsFineRun}
use Rattle.um_fine.specs.Sites.{SiteMay}
use Rattle.um_fine.specs.Steps.{FineStep}
use Rattle.um_refinement.specs.After.{left_by}
use Rattle.um_refinement.specs.Relation.{Rel}
use Rattle.um_refinement.proofs.Erased.{later}
use Rattle.um_fine_measure.specs.Measure.{MOST_CPUS}
use Rattle.um_fine_measure.specs.Whole.{whole_cost}
use Rattle.um_fine_measure.proofs.OfferLemmas.{are-cut, may-step}
use Rattle.um_fine_measure.proofs.RunLemmas.{StepFalls, StepsFall, left-now, processors, run-bounded, sites}
use Rattle.um_fine_measure.proofs.StepLemmas.{step-falls}
use Rattle.um_fine_measure.proofs.WholeLemmas.{whole-falls}

-- a run keeps what the states of a run have in common
reached-run : (s : State) (events : List Event) (s2 : State) → IsReached s → Runs s events s2 → IsReached s2
reached-run s [] s2 reached run = subst IsReached (sym run) reached
reached-run s (event ∷ events) s2 reached run = reached-run run.0 events s2 (keeps s run.0 event reached run.1) run.2

module _ (image : Image) (cpus : ℕ) (described : IsDescribed image) where
  -- every fine run is one of the access-matrix machine, whose last state is related to what the fine run leaves
  abbrev pub Relates : Type 0
  Relates =
      (h : List FineStep) → IsFineRun image cpus h
      → (last : State) × Runs (opening image) (shown h) last × Rel (left_by image cpus h) last

  module _ (few : cpus ≤ MOST_CPUS) (h : List FineStep) (e : FineStep) (by : ByOneOf image cpus (processors image h e.cpu) e) (taken : SiteMay image (sites image h e.site) e) where
    -- a step lowers what is left where the relation holds
    related-step : (m : State) → IsReached m → Rel (left_by image cpus h) m → StepFalls image cpus h e
    related-step m reached related =
        let f = left_by image cpus h in
        let here = step-falls image described.lawful (processors image h e.cpu) (sites image h e.site) e by.may taken (are-cut f m related e.site) (may-step f m related reached e by taken) in
        let whole = whole-falls f m related e by taken few in
        let now : whole_cost (left_by image cpus (h ++ e ∷ [])) ≡ whole_cost (later f e) = ap whole_cost (left-now image cpus h e) in
        omega (arith, here, whole, now)

  steps-fall : cpus ≤ MOST_CPUS → Relates → StepsFall image cpus
  steps-fall few relates h e run before by taken =
      let r = relates h run in
      let reached = reached-run (opening image) (shown h) r.0 (opens image described.lawful described.few).0 r.1 in
      related-step few h e by taken r.0 reached r.2

  pub within-weight : cpus ≤ MOST_CPUS → Relates → (h : List FineStep) → IsFineRun image cpus h → length h ≤ weight image
  within-weight few relates h run = let bound = run-bounded image cpus described.lawful (steps-fall few relates) h run [] tt in omega (arith, bound)
