-- What a fine run of a described image leaves is within the bounds.
use Rattle.um_refinement.proofs.Words.{ℕ, List, [], refl, subst, eq-eqb, eqb-true, Image, Runs, opening, State, core_of, IsSited, IsKnown, IsDescribed, shown, ByOneOf, IsFineRun, cpu_of, p_start, same_cpu, site_of, p_next, s_start, Processor, SiteMay, SiteState, s_next, same_site, FineStep, Site, same-itself, same-sound, left_by, Rel, along}
use Rattle.um_refinement.proofs.Bounds.{AreBounded}
use Rattle.um_refinement.proofs.BoundsKept.{bounds-kept}
use Rattle.um_refinement.proofs.DomainsKnown.{started-placed}
use Rattle.um_refinement.proofs.Erased.{Goes, IsReachable, along-runs, fine, reach-on, stepped}
use Rattle.um_refinement.proofs.FirstBounds.{bounded-first}
use Rattle.um_refinement.proofs.FirstLawful.{opens-described}
use Rattle.um_refinement.proofs.FirstObjects.{opening-image}
use Rattle.um_refinement.proofs.Leaves.{Lawful}
use Rattle.um_refinement.proofs.Parts.{kept-step}
use Rattle.um_refinement.proofs.Reachable.{reachable-sound}
use Rattle.um_refinement.proofs.SuitsKnown.{kept-known, rests-known, suits-known}

module _ (image : Image) (cpus : ℕ) (described : IsDescribed image) (known : IsKnown (core_of (opening image))) where
  -- each lawful step keeps the relation, and the bounds
  abbrev Holds : (ℕ → Processor) → (Site → SiteState) → State → Type 0
  Holds ps ss m = Rel (fine image cpus ps ss) m × IsReachable image cpus m × AreBounded (fine image cpus ps ss)

  keeps-bounds : (ps : ℕ → Processor) (ss : Site → SiteState) (m : State) (e : FineStep) → Holds ps ss m → ByOneOf image cpus (ps (cpu_of e)) e → SiteMay image (ss (site_of e)) e
      → (m2 : State) × Goes m e m2 × (Rel (stepped image cpus ps ss e) m2 × IsReachable image cpus m2 × AreBounded (stepped image cpus ps ss e))
  keeps-bounds ps ss m e holds by taken =
      let f = fine image cpus ps ss in
      let next = kept-step image cpus described known ps ss m e holds.0 holds.1 by taken in
      let onwards = reach-on image cpus m next.state e.act holds.1 next.goes in
      let law : Lawful f m e = record { rel = holds.0; sound = reachable-sound image cpus described.few m holds.1 known; by = by; taken = taken } in
      let sited = subst IsSited (opening-image image) known.reached.sited in
      let bounds = bounds-kept f m e law holds.2 (rests-known image cpus described known m holds.1) described.lawful sited (suits-known image cpus described known m holds.1 f holds.0)
      (λ t l started. started-placed image cpus described m holds.1 t started) (kept-known image cpus described known m holds.1) next.state next.leaves next.related (kept-known image cpus described known next.state onwards) in
      (next.state, next.goes, (next.related, onwards, bounds))

  -- so what a fine run leaves is within them
  pub bounded-runs : (h : List FineStep) → IsFineRun image cpus h
      → (m : State) × Runs (opening image) (shown h) m × Rel (left_by image cpus h) m × AreBounded (left_by image cpus h)
  bounded-runs h run =
      let a = along same_cpu (λ k. eq-eqb k k refl) (λ j k q. eqb-true j k q) same_site same-itself same-sound cpu_of site_of
      (ByOneOf image cpus) (p_next image) p_start (SiteMay image) (s_next image) (s_start image)
      Goes (opening image) Holds (opens-described image described cpus, ([], refl), bounded-first image described cpus) keeps-bounds h run.processors run.sites in
      (a.0, along-runs (opening image) a.0 h a.1, a.2.0, a.2.2)
