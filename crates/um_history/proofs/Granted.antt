-- Steps that their processors ask for and that their sites take, one after another, are a fine run: that a processor has room to clean one more
-- object is known of each moment of a fine run.
use Rattle.std.proofs.Common.{◌≡◌, ℕ, ◌<◌, List, [], ◌∷◌, ◌++◌, refl, sym, subst, eq-eqb}
use Rattle.std.proofs.lemmas.Bool.{eqb-true}
use Rattle.um_base.specs.declared.image.Image.{Image}
use Rattle.um_invariants.specs.Described.{IsDescribed}
use Rattle.um_fine.specs.FineRun.{IsFineRun, cpu_of, p_start, same_cpu, site_of}
use Rattle.um_fine.specs.Follows.{p_next}
use Rattle.um_fine.specs.Opening.{s_start}
use Rattle.um_fine.specs.Processor.{Processor}
use Rattle.um_fine.specs.Runs.{Run, RunsAt}
use Rattle.um_fine.specs.Sites.{SiteMay, s_next, same_site}
use Rattle.um_fine.specs.Steps.{FineStep}
use Rattle.um_fine.proofs.FineRuns.{by_last, runs_pop}
use Rattle.um_fine.proofs.Keys.{same-itself, same-sound}
use Rattle.um_tables.specs.Asked.{AsksFor}
use Rattle.um_refinement.specs.Room.{CanRun}
use Rattle.um_core.proofs.MomentsKnown.{asked-may}
use Rattle.um_core.proofs.OneRun.{fine-more}
use Rattle.um_history.specs.Played.{Each}

-- the processor of this step asks for it, and is one of this many
pub record IsAsked (image : Image) (cpus : ℕ) (p : Processor) (e : FineStep) : Type 0 where
  pub asks : AsksFor e.cpu image p e
  pub named : e.cpu < cpus

abbrev pub AreAsked : Image → ℕ → List FineStep → Type 0
AreAsked image cpus h = RunsAt same_cpu cpu_of (IsAsked image cpus) (p_next image) p_start h

abbrev pub AreTaken : Image → List FineStep → Type 0
AreTaken image h = RunsAt same_site site_of (SiteMay image) (s_next image) (s_start image) h

pub own-steps-of : (image : Image) (k : ℕ) (p : Processor) (steps : List FineStep) → Run (AsksFor k image) (p_next image) p steps → Each (λ (e : FineStep). e.cpu ≡ k) steps
own-steps-of image k p [] run = tt
own-steps-of image k p (e ∷ steps) run = (run.0.maker, own-steps-of image k (p_next image p e) steps run.1)

pub asked-of : (image : Image) (cpus k : ℕ) → k < cpus → (p : Processor) (steps : List FineStep) → Run (AsksFor k image) (p_next image) p steps → Run (IsAsked image cpus) (p_next image) p steps
asked-of image cpus k less p [] run = tt
asked-of image cpus k less p (e ∷ steps) run =
    let own = run.0.maker in
    (record { asks = record { maker = refl; makes = run.0.makes; fit = run.0.fit }; named = subst (λ (j : ℕ). j < cpus) (sym own) less }, asked-of image cpus k less (p_next image p e) steps run.1)

module _ (image : Image) (cpus : ℕ) (described : IsDescribed image) (can : CanRun image cpus) where
  more : (h : List FineStep) (e : FineStep) → (AreAsked image cpus h → AreTaken image h → IsFineRun image cpus h) → AreAsked image cpus (h ++ e ∷ []) → AreTaken image (h ++ e ∷ []) → IsFineRun image cpus (h ++ e ∷ [])
  more h e before asked taken =
      let a = runs_pop same_cpu (λ k. eq-eqb k k refl) (λ j k same. eqb-true j k same) cpu_of (IsAsked image cpus) (p_next image) p_start h e asked in
      let b = runs_pop same_site same-itself same-sound site_of (SiteMay image) (s_next image) (s_start image) h e taken in
      let run = before a.0 b.0 in
      let may = asked-may image cpus described can h run e.cpu a.1.named e a.1.asks.makes a.1.asks.fit b.1 in
      fine-more image cpus h e run (record { makes = record { may = may; named = a.1.named }; takes = b.1 })

  pub granted : (h : List FineStep) → AreAsked image cpus h → AreTaken image h → IsFineRun image cpus h
  granted = by_last (λ (h : List FineStep). AreAsked image cpus h → AreTaken image h → IsFineRun image cpus h)
      (λ asked taken. record { processors = λ k. tt; sites = λ i. tt })
      more
