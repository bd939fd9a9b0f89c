-- What is left of fine steps: at most the weight of the image at its opening, and less with each step.
use Rattle.std.specs.Prelude.{◌≡◌, ◌≢◌, ◌≤◌, ℕ, ◌+◌, []}
use Rattle.um_base.specs.declared.image.Image.{Image}
use Rattle.um_base.specs.Weight.{weight}
use Rattle.um_fine.specs.Asks.{CpuMay}
use Rattle.um_fine.specs.Follows.{p_next}
use Rattle.um_fine.specs.Opening.{s_start}
use Rattle.um_fine.specs.Processor.{Processor}
use Rattle.um_fine.specs.Sites.{SiteMay, SiteState, s_next}
use Rattle.um_fine.specs.Steps.{FineStep, Site}
use Rattle.um_machine.specs.State.{State}
use Rattle.um_fine.specs.FineRun.{ByOneOf}
use Rattle.um_refinement.specs.After.{left_by}
use Rattle.um_refinement.specs.Fine.{Fine}
use Rattle.um_refinement.specs.Relation.{Rel}
use Rattle.um_fine_measure.specs.Measure.{MOST_CPUS, processor_cost, site_cost}
use Rattle.um_fine_measure.specs.Ready.{AreCut, MayStep}
use Rattle.um_fine_measure.specs.Whole.{gone_on, got_by, paid_by, whole_cost}

-- at the opening the scheduler has the weight left at most, no other site has anything, and all together have nothing
pub record Opens (image : Image) : Type 0 where
  pub scheduler : site_cost image (s_start image Site.scheduler) ≤ weight image
  pub others : (site : Site) → site ≢ Site.scheduler → site_cost image (s_start image site) ≡ 0
  pub whole : (cpus : ℕ) → whole_cost (left_by image cpus []) ≡ 0

-- a lawful step of a processor that may make it lowers what the processor and its site have left, by one at least, but for what it adds to what all
-- have left together, and takes of that
abbrev pub Falls : Image → Type 0
Falls image = (p : Processor) (s : SiteState) (e : FineStep) → CpuMay image p e → SiteMay image s e → AreCut s → MayStep image p e.act e.moved p.todo
    → processor_cost image (p_next image p e) + site_cost image (s_next image s e) + paid_by e.act + 1
    ≤ processor_cost image p + site_cost image s + got_by p.todo e

-- what all have left together falls by what a lawful step takes of it, but for what it adds
abbrev pub WholeFalls : Type 0
WholeFalls =
    (f : Fine) (m : State) (e : FineStep) → Rel f m → f.cpus ≤ MOST_CPUS → ByOneOf f.image f.cpus (f.processors e.cpu) e → SiteMay f.image (f.sites e.site) e
    → whole_cost (gone_on f e) + got_by (f.processors e.cpu).todo e ≤ whole_cost f + paid_by e.act
