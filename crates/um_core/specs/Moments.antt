-- What may be next at one moment.
use Rattle.std.specs.Prelude.{◌≡◌, IsTrue}
use Rattle.um_base.specs.declared.image.Image.{Image}
use Rattle.um_fine.specs.Answers.{is_due_act, is_tick}
use Rattle.um_fine.specs.Asks.{CpuMay}
use Rattle.um_fine.specs.Processor.{Processor}
use Rattle.um_fine.specs.Sites.{SiteMay, SiteState, is_sort}
use Rattle.um_fine.specs.Steps.{FineStep, Site}

-- each site keeps its sort
abbrev pub AreSorted : (Site → SiteState) → Type 0
AreSorted sites = (i : Site) → IsTrue (is_sort i (sites i))

-- this processor makes the step, and the step's site takes it
pub record MayStep (image : Image) (p : Processor) (sites : Site → SiteState) (e : FineStep) : Type 0 where
  pub makes : CpuMay image p e
  pub takes : SiteMay image (sites e.site) e

-- Two steps are of one kind: both give a mark, or both let time go on, or neither does. A processor without a thread may have a step of each kind.
pub record AreAlike (e g : FineStep) : Type 0 where
  pub due : is_due_act e.act ≡ is_due_act g.act
  pub tick : is_tick e.act ≡ is_tick g.act
