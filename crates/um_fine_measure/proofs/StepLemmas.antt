-- Each fine step lowers what its processor and its site have left, but for what it adds to what all have left together, and takes of that.
use Rattle.std.proofs.Common.{◌≤◌, ◌+◌, arith}
use Rattle.um_base.specs.Lawful.{IsLawful}
use Rattle.um_base.specs.declared.image.Image.{Image}
use Rattle.um_fine.specs.Asks.{CpuMay}
use Rattle.um_fine.specs.Follows.{p_next}
use Rattle.um_fine.specs.Processor.{Processor}
use Rattle.um_fine.specs.Sites.{SiteMay, SiteState, s_next}
use Rattle.um_fine.specs.Steps.{FineStep}
use Rattle.um_fine_measure.specs.Measure.{processor_cost, site_cost}
use Rattle.um_fine_measure.specs.Ready.{AreCut, MayStep}
use Rattle.um_fine_measure.specs.Whole.{got_by, paid_by}
use Rattle.um_fine_measure.proofs.BeginLemmas.{begin-falls}
use Rattle.um_fine_measure.proofs.ProcessorLemmas.{processor-falls}
use Rattle.um_fine_measure.proofs.SiteLemmas.{site-falls}

pub step-falls : (image : Image) → IsLawful image → (p : Processor) (s : SiteState) (e : FineStep) → CpuMay image p e → SiteMay image s e → AreCut s → MayStep image p e.act e.moved p.todo
    → processor_cost image (p_next image p e) + site_cost image (s_next image s e) + paid_by e.act + 1 ≤ processor_cost image p + site_cost image s + got_by p.todo e
step-falls image lawful p s e cpu site cut step =
    let here = site-falls image s e site cut in
    let there = processor-falls image p e cpu step (λ rest begins. let less = begin-falls image lawful p.context begins in omega (arith, less)) in
    omega (arith, here, there)
