-- Each site keeps its sort, whatever steps are made.
use Rattle.std.specs.Prelude.{List}
use Rattle.um_base.specs.declared.image.Image.{Image}
use Rattle.um_fine.specs.Steps.{FineStep}
use Rattle.um_refinement.proofs.First.{sorts-along}
use Rattle.um_core.specs.Moments.{AreSorted}
use Rattle.um_core.specs.PickedRun.{site_after}

pub sorts-after : (image : Image) (done : List FineStep) → AreSorted (site_after image done)
sorts-after = sorts-along
