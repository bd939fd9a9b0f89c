-- Images that a description gives.
use Rattle.std.specs.Prelude.{◌≤◌, length}
use Rattle.um_base.specs.declared.image.Image.{Image}
use Rattle.um_base.specs.declared.limits.TheConstants.{STATIC_ROWS}
use Rattle.um_base.specs.Lawful.{IsLawful}

-- A lawful image, with no more objects than the type of their list allows.
pub record IsDescribed (image : Image) : Type 0 where
  pub lawful : IsLawful image
  pub few : length image.objects ≤ STATIC_ROWS
