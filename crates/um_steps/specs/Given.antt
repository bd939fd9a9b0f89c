-- Images that a description gives.
use Rattle.um_base.specs.declared.image.Image.{Image}
use Rattle.um_base.specs.Lawful.{IsLawful}

-- the same as a lawful image, as one fact that is opened only where its parts are needed
unfoldable pub IsGiven : Image → Type 0
IsGiven image = IsLawful image
