-- What the command `upgrade` writes.
use Rattle.std.specs.Prelude.{◌≡◌, ℕ, List}
use Rattle.um_base.specs.declared.image.Image.{Image}
use Rattle.um_canonical.specs.Text.{printed_text}
use Rattle.um_image.specs.Meaning.{Describes}

-- The bytes are the canonical text of an image and describe it, so for these bytes the command writes the same bytes.
pub record IsUpgrade (image : Image) (written : List ℕ) : Type 0 where
  pub canonical : written ≡ printed_text image
  pub describes : Describes written image
  pub again : (other : Image) → Describes written other → printed_text other ≡ written
