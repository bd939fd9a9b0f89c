-- What a text means: the image that it describes, or the fault that it is refused with.
use Rattle.std.specs.Prelude.{◌≡◌, ◌⊎◌, ℕ, List, Ok, Err}
use Rattle.um_base.specs.declared.image.Image.{Image}
use Rattle.um_document.specs.declared.description.Description.{Description}
use Rattle.um_document.specs.declared.fault.ImageFault.{ImageFault}
use Rattle.um_document.specs.Faults.{IsRefused, ReadsDocument}
use Rattle.um_description.specs.declared.flaw.Flaw.{Flaw}
use Rattle.um_description.specs.Faults.{fault_of}
use Rattle.um_description.specs.Flaws.{meaning}

-- the text is a description that means this image
pub record Describes (text : List ℕ) (image : Image) : Type 0 where
  pub description : Description
  pub read : ReadsDocument (Ok description) text
  pub means : meaning description ≡ Ok image

-- the text is a description, and the fault tells the first of its flaws
pub record IsFlawed (text : List ℕ) (fault : ImageFault) : Type 0 where
  pub description : Description
  pub read : ReadsDocument (Ok description) text
  pub flaw : Flaw
  pub means : meaning description ≡ Err flaw
  pub told : fault ≡ fault_of flaw

-- the fault is that of the text's form, or it tells the first flaw of what the text describes
abbrev pub Refuses : List ℕ → ImageFault → Type 0
Refuses text fault = IsRefused fault text ⊎ IsFlawed text fault

-- the text describes an image, or it is refused with a fault
abbrev pub IsRead : List ℕ → Type 0
IsRead text = ((image : Image) × Describes text image) ⊎ ((fault : ImageFault) × Refuses text fault)
