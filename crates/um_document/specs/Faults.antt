-- The faults of a document's form: all of each kind in the order of their places, and the kinds in their order. The first of them all is the one that is told.
use Rattle.std.specs.Prelude.{◌≡◌, ◌⊎◌, ℕ, pos, List, [], ◌∷◌, ◌++◌, map, Bool, ◌||◌, if◌then◌else◌, Some, Result, Ok, Err, IsUtf8}
use Rattle.toml.specs.Data.{Members}
use Rattle.toml.specs.Parse.{parse_document}
use Rattle.um_document.specs.declared.check.Check.{Check}
use Rattle.um_document.specs.declared.description.Description.{Description}
use Rattle.um_document.specs.declared.fault.ImageFault.{ImageFault}
use Rattle.um_document.specs.declared.fault.ImageFault.TheVariants as fault
use Rattle.um_document.specs.Broken.{broken}
use Rattle.um_document.specs.First.{first_of}
use Rattle.um_document.specs.Parts.{has_version}
use Rattle.um_document.specs.Reading.{description_of}
use Rattle.um_document.specs.Unknown.{unknown_keys}

abbrev pub is_known_version : Members → Bool
is_known_version t = has_version (pos 1) t || has_version (pos 2) t

unfoldable pub version_faults : Members → List ImageFault
version_faults t = if is_known_version t then [] else fault.Version ∷ []

abbrev pub fault_of : Check → List ℕ → ImageFault
fault_of Check.Missing = fault.MissingKey
fault_of Check.WrongType = fault.WrongType
fault_of Check.BadName = fault.BadName

unfoldable pub broken_parts : Check → Members → List ImageFault
broken_parts check t = map (fault_of check) (broken check t)

unfoldable pub unknown_key_faults : Members → List ImageFault
unknown_key_faults t = map fault.UnknownKey (unknown_keys t)

-- all faults of a document's form: of its version, absent keys, wrong types, unknown keys, and names and words
abbrev pub form_faults : Members → List ImageFault
form_faults t =
    version_faults t ++ broken_parts Check.Missing t ++ broken_parts Check.WrongType t ++ unknown_key_faults t ++ broken_parts Check.BadName t

-- an error is the first of these faults, but for want of memory, which may be answered anywhere
abbrev pub IsFirst : ImageFault → List ImageFault → Type 0
IsFirst e faults = ¬ (e ≡ fault.Memory) → first_of faults ≡ Some e

-- what passes has none of these faults
abbrev pub Passes : {A : Type 0} → Result A ImageFault → List ImageFault → Type 0
Passes (Ok x) faults = faults ≡ []
Passes (Err e) faults = IsFirst e faults

-- the text is a document of this table
pub record IsDocument (text : List ℕ) (table : Members) : Type 0 where
  pub utf8 : IsUtf8 text
  pub parsed : parse_document text ≡ Some table

-- the description of a document without faults of its form, or the first of them
abbrev pub Describes : Result Description ImageFault → Members → Type 0
Describes (Ok d) t = (form_faults t ≡ []) × (d ≡ description_of t)
Describes (Err e) t = IsFirst e (form_faults t)

-- an error is `NotToml` where the text is no document, and else the first fault of the document's form
abbrev pub IsRefused : ImageFault → List ℕ → Type 0
IsRefused e text =
    ((e ≡ fault.NotToml) × ((t : Members) → ¬ IsDocument text t)) ⊎ ((t : Members) × IsDocument text t × (first_of (form_faults t) ≡ Some e))

-- the same of a text; want of memory may be answered anywhere
abbrev pub ReadsDocument : Result Description ImageFault → List ℕ → Type 0
ReadsDocument (Ok d) text = (t : Members) × IsDocument text t × (form_faults t ≡ []) × (d ≡ description_of t)
ReadsDocument (Err e) text = ¬ (e ≡ fault.Memory) → IsRefused e text
