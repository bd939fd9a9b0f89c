-- The text that is printed for an image describes that image, and no other.
use Rattle.std.proofs.Common.{◌≡◌, ℕ, List, [], ◌∷◌, Ok, refl, ap, subst}
use Rattle.um_base.specs.declared.image.Image.{Image}
use Rattle.um_document.specs.declared.description.Description.{Description}
use Rattle.um_description.specs.declared.flaw.Flaw.{Flaw}
use Rattle.um_description.specs.Flaws.{flaws, meaning_by}
use Rattle.um_description.specs.Resolve.{image_of}
use Rattle.um_canonical.proofs.PrintedDescription.{image_described}
use Rattle.um_canonical.proofs.ReadBack.{read_back}
use Rattle.um_canonical.specs.Text.{described, printed_text}
use Rattle.um_image.specs.Meaning.{Describes}
use Rattle.um_image.proofs.TextLemmas.{one_image}

flawless : (d : Description) (image : Image) (fs : List Flaw) → flaws d ≡ fs → meaning_by d fs ≡ Ok image → (flaws d ≡ []) × (image_of d ≡ image)
flawless d image [] none means = (none, cc means)
flawless d image (flaw ∷ fs) some means = absurd (cc means)

pub printed_describes : (source : List ℕ) (image : Image) → Describes source image → Describes (printed_text image) image
printed_describes source image h =
    let d = h.description in
    let is = flawless d image (flaws d) refl h.means in
    let again : Describes (printed_text (image_of d)) (image_of d) =
    record { description = described (image_of d); read = read_back source d h.read is.0; means = image_described d is.0 } in
    subst (λ (i : Image). Describes (printed_text i) i) is.1 again

pub printed_twice : (source : List ℕ) (image again : Image) → Describes source image → Describes (printed_text image) again → printed_text again ≡ printed_text image
printed_twice source image again h k = ap printed_text (one_image (printed_text image) again image k (printed_describes source image h))
