-- An input that is of an image isn't refused.
use Rattle.std.proofs.Common.{◌≡◌, ◌∙◌, inl, inr, ℕ, List, sym, Some, None}
use Rattle.um_base.specs.declared.image.Image.{Image}
use Rattle.um_command.specs.declared.command.Command.{Command}
use Rattle.um_image.proofs.TextLemmas.{never_both}
use Rattle.um_app.specs.Answered.{IsFaulty, IsRefusal}
use Rattle.um_app.specs.Inputs.{IsOf, description_in}

faulty : (command : Command) (input trace line : List ℕ) (image : Image) → IsOf command input image trace → IsFaulty command input line → ⊥
faulty command input trace line image is cause = never_both (description_in command input) image cause.fault is.described cause.refused

pub of-refusal : (command : Command) (input trace line : List ℕ) (image : Image) → IsOf command input image trace → IsRefusal command input line → ⊥
of-refusal command input trace line image is refusal =
    elim refusal.cause as (λ _. ⊥) [
      | inl none ↦ (let some = is.traced in let nothing = none.0 in let bad : Some trace ≡ None = sym some ∙ nothing in cc)
      | inr cause ↦ faulty command input trace line image is cause
    ]
