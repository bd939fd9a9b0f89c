-- An input that is of an image in which what is asked is known isn't refused.
use Rattle.std.proofs.Common.{◌≡◌, ◌∙◌, inl, inr, ℕ, List, sym, subst, Option, Some, None}
use Rattle.um_base.specs.declared.image.Image.{Image}
use Rattle.um_image.proofs.TextLemmas.{never_both, one_image}
use Rattle.um_question.specs.Forms.{words}
use Rattle.um_question.specs.declared.asking.Asking.{Asking}
use Rattle.um_question.specs.declared.question.Question.{Question}
use Rattle.um_question.specs.Text.{AsksForm, AsksWords, form_fault, in_words}
use Rattle.um_answers.specs.Answered.{IsFaulty, IsRefusal, IsUnasked, IsUnknown}
use Rattle.um_answers.specs.Inputs.{IsOf, description_in}
use Rattle.um_answers.specs.Top.{IsAskable, IsOutput, Writes}
use Rattle.um_answers.specs.declared.command.Command.{Command}
use Rattle.um_answers.specs.declared.status.Status.{Status}

form : (text : List ℕ) (fault : Option ℕ) (question : Question) (word : ℕ) → AsksForm text fault (Asking.Is question) → AsksForm text fault (Asking.Unknown word) → ⊥
form text (Some n) question word is unknown = cc
form text None question word is unknown = unknown

-- a text that is a question of an image has no word that names nothing
in_both : (image : Image) (text : List ℕ) (asked : Option Asking) (question : Question) (word : ℕ) → AsksWords image text asked (Asking.Is question) → AsksWords image text asked (Asking.Unknown word) → ⊥
in_both image text (Some asked) question word is unknown = cc
in_both image text None question word is unknown = form text (form_fault image (words text)) question word is unknown

never_unasked : (command : Command) (event line : List ℕ) (image : Image) → IsAskable command event image → IsUnasked command event image line → ⊥
never_unasked (Command.Find states) event line image asked unasked =
    in_both image event (in_words image (words event)) asked.0 unasked.0 asked.1 unasked.1
never_unasked (Command.Ends states) event line image asked unasked = unasked
never_unasked Command.Next event line image asked unasked = unasked

unknown : (command : Command) (event input trace line : List ℕ) (image : Image) → IsOf command input image trace → IsAskable command event image → IsUnknown command event input line → ⊥
unknown command event input trace line image is asked cause =
    let same = one_image (description_in command input) image cause.image is.described cause.is_of.described in
    never_unasked command event line cause.image (subst (λ (i : Image). IsAskable command event i) same asked) cause.unasked

-- such an input isn't refused
pub of-refusal : (command : Command) (event input trace line : List ℕ) (image : Image) → IsOf command input image trace → IsAskable command event image → IsRefusal command event input line → ⊥
of-refusal command event input trace line image is asked refusal =
    elim refusal.cause as (λ _. ⊥) [
      | inl none ↦ (let some = is.traced in let nothing = none.0 in let bad : Some trace ≡ None = sym some ∙ nothing in cc)
      | inr cause ↦ (elim cause as (λ _. ⊥) [
        | inl faulty ↦ never_both (description_in command input) image faulty.fault is.described faulty.refused
        | inr cause ↦ unknown command event input trace line image is asked cause
      ])
    ]

writes-askable : (command : Command) (event : List ℕ) (image : Image) (trace : List ℕ) (status : Status) (written : List ℕ) → Writes command event image trace status written → IsAskable command event image
writes-askable (Command.Find states) event image trace status written writes = (writes.0, writes.1)
writes-askable (Command.Ends states) event image trace status written writes = tt
writes-askable Command.Next event image trace status written writes = tt

-- nor is one for which the command writes something
pub output-refusal : (command : Command) (event input line : List ℕ) (status : Status) (written : List ℕ) → IsOutput command event input status written → IsRefusal command event input line → ⊥
output-refusal command event input line status written out refusal =
    of-refusal command event input out.trace line out.image out.is_of (writes-askable command event out.image out.trace status written out.writes) refusal
