-- What is answered to an input.
use Rattle.std.specs.Prelude.{◌≡◌, ℕ, ◌<◌, ◌≤◌, ◌⊎◌, List, length, string_bytes, Some, None}
use Rattle.um_base.specs.declared.image.Image.{Image}
use Rattle.um_document.specs.declared.fault.ImageFault.{ImageFault}
use Rattle.um_image.specs.Meaning.{Refuses}
use Rattle.um_question.specs.Text.{IsAsked}
use Rattle.um_question.specs.declared.asking.Asking.{Asking}
use Rattle.um_answers.specs.Inputs.{IsOf, description_in, most_described, trace_in}
use Rattle.um_answers.specs.Messages.{no_trace_line, refused_line, unknown_word_line}
use Rattle.um_answers.specs.Top.{IsOutput}
use Rattle.um_answers.specs.declared.answer.Answer.{Answer}
use Rattle.um_answers.specs.declared.command.Command.{Command}

-- The input has each part that the command reads. Its description is refused, and the line tells its fault.
pub record IsFaulty (command : Command) (input line : List ℕ) : Type 0 where
  pub trace : List ℕ
  pub traced : trace_in command input ≡ Some trace
  pub fault : ImageFault
  pub refused : Refuses (description_in command input) fault
  pub told : line ≡ refused_line fault

-- a word of what is asked names nothing in the image, and the line tells which
abbrev pub IsUnasked : Command → List ℕ → Image → List ℕ → Type 0
IsUnasked (Command.Find states) event image line = (word : ℕ) × IsAsked image event (Asking.Unknown word) × (line ≡ unknown_word_line word)
IsUnasked _ event image line = ⊥

-- The input is that of an image in which a word of what is asked names nothing.
pub record IsUnknown (command : Command) (event input line : List ℕ) : Type 0 where
  pub image : Image
  pub trace : List ℕ
  pub is_of : IsOf command input image trace
  pub unasked : IsUnasked command event image line

-- An input is refused, and the line tells why: it has no trace although the command reads one, its description is refused, or what is asked
-- names nothing.
pub record IsRefusal (command : Command) (event input line : List ℕ) : Type 0 where
  pub short : length (description_in command input) ≤ most_described
  pub cause : ((trace_in command input ≡ None) × (line ≡ no_trace_line)) ⊎ (IsFaulty command input line ⊎ IsUnknown command event input line)

-- the answer is what the command writes, or why the input is refused, or that the description is too long; or memory ran out
abbrev pub Answered : Command → List ℕ → Answer → List ℕ → Type 0
Answered command event (Answer.Text told) input = IsOutput command event input told.status told.text.items
Answered command event (Answer.Refused line) input = IsRefusal command event input (string_bytes line)
Answered command event Answer.TooLong input = most_described < length (description_in command input)
Answered command event Answer.NoMemory input = Unit {0}
