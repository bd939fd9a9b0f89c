-- What is answered to an input.
use Rattle.std.specs.Prelude.{◌≡◌, ℕ, ◌<◌, ◌≤◌, ◌⊎◌, List, length, string_bytes, Some, None}
use Rattle.um_document.specs.declared.fault.ImageFault.{ImageFault}
use Rattle.um_app.specs.declared.answer.Answer.{Answer}
use Rattle.um_app.specs.Inputs.{description_in, most_described, trace_in}
use Rattle.um_app.specs.Messages.{no_trace_line, refused_line}
use Rattle.um_app.specs.Top.{IsOutput}
use Rattle.um_command.specs.declared.command.Command.{Command}
use Rattle.um_image.specs.Meaning.{Refuses}

-- An input's description is refused, and the line tells its fault.
pub record IsFaulty (command : Command) (input line : List ℕ) : Type 0 where
  pub trace : List ℕ
  pub traced : trace_in command input ≡ Some trace
  pub fault : ImageFault
  pub refused : Refuses (description_in command input) fault
  pub told : line ≡ refused_line fault

-- An input is refused, and the line tells why: it has no trace although the command reads one, or its description is refused.
pub record IsRefusal (command : Command) (input line : List ℕ) : Type 0 where
  pub short : length (description_in command input) ≤ most_described
  pub cause : ((trace_in command input ≡ None) × (line ≡ no_trace_line)) ⊎ IsFaulty command input line

-- the answer is what the command writes, or why the input is refused, or that the description is too long; or memory ran out
abbrev pub Answered : Command → Answer → List ℕ → Type 0
Answered command (Answer.Text bytes) input = IsOutput command input bytes.items
Answered command (Answer.Refused line) input = IsRefusal command input (string_bytes line)
Answered command Answer.TooLong input = most_described < length (description_in command input)
Answered command Answer.NoMemory input = Unit {0}

-- nothing is written
abbrev pub IsSilent : Answer → Type 0
IsSilent (Answer.Text bytes) = ⊥
IsSilent answer = Unit {0}
