-- What a command reads.
use Rattle.std.specs.Prelude.{◌≡◌, ℕ, ◌+◌, ◌<◌, ◌≤◌, ◌⊎◌, Bool, true, false, List, [], length, nat_le, Option, Some}
use Rattle.std.specs.Io.KnownBytes.{Consumes, IsAtEnd}
use Rattle.um_audit.specs.Parts.{description_part, trace_part}
use Rattle.um_base.specs.declared.image.Image.{Image}
use Rattle.um_command.specs.declared.command.Command.{Command}
use Rattle.um_image.specs.Meaning.{Describes}

-- how many bytes a description has at most
abbrev pub most_described : ℕ
most_described = 0x100000

-- how many bytes a command reads at most: a description, and for `audit` a trace after it
abbrev pub most_read : Command → ℕ
most_read Command.Audit = 0x4000000
most_read command = most_described

-- whether a command reads its input
abbrev pub is_reading : Command → Bool
is_reading (Command.Gen number) = false
is_reading _ = true

-- whether a command runs on one thread
abbrev pub is_serial : Command → Bool
is_serial (Command.Run cpus) = false
is_serial _ = true

-- whether a command has just one answer to an input
abbrev pub has_one_answer : Command → Bool
has_one_answer (Command.Run cpus) = nat_le cpus 1
has_one_answer _ = true

-- the description in an input: all of it, and for `audit` what stands before the first line `=====`
abbrev pub description_in : Command → List ℕ → List ℕ
description_in Command.Audit input = description_part input
description_in command input = input

-- the trace in an input: nothing, and for `audit` what stands after that line, where there is one
abbrev pub trace_in : Command → List ℕ → Option (List ℕ)
trace_in Command.Audit input = trace_part input
trace_in command input = Some []

-- The input has each part that the command reads, and its description, which isn't too long, is that of an image.
pub record IsOf (command : Command) (input : List ℕ) (image : Image) (trace : List ℕ) : Type 0 where
  pub short : length (description_in command input) ≤ most_described
  pub described : Describes (description_in command input) image
  pub traced : trace_in command input ≡ Some trace

-- The source was read to its end, and gave these bytes.
pub record ReadsAll (command : Command) (before now : Option (List ℕ)) (input : List ℕ) : Type 0 where
  pub taken : Consumes before now input
  pub at_end : IsAtEnd now
  pub short : length input ≤ most_read command

-- at most as many bytes were read as a command reads, or one more
abbrev pub ReadsWithin : Command → Option (List ℕ) → Option (List ℕ) → Type 0
ReadsWithin command before now = (taken : List ℕ) × (length taken ≤ most_read command) × Consumes before now taken

abbrev pub ReadsPast : Command → Option (List ℕ) → Option (List ℕ) → Type 0
ReadsPast command before now = (taken : List ℕ) × (length taken ≡ most_read command + 1) × Consumes before now taken

-- an input is too long, or its description
abbrev pub IsTooLong : Command → List ℕ → Type 0
IsTooLong command input = (most_read command < length input) ⊎ (most_described < length (description_in command input))

-- an input that is too long was read, up to one byte too many
abbrev pub ReadsTooLong : Command → Option (List ℕ) → Option (List ℕ) → Type 0
ReadsTooLong command before now =
    ReadsPast command before now ⊎ ((input : List ℕ) × ReadsAll command before now input × (most_described < length (description_in command input)))
