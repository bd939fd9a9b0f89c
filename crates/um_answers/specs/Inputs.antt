-- What a command reads.
use Rattle.std.specs.Prelude.{◌≡◌, ℕ, ◌+◌, ◌<◌, ◌≤◌, ◌⊎◌, List, [], length, Option, Some}
use Rattle.std.specs.Io.KnownBytes.{Consumes, IsAtEnd}
use Rattle.um_audit.specs.Parts.{description_part, trace_part}
use Rattle.um_base.specs.declared.image.Image.{Image}
use Rattle.um_image.specs.Meaning.{Describes}
use Rattle.um_answers.specs.declared.command.Command.{Command}

-- how many bytes a description has at most
abbrev pub most_described : ℕ
most_described = 0x100000

-- how many bytes a command reads at most: a description, and for `next` a trace after it
abbrev pub most_read : Command → ℕ
most_read Command.Next = 0x4000000
most_read _ = most_described

-- the description in an input: all of it, and for `next` what stands before the first line `=====`
abbrev pub description_in : Command → List ℕ → List ℕ
description_in Command.Next input = description_part input
description_in _ input = input

-- the trace in an input: nothing, and for `next` what stands after that line, where there is one
abbrev pub trace_in : Command → List ℕ → Option (List ℕ)
trace_in Command.Next input = trace_part input
trace_in _ input = Some []

-- The input has each part that the command reads, and its description, which isn't too long, is that of an image.
pub record IsOf (command : Command) (input : List ℕ) (image : Image) (trace : List ℕ) : Type 0 where
  pub short : length (description_in command input) ≤ most_described
  pub described : Describes (description_in command input) image
  pub traced : trace_in command input ≡ Some trace

-- The source was read to its end, and gave these bytes.
pub record ReadsAll (command : Command) (before now : Option (List ℕ)) (input : List ℕ) : Type 0 where
  pub taken : Consumes before now input
  pub at_end : IsAtEnd now
  pub short : length input ≤ most_read command

-- at most as many bytes were read as a command reads, or one more
abbrev pub ReadsWithin : Command → Option (List ℕ) → Option (List ℕ) → Type 0
ReadsWithin command before now = (taken : List ℕ) × (length taken ≤ most_read command) × Consumes before now taken

abbrev pub ReadsPast : Command → Option (List ℕ) → Option (List ℕ) → Type 0
ReadsPast command before now = (taken : List ℕ) × (length taken ≡ most_read command + 1) × Consumes before now taken

-- an input is too long, or its description
abbrev pub IsTooLong : Command → List ℕ → Type 0
IsTooLong command input = (most_read command < length input) ⊎ (most_described < length (description_in command input))

-- an input that is too long was read, up to one byte too many
abbrev pub ReadsTooLong : Command → Option (List ℕ) → Option (List ℕ) → Type 0
ReadsTooLong command before now =
    ReadsPast command before now ⊎ ((input : List ℕ) × ReadsAll command before now input × (most_described < length (description_in command input)))
