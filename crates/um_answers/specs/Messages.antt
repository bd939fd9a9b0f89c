-- What a status says: the exit status of the program, and the line on standard error.
use Rattle.std.specs.Prelude.{ℕ, List, [], ◌++◌, codes, decimal, Bool, true, false}
use Rattle.um_answers.specs.declared.status.Status.{Status}
use Rattle.um_document.specs.declared.fault.ImageFault.{ImageFault}
use Rattle.um_document.specs.FaultTexts.{fault_text}

-- the exit status of the program
abbrev pub code_of : Status → ℕ
code_of Status.Done = 0
code_of Status.Never = 1
code_of Status.Usage = 2
code_of Status.Refused = 3
code_of Status.ReadFault = 4
code_of Status.WriteFault = 5
code_of Status.NoMemory = 6
code_of Status.TooLong = 7
code_of Status.Unknown = 8

-- whether a status stands for an answer, that was written whole
abbrev pub is_answered : Status → Bool
is_answered Status.Done = true
is_answered Status.Never = true
is_answered Status.Unknown = true
is_answered _ = false

-- the line of a status that has one line for all causes
unfoldable pub line_of : Status → List ℕ
line_of Status.Done = []
line_of Status.Never = []
line_of Status.Usage = codes "explore: usage: find EVENT [--states N] | ends [--states N] | next\n"
line_of Status.Refused = []
line_of Status.ReadFault = codes "explore: read fault\n"
line_of Status.WriteFault = codes "explore: write fault\n"
line_of Status.NoMemory = codes "explore: no memory\n"
line_of Status.TooLong = codes "explore: input too long\n"
line_of Status.Unknown = []

-- the line of an input that has no trace after its description
unfoldable pub no_trace_line : List ℕ
no_trace_line = codes "explore: refused: NoTrace\n"

-- the line of a refused description, which names its fault and the fault's place
unfoldable pub refused_line : ImageFault → List ℕ
refused_line fault = codes "explore: refused: " ++ fault_text fault ++ codes "\n"

-- the line of a word of what is asked, counted from 1, that names nothing in the image
unfoldable pub unknown_word_line : ℕ → List ℕ
unknown_word_line word = codes "explore: refused: Unknown " ++ decimal word ++ codes "\n"
