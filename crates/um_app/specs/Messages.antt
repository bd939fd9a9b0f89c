-- What a status says: the exit status of the program, and the line on standard error.
use Rattle.std.specs.Prelude.{ℕ, List, [], ◌++◌, codes}
use Rattle.um_app.specs.declared.status.Status.{Status}
use Rattle.um_document.specs.declared.fault.ImageFault.{ImageFault}
use Rattle.um_document.specs.FaultTexts.{fault_text}

abbrev pub code_of : Status → ℕ
code_of Status.Done = 0
code_of Status.Usage = 2
code_of Status.Refused = 3
code_of Status.ReadFault = 4
code_of Status.WriteFault = 5
code_of Status.NoMemory = 6
code_of Status.TooLong = 7

-- the line of a status that has one line for all causes
unfoldable pub line_of : Status → List ℕ
line_of Status.Done = []
line_of Status.Usage = codes "zumode: usage: sim [--cpus N] [--pick N] | run [--cpus N] | layout | gen N | summary [--cpus N] [--pick N] | upgrade | audit\n"
line_of Status.Refused = []
line_of Status.ReadFault = codes "zumode: read fault\n"
line_of Status.WriteFault = codes "zumode: write fault\n"
line_of Status.NoMemory = codes "zumode: no memory\n"
line_of Status.TooLong = codes "zumode: input too long\n"

-- the line of an input that has no trace after its description
unfoldable pub no_trace_line : List ℕ
no_trace_line = codes "zumode: refused: NoTrace\n"

-- the line of a refused description, which names its fault and the fault's place
unfoldable pub refused_line : ImageFault → List ℕ
refused_line fault = codes "zumode: refused: " ++ fault_text fault ++ codes "\n"
