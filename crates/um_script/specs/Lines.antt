-- What a line says.
use Rattle.std.specs.Prelude.{ℕ, List, Option, Some, None, Result, Ok, Err, find, bytes_eq}
use Rattle.um_base.specs.declared.instr.Instr.{Instr}
use Rattle.um_script.specs.declared.fault.LineFault.{LineFault}
use Rattle.um_script.specs.declared.fault.LineKind.{LineKind}
use Rattle.um_script.specs.declared.mnemonic.Mnemonic.{Mnemonic}
use Rattle.um_script.specs.Faults.{◌>>=◌}
use Rattle.um_script.specs.Instructions.{spelling, syntax, mnemonics}
use Rattle.um_script.specs.Operands.{reading}
use Rattle.um_script.specs.Words.{Words, ends, word, words_of_line}

-- the instruction that a word names
abbrev pub mnemonic_of : List ℕ → Option Mnemonic
mnemonic_of bytes = find (λ m. bytes_eq bytes (spelling m)) mnemonics

-- the instruction with the operands that these words begin with
abbrev pub instruction : Mnemonic → Words → Result (Instr × Words) LineFault
instruction mnemonic words = reading (syntax mnemonic) words

-- no word is left
abbrev pub alone : Instr → Words → Result Instr LineFault
alone instr (ends column) = Ok instr
alone instr (word bytes column rest) = Err (record { kind = LineKind.Extra; column = column })

-- the instruction of exactly these operands
abbrev pub whole : Mnemonic → Words → Result Instr LineFault
whole mnemonic words = instruction mnemonic words >>= λ read. alone read.0 read.1

-- what follows the first word, by what that names
abbrev pub behind_first : ℕ → Words → Option Mnemonic → Result Instr LineFault
behind_first column rest None = Err (record { kind = LineKind.UnknownWord; column = column })
behind_first column rest (Some mnemonic) = whole mnemonic rest

-- an instruction, its operands, and no more: or the first fault from the left
abbrev pub line_of_words : Words → Result Instr LineFault
line_of_words (ends column) = Err (record { kind = LineKind.Missing; column = column })
line_of_words (word bytes column rest) = behind_first column rest (mnemonic_of bytes)

abbrev pub line_of : List ℕ → Result Instr LineFault
line_of line = line_of_words (words_of_line line)
