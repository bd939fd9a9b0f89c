-- The operands of instructions: each form, from a word to its value.
use Rattle.std.specs.Prelude.{ℕ, zero, suc, ◌+◌, List, [], ◌∷◌, take, drop, codes, bytes_eq, ok_or, Bool, true, false, not, ◌==◌, ◌&&◌, if◌then◌else◌, Option, Some, None, option_map, position, Result, Ok, Err, ℤ}
use Rattle.um_base.specs.Lawful.{is_name}
use Rattle.um_base.specs.declared.attr.Attr.{Attr}
use Rattle.um_base.specs.declared.instr.Instr.{Instr}
use Rattle.um_base.specs.declared.instr.Options.{Options}
use Rattle.um_base.specs.declared.names.Kind.{Kind}
use Rattle.um_base.specs.declared.names.PartRef.{PartRef}
use Rattle.um_base.specs.declared.names.Ref.{Ref}
use Rattle.um_base.specs.declared.names.Term.{Term}
use Rattle.um_base.specs.declared.names.Timeout.{Timeout}
use Rattle.um_script.specs.declared.fault.LineFault.{LineFault}
use Rattle.um_script.specs.declared.fault.LineKind.{LineKind}
use Rattle.um_script.specs.Faults.{◌>>=◌}
use Rattle.um_script.specs.Numbers.{digits, number, is_number, times, ticks, priority}
use Rattle.um_script.specs.Words.{Words, ends, word}
use Rattle.um_vocabulary.specs.Words.{is_place_name, spelled, attr_named, dynamic_kind_named}

-- the bytes before the first `mark` of a word, and those behind it
abbrev pub cut : ℕ → List ℕ → Option (List ℕ × List ℕ)
cut mark bytes = option_map (λ k. (take k bytes, drop (k + 1) bytes)) (position (λ b. b == mark) bytes)

abbrev pub begins_with : ℕ → List ℕ → Bool
begins_with mark [] = false
begins_with mark (b ∷ bs) = b == mark

-- `r0` to `r7`
abbrev pub register_word : ℕ → List ℕ
register_word r = 114 ∷ (48 + r) ∷ []

abbrev pub registers : List ℕ
registers = 0 ∷ 1 ∷ 2 ∷ 3 ∷ 4 ∷ 5 ∷ 6 ∷ 7 ∷ []

abbrev pub register : List ℕ → Result ℕ LineKind
register bytes = ok_or (spelled register_word registers bytes) LineKind.Operand

-- how many bytes are loaded or stored: 1, 2 or 4
abbrev pub size_word : ℕ → List ℕ
size_word n = (48 + n) ∷ []

abbrev pub sizes : List ℕ
sizes = 1 ∷ 2 ∷ 4 ∷ []

abbrev pub size : List ℕ → Result ℕ LineKind
size bytes = ok_or (spelled size_word sizes bytes) LineKind.Operand

abbrev pub at_offset : List ℕ → Result ℕ LineKind → Result Term LineKind
at_offset bytes offset = if is_place_name bytes then (offset >>= λ n. Ok (Term.Place bytes n)) else Err LineKind.Operand

abbrev pub place_cut : List ℕ → Option (List ℕ × List ℕ) → Result Term LineKind
place_cut bytes None = at_offset bytes (Ok 0)
place_cut bytes (Some x) = at_offset x.0 (digits false 10 65536 x.1)

-- a name, or a name, `+` and 1 to 10 digits
abbrev pub place : List ℕ → Result Term LineKind
place bytes = place_cut bytes (cut 43 bytes)

-- a place behind `@`, a register, or a number
abbrev pub term : List ℕ → Result Term LineKind
term bytes =
    if begins_with 64 bytes then place (drop 1 bytes)
    else (if begins_with 114 bytes then (register bytes >>= λ r. Ok (Term.Reg r)) else (number bytes >>= λ n. Ok (Term.Num n)))

-- a lawful name
abbrev pub name : List ℕ → Result (List ℕ) LineKind
name bytes = if is_name bytes then Ok bytes else Err LineKind.Operand

-- the name of a domain or of a script
abbrev pub named : List ℕ → Result Ref LineKind
named bytes = if is_name bytes then Ok (Ref.Named bytes) else Err LineKind.Operand

-- the rights that a partition in a line has
abbrev pub rights : List ℕ → Result Attr LineKind
rights bytes = ok_or (attr_named bytes) LineKind.Operand

-- where a partition begins, its size and its rights
abbrev pub given_part : List ℕ → List ℕ → List ℕ → Result PartRef LineKind
given_part start bytes attr =
    if is_number start && is_number bytes then (do
      a ← rights attr
      s ← number start
      n ← number bytes
      Ok (PartRef.Given (record { start = record { 0 = s }; size = n }) a))
    else Err LineKind.Operand

abbrev pub part_from_cut : List ℕ → Option (List ℕ × List ℕ) → Result PartRef LineKind
part_from_cut start None = Err LineKind.Operand
part_from_cut start (Some x) = given_part start x.0 x.1

-- `ADDR/SIZE/ATTR` behind its first `/`
abbrev pub part_from : List ℕ → List ℕ → Result PartRef LineKind
part_from start rest = part_from_cut start (cut 47 rest)

abbrev pub named_part : List ℕ → Result PartRef LineKind
named_part bytes = if is_name bytes then Ok (PartRef.Named bytes) else Err LineKind.Operand

abbrev pub part_cut : List ℕ → Option (List ℕ × List ℕ) → Result PartRef LineKind
part_cut bytes None = named_part bytes
part_cut bytes (Some x) = part_from x.0 x.1

-- a partition's name, or its address, size and rights with `/` between them
abbrev pub part : List ℕ → Result PartRef LineKind
part bytes = part_cut bytes (cut 47 bytes)

-- a kind that can be allocated
abbrev pub kind : List ℕ → Result Kind LineKind
kind bytes = ok_or (dynamic_kind_named bytes) LineKind.Operand

-- not at all, or for good
abbrev pub plain_timeout : List ℕ → Result Timeout LineKind
plain_timeout bytes =
    if bytes_eq bytes (codes "K_NO_WAIT") then Ok Timeout.NoWait else (if bytes_eq bytes (codes "K_FOREVER") then Ok Timeout.Forever else Err LineKind.Operand)

-- so many ticks: the digits before the `)` that ends the word
abbrev pub ticks_cut : Option (List ℕ × List ℕ) → Result Timeout LineKind
ticks_cut None = Err LineKind.Operand
ticks_cut (Some x) = if bytes_eq x.1 [] then (ticks x.0 >>= λ n. Ok (Timeout.Ticks n)) else Err LineKind.Operand

abbrev pub ticks_behind : List ℕ → List ℕ → Result Timeout LineKind
ticks_behind first rest = if bytes_eq first (codes "K_TICKS") then ticks_cut (cut 41 rest) else Err LineKind.Operand

abbrev pub timeout_cut : List ℕ → Option (List ℕ × List ℕ) → Result Timeout LineKind
timeout_cut bytes None = plain_timeout bytes
timeout_cut bytes (Some x) = ticks_behind x.0 x.1

-- how long a call waits: `K_NO_WAIT`, `K_FOREVER` or `K_TICKS(N)`
abbrev pub timeout : List ℕ → Result Timeout LineKind
timeout bytes = timeout_cut bytes (cut 40 bytes)

-- whether all are woken, or one
abbrev pub how_many_word : Bool → List ℕ
how_many_word true = codes "all"
how_many_word false = codes "one"

abbrev pub how_many : List ℕ → Result Bool LineKind
how_many bytes = ok_or (spelled how_many_word (false ∷ true ∷ []) bytes) LineKind.Operand

abbrev pub no_options : Options
no_options = record { user = false; inherit = false; essential = false }

-- one more option, which doesn't stand yet
abbrev pub option : Options → List ℕ → Result Options LineKind
option set bytes =
    if bytes_eq bytes (codes "K_USER") && not set.user then Ok (record { user = true; inherit = set.inherit; essential = set.essential })
    else (if bytes_eq bytes (codes "K_INHERIT_PERMS") && not set.inherit then Ok (record { user = set.user; inherit = true; essential = set.essential })
    else (if bytes_eq bytes (codes "K_ESSENTIAL") && not set.essential then Ok (record { user = set.user; inherit = set.inherit; essential = true })
    else Err LineKind.Operand))

-- at most so many more options, joined by `+`
unfoldable pub more_options : ℕ → Options → List ℕ → Result Options LineKind
more_options zero set bytes = Err LineKind.Operand
more_options (suc n) set bytes = elim (cut 43 bytes) [ None ↦ option set bytes | Some x ↦ option set x.0 >>= λ more. more_options n more x.1 ]

-- `0`, or one to three options
abbrev pub options : List ℕ → Result Options LineKind
options bytes = if bytes_eq bytes (codes "0") then Ok no_options else more_options 3 no_options bytes

-- The forms of operands.
pub data Form : Type 0 where
  Times : Form
  Register : Form
  Size : Form
  AnyTerm : Form
  Named : Form
  Part : Form
  Parts : Form
  ObjectKind : Form
  Wait : Form
  HowMany : Form
  Priority : Form
  OptionSet : Form

-- what an operand of a form stands for
abbrev pub Value : Form → Type 0
Value Times = ℕ
Value Register = ℕ
Value Size = ℕ
Value AnyTerm = Term
Value Named = Ref
Value Part = PartRef
Value Parts = List PartRef
Value ObjectKind = Kind
Value Wait = Timeout
Value HowMany = Bool
Value Priority = ℤ
Value OptionSet = Options

-- a word's value, or its fault at the word's column
abbrev pub placed : {A : Type 0} → ℕ → Words → Result A LineKind → Result (A × Words) LineFault
placed column rest (Ok x) = Ok (x, rest)
placed column rest (Err kind) = Err (record { kind = kind; column = column })

-- one word of a form
unfoldable pub one : {A : Type 0} → (List ℕ → Result A LineKind) → Words → Result (A × Words) LineFault
one read (ends column) = Err (record { kind = LineKind.Missing; column = column })
one read (word bytes column rest) = placed column rest (read bytes)

-- up to so many partitions, as many as there are
unfoldable pub parts : ℕ → Words → Result (List PartRef × Words) LineFault
parts zero words = Ok ([], words)
parts (suc n) (ends column) = Ok ([], ends column)
parts (suc n) (word bytes column rest) = do
  first ← placed column rest (part bytes)
  others ← parts n first.1
  Ok (first.0 ∷ others.0, others.1)

-- what an operand of a form takes from the words
abbrev pub operand : (form : Form) → Words → Result (Value form × Words) LineFault
operand Times words = one times words
operand Register words = one register words
operand Size words = one size words
operand AnyTerm words = one term words
operand Named words = one named words
operand Part words = one part words
operand Parts words = parts 4 words
operand ObjectKind words = one kind words
operand Wait words = one timeout words
operand HowMany words = one how_many words
operand Priority words = one priority words
operand OptionSet words = one options words

-- What a line is made of: operands of these forms, each of whose values the rest may depend on, and then the instruction.
pub data Syntax : Type 0 where
  takes : (form : Form) → (Value form → Syntax) → Syntax
  makes : Instr → Syntax

-- operands from left to right, and the instruction
abbrev pub reading : Syntax → Words → Result (Instr × Words) LineFault
reading (makes instr) words = Ok (instr, words)
reading (takes form rest) words = operand form words >>= λ read. reading (rest read.0) read.1
