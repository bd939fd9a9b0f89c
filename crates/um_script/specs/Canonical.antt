-- The canonical line of an instruction: one space before each operand, numbers in decimal, a place of offset 0 without it, options in one order.
use Rattle.std.specs.Prelude.{ℕ, List, [], ◌∷◌, ◌++◌, codes, decimal, Bool, true, false, ◌==◌, if◌then◌else◌}
use Rattle.std.specs.Fmt.{signed_decimal}
use Rattle.um_base.specs.declared.instr.Instr.{Instr}
use Rattle.um_base.specs.declared.instr.Options.{Options}
use Rattle.um_base.specs.declared.names.PartRef.{PartRef}
use Rattle.um_base.specs.declared.names.Ref.{Ref}
use Rattle.um_base.specs.declared.names.Term.{Term}
use Rattle.um_base.specs.declared.names.Timeout.{Timeout}
use Rattle.um_script.specs.declared.mnemonic.Mnemonic.{Mnemonic}
use Rattle.um_script.specs.Instructions.{spelling}
use Rattle.um_script.specs.Operands.{Form, Times, Register, Size, AnyTerm, Named, Part, Parts, ObjectKind, Wait, HowMany, Priority, OptionSet, Value, how_many_word}
use Rattle.um_vocabulary.specs.Words.{kind_word, attr_word}

abbrev pub offset_text : ℕ → List ℕ
offset_text offset = if offset == 0 then [] else 43 ∷ decimal offset

abbrev pub term_text : Term → List ℕ
term_text (Term.Num n) = decimal n
term_text (Term.Reg r) = 114 ∷ decimal r
term_text (Term.Place name offset) = (64 ∷ name) ++ offset_text offset

-- lines name domains, scripts and partitions; a number in the image is shown as one
abbrev pub named_text : Ref → List ℕ
named_text (Ref.Named name) = name
named_text (Ref.At index) = decimal index

abbrev pub part_text : PartRef → List ℕ
part_text (PartRef.Named name) = name
part_text (PartRef.At index) = decimal index
part_text (PartRef.Given range attr) = decimal range.start.0 ++ (47 ∷ decimal range.size) ++ (47 ∷ attr_word attr)

abbrev pub timeout_text : Timeout → List ℕ
timeout_text Timeout.NoWait = codes "K_NO_WAIT"
timeout_text Timeout.Forever = codes "K_FOREVER"
timeout_text (Timeout.Ticks n) = codes "K_TICKS(" ++ (decimal n ++ codes ")")

-- each partition behind a space
abbrev pub with_parts : List ℕ → List PartRef → List ℕ
with_parts text [] = text
with_parts text (part ∷ parts) = with_parts (text ++ (32 ∷ part_text part)) parts

-- user, inherit, essential
abbrev pub options_by : Bool → Bool → Bool → List ℕ
options_by false false false = codes "0"
options_by true false false = codes "K_USER"
options_by false true false = codes "K_INHERIT_PERMS"
options_by false false true = codes "K_ESSENTIAL"
options_by true true false = codes "K_USER+K_INHERIT_PERMS"
options_by true false true = codes "K_USER+K_ESSENTIAL"
options_by false true true = codes "K_INHERIT_PERMS+K_ESSENTIAL"
options_by true true true = codes "K_USER+K_INHERIT_PERMS+K_ESSENTIAL"

abbrev pub options_word : Options → List ℕ
options_word set = options_by set.user set.inherit set.essential

-- the text behind an operand's value
abbrev pub with_operand : List ℕ → (form : Form) → Value form → List ℕ
with_operand text Times times = text ++ (32 ∷ decimal times)
with_operand text Register register = text ++ (32 ∷ 114 ∷ decimal register)
with_operand text Size size = text ++ (32 ∷ decimal size)
with_operand text AnyTerm term = text ++ (32 ∷ term_text term)
with_operand text Named named = text ++ (32 ∷ named_text named)
with_operand text Part part = text ++ (32 ∷ part_text part)
with_operand text Parts parts = with_parts text parts
with_operand text ObjectKind kind = text ++ (32 ∷ kind_word kind)
with_operand text Wait timeout = text ++ (32 ∷ timeout_text timeout)
with_operand text HowMany all = text ++ (32 ∷ how_many_word all)
with_operand text Priority priority = text ++ (32 ∷ signed_decimal priority)
with_operand text OptionSet set = text ++ (32 ∷ options_word set)

-- an operand: its form, and a value of the form
abbrev pub Operand : Type 0
Operand = (form : Form) × Value form

abbrev pub with_operands : List ℕ → List Operand → List ℕ
with_operands text [] = text
with_operands text (operand ∷ operands) = with_operands (with_operand text operand.0 operand.1) operands

-- what a line of the instruction begins with
abbrev pub mnemonic : Instr → Mnemonic
mnemonic Instr.End = Mnemonic.End
mnemonic Instr.Oops = Mnemonic.Oops
mnemonic Instr.Panic = Mnemonic.Panic
mnemonic (Instr.Repeat times) = Mnemonic.Repeat
mnemonic (Instr.Set to value) = Mnemonic.Set
mnemonic (Instr.Add to value) = Mnemonic.Add
mnemonic (Instr.Load to addr size) = Mnemonic.Load
mnemonic (Instr.Store addr size value) = Mnemonic.Store
mnemonic (Instr.Exec addr) = Mnemonic.Exec
mnemonic (Instr.DomainInit domain parts) = Mnemonic.DomainInit
mnemonic (Instr.DomainAdd domain part) = Mnemonic.DomainAdd
mnemonic (Instr.DomainRemove domain part) = Mnemonic.DomainRemove
mnemonic (Instr.DomainMove domain thread) = Mnemonic.DomainMove
mnemonic (Instr.ObjectAlloc kind to) = Mnemonic.ObjectAlloc
mnemonic (Instr.Grant object thread) = Mnemonic.Grant
mnemonic (Instr.Revoke object thread) = Mnemonic.Revoke
mnemonic (Instr.Release object) = Mnemonic.Release
mnemonic (Instr.AllGrant object) = Mnemonic.AllGrant
mnemonic (Instr.Create thread stack size script priority options) = Mnemonic.Create
mnemonic (Instr.UserMode script) = Mnemonic.UserMode
mnemonic (Instr.NameSet thread addr) = Mnemonic.NameSet
mnemonic (Instr.SemInit object count limit) = Mnemonic.SemInit
mnemonic (Instr.SemTake object timeout) = Mnemonic.SemTake
mnemonic (Instr.SemGive object) = Mnemonic.SemGive
mnemonic (Instr.SemReset object) = Mnemonic.SemReset
mnemonic (Instr.SemCount object to) = Mnemonic.SemCount
mnemonic (Instr.MutexInit object) = Mnemonic.MutexInit
mnemonic (Instr.MutexLock object timeout) = Mnemonic.MutexLock
mnemonic (Instr.MutexUnlock object) = Mnemonic.MutexUnlock
mnemonic (Instr.MsgqInit object msg_size max_msgs) = Mnemonic.MsgqInit
mnemonic (Instr.MsgqPut object addr timeout) = Mnemonic.MsgqPut
mnemonic (Instr.MsgqGet object addr timeout) = Mnemonic.MsgqGet
mnemonic (Instr.MsgqPeek object addr) = Mnemonic.MsgqPeek
mnemonic (Instr.MsgqPurge object) = Mnemonic.MsgqPurge
mnemonic (Instr.MsgqUsed object to) = Mnemonic.MsgqUsed
mnemonic (Instr.StackInit object entries) = Mnemonic.StackInit
mnemonic (Instr.StackPush object value) = Mnemonic.StackPush
mnemonic (Instr.StackPop object addr timeout) = Mnemonic.StackPop
mnemonic (Instr.PipeInit object size) = Mnemonic.PipeInit
mnemonic (Instr.PipeWrite object addr length timeout) = Mnemonic.PipeWrite
mnemonic (Instr.PipeRead object addr length timeout) = Mnemonic.PipeRead
mnemonic (Instr.PipeReset object) = Mnemonic.PipeReset
mnemonic (Instr.PipeClose object) = Mnemonic.PipeClose
mnemonic (Instr.TimerStart object ticks) = Mnemonic.TimerStart
mnemonic (Instr.TimerStop object) = Mnemonic.TimerStop
mnemonic (Instr.TimerStatus object to) = Mnemonic.TimerStatus
mnemonic (Instr.TimerSync object to) = Mnemonic.TimerSync
mnemonic (Instr.Abort thread) = Mnemonic.Abort
mnemonic (Instr.Join thread timeout) = Mnemonic.Join
mnemonic (Instr.Suspend thread) = Mnemonic.Suspend
mnemonic (Instr.Continue thread) = Mnemonic.Continue
mnemonic (Instr.FutexWait addr value timeout) = Mnemonic.FutexWait
mnemonic (Instr.FutexWake addr all) = Mnemonic.FutexWake

-- its operands, from left to right
abbrev pub operands_of : Instr → List Operand
operands_of Instr.End = []
operands_of Instr.Oops = []
operands_of Instr.Panic = []
operands_of (Instr.Repeat times) = (Times, times) ∷ []
operands_of (Instr.Set to value) = (Register, to) ∷ (AnyTerm, value) ∷ []
operands_of (Instr.Add to value) = (Register, to) ∷ (AnyTerm, value) ∷ []
operands_of (Instr.Load to addr size) = (Register, to) ∷ (AnyTerm, addr) ∷ (Size, size) ∷ []
operands_of (Instr.Store addr size value) = (AnyTerm, addr) ∷ (Size, size) ∷ (AnyTerm, value) ∷ []
operands_of (Instr.Exec addr) = (AnyTerm, addr) ∷ []
operands_of (Instr.DomainInit domain parts) = (Named, domain) ∷ (Parts, parts) ∷ []
operands_of (Instr.DomainAdd domain part) = (Named, domain) ∷ (Part, part) ∷ []
operands_of (Instr.DomainRemove domain part) = (Named, domain) ∷ (Part, part) ∷ []
operands_of (Instr.DomainMove domain thread) = (Named, domain) ∷ (AnyTerm, thread) ∷ []
operands_of (Instr.ObjectAlloc kind to) = (ObjectKind, kind) ∷ (Register, to) ∷ []
operands_of (Instr.Grant object thread) = (AnyTerm, object) ∷ (AnyTerm, thread) ∷ []
operands_of (Instr.Revoke object thread) = (AnyTerm, object) ∷ (AnyTerm, thread) ∷ []
operands_of (Instr.Release object) = (AnyTerm, object) ∷ []
operands_of (Instr.AllGrant object) = (AnyTerm, object) ∷ []
operands_of (Instr.Create thread stack size script priority options) = (AnyTerm, thread) ∷ (AnyTerm, stack) ∷ (AnyTerm, size) ∷ (Named, script) ∷ (Priority, priority) ∷ (OptionSet, options) ∷ []
operands_of (Instr.UserMode script) = (Named, script) ∷ []
operands_of (Instr.NameSet thread addr) = (AnyTerm, thread) ∷ (AnyTerm, addr) ∷ []
operands_of (Instr.SemInit object count limit) = (AnyTerm, object) ∷ (AnyTerm, count) ∷ (AnyTerm, limit) ∷ []
operands_of (Instr.SemTake object timeout) = (AnyTerm, object) ∷ (Wait, timeout) ∷ []
operands_of (Instr.SemGive object) = (AnyTerm, object) ∷ []
operands_of (Instr.SemReset object) = (AnyTerm, object) ∷ []
operands_of (Instr.SemCount object to) = (AnyTerm, object) ∷ (Register, to) ∷ []
operands_of (Instr.MutexInit object) = (AnyTerm, object) ∷ []
operands_of (Instr.MutexLock object timeout) = (AnyTerm, object) ∷ (Wait, timeout) ∷ []
operands_of (Instr.MutexUnlock object) = (AnyTerm, object) ∷ []
operands_of (Instr.MsgqInit object msg_size max_msgs) = (AnyTerm, object) ∷ (AnyTerm, msg_size) ∷ (AnyTerm, max_msgs) ∷ []
operands_of (Instr.MsgqPut object addr timeout) = (AnyTerm, object) ∷ (AnyTerm, addr) ∷ (Wait, timeout) ∷ []
operands_of (Instr.MsgqGet object addr timeout) = (AnyTerm, object) ∷ (AnyTerm, addr) ∷ (Wait, timeout) ∷ []
operands_of (Instr.MsgqPeek object addr) = (AnyTerm, object) ∷ (AnyTerm, addr) ∷ []
operands_of (Instr.MsgqPurge object) = (AnyTerm, object) ∷ []
operands_of (Instr.MsgqUsed object to) = (AnyTerm, object) ∷ (Register, to) ∷ []
operands_of (Instr.StackInit object entries) = (AnyTerm, object) ∷ (AnyTerm, entries) ∷ []
operands_of (Instr.StackPush object value) = (AnyTerm, object) ∷ (AnyTerm, value) ∷ []
operands_of (Instr.StackPop object addr timeout) = (AnyTerm, object) ∷ (AnyTerm, addr) ∷ (Wait, timeout) ∷ []
operands_of (Instr.PipeInit object size) = (AnyTerm, object) ∷ (AnyTerm, size) ∷ []
operands_of (Instr.PipeWrite object addr length timeout) = (AnyTerm, object) ∷ (AnyTerm, addr) ∷ (AnyTerm, length) ∷ (Wait, timeout) ∷ []
operands_of (Instr.PipeRead object addr length timeout) = (AnyTerm, object) ∷ (AnyTerm, addr) ∷ (AnyTerm, length) ∷ (Wait, timeout) ∷ []
operands_of (Instr.PipeReset object) = (AnyTerm, object) ∷ []
operands_of (Instr.PipeClose object) = (AnyTerm, object) ∷ []
operands_of (Instr.TimerStart object ticks) = (AnyTerm, object) ∷ (AnyTerm, ticks) ∷ []
operands_of (Instr.TimerStop object) = (AnyTerm, object) ∷ []
operands_of (Instr.TimerStatus object to) = (AnyTerm, object) ∷ (Register, to) ∷ []
operands_of (Instr.TimerSync object to) = (AnyTerm, object) ∷ (Register, to) ∷ []
operands_of (Instr.Abort thread) = (AnyTerm, thread) ∷ []
operands_of (Instr.Join thread timeout) = (AnyTerm, thread) ∷ (Wait, timeout) ∷ []
operands_of (Instr.Suspend thread) = (AnyTerm, thread) ∷ []
operands_of (Instr.Continue thread) = (AnyTerm, thread) ∷ []
operands_of (Instr.FutexWait addr value timeout) = (AnyTerm, addr) ∷ (AnyTerm, value) ∷ (Wait, timeout) ∷ []
operands_of (Instr.FutexWake addr all) = (AnyTerm, addr) ∷ (HowMany, all) ∷ []

abbrev pub canonical : Instr → List ℕ
canonical line = with_operands (spelling (mnemonic line)) (operands_of line)
