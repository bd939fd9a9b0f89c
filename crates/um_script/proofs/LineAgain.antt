-- A canonical line is read back to its instruction.
use Rattle.std.proofs.Common.{◌≡◌, ℕ, zero, suc, ◌+◌, ◌^◌, ◌≤◌, ◌<◌, false, nat_le, List, [], ◌∷◌, ◌++◌, length, Some, Result, Ok, IsTrue, decimal, refl, sym, ap, ◌∙◌, arith, append_assoc, lit<}
use Rattle.std.specs.Fmt.{signed_decimal}
use Rattle.std.specs.List.{prefix_len, list_all}
use Rattle.std.proofs.lemmas.Bool.Decides.{nat_tests}
use Rattle.std.proofs.lemmas.List.{append-nil}
use Rattle.um_base.specs.declared.instr.Instr.{Instr}
use Rattle.um_base.specs.declared.names.PartRef.{PartRef}
use Rattle.um_script.specs.declared.fault.LineFault.{LineFault}
use Rattle.um_script.specs.declared.mnemonic.Mnemonic.{Mnemonic}
use Rattle.um_script.specs.Canonical.{Operand, part_text, with_parts, with_operand, with_operands, term_text, named_text, timeout_text, options_word, mnemonic, operands_of, canonical}
use Rattle.um_script.specs.Instructions.{spelling, syntax}
use Rattle.um_script.specs.Lines.{mnemonic_of, whole, behind_first, line_of_words, line_of}
use Rattle.um_script.specs.Numbers.{times, priority}
use Rattle.um_script.specs.Operands.{Form, Times, Register, Size, AnyTerm, Named, Part, Parts, ObjectKind, Wait, HowMany, Priority, OptionSet, Value, Syntax, takes, makes, operand, reading, part, parts, register, size, term, named, kind, timeout, how_many, how_many_word, options}
use Rattle.um_vocabulary.specs.Words.{kind_word}
use Rattle.um_script.specs.Words.{Words, word, words_from, words_of_line, is_word_byte}
use Rattle.um_script.specs.Writable.{fits, all_fit, is_line, is_part}
use Rattle.um_script.proofs.DigitsAgain.{and_true}
use Rattle.um_script.proofs.NameAgain.{IsWord-decimal, IsWord-more, IsWord-named, times_again, register_again, size_again, named_again}
use Rattle.um_script.proofs.TermAgain.{term_again, IsWord-term, part_again, IsWord-part, kind_again, timeout_again, how_many_again, priority_again, options_again}
use Rattle.um_script.proofs.WordAgain.{IsWord, IsFree, word_again, one_again}

-- ---- texts one behind the other

with_parts-front : (text : List ℕ) (ps : List PartRef) → with_parts text ps ≡ text ++ with_parts [] ps
with_parts-front text [] = sym (append-nil text)
with_parts-front text (p ∷ ps) =
    with_parts-front (text ++ (32 ∷ part_text p)) ps ∙ append_assoc text (32 ∷ part_text p) (with_parts [] ps)
    ∙ ap (λ (t : List ℕ). text ++ t) (sym (with_parts-front (32 ∷ part_text p) ps))

with_operand-front : (text : List ℕ) (form : Form) (value : Value form) → with_operand text form value ≡ text ++ with_operand [] form value
with_operand-front text Times value = refl
with_operand-front text Register value = refl
with_operand-front text Size value = refl
with_operand-front text AnyTerm value = refl
with_operand-front text Named value = refl
with_operand-front text Part value = refl
with_operand-front text Parts value = with_parts-front text value
with_operand-front text ObjectKind value = refl
with_operand-front text Wait value = refl
with_operand-front text HowMany value = refl
with_operand-front text Priority value = refl
with_operand-front text OptionSet value = refl

pub with_operands-front : (text : List ℕ) (os : List Operand) → with_operands text os ≡ text ++ with_operands [] os
with_operands-front text [] = sym (append-nil text)
with_operands-front text (o ∷ os) =
    with_operands-front (with_operand text o.0 o.1) os ∙ ap (λ (t : List ℕ). t ++ with_operands [] os) (with_operand-front text o.0 o.1)
    ∙ append_assoc text (with_operand [] o.0 o.1) (with_operands [] os) ∙ ap (λ (t : List ℕ). text ++ t) (sym (with_operands-front (with_operand [] o.0 o.1) os))

-- ---- no word goes on into an operand

free_parts : (ps : List PartRef) (rest : List ℕ) → IsFree rest → IsFree (with_parts [] ps ++ rest)
free_parts [] rest free = free
free_parts (p ∷ ps) rest free = ap (λ (t : List ℕ). prefix_len is_word_byte (t ++ rest)) (with_parts-front (32 ∷ part_text p) ps)

free_operand : (form : Form) (value : Value form) (rest : List ℕ) → IsFree rest → IsFree (with_operand [] form value ++ rest)
free_operand Parts value rest free = free_parts value rest free
free_operand _ value rest free = refl

free_operands : (os : List Operand) → IsFree (with_operands [] os)
free_operands [] = refl
free_operands (o ∷ os) = ap (prefix_len is_word_byte) (with_operands-front (with_operand [] o.0 o.1) os) ∙ free_operand o.0 o.1 (with_operands [] os) (free_operands os)

-- ---- each operand

-- what reading gives, up to the column behind it
abbrev GivesBack : {A : Type 0} → Result (A × Words) LineFault → A → List ℕ → Type 0
GivesBack read x rest = (column : ℕ) × (read ≡ Ok (x, words_from false column rest))

parts_again : (ps : List PartRef) (most column : ℕ) → length ps ≤ most → IsTrue (list_all is_part ps) → GivesBack (parts most (words_from false column (with_parts [] ps))) ps []
unfolding parts
parts_again [] zero column le h = (column, refl)
parts_again [] (suc n) column le h = (column, refl)
parts_again (p ∷ ps) zero column le h = absurd (omega arith)
parts_again (p ∷ ps) (suc n) column le h =
    let both = and_true (is_part p) (list_all is_part ps) h in
    let free : IsFree (with_parts [] ps) = ap (prefix_len is_word_byte) (sym (append-nil (with_parts [] ps))) ∙ free_parts ps [] refl in
    let next = parts_again ps n (column + 1 + length (part_text p)) (omega arith) both.1 in
    let first : words_from false column (with_parts [] (p ∷ ps)) ≡ word (part_text p) (column + 1) (words_from false (column + 1 + length (part_text p)) (with_parts [] ps))
    = ap (words_from false column) (with_parts-front (32 ∷ part_text p) ps) ∙ word_again (column + 1) (part_text p) (with_parts [] ps) (IsWord-part p both.0) free in
    (next.0, rw (first, part_again p both.0, next.1) refl)

-- what has to follow an operand: nothing behind partitions, which are as many as there are
abbrev Stands : {A : Type 0} → Form → List A → Type 0
Stands Parts rest = rest ≡ []
Stands form rest = Unit {0}

operand_again : (form : Form) (value : Value form) (rest : List ℕ) (column : ℕ) → IsTrue (fits form value) → IsFree rest → Stands form rest
    → GivesBack (operand form (words_from false column (with_operand [] form value ++ rest))) value rest
operand_again Times n rest column h free stands =
    let lt : n < 2 ^ 64 = grind (arith, nat_tests) in
    (column + 1 + length (decimal n), one_again times (decimal n) rest n column (IsWord-decimal n lt) (times_again n h) free)
operand_again Register r rest column h free stands =
    let lt : r < 2 ^ 64 = grind (arith, nat_tests) in
    (column + 1 + length (114 ∷ decimal r), one_again register (114 ∷ decimal r) rest r column (IsWord-more 114 (decimal r) refl (IsWord-decimal r lt).bytes) (register_again r h) free)
operand_again Size n rest column h free stands =
    let lt : n < 2 ^ 64 = grind (arith, nat_tests) in
    (column + 1 + length (decimal n), one_again size (decimal n) rest n column (IsWord-decimal n lt) (size_again n h) free)
operand_again AnyTerm t rest column h free stands =
    (column + 1 + length (term_text t), one_again term (term_text t) rest t column (IsWord-term t h) (term_again t h) free)
operand_again Named r rest column h free stands =
    (column + 1 + length (named_text r), one_again named (named_text r) rest r column (IsWord-named r h) (named_again r h) free)
operand_again Part p rest column h free stands =
    (column + 1 + length (part_text p), one_again part (part_text p) rest p column (IsWord-part p h) (part_again p h) free)
operand_again Parts ps rest column h free stands =
    let both = and_true (nat_le (length ps) 4) (list_all is_part ps) h in
    let le : length ps ≤ 4 = grind (arith, nat_tests) in
    let back = parts_again ps 4 column le both.1 in
    let text : with_parts [] ps ++ rest ≡ with_parts [] ps = ap (λ (t : List ℕ). with_parts [] ps ++ t) stands ∙ append-nil (with_parts [] ps) in
    (back.0, rw (text, stands) back.1)
operand_again ObjectKind k rest column h free stands =
    let again = kind_again k h in (column + 1 + length (kind_word k), one_again kind (kind_word k) rest k column again.word again.reads free)
operand_again Wait t rest column h free stands =
    let again = timeout_again t h in (column + 1 + length (timeout_text t), one_again timeout (timeout_text t) rest t column again.word again.reads free)
operand_again HowMany all rest column h free stands =
    let again = how_many_again all in (column + 1 + length (how_many_word all), one_again how_many (how_many_word all) rest all column again.word again.reads free)
operand_again Priority p rest column h free stands =
    let again = priority_again p h in (column + 1 + length (signed_decimal p), one_again priority (signed_decimal p) rest p column again.word again.reads free)
operand_again OptionSet set rest column h free stands =
    let again = options_again set in (column + 1 + length (options_word set), one_again options (options_word set) rest set column again.word again.reads free)

-- ---- the operands of an instruction

-- these operands are what a syntax takes, and it makes this instruction of them
data Follows : Syntax → List Operand → Instr → Type 0 where
  done : (instr : Instr) → Follows (makes instr) [] instr
  step : (form : Form) (value : Value form) (rest : Value form → Syntax) (os : List Operand) (instr : Instr) → Stands form os → Follows (rest value) os instr → Follows (takes form rest) ((form, value) ∷ os) instr

stands_text : (form : Form) (os : List Operand) → Stands form os → Stands form (with_operands [] os)
stands_text Parts os stands = ap (with_operands []) stands
stands_text _ os stands = tt

reads_again : (s : Syntax) (os : List Operand) (instr : Instr) (column : ℕ) → Follows s os instr → IsTrue (all_fit os) → GivesBack (reading s (words_from false column (with_operands [] os))) instr []
reads_again s os instr column (done i) h = (column, refl)
reads_again s os instr column (step form value rest more i stands follows) h =
    let both = and_true (fits form value) (all_fit more) h in
    let first = operand_again form value (with_operands [] more) column both.0 (free_operands more) (stands_text form more stands) in
    let behind = reads_again (rest value) more i first.0 follows both.1 in
    let text : with_operands (with_operand [] form value) more ≡ with_operand [] form value ++ with_operands [] more = with_operands-front (with_operand [] form value) more in
    (behind.0, rw (text, first.1) behind.1)

follows : (instr : Instr) → Follows (syntax (mnemonic instr)) (operands_of instr) instr
follows Instr.End = done _
follows Instr.Oops = done _
follows Instr.Panic = done _
follows (Instr.Repeat times) = step Times times _ _ _ tt (done _)
follows (Instr.Set to value) = step Register to _ _ _ tt (step AnyTerm value _ _ _ tt (done _))
follows (Instr.Add to value) = step Register to _ _ _ tt (step AnyTerm value _ _ _ tt (done _))
follows (Instr.Load to addr size) = step Register to _ _ _ tt (step AnyTerm addr _ _ _ tt (step Size size _ _ _ tt (done _)))
follows (Instr.Store addr size value) = step AnyTerm addr _ _ _ tt (step Size size _ _ _ tt (step AnyTerm value _ _ _ tt (done _)))
follows (Instr.Exec addr) = step AnyTerm addr _ _ _ tt (done _)
follows (Instr.DomainInit domain parts) = step Named domain _ _ _ tt (step Parts parts _ _ _ refl (done _))
follows (Instr.DomainAdd domain part) = step Named domain _ _ _ tt (step Part part _ _ _ tt (done _))
follows (Instr.DomainRemove domain part) = step Named domain _ _ _ tt (step Part part _ _ _ tt (done _))
follows (Instr.DomainMove domain thread) = step Named domain _ _ _ tt (step AnyTerm thread _ _ _ tt (done _))
follows (Instr.ObjectAlloc kind to) = step ObjectKind kind _ _ _ tt (step Register to _ _ _ tt (done _))
follows (Instr.Grant object thread) = step AnyTerm object _ _ _ tt (step AnyTerm thread _ _ _ tt (done _))
follows (Instr.Revoke object thread) = step AnyTerm object _ _ _ tt (step AnyTerm thread _ _ _ tt (done _))
follows (Instr.Release object) = step AnyTerm object _ _ _ tt (done _)
follows (Instr.AllGrant object) = step AnyTerm object _ _ _ tt (done _)
follows (Instr.Create thread stack size script priority options) = step AnyTerm thread _ _ _ tt (step AnyTerm stack _ _ _ tt (step AnyTerm size _ _ _ tt (step Named script _ _ _ tt (step Priority priority _ _ _ tt (step OptionSet options _ _ _ tt (done _))))))
follows (Instr.UserMode script) = step Named script _ _ _ tt (done _)
follows (Instr.NameSet thread addr) = step AnyTerm thread _ _ _ tt (step AnyTerm addr _ _ _ tt (done _))
follows (Instr.SemInit object count limit) = step AnyTerm object _ _ _ tt (step AnyTerm count _ _ _ tt (step AnyTerm limit _ _ _ tt (done _)))
follows (Instr.SemTake object timeout) = step AnyTerm object _ _ _ tt (step Wait timeout _ _ _ tt (done _))
follows (Instr.SemGive object) = step AnyTerm object _ _ _ tt (done _)
follows (Instr.SemReset object) = step AnyTerm object _ _ _ tt (done _)
follows (Instr.SemCount object to) = step AnyTerm object _ _ _ tt (step Register to _ _ _ tt (done _))
follows (Instr.MutexInit object) = step AnyTerm object _ _ _ tt (done _)
follows (Instr.MutexLock object timeout) = step AnyTerm object _ _ _ tt (step Wait timeout _ _ _ tt (done _))
follows (Instr.MutexUnlock object) = step AnyTerm object _ _ _ tt (done _)
follows (Instr.MsgqInit object msg_size max_msgs) = step AnyTerm object _ _ _ tt (step AnyTerm msg_size _ _ _ tt (step AnyTerm max_msgs _ _ _ tt (done _)))
follows (Instr.MsgqPut object addr timeout) = step AnyTerm object _ _ _ tt (step AnyTerm addr _ _ _ tt (step Wait timeout _ _ _ tt (done _)))
follows (Instr.MsgqGet object addr timeout) = step AnyTerm object _ _ _ tt (step AnyTerm addr _ _ _ tt (step Wait timeout _ _ _ tt (done _)))
follows (Instr.MsgqPeek object addr) = step AnyTerm object _ _ _ tt (step AnyTerm addr _ _ _ tt (done _))
follows (Instr.MsgqPurge object) = step AnyTerm object _ _ _ tt (done _)
follows (Instr.MsgqUsed object to) = step AnyTerm object _ _ _ tt (step Register to _ _ _ tt (done _))
follows (Instr.StackInit object entries) = step AnyTerm object _ _ _ tt (step AnyTerm entries _ _ _ tt (done _))
follows (Instr.StackPush object value) = step AnyTerm object _ _ _ tt (step AnyTerm value _ _ _ tt (done _))
follows (Instr.StackPop object addr timeout) = step AnyTerm object _ _ _ tt (step AnyTerm addr _ _ _ tt (step Wait timeout _ _ _ tt (done _)))
follows (Instr.PipeInit object size) = step AnyTerm object _ _ _ tt (step AnyTerm size _ _ _ tt (done _))
follows (Instr.PipeWrite object addr length timeout) = step AnyTerm object _ _ _ tt (step AnyTerm addr _ _ _ tt (step AnyTerm length _ _ _ tt (step Wait timeout _ _ _ tt (done _))))
follows (Instr.PipeRead object addr length timeout) = step AnyTerm object _ _ _ tt (step AnyTerm addr _ _ _ tt (step AnyTerm length _ _ _ tt (step Wait timeout _ _ _ tt (done _))))
follows (Instr.PipeReset object) = step AnyTerm object _ _ _ tt (done _)
follows (Instr.PipeClose object) = step AnyTerm object _ _ _ tt (done _)
follows (Instr.TimerStart object ticks) = step AnyTerm object _ _ _ tt (step AnyTerm ticks _ _ _ tt (done _))
follows (Instr.TimerStop object) = step AnyTerm object _ _ _ tt (done _)
follows (Instr.TimerStatus object to) = step AnyTerm object _ _ _ tt (step Register to _ _ _ tt (done _))
follows (Instr.TimerSync object to) = step AnyTerm object _ _ _ tt (step Register to _ _ _ tt (done _))
follows (Instr.Abort thread) = step AnyTerm thread _ _ _ tt (done _)
follows (Instr.Join thread timeout) = step AnyTerm thread _ _ _ tt (step Wait timeout _ _ _ tt (done _))
follows (Instr.Suspend thread) = step AnyTerm thread _ _ _ tt (done _)
follows (Instr.Continue thread) = step AnyTerm thread _ _ _ tt (done _)
follows (Instr.FutexWait addr value timeout) = step AnyTerm addr _ _ _ tt (step AnyTerm value _ _ _ tt (step Wait timeout _ _ _ tt (done _)))
follows (Instr.FutexWake addr all) = step AnyTerm addr _ _ _ tt (step HowMany all _ _ _ tt (done _))

-- ---- the first word

record IsMnemonic (m : Mnemonic) : Type 0 where
  known : mnemonic_of (spelling m) ≡ Some m
  one_word : IsWord (spelling m)

is_mnemonic : (m : Mnemonic) → IsMnemonic m
is_mnemonic Mnemonic.End = record { known = refl; one_word = record { bytes = refl; some = lit< tt } }
is_mnemonic _ = record { known = refl; one_word = record { bytes = refl; some = lit< tt } }

-- the canonical line of an instruction that lines can give is read back to it
pub canonical_again : (instr : Instr) → IsTrue (is_line instr) → line_of (canonical instr) ≡ Ok instr
canonical_again instr h =
    let first = is_mnemonic (mnemonic instr) in
    let rest : List ℕ = with_operands [] (operands_of instr) in
    let text : canonical instr ≡ spelling (mnemonic instr) ++ rest = with_operands-front (spelling (mnemonic instr)) (operands_of instr) in
    let back = reads_again (syntax (mnemonic instr)) (operands_of instr) instr (1 + length (spelling (mnemonic instr))) (follows instr) h in
    let words : words_of_line (canonical instr) ≡ word (spelling (mnemonic instr)) 1 (words_from false (1 + length (spelling (mnemonic instr))) rest)
    = ap words_of_line text ∙ word_again 1 (spelling (mnemonic instr)) rest first.one_word (free_operands (operands_of instr)) in
    let read : whole (mnemonic instr) (words_from false (1 + length (spelling (mnemonic instr))) rest) ≡ Ok instr = rw back.1 refl in
    ap line_of_words words ∙ ap (behind_first 1 (words_from false (1 + length (spelling (mnemonic instr))) rest)) first.known ∙ read
