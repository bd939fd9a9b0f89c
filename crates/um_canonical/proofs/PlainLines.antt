-- A canonical line has no byte that a string would have to escape.
use Rattle.std.proofs.Common.{◌≡◌, ℕ, suc, ◌^◌, ◌<◌, ◌≤◌, Bool, true, false, ◌&&◌, ◌==◌, nat_le, if◌then◌else◌, List, [], ◌∷◌, ◌++◌, length, codes, decimal, IsTrue, ℤ, pos, negsuc, refl, ◌∙◌, arith}
use Rattle.std.proofs.lemmas.Bool.{false≢true}
use Rattle.std.proofs.lemmas.Bool.Decides.{nat_tests}
use Rattle.std.proofs.lemmas.List.Folds.{list_all-append}
use Rattle.std.specs.Fmt.{signed_decimal}
use Rattle.std.specs.List.{list_all}
use Rattle.um_canonical.proofs.Toml.Strings.{is_plain_byte}
use Rattle.um_canonical.proofs.Toml.Values.{is_plain}
use Rattle.um_base.specs.declared.attr.Attr.{Attr}
use Rattle.um_base.specs.declared.instr.Instr.{Instr}
use Rattle.um_base.specs.declared.names.Kind.{Kind}
use Rattle.um_base.specs.declared.names.PartRef.{PartRef}
use Rattle.um_base.specs.declared.names.Ref.{Ref}
use Rattle.um_base.specs.declared.names.Term.{Term}
use Rattle.um_base.specs.declared.names.Timeout.{Timeout}
use Rattle.um_base.specs.Lawful.{is_within, is_name, is_name_byte, is_register, is_size, is_named_attr, is_wait}
use Rattle.um_document.proofs.EmptyLists.{and_true}
use Rattle.um_script.specs.Canonical.{Operand, operands_of, mnemonic, canonical, term_text, named_text, part_text, timeout_text, offset_text, with_parts, with_operand, with_operands, options_by, options_word}
use Rattle.um_script.specs.declared.mnemonic.Mnemonic.{Mnemonic}
use Rattle.um_script.specs.Instructions.{spelling}
use Rattle.um_script.specs.Numbers.{is_digit}
use Rattle.um_script.specs.Operands.{Form, Times, Register, Size, AnyTerm, Named, Part, Parts, ObjectKind, Wait, HowMany, Priority, OptionSet, Value, how_many_word}
use Rattle.um_vocabulary.specs.Words.{attr_word, kind_word, is_place_name}
use Rattle.um_script.specs.Writable.{is_word32, is_term, is_named, is_part, is_priority, fits, all_fit, is_line}
use Rattle.um_script.proofs.DigitsAgain.{list_all-weaker, decimal-spells}
use Rattle.um_script.proofs.NameAgain.{name_bytes, place_name_bytes, word32-le}

both_plain : (s t : List ℕ) → is_plain s ≡ true → is_plain t ≡ true → is_plain (s ++ t) ≡ true
both_plain s t h k = list_all-append is_plain_byte s t ∙ rw (h, k) refl

behind_space : (s t : List ℕ) → is_plain s ≡ true → is_plain t ≡ true → is_plain (s ++ (32 ∷ t)) ≡ true
behind_space s t h k = both_plain s (32 ∷ t) h k

digit_plain : (b : ℕ) → IsTrue (is_digit false b) → IsTrue (is_plain_byte b)
digit_plain b h = grind (arith, nat_tests)

name_plain_byte : (b : ℕ) → IsTrue (is_name_byte b) → IsTrue (is_plain_byte b)
name_plain_byte b h = grind (arith, nat_tests)

number_plain : (n : ℕ) → n < 2 ^ 64 → is_plain (decimal n) ≡ true
number_plain n lt = list_all-weaker (is_digit false) is_plain_byte digit_plain (decimal n) (decimal-spells n lt).digits_all

word_plain : (n : ℕ) → IsTrue (is_word32 n) → is_plain (decimal n) ≡ true
word_plain n h = let le = word32-le n h in number_plain n (omega arith)

pub name_plain : (t : List ℕ) → IsTrue (is_name t) → is_plain t ≡ true
name_plain t h = list_all-weaker is_name_byte is_plain_byte name_plain_byte t (name_bytes t h)

place_plain : (t : List ℕ) → IsTrue (is_place_name t) → is_plain t ≡ true
place_plain t h = list_all-weaker is_name_byte is_plain_byte name_plain_byte t (place_name_bytes t h)

if_plain : (b : Bool) (s t : List ℕ) → is_plain s ≡ true → is_plain t ≡ true → is_plain (if b then s else t) ≡ true
if_plain true s t h k = h
if_plain false s t h k = k

small_offset : (n : ℕ) → IsTrue (nat_le n 65536) → n < 2 ^ 64
small_offset n h = let le : n ≤ 65536 = grind (arith, nat_tests) in omega (arith, le)

small_register : (n : ℕ) → IsTrue (is_register n) → n < 2 ^ 64
small_register n h = let le : n < 8 = grind (arith, nat_tests) in omega (arith, le)

small_times : (n : ℕ) → IsTrue (is_within 1 1000 n) → n < 2 ^ 64
small_times n h = let le : n ≤ 1000 = grind (arith, nat_tests) in omega (arith, le)

small_ticks : (n : ℕ) → IsTrue (is_within 1 1000000 n) → n < 2 ^ 64
small_ticks n h = let le : n ≤ 1000000 = grind (arith, nat_tests) in omega (arith, le)

small_size : (n : ℕ) → IsTrue (is_size n) → n < 2 ^ 64
small_size n h = let le : n ≤ 4 = grind (arith, nat_tests) in omega (arith, le)

small_priority : (n : ℕ) → IsTrue (is_priority (pos n)) → n < 2 ^ 64
small_priority n h = let le : n < 128 = grind (arith, nat_tests) in omega (arith, le)

small_negative : (n : ℕ) → IsTrue (is_priority (negsuc n)) → suc n < 2 ^ 64
small_negative n h = let le : n < 128 = grind (arith, nat_tests) in omega (arith, le)

offset_plain : (offset : ℕ) → IsTrue (nat_le offset 65536) → is_plain (offset_text offset) ≡ true
offset_plain offset h = if_plain (offset == 0) [] (43 ∷ decimal offset) refl (number_plain offset (small_offset offset h))

term_plain : (t : Term) → IsTrue (is_term t) → is_plain (term_text t) ≡ true
term_plain (Term.Num n) h = word_plain n h
term_plain (Term.Reg r) h = number_plain r (small_register r h)
term_plain (Term.Place name offset) h =
    let both = and_true (is_place_name name) (nat_le offset 65536) h in
    both_plain name (offset_text offset) (place_plain name both.0) (offset_plain offset both.1)

named_plain : (r : Ref) → IsTrue (is_named r) → is_plain (named_text r) ≡ true
named_plain (Ref.Named name) h = name_plain name h
named_plain (Ref.At i) h = absurd (false≢true h)

pub attr_plain : (a : Attr) → is_plain (attr_word a) ≡ true
attr_plain a =
    if_plain (a.0 == 27) (codes "P_RW_U_RW") _ refl (if_plain (a.0 == 11) (codes "P_RW_U_RO") _ refl (if_plain (a.0 == 3) (codes "P_RW_U_NA") _ refl
    (if_plain (a.0 == 9) (codes "P_RO_U_RO") _ refl (if_plain (a.0 == 1) (codes "P_RO_U_NA") _ refl (if_plain (a.0 == 45) (codes "P_RX_U_RX") _ refl
    (if_plain (a.0 == 63) (codes "P_RWX_U_RWX") [] refl refl))))))

given_plain : (start size : ℕ) (attr : Attr) → IsTrue (is_word32 start && is_word32 size && is_named_attr attr) → is_plain (decimal start ++ (47 ∷ decimal size) ++ (47 ∷ attr_word attr)) ≡ true
given_plain start size attr h =
    let a = and_true (is_word32 start && is_word32 size) (is_named_attr attr) h in
    let b = and_true (is_word32 start) (is_word32 size) a.0 in
    both_plain (decimal start ++ (47 ∷ decimal size)) (47 ∷ attr_word attr) (both_plain (decimal start) (47 ∷ decimal size) (word_plain start b.0) (word_plain size b.1)) (attr_plain attr)

part_plain : (p : PartRef) → IsTrue (is_part p) → is_plain (part_text p) ≡ true
part_plain (PartRef.Named name) h = name_plain name h
part_plain (PartRef.At i) h = absurd (false≢true h)
part_plain (PartRef.Given range attr) h = given_plain range.start.0 range.size attr h

parts_plain : (text : List ℕ) (ps : List PartRef) → is_plain text ≡ true → IsTrue (list_all is_part ps) → is_plain (with_parts text ps) ≡ true
parts_plain text [] ok h = ok
parts_plain text (p ∷ ps) ok h =
    let both = and_true (is_part p) (list_all is_part ps) h in
    parts_plain (text ++ (32 ∷ part_text p)) ps (behind_space text (part_text p) ok (part_plain p both.0)) both.1

kind_plain : (k : Kind) → is_plain (kind_word k) ≡ true
kind_plain Kind.Thread = refl
kind_plain _ = refl

timeout_plain : (t : Timeout) → IsTrue (is_wait t) → is_plain (timeout_text t) ≡ true
timeout_plain Timeout.NoWait h = refl
timeout_plain Timeout.Forever h = refl
timeout_plain (Timeout.Ticks n) h =
    both_plain (codes "K_TICKS(") (decimal n ++ codes ")") refl (both_plain (decimal n) (codes ")") (number_plain n (small_ticks n h)) refl)

how_many_plain : (all : Bool) → is_plain (how_many_word all) ≡ true
how_many_plain true = refl
how_many_plain false = refl

options_plain : (a b c : Bool) → is_plain (options_by a b c) ≡ true
options_plain true true true = refl
options_plain true true false = refl
options_plain true false true = refl
options_plain true false false = refl
options_plain false true true = refl
options_plain false true false = refl
options_plain false false true = refl
options_plain false false false = refl

priority_plain : (z : ℤ) → IsTrue (is_priority z) → is_plain (signed_decimal z) ≡ true
priority_plain (pos n) h = number_plain n (small_priority n h)
priority_plain (negsuc n) h = number_plain (suc n) (small_negative n h)

operand_plain : (text : List ℕ) (form : Form) (v : Value form) → is_plain text ≡ true → IsTrue (fits form v) → is_plain (with_operand text form v) ≡ true
operand_plain text Times n ok h = behind_space text (decimal n) ok (number_plain n (small_times n h))
operand_plain text Register r ok h = behind_space text (114 ∷ decimal r) ok (number_plain r (small_register r h))
operand_plain text Size n ok h = behind_space text (decimal n) ok (number_plain n (small_size n h))
operand_plain text AnyTerm t ok h = behind_space text (term_text t) ok (term_plain t h)
operand_plain text Named r ok h = behind_space text (named_text r) ok (named_plain r h)
operand_plain text Part p ok h = behind_space text (part_text p) ok (part_plain p h)
operand_plain text Parts ps ok h = parts_plain text ps ok (and_true (nat_le (length ps) 4) (list_all is_part ps) h).1
operand_plain text ObjectKind k ok h = behind_space text (kind_word k) ok (kind_plain k)
operand_plain text Wait t ok h = behind_space text (timeout_text t) ok (timeout_plain t h)
operand_plain text HowMany all ok h = behind_space text (how_many_word all) ok (how_many_plain all)
operand_plain text Priority z ok h = behind_space text (signed_decimal z) ok (priority_plain z h)
operand_plain text OptionSet set ok h = behind_space text (options_word set) ok (options_plain set.user set.inherit set.essential)

operands_plain : (text : List ℕ) (os : List Operand) → is_plain text ≡ true → IsTrue (all_fit os) → is_plain (with_operands text os) ≡ true
operands_plain text [] ok h = ok
operands_plain text (o ∷ os) ok h =
    let both = and_true (fits o.0 o.1) (all_fit os) h in
    operands_plain (with_operand text o.0 o.1) os (operand_plain text o.0 o.1 ok both.0) both.1

spelling_plain : (m : Mnemonic) → is_plain (spelling m) ≡ true
spelling_plain Mnemonic.End = refl
spelling_plain _ = refl

pub line_plain : (line : Instr) → IsTrue (is_line line) → is_plain (canonical line) ≡ true
line_plain line h =
    operands_plain (spelling (mnemonic line)) (operands_of line) (spelling_plain (mnemonic line)) h
