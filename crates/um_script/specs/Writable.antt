-- The instructions that lines can give.
use Rattle.std.specs.Prelude.{ℕ, ◌-◌, ◌^◌, List, length, Bool, true, false, ◌&&◌, nat_lt, nat_le, ℤ, pos, negsuc}
use Rattle.std.specs.List.{list_all}
use Rattle.um_base.specs.Lawful.{is_within, is_name, is_register, is_size, is_dynamic_kind, is_named_attr, is_wait}
use Rattle.um_base.specs.declared.instr.Instr.{Instr}
use Rattle.um_base.specs.declared.names.PartRef.{PartRef}
use Rattle.um_base.specs.declared.names.Ref.{Ref}
use Rattle.um_base.specs.declared.names.Term.{Term}
use Rattle.um_script.specs.Canonical.{Operand, mnemonic, operands_of}
use Rattle.um_script.specs.Operands.{Form, Times, Register, Size, AnyTerm, Named, Part, Parts, ObjectKind, Wait, HowMany, Priority, OptionSet, Value}
use Rattle.um_vocabulary.specs.Words.{is_place_name}

abbrev pub is_word32 : ℕ → Bool
is_word32 n = nat_le n (2 ^ 32 - 1)

abbrev pub is_term : Term → Bool
is_term (Term.Num n) = is_word32 n
is_term (Term.Reg r) = is_register r
is_term (Term.Place name offset) = is_place_name name && nat_le offset 65536

abbrev pub is_named : Ref → Bool
is_named (Ref.Named name) = is_name name
is_named (Ref.At index) = false

abbrev pub is_part : PartRef → Bool
is_part (PartRef.Named name) = is_name name
is_part (PartRef.At index) = false
is_part (PartRef.Given range attr) = is_word32 range.start.0 && is_word32 range.size && is_named_attr attr

abbrev pub is_priority : ℤ → Bool
is_priority (pos n) = nat_lt n 128
is_priority (negsuc n) = nat_lt n 128

-- the values that an operand of a form can have
abbrev pub fits : (form : Form) → Value form → Bool
fits Times times = is_within 1 1000 times
fits Register register = is_register register
fits Size size = is_size size
fits AnyTerm term = is_term term
fits Named named = is_named named
fits Part part = is_part part
fits Parts parts = nat_le (length parts) 4 && list_all is_part parts
fits ObjectKind kind = is_dynamic_kind kind
fits Wait timeout = is_wait timeout
fits HowMany all = true
fits Priority priority = is_priority priority
fits OptionSet set = true

abbrev pub all_fit : List Operand → Bool
all_fit operands = list_all (λ o. fits o.0 o.1) operands

abbrev pub is_line : Instr → Bool
is_line line = all_fit (operands_of line)
