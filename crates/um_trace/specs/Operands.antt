-- What calls on domains are about besides the domain.
use Rattle.std.specs.Prelude.{ℕ, List, [], ◌++◌, codes}
use Rattle.um_base.specs.declared.image.Image.{Image}
use Rattle.um_base.specs.declared.names.Reply.{Reply}
use Rattle.um_trace.specs.declared.domains.Operand.{Operand}
use Rattle.um_trace.specs.Names.{thread_text, domain_text, part_text, reply_text}

abbrev pub operand_text : Image → Operand → List ℕ
operand_text image (Operand.Part range attr) = codes " " ++ part_text range attr
operand_text image (Operand.Thread who) = codes " " ++ thread_text image who.0
operand_text image Operand.Alone = []

-- a call on a domain, with what it is answered
abbrev pub domain_call_text : Image → List ℕ → ℕ → Operand → Reply → List ℕ
domain_call_text image word domain operand reply =
    codes "domain " ++ word ++ domain_text image domain ++ operand_text image operand ++ codes " " ++ reply_text image reply
