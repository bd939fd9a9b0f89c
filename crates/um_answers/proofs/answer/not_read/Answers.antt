use Rattle.std.proofs.Common.{◌≡◌, inl, inr, string_bytes, String, Global}
use Rattle.std.proofs.lemmas.Result.{IfOk-weaker}
use Rattle.um_answers.specs.Answered.{IsRefusal}
use Rattle.um_answers.specs.Messages.{refused_line}
use Rattle.um_answers.proofs.answer.not_read.Goals as goal

pub returns-else-is_memory : goal.returns-else-is_memory
returns-else-is_memory c = λ command event input trace short traced refuses.
    c.refusal.ensures command event input
    (IfOk-weaker c.line_of_fault.result (λ line. string_bytes line ≡ refused_line c.args.fault.now) (λ line. IsRefusal command event input (string_bytes line))
    (λ line told. record {
      short = short;
      cause = inr (inl (record { trace = trace; traced = traced; fault = c.args.fault.now; refused = refuses (c.is_memory.ensures.no c.if-is_memory.false); told = told }));
    })
    c.line_of_fault.ensures)
