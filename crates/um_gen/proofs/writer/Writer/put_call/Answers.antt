use Rattle.std.proofs.Common.{◌∙◌, sym, arith}
use Rattle.um_gen.proofs.KeptLemmas.{writes_chosen, last_call}
use Rattle.um_gen.proofs.WriteLemmas.{writes_within}
use Rattle.um_gen.proofs.writer.Writer.put_call.Goals as goal

pub returns-in-0 : goal.returns-in-0
returns-in-0 c = writes_within (writes_chosen c.args.i 0 c.draw.ensures.text c.draw.ensures.random (sym c.draw.ensures.value ∙ c.in-0.is) c.put_parts.ensures) (omega arith)

pub returns-in-1 : goal.returns-in-1
returns-in-1 c = writes_within (writes_chosen c.args.i 1 c.draw.ensures.text c.draw.ensures.random (sym c.draw.ensures.value ∙ c.in-1.is) c.put_parts-in-1.ensures) (omega arith)

pub returns-in-2 : goal.returns-in-2
returns-in-2 c = writes_within (writes_chosen c.args.i 2 c.draw.ensures.text c.draw.ensures.random (sym c.draw.ensures.value ∙ c.in-2.is) c.put_parts-in-2.ensures) (omega arith)

pub returns-in-3 : goal.returns-in-3
returns-in-3 c = writes_within (writes_chosen c.args.i 3 c.draw.ensures.text c.draw.ensures.random (sym c.draw.ensures.value ∙ c.in-3.is) c.put_parts-in-3.ensures) (omega arith)

pub returns-in-4 : goal.returns-in-4
returns-in-4 c = writes_within (writes_chosen c.args.i 4 c.draw.ensures.text c.draw.ensures.random (sym c.draw.ensures.value ∙ c.in-4.is) c.put_parts-in-4.ensures) (omega arith)

pub returns-in_default : goal.returns-in_default
returns-in_default c =
    let other = last_call c.args.i c.draw.result (λ e. omega arith) (λ e. omega arith) (λ e. omega arith) (λ e. omega arith) (λ e. omega arith) in
    writes_chosen c.args.i c.draw.result c.draw.ensures.text c.draw.ensures.random (sym c.draw.ensures.value) (rw other c.put_parts-in_default.ensures)
