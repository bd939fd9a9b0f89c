use Rattle.std.proofs.Common.{[], arith, refl}
use Rattle.um_question.proofs.FormLemmas.{at-end, at-newline, at-space}
use Rattle.um_question.proofs.forms.first_word.Goals as goal

pub returns-then-byte-eq10 : goal.returns-then-byte-eq10
returns-then-byte-eq10 c = at-newline c.args.line.now _ [] c.loop-i.i c.loop-i.invariant c.loop-i-test.true c.if-byte-eq10.true refl

pub returns-then-byte-eq32 : goal.returns-then-byte-eq32
returns-then-byte-eq32 c = at-space c.args.line.now _ c.split_at.result.1.now c.loop-i.i c.loop-i.invariant c.loop-i-test.true c.if-byte-eq32.true refl c.split_at.ensures.back (omega (arith, c.loop-i-test.true, c.split_at.ensures.back_len))

pub returns : goal.returns
returns c = at-end c.args.line.now [] c.loop-i.i c.loop-i.invariant c.loop-i-test.false
