use Rattle.std.proofs.Common.{arith}
use Rattle.um_question.proofs.NumberLemmas.{past_limit}
use Rattle.um_question.proofs.numbers.value.Goals as goal

pub returns-then-more-gt4294967295 : goal.returns-then-more-gt4294967295
returns-then-more-gt4294967295 c =
    past_limit c.args.hexadecimal c.loop-byte.number c.loop-byte.byte-index c.args.word.now _ c.loop-byte-test.true (rw (← c.base.ensures, ← c.digit_value.ensures) (omega (arith, c.if-more-gt4294967295.true))) c.loop-byte.invariant.rest
