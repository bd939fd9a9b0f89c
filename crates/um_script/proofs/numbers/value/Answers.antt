use Rattle.um_script.proofs.NumberLemmas.{past_limit}
use Rattle.um_script.proofs.numbers.value.Goals as goal

pub returns-then-more-limit-clause-value : goal.returns-then-more-limit-clause-value
returns-then-more-limit-clause-value c =
    past_limit c.args.hexadecimal c.args.limit c.loop-byte.number c.loop-byte.byte-index c.args.digits.now _ c.loop-byte-test.true (rw (← c.base.ensures, ← c.digit_value.ensures) c.if-more-limit.true) c.loop-byte.invariant.rest
