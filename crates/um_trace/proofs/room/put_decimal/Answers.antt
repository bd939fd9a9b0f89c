use Rattle.um_trace.proofs.DigitLemmas.{puts_two}
use Rattle.um_trace.proofs.room.put_decimal.Goals as goal

pub returns-then-n-lt100 : goal.returns-then-n-lt100
returns-then-n-lt100 c = puts_two c.args.n _ _ _ c.if-n-lt10.false c.if-n-lt100.true c.put_digit-then-n-lt100.ensures c.put_digit-then-n-lt100-2.ensures
