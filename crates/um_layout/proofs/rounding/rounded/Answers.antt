use Rattle.std.proofs.Common.{sym, arith}
use Rattle.um_layout.proofs.Powers.{first_from-power, least-power}
use Rattle.um_layout.proofs.rounding.rounded.Goals as goal

pub returns-in-V7-clause-value : goal.returns-in-V7-clause-value
returns-in-V7-clause-value c =
    let e = c.next_power_of_two.ensures in
    rw c.in-V7.is (sym (first_from-power c.args.size c.next_power_of_two.result e.power (omega (arith, c.max.ensures)) (omega (arith, c.max.ensures)) c.requires.most).0)

pub returns-in-V7-clause-least : goal.returns-in-V7-clause-least
returns-in-V7-clause-least c =
    let e = c.next_power_of_two.ensures in
    rw c.in-V7.is (least-power c.args.size c.next_power_of_two.result e.power (omega (arith, c.max.ensures)) (omega (arith, c.max.ensures)))

pub returns-in-V7-clause-small : goal.returns-in-V7-clause-small
returns-in-V7-clause-small c =
    let e = c.next_power_of_two.ensures in
    (first_from-power c.args.size c.next_power_of_two.result e.power (omega (arith, c.max.ensures)) (omega (arith, c.max.ensures)) c.requires.most).1
