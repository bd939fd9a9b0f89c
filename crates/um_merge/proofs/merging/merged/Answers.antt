use Rattle.std.proofs.Common.{arith}
use Rattle.um_merge.proofs.Orders.{alone, one-popped}
use Rattle.um_merge.proofs.merging.merged.Goals as goal

pub returns-in-Some : goal.returns-in-Some
returns-in-Some c order is =
    let one = one-popped c.args.logs.items _ c.in-Some.log c.in-Some.ensures.items (omega (arith, c.if-len-eq1.true, c.len.ensures)) in
    alone c.args.logs.items c.in-Some.log order one is
