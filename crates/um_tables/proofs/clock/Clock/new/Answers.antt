use Rattle.std.proofs.Common.{[], arith}
use Rattle.um_tables.proofs.ListedMarks.{opened-listed, same-listed}
use Rattle.um_tables.proofs.clock.Clock.new.Goals as goal

pub invariant_of-result : goal.invariant_of-result
invariant_of-result c =
    let most = c.args.most in
    let marks = c.in_ok-with_capacity.ensures in
    let ungiven = c.in_ok-with_capacity-2.ensures in
    let unsettled = c.in_ok-with_capacity-3.ensures in
    same-listed 0 [] _ [] _ [] _ most _ most _ most _ marks.items ungiven.items unsettled.items marks.exact ungiven.exact unsettled.exact
    (opened-listed most most most (omega arith) (omega arith))
