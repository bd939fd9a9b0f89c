use Rattle.std.proofs.Common.{◌≤◌, arith, length, drop}
use Rattle.um_tables.proofs.Fronts.{shorter}
use Rattle.um_tables.proofs.context.Context.third.Goals as goal

pub push-requires-clause-few : goal.push-requires-clause-few
push-requires-clause-few c =
    let few : length (drop 2 c.self.inside.own.pending) ≤ 10 = shorter c.self.inside.own.pending (omega (arith, c.len-few.ensures.value, c.len-few.ensures.few)) in
    rw c.skip.ensures (omega (arith, few))

pub push-requires-2-clause-few : goal.push-requires-2-clause-few
push-requires-2-clause-few c =
    let few : length (drop 2 c.self.inside.own.pending) ≤ 10 = shorter c.self.inside.own.pending (omega (arith, c.len-few.ensures.value, c.len-few.ensures.few)) in
    rw (c.push.ensures, c.skip.ensures) (omega (arith, few))
