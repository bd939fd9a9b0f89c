use Rattle.std.proofs.Common.{arith}
use Rattle.um_explore.proofs.StepLemmas.{all-alive}
use Rattle.um_explore.proofs.steps.is_any_gone.Goals as goal

pub returns : goal.returns
returns c _ =
    let rows = c.row_count-x-end.ensures in
    all-alive c.args.tables.now c.loop-x.x rows.objects (omega (arith, rows.value, c.loop-x-test.false)) c.loop-x.invariant
