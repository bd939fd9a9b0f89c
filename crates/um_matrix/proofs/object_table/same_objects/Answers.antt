use Rattle.std.proofs.Common.{arith}
use Rattle.um_matrix.proofs.TableLemmas.{same_padded, same_read}
use Rattle.um_matrix.proofs.object_table.same_objects.Goals as goal

pub returns : goal.returns
returns c h n few fewer =
    same_padded n c.args.a.now c.args.b.now few fewer
    (same_read c.loop-x.x c.args.a.now c.args.b.now (omega (arith, c.loop-x-test.false, c.max-x-end.ensures)) (omega (arith, c.loop-x-test.false, c.max-x-end.ensures)) c.loop-x.invariant)
