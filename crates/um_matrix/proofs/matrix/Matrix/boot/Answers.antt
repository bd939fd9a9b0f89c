use Rattle.std.proofs.Common.{subst, sym, arith}
use Rattle.um_matrix.specs.OfRun.{IsOfRun}
use Rattle.um_matrix.proofs.ReachLemmas.{of-opening}
use Rattle.um_matrix.proofs.matrix.Matrix.boot.Goals as goal

pub invariant_of-result : goal.invariant_of-result
invariant_of-result c =
    let few = c.len-objects.ensures in
    subst IsOfRun (sym c.in_ok-tables.ensures) (of-opening c.args.image.now c.requires.lawful (omega (arith, few.value, few.few)))
