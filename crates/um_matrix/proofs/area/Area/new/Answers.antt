use Rattle.std.proofs.Common.{arith}
use Rattle.um_matrix.proofs.AreaLemmas.{none-behind}
use Rattle.um_matrix.proofs.area.Area.new.Goals as goal

pub invariant_of-result : goal.invariant_of-result
invariant_of-result c = (c.requires, omega arith, none-behind c.args.bytes.items 524288 (omega (arith, c.requires)))
