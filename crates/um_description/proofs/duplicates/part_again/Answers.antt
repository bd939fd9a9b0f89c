use Rattle.std.proofs.Common.{arith}
use Rattle.um_description.proofs.AgainLemmas.{part_step}
use Rattle.um_description.proofs.duplicates.part_again.Goals as goal

pub loop-part-preserved : goal.loop-part-preserved
loop-part-preserved c = record {
  rest =
      part_step c.loop-part.seen c.add.new.self c.args.parts.now c.args.domain c.loop-part.index c.loop-part.part-index c.part-item.result c.as_slice.result.now _ c.in_ok-add.field-0
      c.loop-part-test.true c.part-item.is c.as_slice.ensures c.in_ok-add.ensures.again c.if-branch.false c.in_ok-add.ensures.added c.loop-part.invariant.rest;
  index = omega (arith, c.loop-part.invariant.index);
}
