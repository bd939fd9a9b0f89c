use Rattle.std.proofs.Common.{arith}
use Rattle.um_description.specs.Duplicates.{added}
use Rattle.um_description.proofs.AgainLemmas.{name_step, added_step}
use Rattle.um_description.proofs.duplicates.name_again.Goals as goal

pub loop-name-preserved : goal.loop-name-preserved
loop-name-preserved c = record {
  rest =
      name_step c.loop-name.seen c.add.new.self c.args.names.now c.args.section c.loop-name.index c.loop-name.name-index c.name-item.result c.as_slice.result.now _ c.in_ok-add.field-0
      c.loop-name-test.true c.name-item.is c.as_slice.ensures.value c.in_ok-add.ensures.again c.if-branch.false c.in_ok-add.ensures.added c.loop-name.invariant.rest;
  all =
      added_step c.loop-name.seen c.add.new.self c.args.names.now (added c.args.seen.now c.args.names.now) c.loop-name.name-index c.name-item.result c.as_slice.result.now
      c.loop-name-test.true c.name-item.is c.as_slice.ensures.value c.in_ok-add.ensures.added c.loop-name.invariant.all;
  index = omega (arith, c.loop-name.invariant.index);
}
