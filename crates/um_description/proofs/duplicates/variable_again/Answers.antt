use Rattle.std.proofs.Common.{arith, map}
use Rattle.um_description.specs.Duplicates.{added}
use Rattle.um_description.proofs.AgainLemmas.{variable_name, variable_step, variable_added_step}
use Rattle.um_description.proofs.duplicates.variable_again.Goals as goal

pub loop-variable-preserved : goal.loop-variable-preserved
loop-variable-preserved c = record {
  rest =
      variable_step c.loop-variable.seen c.add.new.self c.args.variables.now c.args.partition c.loop-variable.index c.loop-variable.variable-index c.variable-item.result c.as_slice.result.now _ c.in_ok-add.field-0
      c.loop-variable-test.true c.variable-item.is c.as_slice.ensures.value c.in_ok-add.ensures.again c.if-branch.false c.in_ok-add.ensures.added c.loop-variable.invariant.rest;
  all =
      variable_added_step c.loop-variable.seen c.add.new.self (added c.args.seen.now (map variable_name c.args.variables.now)) c.args.variables.now c.loop-variable.variable-index c.variable-item.result c.as_slice.result.now
      c.loop-variable-test.true c.variable-item.is c.as_slice.ensures.value c.in_ok-add.ensures.added c.loop-variable.invariant.all;
  index = omega (arith, c.loop-variable.invariant.index);
}
