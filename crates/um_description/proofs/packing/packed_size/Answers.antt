use Rattle.std.proofs.Common.{ap, sym, ◌∙◌}
use Rattle.um_description.specs.Numbers.{bounded}
use Rattle.um_description.proofs.PackingLemmas.{size_step, bounded_again}
use Rattle.um_description.proofs.packing.packed_size.Goals as goal

pub loop-variable-preserved : goal.loop-variable-preserved
loop-variable-preserved c = record {
  rest =
      size_step c.args.variables.now c.loop-variable.variable-index c.loop-variable.end c.offset_behind.result c.end_behind-end.result _ c.variable-item.result
      c.loop-variable-test.true c.variable-item.is c.offset_behind.ensures c.end_behind-end.ensures c.loop-variable.invariant.rest;
  small = ap bounded c.end_behind-end.ensures ∙ bounded_again _ ∙ sym c.end_behind-end.ensures;
}
