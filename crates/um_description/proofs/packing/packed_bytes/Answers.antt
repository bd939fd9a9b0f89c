use Rattle.um_description.proofs.PackingLemmas.{ends_step, bytes_step}
use Rattle.um_description.proofs.packing.packed_bytes.Goals as goal

pub loop-variable-preserved : goal.loop-variable-preserved
loop-variable-preserved c =
    let exact = ends_step c.args.variables.now c.loop-variable.variable-index c.loop-variable.end c.offset_behind-offset.result c.end_behind-end.result c.variable-item.result
    c.loop-variable-test.true c.variable-item.is c.offset_behind-offset.ensures c.end_behind-end.ensures c.loop-variable.invariant.fits in
    record {
      rest =
          bytes_step c.args.variables.now c.loop-variable.variable-index c.loop-variable.end c.offset_behind-offset.result c.end_behind-end.result c.loop-variable.bytes.items c.add_data.new.bytes.items _ c.variable-item.result
          c.loop-variable-test.true c.variable-item.is exact.0 exact.1 c.in_ok-add_data.ensures c.loop-variable.invariant.rest;
      fits = exact.2;
    }
