use Rattle.std.proofs.Common.{arith, sym, ◌∙◌}
use Rattle.um_description.proofs.AgainLemmas.{futex_step, futex_here}
use Rattle.um_description.proofs.duplicates.futexes_again.Goals as goal

pub loop-futex-preserved : goal.loop-futex-preserved
loop-futex-preserved c = record {
  rest =
      futex_step c.loop-futex.names c.loop-futex.spots c.futex_found.new.names c.futex_found.new.spots c.args.futexes.now c.loop-futex.index c.loop-futex.futex-index c.futex-item.result c.in_ok-found.found _
      c.loop-futex-test.true c.futex-item.is c.in_ok-found.ensures.found (sym c.is_some.ensures ∙ c.if-is_some.false) c.in_ok-found.ensures.names c.in_ok-found.ensures.spots c.loop-futex.invariant.rest;
  index = omega (arith, c.loop-futex.invariant.index);
}

pub returns-then-is_some : goal.returns-then-is_some
returns-then-is_some c =
    futex_here c.loop-futex.names c.loop-futex.spots c.args.futexes.now c.loop-futex.index c.loop-futex.futex-index c.futex-item.result c.in_ok-found.found _
    c.loop-futex-test.true c.futex-item.is c.in_ok-found.ensures.found (sym c.is_some.ensures ∙ c.if-is_some.true) c.loop-futex.invariant.rest
