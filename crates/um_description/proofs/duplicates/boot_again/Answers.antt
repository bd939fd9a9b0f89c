use Rattle.std.proofs.Common.{arith, sym, ◌∙◌}
use Rattle.um_description.proofs.AgainLemmas.{boot_step, boot_here}
use Rattle.um_description.proofs.duplicates.boot_again.Goals as goal

pub loop-boot-preserved : goal.loop-boot-preserved
loop-boot-preserved c = record {
  rest =
      boot_step c.loop-boot.threads c.loop-boot.stacks c.boot_found.new.threads c.boot_found.new.stacks c.args.boots.now c.loop-boot.index c.loop-boot.boot-index c.boot-item.result c.in_ok-found.found _
      c.loop-boot-test.true c.boot-item.is c.in_ok-found.ensures.found (sym c.is_some.ensures ∙ c.if-is_some.false) c.in_ok-found.ensures.threads c.in_ok-found.ensures.stacks c.loop-boot.invariant.rest;
  index = omega (arith, c.loop-boot.invariant.index);
}

pub returns-then-is_some : goal.returns-then-is_some
returns-then-is_some c =
    boot_here c.loop-boot.threads c.loop-boot.stacks c.args.boots.now c.loop-boot.index c.loop-boot.boot-index c.boot-item.result c.in_ok-found.found _
    c.loop-boot-test.true c.boot-item.is c.in_ok-found.ensures.found (sym c.is_some.ensures ∙ c.if-is_some.true) c.loop-boot.invariant.rest
