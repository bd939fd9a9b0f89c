use Rattle.std.proofs.Common.{arith, map, sym, ◌∙◌}
use Rattle.um_description.specs.Duplicates.{added}
use Rattle.um_description.proofs.AgainLemmas.{domain_step, domain_here, domain_added_step, domain_name}
use Rattle.um_description.proofs.duplicates.domain_again.Goals as goal

pub loop-domain-preserved : goal.loop-domain-preserved
loop-domain-preserved c = record {
  rest =
      domain_step c.loop-domain.seen c.domain_found.new.seen c.args.domains.now c.loop-domain.index c.loop-domain.domain-index c.domain-item.result c.in_ok-found.found _
      c.loop-domain-test.true c.domain-item.is c.in_ok-found.ensures.found (sym c.is_some.ensures ∙ c.if-is_some.false) c.in_ok-found.ensures.added c.loop-domain.invariant.rest;
  all =
      domain_added_step c.loop-domain.seen c.domain_found.new.seen (added c.args.seen.now (map domain_name c.args.domains.now)) c.args.domains.now c.loop-domain.domain-index c.domain-item.result
      c.loop-domain-test.true c.domain-item.is c.in_ok-found.ensures.added c.loop-domain.invariant.all;
  index = omega (arith, c.loop-domain.invariant.index);
}

pub returns-then-is_some-clause-found : goal.returns-then-is_some-clause-found
returns-then-is_some-clause-found c =
    domain_here c.loop-domain.seen c.args.domains.now c.loop-domain.index c.loop-domain.domain-index c.domain-item.result c.in_ok-found.found _
    c.loop-domain-test.true c.domain-item.is c.in_ok-found.ensures.found (sym c.is_some.ensures ∙ c.if-is_some.true) c.loop-domain.invariant.rest
