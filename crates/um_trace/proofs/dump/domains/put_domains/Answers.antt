use Rattle.um_trace.specs.Dump.{domain_line}
use Rattle.um_trace.proofs.LineLemmas.{puts_none, puts_more}
use Rattle.um_trace.proofs.dump.domains.put_domains.Goals as goal

pub loop-domain-init : goal.loop-domain-init
loop-domain-init g c = puts_none (domain_line c.args.image.now (g.D.Dumped.state c.args.last.now)) 640 c.args.room.now

pub loop-domain-preserved : goal.loop-domain-preserved
loop-domain-preserved g c = puts_more (domain_line c.args.image.now (g.D.Dumped.state c.args.last.now)) 640 c.loop-domain.domain _ _ _ c.loop-domain.invariant c.put_domain_line.ensures
