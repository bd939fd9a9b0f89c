use Rattle.std.proofs.Common.{◌*◌}
use Rattle.std.specs.List.{flat_map}
use Rattle.um_trace.specs.Dump.{numbers, domain_line}
use Rattle.um_trace.specs.Room.{Puts}
use Rattle.um_trace.proofs.dump.domains.put_domains.Given as goal

abbrev pub invariant-loop-domain : goal.invariant-loop-domain
invariant-loop-domain g l = Puts l.fn.room l.room (flat_map (domain_line l.image (g.D.Dumped.state l.last)) (numbers l.domain)) (640 * l.domain)
