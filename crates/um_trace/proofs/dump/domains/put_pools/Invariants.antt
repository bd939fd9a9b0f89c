use Rattle.std.proofs.Common.{◌*◌}
use Rattle.std.specs.List.{flat_map}
use Rattle.um_trace.specs.Dump.{numbers, pool_line}
use Rattle.um_trace.specs.Room.{Puts}
use Rattle.um_trace.proofs.dump.domains.put_pools.Given as goal

abbrev pub invariant-loop-pool : goal.invariant-loop-pool
invariant-loop-pool g l = Puts l.fn.room l.room (flat_map (pool_line l.image (g.D.Dumped.state l.last)) (numbers l.pool)) (64 * l.pool)
