use Rattle.um_trace.specs.Dump.{pool_line}
use Rattle.um_trace.proofs.LineLemmas.{puts_none, puts_more}
use Rattle.um_trace.proofs.dump.domains.put_pools.Goals as goal

pub loop-pool-init : goal.loop-pool-init
loop-pool-init g c = puts_none (pool_line c.args.image.now (g.D.Dumped.state c.args.last.now)) 64 c.args.room.now

pub loop-pool-preserved : goal.loop-pool-preserved
loop-pool-preserved g c = puts_more (pool_line c.args.image.now (g.D.Dumped.state c.args.last.now)) 64 c.loop-pool.pool _ _ _ c.loop-pool.invariant c.put_pool_line.ensures
