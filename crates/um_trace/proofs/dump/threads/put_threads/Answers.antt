use Rattle.um_trace.specs.Dump.{thread_line_of}
use Rattle.um_trace.proofs.LineLemmas.{puts_none, puts_more}
use Rattle.um_trace.proofs.dump.threads.put_threads.Goals as goal

pub loop-row-init : goal.loop-row-init
loop-row-init g c = puts_none (thread_line_of c.args.image.now (g.D.Dumped.state c.args.last.now)) 128 c.args.room.now

pub loop-row-preserved : goal.loop-row-preserved
loop-row-preserved g c = puts_more (thread_line_of c.args.image.now (g.D.Dumped.state c.args.last.now)) 128 c.loop-row.row _ _ _ c.loop-row.invariant c.put_line_of.ensures
