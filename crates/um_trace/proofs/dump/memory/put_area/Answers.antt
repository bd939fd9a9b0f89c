use Rattle.um_trace.specs.Dump.{block_line}
use Rattle.um_trace.proofs.LineLemmas.{puts_none}
use Rattle.um_trace.proofs.PageLemmas.{puts_page}
use Rattle.um_trace.proofs.dump.memory.put_area.Goals as goal

pub loop-page-init : goal.loop-page-init
loop-page-init c = puts_none (block_line c.args.area c.args.bytes.now) 83 c.args.room.now

pub loop-page-preserved : goal.loop-page-preserved
loop-page-preserved c = puts_page (block_line c.args.area c.args.bytes.now) 83 32 c.loop-page.page _ _ _ c.loop-page.invariant c.put_page.ensures
