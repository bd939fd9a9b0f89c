use Rattle.std.proofs.Common.{arith}
use Rattle.um_gen.specs.Description.{drawn_line}
use Rattle.um_gen.proofs.WriteLemmas.{writes_last, writes_then, writes_within, writes_none, writes_more}
use Rattle.um_gen.proofs.writer.Writer.put_lines.Goals as goal

pub loop-init : goal.loop-init
loop-init c = writes_none (λ line. drawn_line c.args.i) 50 c.args.self.now

pub loop-preserved : goal.loop-preserved
unfolding drawn_line
loop-preserved c =
    let line = writes_within (writes_then _ _ c.put.ensures (writes_then _ _ c.put_call.ensures (writes_last c.put-in-loop.ensures))) (omega arith) in
    writes_more (λ line. drawn_line c.args.i) 50 c.loop.counter _ _ _ c.loop.invariant line
