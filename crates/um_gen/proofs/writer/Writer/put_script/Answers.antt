use Rattle.std.proofs.Common.{arith}
use Rattle.um_gen.specs.Description.{script}
use Rattle.um_gen.proofs.WriteLemmas.{writes_last, writes_then, writes_within}
use Rattle.um_gen.proofs.writer.Writer.put_script.Goals as goal

pub returns : goal.returns
unfolding script
returns c = writes_within (writes_then _ _ c.put.ensures (writes_then _ _ c.put_number.ensures (writes_then _ _ c.put-2.ensures (writes_then _ _ c.put-3.ensures (writes_then _ _ c.put_lines.ensures (writes_last c.put-4.ensures)))))) (omega arith)
