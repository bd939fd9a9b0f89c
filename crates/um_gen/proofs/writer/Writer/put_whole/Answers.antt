use Rattle.std.proofs.Common.{arith}
use Rattle.um_gen.specs.Description.{whole, boot}
use Rattle.um_gen.proofs.WriteLemmas.{writes_last, writes_then, writes_within}
use Rattle.um_gen.proofs.writer.Writer.put_whole.Goals as goal

pub returns : goal.returns
unfolding whole boot
returns c = writes_within (writes_then _ _ c.put_head.ensures (writes_then _ _ c.put_objects.ensures (writes_then _ _ c.put_each.ensures (writes_last c.put_scripts.ensures)))) (omega arith)
