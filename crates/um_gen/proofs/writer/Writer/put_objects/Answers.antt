use Rattle.std.proofs.Common.{arith}
use Rattle.um_gen.specs.Description.{objects, thread, semaphore, queue}
use Rattle.um_gen.proofs.WriteLemmas.{writes_last, writes_then, writes_within}
use Rattle.um_gen.proofs.writer.Writer.put_objects.Goals as goal

pub returns : goal.returns
unfolding objects thread semaphore queue
returns c = writes_within (writes_then _ _ c.put.ensures (writes_then _ _ c.put_each.ensures (writes_then _ _ c.put_each-2.ensures (writes_then _ _ c.put_each-3.ensures (writes_last c.put-2.ensures))))) (omega arith)
