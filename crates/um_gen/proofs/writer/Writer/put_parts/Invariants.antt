use Rattle.um_gen.proofs.PartLemmas.{PutSoFar}
use Rattle.um_gen.proofs.writer.Writer.put_parts.Given as goal

abbrev pub invariant-loop-part : goal.invariant-loop-part
invariant-loop-part l = PutSoFar l.parts l.number l.fn.self l.self l.part-index
