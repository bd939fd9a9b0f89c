use Rattle.um_gen.proofs.PartLemmas.{put_at_first, put_more, room_for_next, put_all}
use Rattle.um_gen.proofs.writer.Writer.put_parts.Goals as goal

pub loop-part-init : goal.loop-part-init
loop-part-init c = put_at_first _ _ _

pub put_part-requires-clause-room : goal.put_part-requires-clause-room
put_part-requires-clause-room c = room_for_next _ _ _ _ c.loop-part.part-index _ c.loop-part-test.true c.loop-part.invariant c.requires.room

pub loop-part-preserved : goal.loop-part-preserved
loop-part-preserved c = put_more _ _ _ _ _ c.loop-part.part-index _ c.loop-part-test.true c.loop-part.invariant c.put_part.ensures

pub returns : goal.returns
returns c = put_all _ _ _ _ c.loop-part.part-index c.loop-part-test.false c.loop-part.invariant
