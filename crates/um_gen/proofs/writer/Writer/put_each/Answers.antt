use Rattle.um_gen.specs.Parts.{parts_piece, part_room}
use Rattle.std.specs.List.{sum_by}
use Rattle.um_gen.proofs.WriteLemmas.{writes_none, writes_more}
use Rattle.um_gen.proofs.writer.Writer.put_each.Goals as goal

pub loop-number-init : goal.loop-number-init
loop-number-init c = writes_none (parts_piece c.args.parts.now) (sum_by part_room c.args.parts.now) c.args.self.now

pub loop-number-preserved : goal.loop-number-preserved
loop-number-preserved c = writes_more (parts_piece c.args.parts.now) (sum_by part_room c.args.parts.now) c.loop-number.number _ _ _ c.loop-number.invariant c.put_parts.ensures
