use Rattle.std.proofs.Common.{◌*◌}
use Rattle.std.specs.List.{sum_by}
use Rattle.um_gen.specs.Parts.{parts_piece, part_room}
use Rattle.um_gen.specs.Pieces.{Writes, each}
use Rattle.um_gen.proofs.writer.Writer.put_each.Given as goal

abbrev pub invariant-loop-number : goal.invariant-loop-number
invariant-loop-number l = Writes l.fn.self l.self (each (parts_piece l.parts) l.number) (sum_by part_room l.parts * l.number)
