use Rattle.std.proofs.Common.{◌*◌}
use Rattle.um_gen.specs.Description.{drawn_line}
use Rattle.um_gen.specs.Pieces.{Writes, each}
use Rattle.um_gen.proofs.writer.Writer.put_lines.Given as goal

abbrev pub invariant-loop : goal.invariant-loop
invariant-loop l = Writes l.fn.self l.self (each (λ line. drawn_line l.i) l.counter) (50 * l.counter)
