use Rattle.std.proofs.Common.{◌*◌}
use Rattle.um_gen.specs.Description.{script}
use Rattle.um_gen.specs.Pieces.{Writes, each}
use Rattle.um_gen.proofs.writer.Writer.put_scripts.Given as goal

abbrev pub invariant-loop-i : goal.invariant-loop-i
invariant-loop-i l = Writes l.fn.self l.self (each script l.i) (1700 * l.i)
