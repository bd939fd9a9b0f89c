use Rattle.std.proofs.Common.{◌*◌}
use Rattle.std.specs.List.{flat_map}
use Rattle.um_trace.specs.Dump.{numbers, thread_line_of}
use Rattle.um_trace.specs.Room.{Puts}
use Rattle.um_trace.proofs.dump.threads.put_threads.Given as goal

abbrev pub invariant-loop-row : goal.invariant-loop-row
invariant-loop-row g l = Puts l.fn.room l.room (flat_map (thread_line_of l.image (g.D.Dumped.state l.last)) (numbers l.row)) (128 * l.row)
