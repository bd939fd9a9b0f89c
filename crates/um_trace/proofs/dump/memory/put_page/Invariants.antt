use Rattle.std.proofs.Common.{◌*◌}
use Rattle.std.specs.List.{flat_map, range_with_len}
use Rattle.um_trace.specs.Dump.{block_line}
use Rattle.um_trace.specs.Room.{Puts}
use Rattle.um_trace.proofs.dump.memory.put_page.Given as goal

abbrev pub invariant-loop-k : goal.invariant-loop-k
invariant-loop-k l = Puts l.fn.room l.room (flat_map (block_line l.area l.bytes) (range_with_len l.first l.k)) (83 * l.k)
