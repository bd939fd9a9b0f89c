use Rattle.std.proofs.Common.{◌*◌}
use Rattle.std.specs.List.{flat_map}
use Rattle.um_trace.specs.Dump.{numbers, block_line}
use Rattle.um_trace.specs.Room.{Puts}
use Rattle.um_trace.proofs.dump.memory.put_area.Given as goal

abbrev pub invariant-loop-page : goal.invariant-loop-page
invariant-loop-page l = Puts l.fn.room l.room (flat_map (block_line l.area l.bytes) (numbers (32 * l.page))) (83 * (32 * l.page))
