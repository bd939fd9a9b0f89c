use Rattle.std.proofs.Common.{take}
use Rattle.um_trace.specs.Room.{Puts}
use Rattle.um_trace.proofs.room.put_each.Given as goal

abbrev pub invariant-loop-byte : goal.invariant-loop-byte
invariant-loop-byte l = Puts l.fn.room l.room (take l.byte-index l.piece) l.byte-index
