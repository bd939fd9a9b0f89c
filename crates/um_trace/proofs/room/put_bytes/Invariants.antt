use Rattle.std.proofs.Common.{◌*◌, take}
use Rattle.std.specs.List.{flat_map}
use Rattle.um_trace.specs.Digits.{hex2}
use Rattle.um_trace.specs.Room.{Puts}
use Rattle.um_trace.proofs.room.put_bytes.Given as goal

abbrev pub invariant-loop-byte : goal.invariant-loop-byte
invariant-loop-byte l = Puts l.fn.room l.room (flat_map hex2 (take l.byte-index l.bytes)) (2 * l.byte-index)
