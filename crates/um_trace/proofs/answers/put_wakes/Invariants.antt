use Rattle.std.proofs.Common.{◌*◌, take}
use Rattle.std.specs.List.{flat_map}
use Rattle.um_trace.specs.Acts.{wake_text}
use Rattle.um_trace.specs.Room.{Puts}
use Rattle.um_trace.proofs.answers.put_wakes.Given as goal

abbrev pub invariant-loop-i : goal.invariant-loop-i
invariant-loop-i l = Puts l.fn.room l.room (flat_map (wake_text l.image) (take l.i l.woken)) (64 * l.i)
