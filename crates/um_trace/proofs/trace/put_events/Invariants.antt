use Rattle.std.proofs.Common.{take}
use Rattle.std.specs.List.{flat_map, sum_by}
use Rattle.um_trace.specs.Acts.{event_line}
use Rattle.um_trace.specs.Room.{Puts}
use Rattle.um_trace.specs.Text.{line_room}
use Rattle.um_trace.proofs.trace.put_events.Given as goal

abbrev pub invariant-loop-event : goal.invariant-loop-event
invariant-loop-event l = Puts l.fn.room l.room (flat_map (event_line l.image) (take l.event-index l.events)) (sum_by line_room (take l.event-index l.events))
