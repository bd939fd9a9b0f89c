-- The text of a run: a line for each event, and the dump of the last state.
use Rattle.std.specs.Prelude.{ℕ, ◌+◌, ◌*◌, List, ◌++◌, length}
use Rattle.std.specs.List.{flat_map, sum_by}
use Rattle.um_base.specs.declared.act.Act.{Act}
use Rattle.um_base.specs.declared.act.Event.{Event}
use Rattle.um_base.specs.declared.image.Image.{Image}
use Rattle.um_machine.specs.State.{State}
use Rattle.um_trace.specs.Acts.{event_line}
use Rattle.um_trace.specs.Dump.{dump}

unfoldable pub text : Image → List Event → State → List ℕ
text image events last = flat_map (event_line image) events ++ dump image last

-- how many threads an act wakes
abbrev pub woken_by : Act → ℕ
woken_by (Act.Work addr answer woken) = length woken
woken_by (Act.Expire addr woken) = length woken
woken_by (Act.Left who woken) = length woken
woken_by (Act.FutexWake addr answer woken) = length woken
woken_by _ = 0

-- how many bytes an event's line has at most, and a dump, and a whole text
abbrev pub line_room : Event → ℕ
line_room event = 128 + 64 * woken_by event.act

abbrev pub dump_room : ℕ
dump_room = 3_000_000

unfoldable pub room_for : List Event → ℕ
room_for events = dump_room + sum_by line_room events
