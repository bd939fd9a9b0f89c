use Rattle.std.proofs.Common.{◌≡◌, ◌+◌, ◌*◌, ◌≤◌, take}
use Rattle.std.specs.List.{sum_by}
use Rattle.um_base.specs.declared.limits.TheConstants.{THREADS}
use Rattle.um_trace.specs.declared.dump.TheConstants.{DUMP_ROOM}
use Rattle.um_trace.specs.Text.{line_room}
use Rattle.um_trace.proofs.trace.text_room.Given as goal

abbrev pub invariant-loop-event : goal.invariant-loop-event
invariant-loop-event l = record {
  value : l.most ≡ DUMP_ROOM + sum_by line_room (take l.event-index l.events);
  few : l.most ≤ DUMP_ROOM + (128 + 64 * THREADS) * l.event-index;
}
