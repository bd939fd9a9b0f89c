use Rattle.std.proofs.Common.{◌≡◌, ◌≤◌, take, vec_capacity}
use Rattle.um_trace.specs.declared.lines.TheConstants.{LINE_ROOM}
use Rattle.um_explore.specs.Questions.{lines}
use Rattle.um_explore.proofs.next.lines_of.Given as goal

abbrev pub invariant-loop-event : goal.invariant-loop-event
invariant-loop-event l = record {
  room : LINE_ROOM ≤ vec_capacity l.room;
  so_far : l.text.items ≡ lines l.image (take l.event-index l.events);
}
