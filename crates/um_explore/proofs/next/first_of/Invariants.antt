use Rattle.std.proofs.Common.{◌≡◌, ℕ, ◌<◌, ◌≤◌, List, ◌++◌, Some, slice_get, vec_capacity}
use Rattle.um_base.specs.declared.act.Event.{Event}
use Rattle.um_trace.specs.Acts.{event_line}
use Rattle.um_trace.specs.declared.lines.TheConstants.{LINE_ROOM}
use Rattle.um_explore.proofs.next.first_of.Given as goal

abbrev pub invariant-loop-event : goal.invariant-loop-event
invariant-loop-event l = record {
  room : LINE_ROOM ≤ vec_capacity l.room;
  more : vec_capacity l.fn.room ≤ vec_capacity l.room;
  none : (k : ℕ) → k < l.event-index → (event : Event) (more : List ℕ) → slice_get l.events k ≡ Some event → l.rest ≡ event_line l.image event ++ more → ⊥;
}
