use Rattle.std.proofs.Common.{◌≡◌, ◌≤◌, take}
use Rattle.um_trace.specs.Summary.{events_that}
use Rattle.um_trace.proofs.summary.events.events_that.Given as goal

abbrev pub invariant-loop-event : goal.invariant-loop-event
invariant-loop-event l = record {
  value : l.count ≡ events_that l.counted (take l.event-index l.events);
  few : l.count ≤ l.event-index;
}
