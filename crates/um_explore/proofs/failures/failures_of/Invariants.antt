use Rattle.std.proofs.Common.{◌≡◌, take}
use Rattle.um_explore.specs.Failures.{failures}
use Rattle.um_explore.proofs.failures.failures_of.Given as goal

abbrev pub invariant-loop-event : goal.invariant-loop-event
invariant-loop-event l = l.failures ≡ failures (take l.event-index l.events)
