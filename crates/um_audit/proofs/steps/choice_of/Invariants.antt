use Rattle.std.proofs.Common.{ℕ, ◌<◌, ◌≤◌, vec_capacity}
use Rattle.um_trace.specs.declared.lines.TheConstants.{LINE_ROOM}
use Rattle.um_audit.specs.Steps.{IsNoThreadsLine}
use Rattle.um_audit.proofs.steps.choice_of.Given as goal

abbrev pub invariant-loop-t : goal.invariant-loop-t
invariant-loop-t l = record {
  room : LINE_ROOM ≤ vec_capacity l.room;
  more : vec_capacity l.fn.room ≤ vec_capacity l.room;
  none : (t : ℕ) → t < l.t → IsNoThreadsLine l.image l.line t l.tables;
}
