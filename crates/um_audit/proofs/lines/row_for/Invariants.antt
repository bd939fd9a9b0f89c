use Rattle.std.proofs.Common.{ℕ, ◌<◌, ◌≤◌, vec_capacity}
use Rattle.um_trace.specs.declared.lines.TheConstants.{LINE_ROOM}
use Rattle.um_audit.specs.Steps.{SaysLine}
use Rattle.um_audit.proofs.lines.row_for.Given as goal

abbrev pub invariant-loop-x : goal.invariant-loop-x
invariant-loop-x l = record {
  room : LINE_ROOM ≤ vec_capacity l.room;
  more : vec_capacity l.fn.room ≤ vec_capacity l.room;
  none : (x : ℕ) → x < l.x → SaysLine l.image l.line l.tables l.t l.step x → ⊥;
}
