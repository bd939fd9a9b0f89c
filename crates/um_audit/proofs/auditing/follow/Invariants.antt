use Rattle.std.proofs.Common.{◌≤◌, length, vec_capacity}
use Rattle.um_trace.specs.declared.lines.TheConstants.{LINE_ROOM}
use Rattle.um_audit.specs.Progress.{IsAt}
use Rattle.um_audit.proofs.auditing.follow.Given as goal

abbrev pub invariant-loop-rest : goal.invariant-loop-rest
invariant-loop-rest l = record {
  room : LINE_ROOM ≤ vec_capacity l.room;
  at : IsAt l.image l.text l.rest l.lines l.matrix;
}

abbrev pub decreases-loop-rest : goal.decreases-loop-rest
decreases-loop-rest l = length l.rest
