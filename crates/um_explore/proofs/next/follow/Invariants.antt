use Rattle.std.proofs.Common.{◌+◌, ◌≤◌, length, vec_capacity}
use Rattle.um_trace.specs.declared.lines.TheConstants.{LINE_ROOM}
use Rattle.um_explore.specs.Questions.{IsFollowed}
use Rattle.um_explore.proofs.next.follow.Given as goal

abbrev pub invariant-loop-rest : goal.invariant-loop-rest
invariant-loop-rest l = record {
  room : LINE_ROOM ≤ vec_capacity l.room;
  more : vec_capacity l.fn.room ≤ vec_capacity l.room;
  few : l.count + length l.rest ≤ length l.text;
  so_far : IsFollowed l.image l.text l.rest l.count l.matrix;
}

abbrev pub decreases-loop-rest : goal.decreases-loop-rest
decreases-loop-rest l = length l.rest
