use Rattle.std.proofs.Common.{◌≤◌, ◌+◌, ◌-◌, length, vec_capacity}
use Rattle.um_question.specs.Asked.{is_met}
use Rattle.um_trace.specs.declared.lines.TheConstants.{LINE_ROOM, THREADS_ROOM}
use Rattle.um_explore.specs.Ends.{AreWays}
use Rattle.um_explore.specs.Met.{AreDone, AreLayered, AreMet, AreRooms, IsNear}
use Rattle.um_explore.proofs.ending.find_ways.Given as goal

abbrev pub invariant-loop-k : goal.invariant-loop-k
invariant-loop-k l = record {
  line : LINE_ROOM ≤ vec_capacity l.room;
  room : THREADS_ROOM ≤ vec_capacity l.room;
  more : vec_capacity l.fn.room ≤ vec_capacity l.room;
  are : AreMet l.asked.image.now l.met.links.items;
  rooms : AreRooms l.asked.image.now l.rooms;
  layered : AreLayered l.met.links.items;
  near : IsNear l.met.links.items l.k;
  few : length l.met.links.items ≤ l.asked.most;
  within : l.k ≤ length l.met.links.items + 1;
  done : AreDone l.asked.image.now (is_met l.asked.image.now l.asked.question.now) l.met.links.items l.k;
  known : AreWays l.asked.image.now l.met.links.items l.k l.ways.ways.items;
}

abbrev pub decreases-loop-k : goal.decreases-loop-k
decreases-loop-k l = l.asked.most + 2 - l.k
