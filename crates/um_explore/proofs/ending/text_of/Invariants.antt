use Rattle.std.proofs.Common.{◌≤◌, vec_capacity}
use Rattle.um_trace.specs.declared.lines.TheConstants.{LINE_ROOM}
use Rattle.um_explore.proofs.EndLemmas.{AreListed}
use Rattle.um_explore.proofs.ending.text_of.Given as goal

abbrev pub invariant-loop-k : goal.invariant-loop-k
invariant-loop-k l = record {
  room : LINE_ROOM ≤ vec_capacity l.room;
  listed : AreListed l.image l.links l.ways.ways.items l.k l.text.items;
}
