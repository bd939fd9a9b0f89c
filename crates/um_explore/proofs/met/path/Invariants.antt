use Rattle.std.proofs.Common.{◌≤◌, List, ◌++◌, length, reverse}
use Rattle.um_base.specs.declared.act.Event.{Event}
use Rattle.um_explore.specs.Met.{PathTo}
use Rattle.um_explore.proofs.met.path.Given as goal

abbrev pub invariant-loop-at : goal.invariant-loop-at
invariant-loop-at l = record {
  within : l.at ≤ length l.links;
  path : (before : List Event) → PathTo l.links l.at before → PathTo l.links l.k (before ++ reverse l.events.items);
}

abbrev pub decreases-loop-at : goal.decreases-loop-at
decreases-loop-at l = l.at
