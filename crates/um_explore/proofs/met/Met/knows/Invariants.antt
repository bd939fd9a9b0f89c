use Rattle.std.proofs.Common.{◌≡◌}
use Rattle.um_explore.proofs.met.Met.knows.Given as goal

abbrev pub invariant-loop-at : goal.invariant-loop-at
invariant-loop-at l = l.room.image ≡ l.image

abbrev pub decreases-loop-at : goal.decreases-loop-at
decreases-loop-at l = l.at
