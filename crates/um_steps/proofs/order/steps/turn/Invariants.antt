use Rattle.std.proofs.Common.{◌≡◌, ◌≤◌, drop, length}
use Rattle.um_steps.proofs.order.steps.turn.Given as goal

abbrev pub invariant-loop-i : goal.invariant-loop-i
invariant-loop-i l = record {
  within : l.i ≤ length l.steps;
  so_far : l.pending ≡ drop l.i l.steps;
}

abbrev pub decreases-loop-i : goal.decreases-loop-i
decreases-loop-i l = l.i
