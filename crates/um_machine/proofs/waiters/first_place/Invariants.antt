use Rattle.std.proofs.Common.{◌≤◌, drop, filter, length}
use Rattle.um_machine.specs.Serving.{serves, IsFirstAt}
use Rattle.um_machine.proofs.waiters.first_place.Given as goal

abbrev pub invariant-loop-i : goal.invariant-loop-i
invariant-loop-i l = record {
  within : l.i ≤ length l.all;
  first : IsFirstAt l.all (filter (serves l.which) (drop l.i l.all)) l.first;
}

abbrev pub decreases-loop-i : goal.decreases-loop-i
decreases-loop-i l = l.i
