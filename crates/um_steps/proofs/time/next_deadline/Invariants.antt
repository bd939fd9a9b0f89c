use Rattle.std.proofs.Common.{◌≡◌, ◌≤◌, drop, length}
use Rattle.um_machine.specs.Time.{next_deadline}
use Rattle.um_steps.proofs.time.next_deadline.Given as goal

abbrev pub invariant-loop-i : goal.invariant-loop-i
invariant-loop-i l = record {
  within : l.i ≤ length l.armed;
  next : l.next ≡ next_deadline l.now (drop l.i l.armed);
}

abbrev pub decreases-loop-i : goal.decreases-loop-i
decreases-loop-i l = l.i
