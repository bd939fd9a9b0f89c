use Rattle.std.proofs.Common.{◌≡◌, ◌≤◌, drop, length}
use Rattle.std.specs.Prelude.{filter}
use Rattle.um_fine.specs.Clock.{deadlines}
use Rattle.um_machine.specs.Time.{next_deadline}
use Rattle.um_tables.specs.Timed.{not_given}
use Rattle.um_tables.proofs.clock.next_deadline.Given as goal

abbrev pub invariant-loop-k : goal.invariant-loop-k
invariant-loop-k l = record {
  within : l.k ≤ length l.ungiven;
  next : l.next ≡ next_deadline l.now (deadlines (drop l.k (filter not_given l.marks)));
}

abbrev pub decreases-loop-k : goal.decreases-loop-k
decreases-loop-k l = l.k
