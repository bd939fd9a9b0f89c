use Rattle.std.proofs.Common.{◌≡◌, ◌++◌, drop, length}
use Rattle.um_fine.specs.Opening.{indexed}
use Rattle.um_tables.specs.Parked.{resting}
use Rattle.um_tables.proofs.scheduler.all_resting.Given as goal

abbrev pub invariant-loop-t : goal.invariant-loop-t
invariant-loop-t l = record {
  items : l.all.items ++ indexed resting l.t (drop l.t l.threads) ≡ indexed resting 0 l.threads;
  long : length l.all.items ≡ l.t;
}
