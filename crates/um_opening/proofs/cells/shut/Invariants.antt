use Rattle.std.proofs.Common.{◌≡◌, ◌++◌, drop, length, take}
use Rattle.um_base.specs.declared.limits.TheConstants.{THREADS}
use Rattle.um_fine.specs.Opening.{indexed, is_shut_at}
use Rattle.um_opening.proofs.cells.shut.Given as goal

abbrev pub invariant-loop-t : goal.invariant-loop-t
invariant-loop-t l = record {
  so_far : take l.t l.shut ++ indexed (is_shut_at l.state) l.t (drop l.t l.state.threads) ≡ indexed (is_shut_at l.state) 0 l.state.threads;
  long : length l.shut ≡ THREADS;
}
