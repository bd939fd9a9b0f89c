use Rattle.std.proofs.Common.{◌≡◌, ◌+◌, ◌≤◌, ◌++◌, length}
use Rattle.um_base.specs.declared.limits.TheConstants.{THREADS}
use Rattle.um_machine.specs.Services.{in_order, still_waiting}
use Rattle.um_service.specs.Awaits.{all_well}
use Rattle.um_service.proofs.awaited.wake_each.Given as goal

abbrev pub invariant-waiting : goal.invariant-waiting
invariant-waiting l = record {
  woken : l.woken ++ all_well (in_order l.those) ≡ all_well (in_order l.fn.those);
  room : length l.woken + length (in_order l.those) ≤ THREADS;
  left : l.waiters ≡ still_waiting l.woken l.fn.waiters;
}

abbrev pub decreases-waiting : goal.decreases-waiting
decreases-waiting l = length (in_order l.those)
