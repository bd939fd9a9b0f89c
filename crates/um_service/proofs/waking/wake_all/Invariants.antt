use Rattle.std.proofs.Common.{◌≡◌, ◌+◌, ◌≤◌, ◌++◌, length}
use Rattle.um_base.specs.declared.limits.TheConstants.{THREADS}
use Rattle.um_machine.specs.Services.{in_order}
use Rattle.um_machine.specs.Serving.{served, unserved}
use Rattle.um_service.proofs.WakingLemmas.{failed}
use Rattle.um_service.proofs.waking.wake_all.Given as goal

abbrev pub invariant-waiting : goal.invariant-waiting
invariant-waiting l = record {
  woken : l.woken ++ failed l.fn.error (in_order (served l.which l.waiters)) ≡ failed l.fn.error (in_order (served l.which l.fn.waiters));
  room : length l.woken + length (in_order (served l.which l.waiters)) ≤ THREADS;
  others : unserved l.which l.waiters ≡ unserved l.which l.fn.waiters;
}

abbrev pub decreases-waiting : goal.decreases-waiting
decreases-waiting l = length (in_order (served l.which l.waiters))
