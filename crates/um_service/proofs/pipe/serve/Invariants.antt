use Rattle.std.proofs.Common.{◌≡◌, ◌+◌, ◌≤◌, length}
use Rattle.um_base.specs.declared.limits.TheConstants.{THREADS}
use Rattle.um_machine.specs.Services.{in_order, still_waiting}
use Rattle.um_machine.specs.Serving.{served}
use Rattle.um_service.specs.Sides.{served_on, side_served}
use Rattle.um_service.proofs.PipeLemmas.{SoFar}
use Rattle.um_service.proofs.pipe.serve.Given as goal

abbrev pub invariant-serving : goal.invariant-serving
invariant-serving l = record {
  so_far : SoFar (side_served l.fn.side l.fn.pipe.size (in_order (served (served_on l.fn.side) l.fn.waiters)) l.fn.pipe.bytes) (side_served l.fn.side l.fn.pipe.size (in_order (served (served_on l.fn.side) l.waiters)) l.pipe.bytes) l.woken;
  pipe : l.pipe ≡ record l.fn.pipe { bytes = l.pipe.bytes };
  waiting : l.waiters ≡ still_waiting l.woken l.fn.waiters;
  room : length l.woken + length (in_order (served (served_on l.fn.side) l.waiters)) ≤ THREADS;
}

abbrev pub decreases-serving : goal.decreases-serving
decreases-serving l = length (in_order (served (served_on l.fn.side) l.waiters))
