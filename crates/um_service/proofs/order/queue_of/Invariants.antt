use Rattle.std.proofs.Common.{◌≡◌, ◌+◌, ◌≤◌, length, map, filter, drop}
use Rattle.um_machine.specs.Services.{in_order}
use Rattle.um_machine.specs.Serving.{serves}
use Rattle.um_service.specs.Preview.{queued}
use Rattle.um_service.proofs.order.queue_of.Given as goal

abbrev pub invariant-loop-i : goal.invariant-loop-i
invariant-loop-i l = record {
  so_far : l.queue.items ≡ map (queued l.which) (in_order (filter (serves l.which) (drop l.i l.all)));
  room : length l.queue.items + l.i ≤ length l.all;
}

abbrev pub decreases-loop-i : goal.decreases-loop-i
decreases-loop-i l = l.i
