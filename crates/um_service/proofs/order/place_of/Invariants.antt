use Rattle.std.proofs.Common.{◌≡◌, ◌++◌, take, drop}
use Rattle.um_service.specs.Preview.{with_queued}
use Rattle.um_service.proofs.order.place_of.Given as goal

abbrev pub invariant-loop-i : goal.invariant-loop-i
invariant-loop-i l = with_queued l.one l.queue ≡ take l.i l.queue ++ with_queued l.one (drop l.i l.queue)
