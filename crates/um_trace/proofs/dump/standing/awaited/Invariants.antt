use Rattle.std.proofs.Common.{◌≡◌, drop}
use Rattle.std.specs.List.{list_any, position_from}
use Rattle.um_machine.specs.declared.object.Object.{Object}
use Rattle.um_trace.specs.Dump.{is_waiter, awaited}
use Rattle.um_trace.proofs.dump.standing.awaited.Given as goal

abbrev pub invariant-loop-x : goal.invariant-loop-x
invariant-loop-x g l = position_from (λ (o : Object). list_any (is_waiter l.thread) o.waiters) l.x (drop l.x (g.D.Dumped.state l.last).objects) ≡ awaited (g.D.Dumped.state l.last).objects l.thread
