use Rattle.std.proofs.Common.{◌≡◌, drop}
use Rattle.um_trace.specs.Dump.{asked_in}
use Rattle.um_trace.proofs.dump.standing.asked_in.Given as goal

abbrev pub invariant-loop-i : goal.invariant-loop-i
invariant-loop-i l = asked_in l.thread l.waiters ≡ asked_in l.thread (drop l.i l.waiters)
