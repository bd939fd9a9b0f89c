use Rattle.std.proofs.Common.{arith}
use Rattle.std.proofs.lemmas.Bool.Decides.{nat_tests}
use Rattle.std.proofs.lemmas.List.Filters.{FiltersInPlace-more_no, FiltersInPlace-more_set}
use Rattle.um_machine.proofs.waiters.leave_out.Goals as goal
use Rattle.um_machine.proofs.waiters.leave_out.Goals.{then-waiter-thread, else-waiter-thread}

pub loop-i-preserved : goal.loop-i-preserved
loop-i-preserved c =
    elim c.if-waiter-thread.branch [
      | then-waiter-thread w ↦ rw (w.items-is, w.kept-is) (FiltersInPlace-more_set c.loop-i.invariant (omega arith) (grind (arith, nat_tests)) c.index-items-i.is)
      | else-waiter-thread w ↦ rw (w.items-is, w.kept-is) (FiltersInPlace-more_no c.loop-i.invariant (omega arith) (grind (arith, nat_tests)) c.index-items-i.is)
    ]
