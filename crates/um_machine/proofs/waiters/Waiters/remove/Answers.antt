use Rattle.std.proofs.Common.{take, arith, ◌∙◌}
use Rattle.um_base.specs.declared.limits.TheConstants.{THREADS}
use Rattle.um_machine.proofs.WaiterLemmas.{AreWaiters-without}
use Rattle.um_machine.proofs.waiters.Waiters.remove.Goals as goal

pub invariant_of-self : goal.invariant_of-self
invariant_of-self c =
    let self = c.self.inside in (
      omega arith,
      c.leave_out-self-inside.ensures.long ∙ c.self.invariant.1,
      rw c.leave_out-self-inside.ensures.left (AreWaiters-without THREADS c.args.thread.0 (take self.len self.items) c.self.invariant.2),
    )
