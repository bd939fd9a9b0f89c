use Rattle.std.proofs.Common.{◌==◌, not}
use Rattle.std.proofs.lemmas.List.Filters.{FiltersInPlace}
use Rattle.um_base.specs.declared.ask.Waiter.{Waiter}
use Rattle.um_machine.proofs.waiters.leave_out.Given as goal

abbrev pub invariant-loop-i : goal.invariant-loop-i
invariant-loop-i l = FiltersInPlace (λ (w : Waiter). not (w.thread.0 == l.thread.0)) l.initial.items l.items l.kept l.i
