use Rattle.std.proofs.Common.{◌≡◌, drop}
use Rattle.um_matrix.specs.Worked.{threads_woken}
use Rattle.um_matrix.proofs.tables.waiting.wake.Given as goal

abbrev pub invariant-loop-i : goal.invariant-loop-i
invariant-loop-i l = threads_woken (drop l.i l.woken) l.threads ≡ threads_woken l.woken l.fn.threads
