use Rattle.std.proofs.Common.{◌≡◌, ◌<◌, ℕ, get_or}
use Rattle.um_machine.specs.declared.thread.Thread.{Thread}
use Rattle.um_matrix.proofs.tables.same.same_threads.Given as goal

abbrev pub invariant-loop-t : goal.invariant-loop-t
invariant-loop-t l = (j : ℕ) → j < l.t → (d : Thread) → get_or l.a j d ≡ get_or l.b j d
