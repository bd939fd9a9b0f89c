use Rattle.std.proofs.Common.{◌≡◌, ◌<◌, ℕ, get_or, length}
use Rattle.um_machine.specs.declared.thread.Thread.{Thread}
use Rattle.um_matrix.proofs.tables.same.take_threads.Given as goal

abbrev pub invariant-loop-t : goal.invariant-loop-t
invariant-loop-t l = record {
  long : length l.own ≡ length l.fn.own;
  same : (j : ℕ) → j < l.t → (d : Thread) → get_or l.own j d ≡ get_or l.other j d;
}
