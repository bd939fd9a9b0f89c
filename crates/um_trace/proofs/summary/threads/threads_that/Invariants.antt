use Rattle.std.proofs.Common.{◌≡◌, ℕ, ◌≤◌}
use Rattle.std.specs.Prelude.{count_by}
use Rattle.um_trace.specs.Dump.{numbers, shown_thread}
use Rattle.um_trace.specs.Summary.{stands_so}
use Rattle.um_trace.proofs.summary.threads.threads_that.Given as goal

abbrev pub invariant-loop-row : goal.invariant-loop-row
invariant-loop-row g l = record {
  value : l.count ≡ count_by (λ (x : ℕ). stands_so l.shown (g.D.Dumped.state l.last) (shown_thread l.image (g.D.Dumped.state l.last) x)) (numbers l.row);
  few : l.count ≤ l.row;
}
