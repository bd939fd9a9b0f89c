use Rattle.std.proofs.Common.{ℕ, ◌<◌, ◌≤◌, vec_capacity}
use Rattle.um_machine.specs.declared.pending.Pending.TheVariants as Pending
use Rattle.um_machine.specs.Order.{to_thread}
use Rattle.um_trace.specs.declared.lines.TheConstants.{LINE_ROOM}
use Rattle.um_audit.specs.Steps.{SaysLine}
use Rattle.um_audit.proofs.tending.by_pair_at.Given as goal

abbrev pub invariant-loop-who : goal.invariant-loop-who
invariant-loop-who l = record {
  room : LINE_ROOM ≤ vec_capacity l.room;
  more : vec_capacity l.fn.room ≤ vec_capacity l.room;
  none : (who : ℕ) → who < l.who → SaysLine l.image l.line l.tables l.t (Pending.CleanPair (to_thread who)) l.x → ⊥;
}
