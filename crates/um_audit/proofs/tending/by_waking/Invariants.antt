use Rattle.std.proofs.Common.{ℕ, ◌<◌, ◌≤◌, vec_capacity}
use Rattle.um_machine.specs.declared.pending.Pending.TheVariants as Pending
use Rattle.um_machine.specs.Order.{to_thread}
use Rattle.um_trace.specs.declared.lines.TheConstants.{LINE_ROOM}
use Rattle.um_audit.specs.Steps.{SaysNotLine}
use Rattle.um_audit.proofs.tending.by_waking.Given as goal

abbrev pub invariant-loop-who : goal.invariant-loop-who
invariant-loop-who l = record {
  room : LINE_ROOM ≤ vec_capacity l.room;
  more : vec_capacity l.fn.room ≤ vec_capacity l.room;
  times : (w : ℕ) → w < l.who → SaysNotLine l.image l.line l.tables l.t (Pending.TimeOut (to_thread w));
  cuts : (w : ℕ) → w < l.who → SaysNotLine l.image l.line l.tables l.t (Pending.Cut (to_thread w));
}
