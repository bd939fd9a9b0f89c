use Rattle.std.proofs.Common.{ℕ, ◌<◌, ◌≤◌, vec_capacity}
use Rattle.um_base.specs.declared.names.ThreadIx.{ThreadIx}
use Rattle.um_machine.specs.declared.pending.Pending.TheVariants as Pending
use Rattle.um_trace.specs.declared.lines.TheConstants.{LINE_ROOM}
use Rattle.um_audit.specs.Steps.{SaysLine}
use Rattle.um_audit.proofs.tending.by_pair.Given as goal

abbrev pub invariant-loop-x : goal.invariant-loop-x
invariant-loop-x l = record {
  room : LINE_ROOM ≤ vec_capacity l.room;
  more : vec_capacity l.fn.room ≤ vec_capacity l.room;
  none : (x : ℕ) → x < l.x → (who : ThreadIx) → SaysLine l.image l.line l.tables l.t (Pending.CleanPair who) x → ⊥;
}
