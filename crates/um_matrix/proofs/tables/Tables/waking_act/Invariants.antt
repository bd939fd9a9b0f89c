use Rattle.std.proofs.Common.{◌<◌, ℕ}
use Rattle.um_machine.specs.declared.pending.Pending.TheVariants as Pending
use Rattle.um_machine.specs.Order.{to_thread}
use Rattle.um_matrix.specs.Offered.{ChoosesNone}
use Rattle.um_matrix.proofs.tables.Tables.waking_act.Given as goal

abbrev pub invariant-loop-who : goal.invariant-loop-who
invariant-loop-who l = record {
  times : (w : ℕ) → w < l.who → ChoosesNone l.self l.t (Pending.TimeOut (to_thread w));
  cuts : (w : ℕ) → w < l.who → ChoosesNone l.self l.t (Pending.Cut (to_thread w));
}
