use Rattle.std.proofs.Common.{◌<◌, ℕ}
use Rattle.um_machine.specs.declared.pending.Pending.TheVariants as Pending
use Rattle.um_machine.specs.Order.{to_thread}
use Rattle.um_machine.specs.Run.{MayChoose}
use Rattle.um_matrix.proofs.tables.Tables.pair_to_clean.Given as goal

abbrev pub invariant-loop-who : goal.invariant-loop-who
invariant-loop-who l = (who : ℕ) → who < l.who → MayChoose l.self l.t l.x (Pending.CleanPair (to_thread who)) → ⊥
