use Rattle.std.proofs.Common.{◌<◌, ℕ}
use Rattle.um_base.specs.declared.names.ThreadIx.{ThreadIx}
use Rattle.um_machine.specs.declared.pending.Pending.TheVariants as Pending
use Rattle.um_machine.specs.Run.{MayChoose}
use Rattle.um_matrix.proofs.tables.Tables.cleaning_act.Given as goal

abbrev pub invariant-loop-x : goal.invariant-loop-x
invariant-loop-x l = record {
  pairs : (x : ℕ) → x < l.x → (who : ThreadIx) → MayChoose l.self l.t x (Pending.CleanPair who) → ⊥;
  objects : (x : ℕ) → x < l.x → MayChoose l.self l.t x Pending.Recycle → ⊥;
}
