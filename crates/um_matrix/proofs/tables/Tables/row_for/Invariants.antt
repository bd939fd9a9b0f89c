use Rattle.std.proofs.Common.{◌≡◌, ◌<◌, ℕ}
use Rattle.um_machine.specs.Table.{act_of}
use Rattle.um_machine.specs.Run.{MayChoose}
use Rattle.um_matrix.proofs.tables.Tables.row_for.Given as goal

abbrev pub invariant-loop-x : goal.invariant-loop-x
invariant-loop-x l = (x : ℕ) → x < l.x → MayChoose l.self l.t x l.step → l.act ≡ act_of l.self l.t x l.step → ⊥
