use Rattle.std.proofs.Common.{◌≡◌, ◌<◌, ℕ, false}
use Rattle.um_machine.specs.Run.{is_free_for}
use Rattle.um_matrix.proofs.tables.Tables.none_is_free.Given as goal

abbrev pub invariant-loop-x : goal.invariant-loop-x
invariant-loop-x l = (x : ℕ) → x < l.x → is_free_for l.self l.kind x ≡ false
