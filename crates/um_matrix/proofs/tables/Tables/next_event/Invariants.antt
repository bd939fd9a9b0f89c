use Rattle.std.proofs.Common.{◌<◌, ℕ}
use Rattle.um_matrix.specs.Offered.{IsIdle}
use Rattle.um_matrix.proofs.tables.Tables.next_event.Given as goal

abbrev pub invariant-loop-t : goal.invariant-loop-t
invariant-loop-t l = (t : ℕ) → t < l.t → IsIdle l.self t
