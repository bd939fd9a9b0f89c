-- An object that is lent out of the table.
use Rattle.std.specs.Prelude.{ℕ, List, slice_set}
use Rattle.std.specs.Borrow.{Lends, MutBor, Fml}
use Rattle.um_machine.specs.declared.object.Object.{Object}
use Rattle.um_machine.specs.contracts.object.Object.{the_row as object_row}
use Rattle.um_matrix.specs.contracts.object_table.ObjectTable.{the_row}

-- the row ends with what was written last
abbrev pub LendsRow : MutBor (List Object) → ℕ → MutBor Object → Fml
LendsRow t x r = Lends the_row object_row t r (slice_set t.now x)
