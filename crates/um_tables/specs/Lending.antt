-- A cell that is lent out of the cells of all objects.
use Rattle.std.specs.Prelude.{ℕ, List, slice_set}
use Rattle.std.specs.Borrow.{Lends, MutBor, Fml}
use Rattle.um_tables.specs.declared.object_cell.ObjectCell.{ObjectCell}
use Rattle.um_tables.specs.contracts.object_cell.ObjectCell.{the_row as cell_row}
use Rattle.um_tables.specs.contracts.object_cells.ObjectCells.{the_row}

-- its row ends with what was written last
abbrev pub LendsCell : MutBor (List ObjectCell) → ℕ → MutBor ObjectCell → Fml
LendsCell cells x r = Lends the_row cell_row cells r (slice_set cells.now x)
