-- What is kept in a cell of a board, as contents of a cell of the fine machine, and the room that there is for it.
use Rattle.std.specs.Prelude.{ℕ, ◌<◌, IfSome, None, Option, Some}
use Rattle.um_base.specs.Weight.{weight}
use Rattle.um_base.specs.declared.image.Image.{Image}
use Rattle.um_fine.specs.Cells.{Cell}
use Rattle.um_tables.specs.ObjectCells.{kept_in}
use Rattle.um_board.specs.declared.contents.Kept.{Kept}

-- the contents without the number of steps
abbrev pub cell_of : Kept → Cell
cell_of (Kept.Object object) = Cell.object (kept_in object)
cell_of (Kept.Parts domain) = Cell.parts domain.value.parts
cell_of (Kept.Memory memory) = Cell.memory memory.value
cell_of (Kept.Heap heap) = Cell.heap heap.value
cell_of (Kept.Scheduler scheduler) = Cell.scheduler scheduler.value
cell_of (Kept.Clock clock) = Cell.clock clock.value.clock
cell_of (Kept.Joins joins) = Cell.joins joins.value

-- for how many marks there is room, where a clock is kept
abbrev pub room_of : Kept → Option ℕ
room_of (Kept.Clock clock) = Some clock.value.most
room_of kept = None

-- where a clock is kept, there is room for more marks than the image's weight
abbrev pub HasRoom : Image → Option ℕ → Type 0
HasRoom image room = IfSome room (λ most. weight image < most)
