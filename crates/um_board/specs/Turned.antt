-- A processor's place at a board, and there the turn of a cell with its contents.
use Rattle.std.specs.Prelude.{◌≡◌, ℕ, ◌<◌, ◌≤◌, List, [], None}
use Rattle.atomic_table.specs.Seated.{TableId}
use Rattle.atomic_table.specs.Table.{rest}
use Rattle.um_base.specs.Weight.{weight}
use Rattle.um_base.specs.declared.image.Image.{Image}
use Rattle.um_machine.specs.Memory.{rodata_of}
use Rattle.um_words.specs.declared.kind.CellKind.{CellKind}
use Rattle.um_words.specs.Packed.{cell_of}
use Rattle.um_words.specs.Steps.{cell_kind_at}
use Rattle.um_fine.specs.Cells.{Cell, cell_word}
use Rattle.um_fine.specs.Steps.{Site}
use Rattle.um_site.specs.declared.seat.Seat.{Seat}
use Rattle.um_site.specs.Tells.{HasTurn}
use Rattle.um_cell.specs.declared.cells.Cells.{Cells}
use Rattle.um_cell.specs.Contents.{KnowsFilled}
use Rattle.um_board.specs.Contents.{Follows, Known, Opens, known}
use Rattle.um_board.specs.Seated.{CELLS, FIRST_CELL, IsSeated, WORDS}

-- The seat is at this board of the image, whose read-only data these are; the log of its processor has room for more steps than a fine run can have.
pub record IsPlaced (image : Image) (board : TableId) (cells : Cells Known) (rodata : List ℕ) (seat : Seat Known) (most : ℕ) : Type 0 where
  pub seated : IsSeated image board cells seat
  pub rodata_is : rodata ≡ rodata_of image
  pub enough : weight image < most

abbrev pub kind_of : Cell → CellKind
kind_of (Cell.object o) = CellKind.Object
kind_of (Cell.parts d) = CellKind.Domain
kind_of (Cell.memory m) = CellKind.Memory
kind_of (Cell.heap h) = CellKind.Heap
kind_of (Cell.scheduler s) = CellKind.Scheduler
kind_of (Cell.clock c) = CellKind.Clock
kind_of (Cell.joins j) = CellKind.Join

-- the kind of the cell at a site
abbrev pub cell_kind : Site → CellKind
cell_kind (Site.object x) = CellKind.Object
cell_kind (Site.parts d) = CellKind.Domain
cell_kind Site.memory = CellKind.Memory
cell_kind Site.heap = CellKind.Heap
cell_kind Site.scheduler = CellKind.Scheduler
cell_kind Site.clock = CellKind.Clock
cell_kind Site.joins = CellKind.Join
cell_kind _ = CellKind.Unused

-- The same, but the seat has the turn of the cell at this site. The contents are of the site's kind, the word says how many steps the cell
-- has taken and counts what the contents count, and the cell can take one more step.
pub record InTurn (image : Image) (board : TableId) (cells : Cells Known) (rodata : List ℕ) (seat : Seat Known) (most site word number : ℕ) (cell : Cell) : Type 0 where
  pub here : seat.token.table_id ≡ board
  pub words : board.words ≡ WORDS
  pub first : cells.first ≡ FIRST_CELL
  pub count : cells.count ≡ CELLS
  pub filled : KnowsFilled cells seat.token.me.0
  pub image_is : seat.token.me.0.image ≡ image
  pub rodata_is : rodata ≡ rodata_of image
  pub enough : weight image < most
  pub low : FIRST_CELL ≤ site
  pub high : site < WORDS
  pub turn : HasTurn Opens Follows seat.token.me site word None (known image cell)
  pub rest_is : rest seat.token.me.1 ≡ []
  pub kind : kind_of cell ≡ cell_kind_at site
  pub says : cell_of word ≡ cell_word cell number
  pub room : number < 268435455
