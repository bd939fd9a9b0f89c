-- What a seat has to do with cells and their contents.
use Rattle.std.specs.Prelude.{◌≡◌, ℕ, ◌+◌, ◌<◌, ◌≤◌, List, Option}
use mathlib.Core.Option.{some}
use lib.ListN.{get_elem?}
use Rattle.atomic_table.specs.Table.{Me, rest}
use Rattle.atomic_table.specs.Seated.{TableId}
use Rattle.um_base.specs.declared.image.Image.{Image}
use Rattle.um_words.specs.Steps.{number}
use Rattle.um_words.specs.declared.made.Made.{Made}
use Rattle.um_site.specs.declared.seat.Seat.{Seat}
use Rattle.um_site.specs.declared.view.View.{View}
use Rattle.um_site.specs.Cells.{AmongCells}
use Rattle.um_site.specs.Tells.{recording, GoesOn}
use Rattle.um_cell.specs.declared.cells.Cells.{Cells}

abbrev pub IsCell : {T : Type 0} → Cells T → ℕ → Type 0
IsCell c i = (c.first ≤ i) × (i < c.first + c.count)

-- the seat is at this board, which has the cell, and the cell is one of these
abbrev pub AtCell : {T : Type 0} → TableId → Seat T → Cells T → ℕ → Type 0
AtCell board s cells i = (s.token.table_id ≡ board) × (i < board.words) × IsCell cells i

-- the seat knows that these cells have their contents
abbrev pub KnowsFilled : {T : Type 0} → Cells T → View → Type 0
KnowsFilled c v = (i : ℕ) → IsCell c i → AmongCells v.filled i

-- each of the contents opens its cell, the first one the cell at this site
abbrev pub Opens : {T : Type 0} → (Image → ℕ → T → Type 0) → Image → ℕ → List T → Type 0
Opens opens image first xs = (k : ℕ) (x : _) → get_elem? xs k ≡ some x → opens image (first + k) x

-- the seat has its name, the seats that it has split off, and the cells that it knows as filled
abbrev pub KeepsKin : View → View → Type 0
KeepsKin v w = (w.name ≡ v.name) × (w.children ≡ v.children) × (w.filled ≡ v.filled)

-- the seat keeps all but the words that it got, its turn and the cells that it knows as filled
abbrev pub SameView : View → View → Type 0
SameView v w =
    (w.image ≡ v.image) × (w.opening ≡ v.opening) × (w.name ≡ v.name) × (w.splits ≡ v.splits) × (w.made ≡ v.made) × (w.joined ≡ v.joined) × (w.children ≡ v.children) × (w.turn ≡ v.turn)

-- one step was recorded, with the number n, on the word of the take, which had the turn's bit
pub record HasPut {T : Type 0} (goes : Image → List ℕ → List Made → Made → Type 0) (me : Me (Option T) View) (word : ℕ) (m : Made) (n : ℕ) (me' : Me (Option T) View) : Type 0 where
  pub numbered : n ≡ number m.site m.word
  pub history : GoesOn goes me.0 m (word + 1)
  pub now : me'.0 ≡ recording me.0 m
  pub slots : me'.1 ≡ rest me.1
