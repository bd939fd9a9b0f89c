-- A processor's seat at a board: what it has to know for a step, and what a step leaves of its list and of the processor's log.
use Rattle.std.specs.Prelude.{◌≡◌, ℕ, Bool, List, [], ◌∷◌, ◌++◌, None}
use Rattle.atomic_table.specs.Seated.{TableId}
use Rattle.um_base.specs.declared.image.Image.{Image}
use Rattle.um_site.specs.declared.seat.Seat.{Seat}
use Rattle.um_cell.specs.declared.cells.Cells.{Cells}
use Rattle.um_cell.specs.Contents.{KnowsFilled}
use Rattle.um_words.specs.declared.made.Made.{Made}
use Rattle.um_fine.specs.Steps.{FineStep}
use Rattle.um_merge.specs.declared.logged.Logged.{Logged}
use Rattle.um_board.specs.Contents.{Known}
use Rattle.um_board.specs.Noted.{logged_of, made_of}
use Rattle.um_board.specs.ReadBack.{IsReadBack}

-- how many words a board has: 128 of rows, 32 of threads, 8 of domains, and 141 of cells from site 168 on
abbrev pub WORDS : ℕ
WORDS = 309

abbrev pub FIRST_CELL : ℕ
FIRST_CELL = 168

abbrev pub CELLS : ℕ
CELLS = 141

-- The seat is at this board of the image, has no turn, and knows that all cells have their contents.
pub record IsSeated (image : Image) (board : TableId) (cells : Cells Known) (seat : Seat Known) : Type 0 where
  pub here : seat.token.table_id ≡ board
  pub words : board.words ≡ WORDS
  pub first : cells.first ≡ FIRST_CELL
  pub count : cells.count ≡ CELLS
  pub filled : KnowsFilled cells seat.token.me.0
  pub image_is : seat.token.me.0.image ≡ image
  pub idle : seat.token.me.0.turn ≡ None
  pub empty : seat.token.me.1 ≡ []

-- What stays of a seat: its place at a board, its counts, the board's image, its name, the seats that it has split off and joined, and the
-- cells that it knows as filled.
pub record KeptPlace : Type 0 where
  pub board : TableId
  pub place : ℕ
  pub split : ℕ
  pub joined : ℕ
  pub first : Bool
  pub image : Image
  pub opening : List ℕ
  pub name : List ℕ
  pub splits : ℕ
  pub children : List (List ℕ)
  pub lists : List (List ℕ × List Made)
  pub filled : List ℕ

abbrev pub place_of : Seat Known → KeptPlace
place_of s = record {
  board = s.token.table_id;
  place = s.token.id;
  split = s.split;
  joined = s.joined;
  first = s.first;
  image = s.token.me.0.image;
  opening = s.token.me.0.opening;
  name = s.token.me.0.name;
  splits = s.token.me.0.splits;
  children = s.token.me.0.children;
  lists = s.token.me.0.joined;
  filled = s.token.me.0.filled;
}

abbrev pub KeepsPlace : Seat Known → Seat Known → Type 0
KeepsPlace s t = place_of t ≡ place_of s

-- The step was made: it stands after the others in the seat's list and in the log, its word was left last at its site, and it can be read back from there.
pub record Noted (s : Seat Known) (old : List Logged) (e : FineStep) (t : Seat Known) (new : List Logged) : Type 0 where
  pub keeps : KeepsPlace s t
  pub made : t.token.me.0.made ≡ s.token.me.0.made ++ made_of e ∷ []
  pub log : new ≡ old ++ logged_of e ∷ []
  pub back : IsReadBack e
  pub got : (looked : List (ℕ × ℕ)) × (t.token.me.0.got ≡ ((made_of e).site, (made_of e).word) ∷ looked ++ s.token.me.0.got)

-- No step was made: the seat has at most looked.
pub record Unnoted (s : Seat Known) (old : List Logged) (t : Seat Known) (new : List Logged) : Type 0 where
  pub keeps : KeepsPlace s t
  pub made : t.token.me.0.made ≡ s.token.me.0.made
  pub log : new ≡ old
  pub got : (looked : List (ℕ × ℕ)) × (t.token.me.0.got ≡ looked ++ s.token.me.0.got)
