-- A processor's place at a board, and what its calls tell, as one value.
use Rattle.std.specs.Prelude.{◌≡◌, ℕ, ◌<◌, length, Option, Some, MatchOption, ◌∷◌}
use Rattle.um_base.specs.declared.image.Image.{Image}
use Rattle.um_fine.specs.Cells.{Cell}
use Rattle.um_fine.specs.Steps.{FineStep}
use Rattle.um_site.specs.Tells.{last_got}
use Rattle.um_board.specs.Contents.{known}
use Rattle.um_board.specs.Kept.{HasRoom}
use Rattle.um_board.specs.Saw.{Got, Hinders, SawAt, SawCell}
use Rattle.um_board.specs.Seated.{Noted, Unnoted}
use Rattle.um_board.specs.Turned.{InTurn, IsPlaced}
use Rattle.um_board.specs.declared.seated.Seated.{Seated}
use Rattle.um_board.specs.declared.seated.Turn.{Turn}

-- it is at a board of the image
abbrev pub IsAt : Image → Seated → Type 0
IsAt image s = IsPlaced image s.board.now.table.shared.table_id s.cells.now s.rodata.now s.seat s.log.room

-- it has the turn of the cell at this site, with this word, this count of steps, and these contents
abbrev pub HasTurnAt : Image → Seated → ℕ → ℕ → ℕ → Cell → Type 0
HasTurnAt image s site word number cell =
    InTurn image s.board.now.table.shared.table_id s.cells.now s.rodata.now s.seat s.log.room site word number cell

-- from the one to the other it has made this step, or none
abbrev pub HasMadeThere : Seated → FineStep → Seated → Type 0
HasMadeThere s e t = Noted s.seat s.log.items e t.seat t.log.items

abbrev pub HasMadeNone : Seated → Seated → Type 0
HasMadeNone s t = Unnoted s.seat s.log.items t.seat t.log.items

-- it has no turn, and saw why it made no step at this site
abbrev pub WasHindered : Image → Seated → ℕ → Seated → Type 0
WasHindered image s site t = IsAt image t × Hinders s.log.room s.log.items s.seat t.seat site

-- it has looked at this site, where this word stood, and has room to note a step
pub record HasSeen (s : Seated) (site : ℕ) (t : Seated) (word : ℕ) : Type 0 where
  pub free : length t.log.items < t.log.room
  pub got : t.seat.token.me.0.got ≡ (site, word) ∷ s.seat.token.me.0.got
  pub last : last_got t.seat.token.me.0.got site ≡ Some word
  pub saw : SawAt s.seat site word
  pub log : t.log ≡ s.log

-- it has the turn of the cell at this site, as it saw the cell, with the room that there is for marks, and room to note a step
pub record HasTaken (image : Image) (s : Seated) (site word number : ℕ) (cell : Cell) (room : Option ℕ) (t : Seated) : Type 0 where
  pub turn : HasTurnAt image t site word number cell
  pub free : length t.log.items < t.log.room
  pub got : Got s.seat t.seat site word
  pub saw : SawCell s.seat site word (known image cell)
  pub marks : HasRoom image room

-- what comes of asking for that turn: the turn with what the cell keeps, or none
abbrev pub AsksTurn : {K : Type 0} → (K → Cell) → (K → Option ℕ) → Image → Seated → ℕ → Option (Turn K × K) → Seated → Type 0
AsksTurn cell_of room_of image s site result t =
    MatchOption result (WasHindered image s site t) (λ x. (x.1 ≡ x.0.before.value) × HasTaken image s site x.0.word x.0.number (cell_of x.0.before.value) (room_of x.0.before.value) t)
