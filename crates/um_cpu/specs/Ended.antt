-- Processors at the seats of a board, of which the first one has split off the others, and what is left of them when they have ended.
use Rattle.std.specs.Prelude.{◌≡◌, ℕ, zero, suc, ◌+◌, ◌<◌, ◌≤◌, List, [], ◌∷◌, length, slice_index_or, None, true}
use Rattle.std.specs.Mem.Slots.{slots_items, slots_len}
use Rattle.atomic_table.specs.Seated.{TableId}
use Rattle.um_base.specs.declared.image.Image.{Image}
use Rattle.um_fine.specs.Processor.{idle}
use Rattle.um_fine.specs.Steps.{FineStep}
use Rattle.um_merge.specs.Logs.{Log}
use Rattle.um_merge.specs.Merged.{log_at}
use Rattle.um_merge.specs.declared.logged.Logged.{Logged}
use Rattle.um_processor.specs.Standing.{whole}
use Rattle.um_refinement.specs.Choice.{AreChosen}
use Rattle.um_words.specs.declared.made.Made.{Made}
use Rattle.um_site.specs.Cells.{AmongCells}
use Rattle.um_site.specs.History.{Among, shadow_of}
use Rattle.um_site.specs.declared.closed.Closed.{Closed}
use Rattle.um_site.specs.declared.seat.Seat.{Seat}
use Rattle.um_site.specs.declared.view.View.{View}
use Rattle.um_board.specs.Contents.{Known}
use Rattle.um_board.specs.NextSteps.{seat_name}
use Rattle.um_board.specs.Opening.{AreOpening}
use Rattle.um_board.specs.Turned.{IsPlaced}
use Rattle.um_history.specs.Played.{HasList, IsPlayed, Played, SawQuiet}
use Rattle.um_cpu.specs.Cpus.{HasMade}
use Rattle.um_cpu.specs.declared.cpu.Cpu.{Cpu}

-- the names of the first seats that the first one splits off, the last of them first
abbrev pub first_names : ℕ → List (List ℕ)
first_names zero = []
first_names (suc n) = (n ∷ []) ∷ first_names n

-- The seat has split off one for each other of this many processors.
pub record SplitsOthers (s : Seat Known) (cpus : ℕ) : Type 0 where
  pub first : s.first ≡ true
  pub split : s.split + 1 ≡ cpus
  pub splits : s.token.me.0.splits ≡ s.split
  pub children : s.token.me.0.children ≡ first_names s.split

pub record SplitsNone (s : Seat Known) : Type 0 where
  pub split : s.split ≡ 0
  pub children : s.token.me.0.children ≡ []

-- what the seat of the processor k has split off, where there are this many
abbrev pub HasSplit : ℕ → Seat Known → ℕ → Type 0
HasSplit zero s cpus = SplitsOthers s cpus
HasSplit (suc k) s cpus = SplitsNone s

-- The processor k, one of this many, is at its place at the board: its seat has its name, and has taken in none.
pub record Sits (image : Image) (board : TableId) (cpus k : ℕ) (c : Cpu) : Type 0 where
  pub number : c.number ≡ k
  pub place : IsPlaced image c.place.board.now.table.shared.table_id c.place.cells.now c.place.rodata.now c.place.seat c.place.log.room
  pub here : c.place.seat.token.table_id ≡ board
  pub name : c.place.seat.token.me.0.name ≡ seat_name k
  pub opening : AreOpening image c.place.seat.token.me.0.opening
  pub split : HasSplit k c.place.seat cpus
  pub joined : c.place.seat.joined ≡ 0
  pub lists : c.place.seat.token.me.0.joined ≡ []

-- before its first turn
pub record Begins (image : Image) (board : TableId) (cpus k : ℕ) (c : Cpu) : Type 0 where
  pub sits : Sits image board cpus k c
  pub few : k < 8
  pub idle_is : whole c.processor ≡ idle
  pub made : c.place.seat.token.me.0.made ≡ []
  pub log : c.place.log.items ≡ []

-- After its last turn: it has made some steps, and saw then that no thread is ready or runs, and that no mark is owed.
pub record Ends (image : Image) (board : TableId) (cpus k : ℕ) (c : Cpu) : Type 0 where
  pub sits : Sits image board cpus k c
  pub steps : List FineStep
  pub made : HasMade image k (whole c.processor) c.place.seat c.place.log.items steps
  pub saw : SawQuiet c.place.seat.token.me.0.got steps

-- it holds of the processors 0, 1, .. of a list, each by its place there
abbrev pub EachAt : (ℕ → Cpu → Type 0) → List Cpu → Type 0
EachAt P cpus = (k : ℕ) (d : Cpu) → k < length cpus → P k (slice_index_or cpus k d)

-- The steps of the processor k, one of this many, stand in its list and in this log. After the last one it saw that no thread is ready or
-- runs, and that no mark is owed. If there is no other processor, each step is chosen.
pub record HasLeft (image : Image) (cpus : ℕ) (v : View) (log : List Logged) (k : ℕ) : Type 0 where
  pub steps : List FineStep
  pub made : List Made
  pub stands : HasList v k made
  pub played : Played image k made log steps
  pub saw : SawQuiet v.got steps
  pub alone : cpus ≡ 1 → AreChosen image 1 steps

-- What the first seat of a board knows that has taken in the seats of all other processors, when these are the logs.
pub record HasGathered (image : Image) (v : View) (cpus : ℕ) (logs : List Log) : Type 0 where
  pub image_is : v.image ≡ image
  pub opening : AreOpening image v.opening
  pub filled : (i : ℕ) → 168 ≤ i → i < 309 → AmongCells v.filled i
  pub turn : v.turn ≡ None
  pub name : v.name ≡ []
  pub count : length logs ≡ cpus
  pub names : (n : List ℕ) → Among v.joined n → (k : ℕ) × (k < cpus) × (n ≡ seat_name k)
  pub left : (k : ℕ) → k < cpus → HasLeft image cpus v (log_at logs k) k

-- the first seat of the board, which has taken in as many seats as were split off
pub record Gathered (image : Image) (board : TableId) (seat : Seat Known) (cpus : ℕ) (logs : List Log) : Type 0 where
  pub here : seat.token.table_id ≡ board
  pub first : seat.first ≡ true
  pub whole_again : seat.split ≡ seat.joined
  pub knows : HasGathered image seat.token.me.0 cpus logs

-- The board of an image is closed, on which this many processors have played to the end. It still has what its first seat knew.
pub record HasEnded (image : Image) (cpus : ℕ) (closed : Closed Known) (logs : List Log) : Type 0 where
  pub view : View
  pub seen : closed.token.me.0 ≡ shadow_of view
  pub words : slots_len closed.table.words ≡ 309
  pub slots : slots_len closed.table.slots ≡ 141
  pub steps : ℕ → List FineStep
  pub played : IsPlayed image cpus view (slots_items closed.table.words) (slots_items closed.table.slots) logs steps
  pub saw : (k : ℕ) → k < cpus → SawQuiet view.got (steps k)
  pub alone : cpus ≡ 1 → AreChosen image 1 (steps 0)
