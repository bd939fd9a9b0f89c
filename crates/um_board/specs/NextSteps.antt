-- Which step may come next at a seat of a board: the one that its processor asks for after the steps of its list.
use Rattle.std.specs.Prelude.{◌≡◌, ℕ, zero, suc, ◌<◌, List, [], ◌∷◌, map}
use Rattle.um_base.specs.declared.image.Image.{Image}
use Rattle.um_words.specs.History.{Entry, by_seat}
use Rattle.um_words.specs.declared.made.Made.{Made}
use Rattle.um_fine.specs.Follows.{p_next}
use Rattle.um_fine.specs.Processor.{Processor, idle}
use Rattle.um_fine.specs.Runs.{Run, ends}
use Rattle.um_fine.specs.Steps.{FineStep}
use Rattle.um_tables.specs.Asked.{AsksFor}
use Rattle.um_board.specs.ReadBack.{fine_at}

-- the name of the seat of processor k: the first processor has the first seat, and the others have those that it splits off
abbrev pub seat_name : ℕ → List ℕ
seat_name zero = []
seat_name (suc k) = k ∷ []

-- the processor k after the steps of its list
abbrev pub stands_at : Image → ℕ → List Made → Processor
stands_at image k made = ends (p_next image) idle (map (fine_at k) made)

-- The seat of this name is that of one of the first eight processors, and after the steps of the list that processor asks for this step.
pub record IsNext (image : Image) (name : List ℕ) (made : List Made) (e : FineStep) : Type 0 where
  pub k : ℕ
  pub few : k < 8
  pub named : name ≡ seat_name k
  pub asks : AsksFor k image (stands_at image k made) e

-- the same of a step as it stands in the list of a seat
abbrev pub NextGoes : Image → List ℕ → List Made → Made → Type 0
NextGoes image name made m = (k : ℕ) × (k < 8) × (name ≡ seat_name k) × AsksFor k image (stands_at image k made) (fine_at k m)

-- The steps at the seat of each of the first eight processors are a local run of that processor, and no other seat has made any.
pub record AreLocalRuns (image : Image) (h : List Entry) : Type 0 where
  pub run : (k : ℕ) → k < 8 → Run (AsksFor k image) (p_next image) idle (map (fine_at k) (by_seat (seat_name k) h))
  pub others : (n : List ℕ) → ((k : ℕ) → k < 8 → ¬ (n ≡ seat_name k)) → by_seat n h ≡ []
