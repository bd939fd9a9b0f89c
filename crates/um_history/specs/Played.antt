-- What processors have at their end that made steps on a board, each at a seat of its own, and what the closed board says of them together.
use Rattle.std.specs.Prelude.{◌≡◌, ℕ, zero, suc, ◌<◌, ◌≤◌, ◌⊎◌, List, [], ◌∷◌, length, map, Option}
use Rattle.um_base.specs.declared.image.Image.{Image}
use Rattle.um_words.specs.Packed.{cell_of}
use Rattle.um_words.specs.History.{Entry, IsHistory, by_seat, by_site}
use Rattle.um_words.specs.Steps.{number}
use Rattle.um_words.specs.declared.made.Made.{Made}
use Rattle.um_fine.specs.Follows.{p_next}
use Rattle.um_fine.specs.Processor.{idle}
use Rattle.um_fine.specs.Runs.{Run}
use Rattle.um_fine.specs.Sites.{site_number}
use Rattle.um_fine.specs.Steps.{FineStep}
use Rattle.um_merge.specs.Logs.{Log}
use Rattle.um_merge.specs.Merged.{log_at}
use Rattle.um_merge.specs.declared.logged.Logged.{Logged}
use Rattle.um_tables.specs.Asked.{AsksFor}
use Rattle.um_site.specs.Cells.{AmongCells, ContentsAre, IsClosedWithCells, Moment}
use Rattle.um_site.specs.History.{Among}
use Rattle.um_site.specs.declared.view.View.{View}
use Rattle.um_board.specs.Contents.{Follows, Known, Opens}
use Rattle.um_board.specs.NextSteps.{NextGoes, seat_name}
use Rattle.um_board.specs.Noted.{logged_of, made_of, packed}
use Rattle.um_board.specs.Opening.{AreOpening}
use Rattle.um_board.specs.ReadBack.{IsReadBack}
use Rattle.um_board.specs.Saw.{WasGot}

-- it holds of each one
abbrev pub Each : {X : Type 0} → (X → Type 0) → List X → Type 0
Each P [] = Unit {0}
Each P (x ∷ xs) = P x × Each P xs

-- The processor k has made these steps, each of which it asked for after those before. They stand in the list of its seat, and in its log.
pub record Played (image : Image) (k : ℕ) (made : List Made) (log : List Logged) (steps : List FineStep) : Type 0 where
  pub made_is : made ≡ map made_of steps
  pub log_is : log ≡ map logged_of steps
  pub run : Run (AsksFor k image) (p_next image) idle steps
  pub whole : Each IsReadBack steps

-- the scheduler's site
abbrev pub SCHEDULER : ℕ
SCHEDULER = 306

-- The processor that has made these steps saw after its last one that no thread is ready or runs, and that no mark is owed.
pub record SawQuiet (got : List (ℕ × ℕ)) (steps : List FineStep) : Type 0 where
  pub word : ℕ
  pub seen : WasGot got SCHEDULER word
  pub ready : (cell_of word).ready ≡ 0
  pub running : (cell_of word).running ≡ 0
  pub owed : (cell_of word).owed ≡ 0
  pub newest : Each (λ (e : FineStep). site_number e.site ≡ SCHEDULER → number SCHEDULER (packed e.word) ≤ number SCHEDULER word) steps

-- the list stands under this name
abbrev pub StandsUnder : List (List ℕ × List Made) → List ℕ → List Made → Type 0
StandsUnder [] n made = ⊥
StandsUnder (e ∷ es) n made = ((e.0 ≡ n) × (e.1 ≡ made)) ⊎ StandsUnder es n made

-- The list of the processor k in the view of the first seat: its own, or that of a seat which was joined.
abbrev pub HasList : View → ℕ → List Made → Type 0
HasList v zero made = v.made ≡ made
HasList v (suc k) made = StandsUnder v.joined (k ∷ []) made

-- What a board of an image has at some moment, with this many processors: a history in which each seat makes only its processor's next
-- steps, and which has left the words and the contents of the cells.
pub record IsHistoryOf (image : Image) (cpus : ℕ) (words : List ℕ) (h : List Entry) : Type 0 where
  pub opening : List ℕ
  pub opens : AreOpening image opening
  pub stands : IsHistory (NextGoes image) opening words h
  pub owned : (n : List ℕ) → (by_seat n h ≡ []) ⊎ ((k : ℕ) × (k < cpus) × (n ≡ seat_name k))
  pub contents : (i : ℕ) → 168 ≤ i → i < 309 → (y : Option Known) × ContentsAre Opens Follows image i (by_site i h) y

-- The board of an image at some moment, with the word w at the site i. Its rule held, by which each seat makes only its processor's next
-- steps, and a seat with this view knew that all cells were filled.
pub record IsMoment (image : Image) (v : View) (i w : ℕ) : Type 0 where
  pub moment : Moment Opens Follows NextGoes v i w
  pub of : v.image ≡ image
  pub opens : AreOpening image v.opening
  pub filled : (j : ℕ) → 168 ≤ j → j < 309 → AmongCells v.filled j

-- The board of an image is closed with these words and slots. Its first seat, which is that of the first processor, knows what was made: this
-- many processors have made these steps, only such as each asked for, and have these logs.
pub record IsPlayed (image : Image) (cpus : ℕ) (v : View) (words : List ℕ) (slots : List (Option Known)) (logs : List Log) (steps : ℕ → List FineStep) : Type 0 where
  pub image_is : v.image ≡ image
  pub opening : AreOpening image v.opening
  pub filled : (i : ℕ) → 168 ≤ i → i < 309 → AmongCells v.filled i
  pub closed : IsClosedWithCells Opens Follows NextGoes v words slots
  pub some : 0 < cpus
  pub first : v.name ≡ []
  pub names : (n : List ℕ) → Among v.joined n → (k : ℕ) × (k < cpus) × (n ≡ seat_name k)
  pub lists : (k : ℕ) → k < cpus → (made : List Made) × HasList v k made × Played image k made (log_at logs k) (steps k)
  pub logs_are : length logs ≡ cpus
