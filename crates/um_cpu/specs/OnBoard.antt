-- What a closed board has of the steps that processors made on it.
use Rattle.std.specs.Prelude.{◌≡◌, ℕ, ◌<◌, eqb, List, [], map, slice_index}
use Rattle.std.specs.Mem.Slots.{slots_items}
use Rattle.um_base.specs.declared.image.Image.{Image}
use Rattle.um_words.specs.History.{Entry, bare, by_seat}
use Rattle.um_fine.specs.FineRun.{IsFineRun, cpu_of, same_cpu, site_of}
use Rattle.um_fine.specs.Opening.{s_start}
use Rattle.um_fine.specs.Runs.{state_at, sublist}
use Rattle.um_fine.specs.Sites.{s_next, same_site, site_numbered, word_of}
use Rattle.um_fine.specs.Steps.{FineStep}
use Rattle.um_core.specs.PickedRun.{IsOver}
use Rattle.um_refinement.specs.Choice.{AreChosen}
use Rattle.um_merge.specs.Merged as Merged
use Rattle.um_merge.specs.Merged.{AreNumbered}
use Rattle.um_site.specs.History.{Among, Distinct}
use Rattle.um_site.specs.declared.closed.Closed.{Closed}
use Rattle.um_board.specs.Contents.{Known}
use Rattle.um_board.specs.NextSteps.{seat_name}
use Rattle.um_board.specs.Noted.{logged_of, made_of, packed}
use Rattle.um_history.specs.Left.{AreLeft}
use Rattle.um_history.specs.Played.{HasList, IsHistoryOf}

-- The board has one history with these words: each seat made only the next step that its processor asked for, and what each processor's seat
-- made is what that processor did of these steps.
pub record WasMadeOnBoard (image : Image) (cpus : ℕ) (words : List ℕ) (steps : List FineStep) : Type 0 where
  pub history : List Entry
  pub of : IsHistoryOf image cpus words history
  pub made : (k : ℕ) → k < cpus → by_seat (seat_name k) history ≡ map made_of (sublist same_cpu cpu_of k steps)

-- The board is that of an image, and was closed after these steps, which are a fine run of this many processors; none of them can make
-- another step. If there is one processor, each step was chosen. The steps of each processor stand in the list of a seat of its own, in their
-- order; no other seat has made any, and no name stands for two lists. The steps of each site are numbered from 1 without a gap, and have left
-- the board's words, a cell's turn aside, and the contents of its cells.
pub record HasRun (image : Image) (cpus : ℕ) (closed : Closed Known) (steps : List FineStep) : Type 0 where
  pub image_is : closed.token.me.0.image ≡ image
  pub run : IsFineRun image cpus steps
  pub over : IsOver image cpus steps
  pub on_board : WasMadeOnBoard image cpus (slots_items closed.table.words) steps
  pub some : 0 < cpus
  pub lists : (k : ℕ) → k < cpus → HasList closed.token.me.0 k (map made_of (sublist same_cpu cpu_of k steps))
  pub others : (n : List ℕ) → Among closed.token.me.0.joined n → (k : ℕ) × (k < cpus) × (n ≡ seat_name k)
  pub once : Distinct closed.token.me.0.joined
  pub first : closed.token.me.0.name ≡ []
  pub alone : cpus ≡ 1 → AreChosen image 1 steps
  pub numbered : (site : ℕ) → AreNumbered 0 (sublist eqb Merged.site_of site (map logged_of steps))
  pub words_are : (i : ℕ) → i < 309
      → packed (word_of (state_at same_site site_of (s_next image) (s_start image) steps (site_numbered i))) ≡ bare i (slice_index (slots_items closed.table.words) i)
  pub left : AreLeft image (slots_items closed.table.words) (slots_items closed.table.slots) steps
