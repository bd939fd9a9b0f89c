-- What stands at the sites of a closed board, by its words and what is in its slots.
use Rattle.std.specs.Prelude.{◌≡◌, ℕ, ◌+◌, IsTrue, List, Option, Some, None, slice_index}
use mathlib.Core.Option as found
use mathlib.Core.Option.{some}
use lib.ListN.{get_elem?}
use Rattle.um_base.specs.declared.image.Image.{Image}
use Rattle.um_words.specs.History.{bare}
use Rattle.um_words.specs.Packed.{cell_of, domain_in, row_of, thread_of}
use Rattle.um_words.specs.declared.thread_word.ThreadWord.{ThreadWord}
use Rattle.um_fine.specs.Answers.{no_thread}
use Rattle.um_fine.specs.Cells.{Cell}
use Rattle.um_fine.specs.Sites.{SiteState, is_site}
use Rattle.um_fine.specs.Steps.{FineStep, Site}
use Rattle.um_board.specs.Contents.{Known}
use Rattle.um_history.specs.Fine.{left_at}

-- the contents of a cell by what is in its slot
abbrev pub in_slot : found.Option (Option Known) → Cell
in_slot (some (Some kept)) = kept.cell
in_slot _ = Cell.parts None

-- the word of a thread that was read, or else one where nothing was started
abbrev pub thread_read : Option ThreadWord → ThreadWord
thread_read None = no_thread
thread_read (Some word) = word

-- how many steps a cell has taken by its word, the turn aside
abbrev pub steps_there : List ℕ → ℕ → ℕ
steps_there words n = (cell_of (bare n (slice_index words n))).number

-- what stands at a site
abbrev pub board_at : List ℕ → List (Option Known) → Site → SiteState
board_at words slots (Site.row x) = SiteState.row (row_of (slice_index words x))
board_at words slots (Site.thread t) = SiteState.thread (thread_read (thread_of (slice_index words (128 + t))))
board_at words slots (Site.domain d) = SiteState.domain (domain_in (slice_index words (160 + d)))
board_at words slots (Site.object x) = SiteState.cell (steps_there words (168 + x)) (in_slot (get_elem? slots x))
board_at words slots (Site.parts d) = SiteState.cell (steps_there words (296 + d)) (in_slot (get_elem? slots (128 + d)))
board_at words slots Site.memory = SiteState.cell (steps_there words 304) (in_slot (get_elem? slots 136))
board_at words slots Site.heap = SiteState.cell (steps_there words 305) (in_slot (get_elem? slots 137))
board_at words slots Site.scheduler = SiteState.cell (steps_there words 306) (in_slot (get_elem? slots 138))
board_at words slots Site.clock = SiteState.cell (steps_there words 307) (in_slot (get_elem? slots 139))
board_at words slots Site.joins = SiteState.cell (steps_there words 308) (in_slot (get_elem? slots 140))

-- each site is as these steps have left it
abbrev pub AreLeft : Image → List ℕ → List (Option Known) → List FineStep → Type 0
AreLeft image words slots g = (i : Site) → IsTrue (is_site i) → board_at words slots i ≡ left_at image g i
