-- What stands at the sites of a closed board, and the last state that is read off them.
use Rattle.std.specs.Prelude.{◌≡◌, IsTrue, List}
use Rattle.std.specs.Mem.Slots.{slots_items, slots_len}
use Rattle.um_base.specs.declared.act.Event.{Event}
use Rattle.um_base.specs.declared.image.Image.{Image}
use Rattle.um_machine.specs.Run.{IsComplete, IsRun}
use Rattle.um_machine.specs.State.{State}
use Rattle.um_fine.specs.Sites.{SiteState, is_site, is_sort}
use Rattle.um_fine.specs.Steps.{Site}
use Rattle.um_closing.specs.Agreement.{AgreeInDump}
use Rattle.um_closing.specs.ReadOff.{read_off}
use Rattle.um_site.specs.declared.closed.Closed.{Closed}
use Rattle.um_board.specs.Contents.{Known}
use Rattle.um_history.specs.Left.{board_at}

-- what stands at each site
abbrev pub standing : Closed Known → Site → SiteState
standing closed = board_at (slots_items closed.table.words) (slots_items closed.table.slots)

-- There is a word for each site and a slot for each cell, and at each site stands a state of the site's sort.
pub record IsReadable (closed : Closed Known) : Type 0 where
  pub words : slots_len closed.table.words ≡ 309
  pub slots : slots_len closed.table.slots ≡ 141
  pub sorted : (i : Site) → IsTrue (is_site i) → IsTrue (is_sort i (standing closed i))

-- The events are a complete run, and the state that is read off the board agrees with its last state in all that a dump reads.
pub record IsLastState (image : Image) (closed : Closed Known) (run : List Event) : Type 0 where
  pub readable : IsReadable closed
  pub last : State
  pub is_run : IsRun image run last
  pub complete : IsComplete last
  pub agrees : AgreeInDump image (read_off image (standing closed)) last
