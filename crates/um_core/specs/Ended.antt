-- What a run in the order of a pick has left in tables, once no processor can make another step.
use Rattle.std.specs.Prelude.{◌≡◌, ℕ, ◌≤◌, List, Option, length, IsTrue}
use Rattle.um_base.specs.declared.image.Image.{Image}
use Rattle.um_base.specs.Weight.{weight}
use Rattle.um_machine.specs.Run.{IsComplete, IsRun}
use Rattle.um_machine.specs.State.{State}
use Rattle.um_fine.specs.Erasure.{shown}
use Rattle.um_fine.specs.Sites.{is_site}
use Rattle.um_fine.specs.Steps.{FineStep, Site}
use Rattle.um_tables.specs.Sited.{Sited, state_at}
use Rattle.um_closing.specs.Agreement.{AgreeInDump}
use Rattle.um_closing.specs.ReadOff.{read_off}
use Rattle.um_core.specs.PickedRun.{IsPickedRun, site_after}

-- The steps of the run are over, the log has their events, and each site is as they have left it.
pub record HasStopped (image : Image) (cpus : ℕ) (pick : Option ℕ) (sites : Sited) : Type 0 where
  pub steps : List FineStep
  pub picked : IsPickedRun image cpus pick steps
  pub shows : sites.log ≡ shown steps
  pub at : (i : Site) → IsTrue (is_site i) → state_at sites i ≡ site_after image steps i

-- The log is a complete run, and the state that is read off the sites agrees with its last state in all that a dump reads.
pub record HasEnded (image : Image) (cpus : ℕ) (pick : Option ℕ) (sites : Sited) : Type 0 where
  pub steps : List FineStep
  pub picked : IsPickedRun image cpus pick steps
  pub shows : sites.log ≡ shown steps
  pub last : State
  pub is_run : IsRun image sites.log last
  pub complete : IsComplete last
  pub agrees : AgreeInDump image (read_off image (state_at sites)) last
  pub few : length sites.log ≤ weight image
