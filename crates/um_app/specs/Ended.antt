-- A complete run of an image, as it stands in tables or on a closed board.
use Rattle.std.specs.Prelude.{ℕ, List}
use Rattle.um_base.specs.declared.act.Event.{Event}
use Rattle.um_base.specs.declared.image.Image.{Image}
use Rattle.um_board.specs.Contents.{Known}
use Rattle.um_closing.specs.Agreement.{AgreeInDump}
use Rattle.um_closing.specs.ReadOff.{read_off}
use Rattle.um_command.specs.declared.command.Options.{Options}
use Rattle.um_cpu.specs.Standing.{IsReadable, standing}
use Rattle.um_machine.specs.State.{State}
use Rattle.um_site.specs.declared.closed.Closed.{Closed}
use Rattle.um_tables.specs.Sited.{Sited, state_at}
use Rattle.um_trace.specs.Text.{text}
use Rattle.um_app.specs.Threaded.{IsThreadRun}
use Rattle.um_app.specs.Top.{IsRunOf, NamesRun}

-- The log is the run of the image with these options, its text names it, and the state that is read off the sites agrees with its last state in all
-- that a dump reads.
pub record IsEnded (image : Image) (options : Options) (sites : Sited) : Type 0 where
  pub last : State
  pub is_run_of : IsRunOf image options sites.log last
  pub agrees : AgreeInDump image (read_off image (state_at sites)) last
  pub names : NamesRun image (text image sites.log last) sites.log

-- The events are a run of the image by this many processors that are threads on the board, its text names it, and the state that is read off
-- the board agrees with its last state in all that a dump reads.
pub record HaveEnded (image : Image) (cpus : ℕ) (closed : Closed Known) (run : List Event) : Type 0 where
  pub last : State
  pub is_thread_run : IsThreadRun image cpus closed run last
  pub readable : IsReadable closed
  pub agrees : AgreeInDump image (read_off image (standing closed)) last
  pub names : NamesRun image (text image run last) run
