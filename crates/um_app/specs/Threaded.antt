-- A run whose processors are threads.
use Rattle.std.specs.Prelude.{◌≡◌, ℕ, ◌≤◌, List, Option, length}
use Rattle.um_base.specs.declared.act.Event.{Event}
use Rattle.um_base.specs.declared.image.Image.{Image}
use Rattle.um_base.specs.Lawful.{IsLawful}
use Rattle.um_base.specs.Weight.{weight}
use Rattle.um_board.specs.Contents.{Known}
use Rattle.um_core.specs.PickedRun.{IsPickedRun}
use Rattle.um_cpu.specs.OnBoard.{HasRun}
use Rattle.um_fine.specs.Erasure.{shown}
use Rattle.um_fine.specs.Steps.{FineStep}
use Rattle.um_laws.specs.Obeys.{ObeysLaws}
use Rattle.um_machine.specs.Run.{IsComplete, IsRun}
use Rattle.um_machine.specs.State.{State}
use Rattle.um_invariants.specs.Described.{IsDescribed}
use Rattle.um_invariants.specs.InOrder.{IsInOrder}
use Rattle.um_site.specs.declared.closed.Closed.{Closed}

-- this many processors, each a thread, may run the image
pub record MayRun (image : Image) (cpus : ℕ) : Type 0 where
  pub lawful : IsLawful image
  pub some : 1 ≤ cpus
  pub few : cpus ≤ 8

-- One complete run of the access-matrix machine from an image: the events of the steps that this many processors made on a board, each at a
-- seat of its own. These steps stand on the closed board. The run has at most as many events as the image's weight, and obeys all laws of
-- runs. On one processor its events are in order, and its steps are the one run of every pick.
pub record IsThreadRun (image : Image) (cpus : ℕ) (closed : Closed Known) (run : List Event) (last : State) : Type 0 where
  pub described : IsDescribed image
  pub is_run : IsRun image run last
  pub complete : IsComplete last
  pub steps : List FineStep
  pub board : HasRun image cpus closed steps
  pub shows : run ≡ shown steps
  pub in_order : cpus ≤ 1 → IsInOrder image run
  pub picked : cpus ≤ 1 → (pick : Option ℕ) → IsPickedRun image cpus pick steps
  pub few : length run ≤ weight image
  pub laws : ObeysLaws image run
