-- In which order the events of a run come.
use Rattle.std.specs.Prelude.{◌≡◌, ℕ, ◌≤◌, List, Option}
use Rattle.um_base.specs.declared.act.Event.{Event}
use Rattle.um_base.specs.declared.image.Image.{Image}
use Rattle.um_command.specs.declared.command.Options.{Options}
use Rattle.um_core.specs.PickedRun.{IsPickedRun}
use Rattle.um_fine.specs.Erasure.{shown}
use Rattle.um_fine.specs.Steps.{FineStep}
use Rattle.um_invariants.specs.InOrder.{IsInOrder}

-- The events are those that the steps of the processors show. At each turn the first processor that has a chosen step makes it, beginning with
-- the preferred one, until none can make another. On one processor the events are in order: cleaning comes first, nothing else interrupts an
-- instruction, ready threads take turns, and time goes on only where none is ready; and the steps are those of every pick.
pub record IsOrdered (image : Image) (options : Options) (run : List Event) : Type 0 where
  pub steps : List FineStep
  pub picked : IsPickedRun image options.cpus options.pick steps
  pub shows : run ≡ shown steps
  pub in_order : options.cpus ≤ 1 → IsInOrder image run
  pub any : options.cpus ≤ 1 → (pick : Option ℕ) → IsPickedRun image options.cpus pick steps
