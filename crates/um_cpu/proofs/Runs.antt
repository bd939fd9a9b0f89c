-- What is known of every fine run of a described image, on a board.
use Rattle.std.proofs.Common.{ℕ, ◌≤◌, List, length}
use Rattle.um_base.specs.Lawful.{IsLawful}
use Rattle.um_base.specs.Weight.{weight}
use Rattle.um_base.specs.declared.act.Event.{Event}
use Rattle.um_base.specs.declared.image.Image.{Image}
use Rattle.um_base.specs.declared.limits.TheConstants.{STATIC_ROWS}
use Rattle.um_machine.specs.Run.{IsRun, Runs, opening}
use Rattle.um_machine.specs.State.{State}
use Rattle.um_invariants.specs.Described.{IsDescribed}
use Rattle.um_fine.specs.Erasure.{shown}
use Rattle.um_fine.specs.FineRun.{IsFineRun}
use Rattle.um_fine.specs.Steps.{FineStep}
use Rattle.um_fine_measure.specs.Measure.{MOST_CPUS}
use Rattle.um_refinement.specs.After.{left_by}
use Rattle.um_refinement.specs.Fine.{clock}
use Rattle.um_refinement.specs.Relation.{Rel}
use Rattle.um_refinement.specs.Room.{CanCount, CanRun, IsHalted}
use Rattle.um_refinement.specs.Waits.{WaitsFor}
use Rattle.um_history.proofs.MarksFew.{marks-few}
use Rattle.um_history.proofs.Waiting.{WaitsAll}

pub record RunsKnown (image : Image) : Type 0 where
  pub described : IsDescribed image
  pub can : CanRun image 8
  pub longest : (run : List FineStep) → IsFineRun image 8 run → length run ≤ weight image
  pub few_marks : (run : List FineStep) → IsFineRun image 8 run → length (clock (left_by image 8 run)).marks ≤ weight image
  pub waits : WaitsAll image

-- by the laws over fine runs and over the machine's
pub runs-known : (image : Image) → IsDescribed image → CanRun image 8
    → ((image : Image) (cpus : ℕ) (steps : List FineStep) → IsDescribed image → cpus ≤ MOST_CPUS → IsFineRun image cpus steps → length steps ≤ weight image)
    → ((image : Image) (cpus : ℕ) (steps : List FineStep) → IsDescribed image → IsFineRun image cpus steps → (last : State) × Runs (opening image) (shown steps) last × Rel (left_by image cpus steps) last)
    → ((image : Image) (cpus : ℕ) (steps : List FineStep) → IsDescribed image → CanRun image cpus → IsFineRun image cpus steps → CanCount (left_by image cpus steps) → (k : ℕ) → IsHalted (left_by image cpus steps) k
    → WaitsFor (left_by image cpus steps) k)
    → ((image : Image) (events : List Event) (s : State) → IsLawful image → length image.objects ≤ STATIC_ROWS → IsRun image events s → length s.armed ≤ weight image)
    → RunsKnown image
runs-known image described can longest run waits deadlines =
    record {
      described = described;
      can = can;
      longest = λ steps fine. longest image 8 steps described can.few fine;
      few_marks = marks-few image 8 (λ steps fine. run image 8 steps described fine) (λ events s is. deadlines image events s described.lawful described.few is);
      waits = λ steps fine counts k halted. waits image 8 steps described can fine counts k halted;
    }
