-- What the top call writes.
use Rattle.std.specs.Prelude.{◌≡◌, ℕ, ◌≤◌, ◌⊎◌, List, [], length, Option, Some}
use Rattle.std.specs.Io.KnownBytes.{Appends}
use Rattle.um_base.specs.declared.act.Event.{Event}
use Rattle.um_base.specs.declared.image.Image.{Image}
use Rattle.um_base.specs.Weight.{weight}
use Rattle.um_io.specs.Bytes.{AppendsFront}
use Rattle.um_io.specs.Causes.{Rose}
use Rattle.um_command.specs.declared.command.Command.{Command}
use Rattle.um_command.specs.declared.command.Options.{Options}
use Rattle.um_gen.specs.Description.{description}
use Rattle.um_board.specs.Contents.{Known}
use Rattle.um_laws.specs.Obeys.{ObeysLaws}
use Rattle.um_machine.specs.State.{State}
use Rattle.um_machine.specs.Run.{IsRun, IsComplete}
use Rattle.um_invariants.specs.Described.{IsDescribed}
use Rattle.um_site.specs.declared.closed.Closed.{Closed}
use Rattle.um_trace.specs.Layout.{layout_text}
use Rattle.um_trace.specs.Summary.{summary_text}
use Rattle.um_trace.specs.Text.{text}
use Rattle.um_app.specs.Audited.{IsAudit}
use Rattle.um_app.specs.Inputs.{IsOf, ReadsAll}
use Rattle.um_app.specs.Ordered.{IsOrdered}
use Rattle.um_app.specs.Threaded.{IsThreadRun}
use Rattle.um_app.specs.Upgraded.{IsUpgrade}

-- One complete run of the access-matrix machine from an image, in the order of its processors. It has at most as many events as the
-- image's weight, and obeys the laws of accesses, verdicts, origins, inheritances, service, lives, holds, deadlines, aborts and futexes.
-- The image and the options name just one such run (`every_order` of um_core).
pub record IsRunOf (image : Image) (options : Options) (run : List Event) (last : State) : Type 0 where
  pub described : IsDescribed image
  pub is_run : IsRun image run last
  pub complete : IsComplete last
  pub ordered : IsOrdered image options run
  pub few : length run ≤ weight image
  pub laws : ObeysLaws image run

-- No other run of the image has this text, in whatever order of processors.
abbrev pub NamesRun : Image → List ℕ → List Event → Type 0
NamesRun image written run = (other : List Event) (last : State) → IsRun image other last → written ≡ text image other last → other ≡ run

-- the bytes are the text of that run, and of no other run of the image
abbrev pub IsRunText : Image → Options → List ℕ → Type 0
IsRunText image options written =
    (run : List Event) × (last : State) × IsRunOf image options run last × (written ≡ text image run last) × NamesRun image written run

-- the bytes are the counts of the run that `sim` writes of the same image with the same options
abbrev pub IsRunSummary : Image → Options → List ℕ → Type 0
IsRunSummary image options written = (run : List Event) × (last : State) × IsRunOf image options run last × (written ≡ summary_text image run last)

-- the bytes are the text of a run that threads made on this board, and of no other run of the image
abbrev pub IsThreadRunText : Image → ℕ → Closed Known → List ℕ → Type 0
IsThreadRunText image cpus closed written =
    (run : List Event) × (last : State) × IsThreadRun image cpus closed run last × (written ≡ text image run last) × NamesRun image written run

-- what a command writes of the image that it reads, and of the trace after it
abbrev pub Writes : Command → Image → List ℕ → List ℕ → Type 0
Writes (Command.Sim options) image trace written = IsRunText image options written
Writes (Command.Run cpus) image trace written = (closed : Closed Known) × IsThreadRunText image cpus closed written
Writes (Command.Summary options) image trace written = IsRunSummary image options written
Writes Command.Layout image trace written = written ≡ layout_text image
Writes (Command.Gen number) image trace written = written ≡ description number
Writes Command.Upgrade image trace written = IsUpgrade image written
Writes Command.Audit image trace written = IsAudit image trace written

-- The input describes an image, for which the command writes these bytes.
pub record IsOutput (command : Command) (input written : List ℕ) : Type 0 where
  pub image : Image
  pub trace : List ℕ
  pub is_of : IsOf command input image trace
  pub writes : Writes command image trace written

-- The source was read to its end, and for what it gave the command writes these bytes.
pub record IsRead (command : Command) (before now : Option (List ℕ)) (written : List ℕ) : Type 0 where
  pub input : List ℕ
  pub read : ReadsAll command before now input
  pub output : IsOutput command input written

-- The input describes an image, for which `run` writes these bytes: the text of a run that threads made on this board.
pub record IsThreadOutput (cpus : ℕ) (input : List ℕ) (closed : Closed Known) (written : List ℕ) : Type 0 where
  pub image : Image
  pub is_of : IsOf (Command.Run cpus) input image []
  pub text : IsThreadRunText image cpus closed written

-- The source was read to its end; for what it gave `run` writes these bytes, and leaves the board on which its processors made the run.
pub record HasRan (cpus : ℕ) (before now : Option (List ℕ)) (ran : Option (Closed Known)) (written : List ℕ) : Type 0 where
  pub input : List ℕ
  pub read : ReadsAll (Command.Run cpus) before now input
  pub closed : Closed Known
  pub left : ran ≡ Some closed
  pub output : IsThreadOutput cpus input closed written

-- what a command writes: for a source that was read to its end, or, for `gen`, the generated description
abbrev pub Answers : Command → Option (List ℕ) → Option (List ℕ) → List ℕ → Type 0
Answers (Command.Gen number) before now written = written ≡ description number
Answers command before now written = IsRead command before now written

-- A line was written whole, or a prefix of it if the sink failed.
abbrev pub Tells : Option (List ℕ) → Option (List ℕ) → ℕ → ℕ → List ℕ → Type 0
Tells before now faults_before faults_now line = Appends before now line ⊎ (Rose faults_before faults_now × AppendsFront before now line)
