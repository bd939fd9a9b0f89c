-- Lines of steps.
use Rattle.std.specs.Prelude.{◌≡◌, ℕ, List, [], ◌∷◌, ◌++◌}
use Rattle.um_base.specs.declared.act.Act.{Act}
use Rattle.um_base.specs.declared.act.Event.{Event}
use Rattle.um_base.specs.declared.image.Image.{Image}
use Rattle.um_machine.specs.declared.pending.Pending.{Pending}
use Rattle.um_machine.specs.State.{State}
use Rattle.um_machine.specs.Table.{act_of}
use Rattle.um_machine.specs.Run.{MayChoose, Step}
use Rattle.um_matrix.specs.Offered.{IsChoice, event_of}
use Rattle.um_matrix.specs.declared.tables.choice.Choice.{Choice}
use Rattle.um_trace.specs.Acts.{event_line}
use Rattle.um_audit.specs.Lines.{line_of}

-- the line is that of an event
abbrev pub IsLine : Image → List ℕ → Event → Type 0
IsLine image line event = event_line image event ≡ line ++ 10 ∷ []

-- the line is that of a step from s to s2
abbrev pub IsStepLine : Image → List ℕ → State → State → Type 0
IsStepLine image line s s2 = (event : Event) × IsLine image line event × Step s event s2

-- the line is that of no step
abbrev pub IsNoStepLine : Image → List ℕ → State → Type 0
IsNoStepLine image line s = (event : Event) (s2 : State) → IsLine image line event → Step s event s2 → ⊥

-- the pieces are the lines of steps, one after another, from s to s2
abbrev pub AreStepLines : Image → State → List (List ℕ) → State → Type 0
AreStepLines image s [] s2 = s2 ≡ s
AreStepLines image s (piece ∷ more) s2 = (mid : State) × IsStepLine image (line_of piece) s mid × AreStepLines image mid more s2

-- the line is that of no step of one thread
abbrev pub IsNoThreadsLine : Image → List ℕ → ℕ → State → Type 0
IsNoThreadsLine image line t s = (act : Act) (s2 : State) → IsLine image line (event_of t act) → Step s (event_of t act) s2 → ⊥

-- a step says the line, with a row that it may choose
abbrev pub SaysLine : Image → List ℕ → State → ℕ → Pending → ℕ → Type 0
SaysLine image line s t step x = MayChoose s t x step × IsLine image line (event_of t (act_of s t x step))

abbrev pub SaysNotLine : Image → List ℕ → State → ℕ → Pending → Type 0
SaysNotLine image line s t step = (x : ℕ) → MayChoose s t x step → IsLine image line (event_of t (act_of s t x step)) → ⊥

-- a thread makes a choice of which the line tells
abbrev pub IsLineChoice : Image → List ℕ → State → ℕ → Choice → Type 0
IsLineChoice image line s t choice = (act : Act) × IsLine image line (event_of t act) × IsChoice s t act choice
