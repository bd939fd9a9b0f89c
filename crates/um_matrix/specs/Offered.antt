-- Which steps a thread is offered, and what may be made of an act.
use Rattle.std.specs.Prelude.{◌≡◌, ℕ, ◌+◌, ◌<◌, not, IsTrue, if◌then◌else◌, List, [], take, drop, slice_get, Option, Some, None}
use Rattle.um_base.specs.declared.act.Act.{Act}
use Rattle.um_base.specs.declared.act.Event.{Event}
use Rattle.um_base.specs.declared.act.Found.{Found}
use Rattle.um_base.specs.declared.limits.TheConstants.{FUTEX_CELL, ROWS}
use Rattle.um_base.specs.declared.instr.Instr.{Instr}
use Rattle.um_machine.specs.declared.pending.Pending.{Pending}
use Rattle.um_machine.specs.declared.thread.Place.{Place}
use Rattle.um_machine.specs.Limits.{IsSound}
use Rattle.um_machine.specs.State.{State, thread_at, is_living, instruction_at}
use Rattle.um_machine.specs.Table.{act_of, after}
use Rattle.um_machine.specs.Run.{Step, Runs, MayChoose}
use Rattle.um_matrix.specs.declared.tables.choice.Choice.{Choice}
pub use Rattle.um_machine.specs.Run.{is_tending, may_go, must_stop}
pub use Rattle.um_invariants.specs.NextSteps.{first_or, first_step, is_skipped, line_step, rest_step, second_step}

-- an event is a step of a state
abbrev pub IsStep : State → Event → Type 0
IsStep s event = (s2 : State) × Step s event s2

-- an event is no step
abbrev pub IsNoStep : State → Event → Type 0
IsNoStep s event = (s2 : State) → Step s event s2 → ⊥

-- the event of a thread with an act
abbrev pub event_of : ℕ → Act → Event
event_of t act = record { thread = record { 0 = t }; act = act }

-- how many rows are tried for a step, or how many cells, where it chooses one; a join chooses one of two answers
abbrev pub row_count : Pending → ℕ
row_count (Pending.Inherit who) = ROWS
row_count (Pending.Drops from) = ROWS
row_count (Pending.Reserve kind) = ROWS
row_count (Pending.CleanPair who) = ROWS
row_count Pending.Recycle = ROWS
row_count Pending.Expire = ROWS
row_count (Pending.TimeOut who) = FUTEX_CELL + 1
row_count (Pending.Cut who) = FUTEX_CELL + 1
row_count (Pending.Join who timeout) = 2
row_count _ = 1

-- a step says this act, with a row that it may choose
abbrev pub Says : State → ℕ → Act → Pending → Type 0
Says s t act step = (x : ℕ) × MayChoose s t x step × (act ≡ act_of s t x step)

abbrev pub SaysNot : State → ℕ → Act → Pending → Type 0
SaysNot s t act step = (x : ℕ) → MayChoose s t x step → act ≡ act_of s t x step → ⊥

-- what is made of an event that is a step
abbrev pub IsChoice : State → ℕ → Act → Choice → Type 0
IsChoice s t act Choice.Begins = Step s (event_of t act) (after s t 0 Pending.Begin [])
IsChoice s t act Choice.Exits = Step s (event_of t act) (after s t 0 Pending.Exit [])
IsChoice s t act Choice.Stops = Step s (event_of t act) (after s t 0 Pending.Killed [])
IsChoice s t act Choice.Leaves = Step s (event_of t act) (after s t 0 Pending.Left [])
IsChoice s t act (Choice.Makes step row taken) =
    IsSound step × (row < row_count step) × (0 < taken) × Step s (event_of t act) (after s t row step (drop taken (thread_at s t).pending))
IsChoice s t act (Choice.Tends step row) =
    IsTrue (is_tending step) × (row < row_count step) × Step s (event_of t act) (after s t row step [])

-- a step may choose no row
abbrev pub ChoosesNone : State → ℕ → Pending → Type 0
ChoosesNone s t step = (x : ℕ) → MayChoose s t x step → ⊥

-- no event of a thread is a step
abbrev pub IsIdle : State → ℕ → Type 0
IsIdle s t = (event : Event) (s2 : State) → event.thread.0 ≡ t → Step s event s2 → ⊥

-- The first k events of a list are a run to s2, and the next one is no step from there.
pub record IsRefusedAt (s : State) (events : List Event) (k : ℕ) (s2 : State) : Type 0 where
  pub event : Event
  pub so_far : Runs s (take k events) s2
  pub next : slice_get events k ≡ Some event
  pub refused : IsNoStep s2 event

-- what a thread at rest says next
abbrev pub line_act : Place → Option Instr → Act
line_act place (Some instr) = Act.Begin place.script (place.line + 1)
line_act place None = Act.Exit

abbrev pub rest_act : State → ℕ → Option Act
rest_act s t =
    let me = thread_at s t in
    if not (is_living me.life) then None
    else if may_go me then Some (line_act me.place (instruction_at s.image me.place))
    else if must_stop me then Some Act.Killed
    else None

-- the step that tends and says this act, if there is one
abbrev pub tending_of : Act → Option Pending
tending_of (Act.DropPair who addr left) = Some (Pending.CleanPair who)
tending_of (Act.Recycle addr) = Some Pending.Recycle
tending_of (Act.Tick now) = Some Pending.Tick
tending_of (Act.TimedOut who) = Some (Pending.TimeOut who)
tending_of (Act.Expire addr woken) = Some Pending.Expire
tending_of (Act.Cut who) = Some (Pending.Cut who)
tending_of _ = None

-- a string that was found has fewer bytes than are read at most
abbrev pub IsShort : Found → Type 0
IsShort (Found.Length n) = n < 32
IsShort _ = Unit {0}

-- what is made of the act of a thread at rest
abbrev pub rest_choice : Act → Choice
rest_choice Act.Exit = Choice.Exits
rest_choice Act.Killed = Choice.Stops
rest_choice _ = Choice.Begins

-- the state after a choice
abbrev pub after_choice : State → ℕ → Choice → State
after_choice s t Choice.Begins = after s t 0 Pending.Begin []
after_choice s t Choice.Exits = after s t 0 Pending.Exit []
after_choice s t Choice.Stops = after s t 0 Pending.Killed []
after_choice s t Choice.Leaves = after s t 0 Pending.Left []
after_choice s t (Choice.Makes step row taken) = after s t row step (drop taken (thread_at s t).pending)
after_choice s t (Choice.Tends step row) = after s t row step []
