-- The steps that a state offers, as a list of their events.
use Rattle.std.specs.Prelude.{◌≡◌, ℕ, ◌<◌, List, All, Some, slice_get}
use Rattle.um_base.specs.declared.act.Event.{Event}
use Rattle.um_base.specs.declared.names.ThreadIx.{ThreadIx}
use Rattle.um_machine.specs.declared.pending.Pending.{Pending}
use Rattle.um_machine.specs.Order.{Steps, to_thread}
use Rattle.um_machine.specs.Run.{MayChoose, Offers, Step}
use Rattle.um_machine.specs.State.{State}
use Rattle.um_machine.specs.Table.{act_of}
use Rattle.um_matrix.specs.Offered.{IsStep, event_of}

-- a list has an event
abbrev pub Has : List Event → Event → Type 0
Has events event = (k : ℕ) × (slice_get events k ≡ Some event)

-- The events that are steps of a state, and no others.
pub record AreSteps (s : State) (events : List Event) : Type 0 where
  pub each : All (IsStep s) events
  pub all : (event : Event) (s2 : State) → Step s event s2 → Has events event

-- A list of events went on: what was added are steps, and none was lost.
pub record GoesOn (s : State) (before events : List Event) : Type 0 where
  pub each : All (IsStep s) before → All (IsStep s) events
  pub keeps : (event : Event) → Has before event → Has events event

-- a list has what a step says, with each row that it may choose
abbrev pub HasStep : State → ℕ → List Event → Pending → Type 0
HasStep s t events p = (x : ℕ) → MayChoose s t x p → Has events (event_of t (act_of s t x p))

-- a list has the drop of a thread's pair with a row, where that may be
abbrev pub HasPair : State → ℕ → List Event → ThreadIx → ℕ → Type 0
HasPair s t events who x = MayChoose s t x (Pending.CleanPair who) → Has events (event_of t (act_of s t x (Pending.CleanPair who)))

-- a list has each step that a thread is offered
abbrev pub HasThread : State → ℕ → List Event → Type 0
HasThread s t events = (p : Pending) (rest : Steps) → Offers s t p rest → HasStep s t events p

-- A list has each step of a thread that ends the wait of one of the first n threads.
pub record HasOthers (s : State) (t n : ℕ) (events : List Event) : Type 0 where
  pub times : (who : ℕ) → who < n → HasStep s t events (Pending.TimeOut (to_thread who))
  pub cuts : (who : ℕ) → who < n → HasStep s t events (Pending.Cut (to_thread who))

-- a step is offered: with some steps left behind it
abbrev pub IsOffered : State → ℕ → Pending → Type 0
IsOffered s t p = (rest : Steps) × Offers s t p rest
