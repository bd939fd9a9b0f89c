-- Logs of steps, and the events that they show.
use Rattle.std.specs.Prelude.{ℕ, List, [], ◌∷◌, Option, Some, None}
use Rattle.um_base.specs.declared.act.Event.{Event}
use Rattle.um_merge.specs.declared.logged.Logged.{Logged}

-- the steps of a log, and for how many it has room
pub record Log : Type 0 where
  pub items : List Logged
  pub room : ℕ

abbrev pub blank : Logged
blank = record { cpu = 0; site = 0; number = 0; event = None }

abbrev pub event_on : Option Event → List Event → List Event
event_on None events = events
event_on (Some event) events = event ∷ events

-- the events that noted steps show
abbrev pub events_of : List Logged → List Event
events_of [] = []
events_of (step ∷ steps) = event_on step.event (events_of steps)
