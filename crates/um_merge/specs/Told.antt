-- Steps whose events stand in a second list.
use Rattle.std.specs.Prelude.{ℕ, suc, Bool, true, false, List, [], ◌∷◌, Option, Some, None}
use Rattle.um_base.specs.declared.act.Event.{Event}
use Rattle.um_merge.specs.declared.logged.Logged.{Logged}
use Rattle.um_merge.specs.declared.logged.Short.{Short}

abbrev pub one_more : Bool → ℕ → ℕ
one_more false n = n
one_more true n = suc n

-- how many of the steps show an event
abbrev pub count : List Short → ℕ
count [] = 0
count (step ∷ steps) = one_more step.shows (count steps)

-- the event that a step shows, which is the first of those that are left
abbrev pub first_on : Bool → List Event → Option Event
first_on false events = None
first_on true [] = None
first_on true (event ∷ events) = Some event

-- the events that are left after it
abbrev pub left_on : Bool → List Event → List Event
left_on false events = events
left_on true [] = []
left_on true (event ∷ events) = events

-- the steps with their events
abbrev pub told : List Short → List Event → List Logged
told [] events = []
told (step ∷ steps) events =
    record { cpu = step.cpu; site = step.site; number = step.number; event = first_on step.shows events } ∷ told steps (left_on step.shows events)
