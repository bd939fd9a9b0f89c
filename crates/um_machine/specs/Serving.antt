-- Which of those who wait an act serves.
use Rattle.std.specs.Prelude.{◌≡◌, ℕ, ◌<◌, Bool, true, not, List, [], ◌∷◌, length, filter, Option, Some, None, slice_get}
use Rattle.um_base.specs.declared.ask.Waiter.{Waiter}
use Rattle.um_machine.specs.declared.served.Served.{Served}
use Rattle.um_machine.specs.Services.{in_order, without, is_getter, is_putter, is_reader, is_writer}

-- whether an act serves a waiter
abbrev pub serves : Served → Waiter → Bool
serves Served.All w = true
serves Served.Getters w = is_getter w
serves Served.Putters w = is_putter w
serves Served.Readers w = is_reader w
serves Served.Writers w = is_writer w

-- those whom an act serves
abbrev pub served : Served → List Waiter → List Waiter
served Served.All ws = ws
served Served.Getters ws = filter is_getter ws
served Served.Putters ws = filter is_putter ws
served Served.Readers ws = filter is_reader ws
served Served.Writers ws = filter is_writer ws

-- the one that is served first of these stands at this place among all, or there is none
abbrev pub IsFirstAt : List Waiter → List Waiter → Option ℕ → Type 0
IsFirstAt all ws None = in_order ws ≡ []
IsFirstAt all ws (Some i) = (i < length all) × (slice_get (in_order ws) 0 ≡ slice_get all i)

-- those whom an act doesn't serve
abbrev pub unserved : Served → List Waiter → List Waiter
unserved which ws = filter (λ w. not (serves which w)) ws

-- the one that is served first is left out, and the others stay in their order; or there is none
abbrev pub FirstLeaves : Served → List Waiter → List Waiter → Option Waiter → Type 0
FirstLeaves which old new None = (in_order (served which old) ≡ []) × (new ≡ old)
FirstLeaves which old new (Some w) =
    (in_order (served which old) ≡ w ∷ in_order (served which new)) × (unserved which new ≡ unserved which old) × (new ≡ without w.thread.0 old)
