-- Threads that wait for no object: for the end of a thread, or on a futex.
use Rattle.std.specs.Prelude.{Bool, true, false, not, List, [], map}
use Rattle.um_base.specs.declared.ask.Told.{Told}
use Rattle.um_base.specs.declared.ask.Waiter.{Waiter}
use Rattle.um_base.specs.declared.names.Reply.TheVariants as Reply
use Rattle.um_base.specs.declared.names.ThreadIx.{ThreadIx}
use Rattle.um_machine.specs.Joins.{joins}
use Rattle.um_machine.specs.Futexes.{is_on}
use Rattle.um_machine.specs.Services.{told}
use Rattle.um_service.specs.declared.awaited.Awaited.{Awaited}

-- whether a waiter waits for this
abbrev pub awaits : Awaited → Waiter → Bool
awaits (Awaited.End who) w = joins who.0 w
awaits (Awaited.Futex a) w = is_on a.0 w

-- whether a waiter is one of those who do, or one of the others
abbrev pub chosen : Awaited → Bool → Waiter → Bool
chosen awaited true w = awaits awaited w
chosen awaited false w = not (awaits awaited w)

-- all of them are told 0
abbrev pub all_well : List Waiter → List (ThreadIx × Told)
all_well ws = map (λ (w : Waiter). told w (Reply.Num 0) []) ws
