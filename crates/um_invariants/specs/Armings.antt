-- Deadlines that were armed, as one processor goes through them.
use Rattle.std.specs.Prelude.{ℕ, Bool, false, ◌==◌, ◌&&◌, nat_le, if◌then◌else◌, List, [], ◌∷◌, ◌++◌, Option, Some, None, slice_get}
use Rattle.um_base.specs.declared.act.Act.{Act}
use Rattle.um_base.specs.declared.ask.Ask.{Ask}
use Rattle.um_base.specs.declared.limits.TheConstants.{FUTEX_CELL, JOIN_CELL}
use Rattle.um_base.specs.declared.names.ThreadIx.{ThreadIx}
use Rattle.um_machine.specs.declared.pending.Pending.{Pending}
use Rattle.um_machine.specs.Run.{waits_at}
use Rattle.um_machine.specs.State.{State, object_at, thread_at}
use Rattle.um_machine.specs.Table.{row_of}
use Rattle.um_machine.specs.Time.{has_run_out}

-- what a deadline is for: a thread that is to wait in a cell, or a timer
pub data Aim : Type 0 where
  waiter : ThreadIx → ℕ → Aim
  timer : ℕ → Aim

pub record Arming : Type 0 where
  pub deadline : ℕ
  pub aim : Aim

-- what a thread arms a deadline for, by its step behind
abbrev pub aim_of : State → ThreadIx → Option Pending → Aim
aim_of s t (Some (Pending.Work a (Ask.TimerStart deadline))) = timer (row_of s a)
aim_of s t (Some (Pending.Work a ask)) = waiter t (row_of s a)
aim_of s t (Some (Pending.Join who timeout)) = waiter t JOIN_CELL
aim_of s t _ = waiter t FUTEX_CELL

-- the armings after an act of a thread, by the state behind it
abbrev pub armings_after : List Arming → ThreadIx → Act → State → List Arming
armings_after armings t (Act.Arm deadline) s2 =
    armings ++ record { deadline = deadline; aim = aim_of s2 t (slice_get (thread_at s2 t.0).pending 0) } ∷ []
armings_after armings t act s2 = armings

-- the step that an arming makes, and the cell or the row that this takes
abbrev pub late_step : Aim → Pending
late_step (waiter who c) = Pending.TimeOut who
late_step (timer x) = Pending.Expire

abbrev pub late_cell : Aim → ℕ
late_cell (waiter who c) = c
late_cell (timer x) = x

abbrev pub is_until : ℕ → Option ℕ → Bool
is_until deadline None = false
is_until deadline (Some until) = until == deadline

-- whether an arming makes a step: its thread still waits in its cell with that deadline, or its timer runs out
abbrev pub makes_step : State → Arming → Bool
makes_step s arming = elim arming.aim as (λ _. Bool) [
  | waiter who c ↦ waits_at s who.0 c && is_until arming.deadline (thread_at s who.0).until
  | timer x ↦ has_run_out s.now (object_at s x).contents
]

-- The armings whose deadlines have come are gone through in their order: those that make no step leave, up to the first that makes one,
-- which leaves too. What is left, and that one.
abbrev pub gone_through : State → List Arming → List Arming × Option Arming
gone_through s [] = ([], None)
gone_through s (arming ∷ armings) =
    let rest = gone_through s armings in
    if nat_le arming.deadline s.now then (if makes_step s arming then (armings, Some arming) else rest) else (arming ∷ rest.0, rest.1)
