-- What stands at the place of a thread index in the scheduler's cell.
use Rattle.std.specs.Prelude.{ℕ, ℤ, pos, Bool, true, false, List, Option, Some, None, map, slice_set}
use Rattle.um_base.specs.declared.ask.Told.{Told}
use Rattle.um_machine.specs.declared.thread.Thread.{Thread}
use Rattle.um_machine.specs.State.{is_living}
use Rattle.um_fine.specs.Context.{Context, context_of}
use Rattle.um_fine.specs.Opening.{parked_if}
use Rattle.um_fine.specs.Scheduler.{Scheduler, behind}

-- the thread, if no processor runs it, what it is told, if it was woken, the priority of the thread that was put here last, and whether it
-- was cut
pub record Parked : Type 0 where
  pub context : Option Context
  pub told : Option Told
  pub priority : ℤ
  pub cut : Bool

-- an empty place
abbrev pub nobody : Parked
nobody = record { context = None; told = None; priority = pos 0; cut = false }

abbrev pub some_if : {A : Type 0} → Bool → A → Option A
some_if true x = Some x
some_if false x = None

abbrev pub context_at : Parked → Option Context
context_at p = p.context

abbrev pub told_at : Parked → Option Told
told_at p = p.told

abbrev pub priority_at : Parked → ℤ
priority_at p = p.priority

abbrev pub cut_at : Parked → Bool
cut_at p = p.cut

-- the place of a thread of the access-matrix machine that is at rest, if it lives
abbrev pub resting : ℕ → Thread → Parked
resting t me = record { context = parked_if (is_living me.life) (context_of t me); told = None; priority = me.priority; cut = false }

-- the scheduler's contents by its ready list, all places, how many threads run and how many marks are owed
abbrev pub scheduler_of : List ℕ → List Parked → (running owed : ℕ) → Scheduler
scheduler_of ready places running owed =
    record {
      ready = ready;
      parked = map context_at places;
      told = map told_at places;
      priorities = map priority_at places;
      cuts = map cut_at places;
      running = running;
      owed = owed;
    }

-- the contents after a thread was told this
abbrev pub awake : Scheduler → Bool → ℕ → Told → Scheduler
awake s ready t told = record s { ready = behind ready t s.ready; told = slice_set s.told t (Some told) }

-- the contents after a thread was cut
abbrev pub stopped : Scheduler → Bool → ℕ → Scheduler
stopped s ready t = record s { ready = behind ready t s.ready; cuts = slice_set s.cuts t true }
