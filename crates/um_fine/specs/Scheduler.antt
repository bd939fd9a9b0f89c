-- The scheduler's cell: the ready list, the threads that no processor runs, what those are told that were woken, and each thread's priority.
use Rattle.std.specs.Prelude.{ℕ, ℤ, ◌+◌, ◌-◌, Bool, true, false, ◌&&◌, ◌||◌, not, nat_lt, List, [], ◌∷◌, ◌++◌, length, Option, Some, None, is_some, unwrap_or, slice_index_or, slice_set}
use Rattle.um_base.specs.declared.act.Act.{Act}
use Rattle.um_base.specs.declared.ask.Told.{Told}
use Rattle.um_base.specs.declared.limits.TheConstants.{THREADS}
use Rattle.um_machine.specs.declared.pending.Pending.{Pending}
use Rattle.um_machine.specs.Order.{Steps, to_thread}
use Rattle.um_words.specs.CellActs.{is_resume}
use Rattle.um_words.specs.Cells.{takes_scheduling}
use Rattle.um_words.specs.declared.fine.FineAct.{FineAct}
use Rattle.um_words.specs.declared.fine.More.{More}
use Rattle.um_words.specs.declared.fine.Unseen.{Unseen}
use Rattle.um_fine.specs.Context.{Context, no_context}
use Rattle.um_fine.specs.Steps.{Exchange}
use Rattle.um_fine.specs.Answers.{context_in, wake_in}

pub record Scheduler : Type 0 where
  pub ready : List ℕ  -- the first one is taken next
  pub parked : List (Option Context)  -- by thread index
  pub told : List (Option Told)  -- by thread index
  pub priorities : List ℤ  -- by thread index: of the thread that was put here last, or at the opening
  pub cuts : List Bool  -- by thread index: it was cut, and is to be killed
  pub running : ℕ  -- how many threads processors run
  pub owed : ℕ  -- how many marks are owed

abbrev pub parked_at : Scheduler → ℕ → Option Context
parked_at s t = slice_index_or s.parked t None

abbrev pub told_at : Scheduler → ℕ → Option Told
told_at s t = slice_index_or s.told t None

abbrev pub is_cut : Scheduler → ℕ → Bool
is_cut s t = slice_index_or s.cuts t false

-- whether a thread waits
abbrev pub waits : Steps → Bool
waits (Pending.Resume ∷ rest) = true
waits steps = false

abbrev pub behind : Bool → ℕ → List ℕ → List ℕ
behind true t ready = ready ++ t ∷ []
behind false t ready = ready

-- a thread is taken: a woken one resumes
abbrev pub takes_turn : Context → Option Told → FineAct
takes_turn c None = FineAct.Unseen (Unseen.Next (to_thread c.thread))
takes_turn c (Some told) = FineAct.Shown (record { thread = to_thread c.thread; act = Act.Resume }) More.Nothing

-- one that was cut is to be killed, and nothing else
abbrev pub to_kill : Bool → Context → Context
to_kill true c = record c { pending = Pending.Killed ∷ [] }
to_kill false c = c

-- the first thread of the ready list, with what it is told
abbrev pub first_ready : Scheduler → List ℕ → Exchange
first_ready s [] = Exchange.nothing
first_ready s (t ∷ ready) = Exchange.thread (to_kill (is_cut s t) (unwrap_or (parked_at s t) no_context)) (told_at s t)

-- whether a thread stands in the ready list once it is put back
abbrev pub is_ready : Scheduler → Context → Bool
is_ready s c = not (waits c.pending) || is_some (told_at s c.thread) || is_cut s c.thread

-- What it answers.

abbrev pub turn_in : FineAct → Exchange → FineAct
turn_in act (Exchange.thread c told) = takes_turn c told
turn_in act moved = act

abbrev pub sched_moves_unseen : Scheduler → Exchange → Unseen → Exchange
sched_moves_unseen s moved (Unseen.Next who) = first_ready s s.ready
sched_moves_unseen s moved unseen = moved

abbrev pub sched_moves : Scheduler → FineAct → Exchange → Exchange
sched_moves s (FineAct.Shown event more) moved = first_ready s s.ready
sched_moves s (FineAct.Unseen unseen) moved = sched_moves_unseen s moved unseen

abbrev pub sched_says_unseen : Scheduler → Exchange → Unseen → FineAct
sched_says_unseen s moved (Unseen.Next who) = turn_in (FineAct.Unseen (Unseen.Next who)) (first_ready s s.ready)
sched_says_unseen s moved (Unseen.Wake who ready) = FineAct.Unseen (Unseen.Wake who (is_some (parked_at s who.0)))
sched_says_unseen s moved (Unseen.Cut who ready) = FineAct.Unseen (Unseen.Cut who (is_some (parked_at s who.0)))
sched_says_unseen s moved (Unseen.Park who ready) = FineAct.Unseen (Unseen.Park who (is_ready s (context_in moved)))
sched_says_unseen s moved unseen = FineAct.Unseen unseen

abbrev pub sched_says : Scheduler → Exchange → FineAct → FineAct
sched_says s moved (FineAct.Shown event more) = turn_in (FineAct.Shown event more) (first_ready s s.ready)
sched_says s moved (FineAct.Unseen unseen) = sched_says_unseen s moved unseen

-- Which steps it takes. The bounds on the list and on running threads are those of the word.

abbrev pub has_ready : Scheduler → List ℕ → Bool
has_ready s [] = false
has_ready s (t ∷ ready) = is_some (parked_at s t) && nat_lt s.running 255

abbrev pub has_place : Scheduler → Bool
has_place s = nat_lt (length s.ready) THREADS

abbrev pub sched_takes_unseen : Scheduler → Unseen → Bool
sched_takes_unseen s Unseen.Owe = nat_lt s.owed 524287
sched_takes_unseen s Unseen.Paid = nat_lt 0 s.owed
sched_takes_unseen s unseen = takes_scheduling (has_ready s s.ready) (has_place s) (nat_lt 0 s.running) unseen

abbrev pub sched_takes : Scheduler → FineAct → Bool
sched_takes s (FineAct.Shown event more) = is_resume event.act && has_ready s s.ready
sched_takes s (FineAct.Unseen unseen) = sched_takes_unseen s unseen

-- What it leaves.

abbrev pub first_taken : Scheduler → List ℕ → Scheduler
first_taken s [] = s
first_taken s (t ∷ ready) =
    record s {
      ready = ready;
      parked = slice_set s.parked t None;
      told = slice_set s.told t None;
      cuts = slice_set s.cuts t false;
      running = s.running + 1;
    }

abbrev pub put_back : Scheduler → Bool → Context → Scheduler
put_back s ready c =
    record s {
      ready = behind ready c.thread s.ready;
      parked = slice_set s.parked c.thread (Some c);
      priorities = slice_set s.priorities c.thread c.priority;
    }

abbrev pub one_less : Scheduler → Scheduler
one_less s = record s { running = s.running - 1 }

abbrev pub sched_after_unseen : Scheduler → Exchange → Unseen → Scheduler
sched_after_unseen s moved (Unseen.Next who) = first_taken s s.ready
sched_after_unseen s moved (Unseen.Wake who ready) =
    record s { ready = behind ready who.0 s.ready; told = slice_set s.told who.0 (Some (wake_in moved)) }
sched_after_unseen s moved (Unseen.Park who ready) = one_less (put_back s ready (context_in moved))
sched_after_unseen s moved (Unseen.Cut who ready) = record s { ready = behind ready who.0 s.ready; cuts = slice_set s.cuts who.0 true }
sched_after_unseen s moved Unseen.Owe = record s { owed = s.owed + 1 }
sched_after_unseen s moved Unseen.Paid = record s { owed = s.owed - 1 }
sched_after_unseen s moved (Unseen.Add who) = put_back s true (context_in moved)
sched_after_unseen s moved Unseen.Done = one_less s
sched_after_unseen s moved unseen = s

abbrev pub sched_after : Scheduler → FineAct → Exchange → Scheduler
sched_after s (FineAct.Shown event more) moved = first_taken s s.ready
sched_after s (FineAct.Unseen unseen) moved = sched_after_unseen s moved unseen
