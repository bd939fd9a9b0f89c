-- Threads: their words, where their own parts lie, what they are told, and who is ready.
use Rattle.std.specs.Prelude.{◌≡◌, ◌≢◌, ◌⊎◌, ℕ, zero, suc, ◌+◌, ◌<◌, ◌≤◌, Bool, true, false, ◌==◌, ◌&&◌, ◌||◌, not, IsTrue, if◌then◌else◌, List, [], ◌∷◌, Option, Some, None, is_some, slice_set, length, nat_lt}
use Rattle.std.specs.List.{list_all, list_any}
use Rattle.um_base.specs.declared.ask.Told.{Told}
use Rattle.um_base.specs.declared.limits.TheConstants.{ROWS, THREADS}
use Rattle.um_machine.specs.declared.thread.Life.{Life}
use Rattle.um_machine.specs.declared.thread.Thread.{Thread}
use Rattle.um_machine.specs.declared.pending.Pending.{Pending}
use Rattle.um_machine.specs.State.{State, is_started, no_rows, thread_at}
use Rattle.um_fine.specs.Context.{Context, as_thread, context_of}
use Rattle.um_fine.specs.Joins.{asleep_at}
use Rattle.um_fine.specs.Scheduler.{is_cut, parked_at, told_at, waits}
use Rattle.um_refinement.specs.Offers.{IsPutBack, is_over}
use Rattle.um_refinement.specs.Fine.{Fine, joins, one_if, over_processors, scheduler, word}
use Rattle.um_fine.specs.Processor.{Processor, fails}
use Rattle.um_refinement.specs.Lists.{Adds, adders, counted, has_held, is_cut_told, is_done, is_move_done, is_sleep, is_wake, of_thread, runs, runs_thread, wake_of}

-- The word of a thread index says what the machine's thread is.
pub record WordIs (f : Fine) (m : State) (t : ℕ) : Type 0 where
  pub life : (word f t).life ≡ (thread_at m t).life
  pub doomed : (word f t).doomed ≡ (thread_at m t).doomed
  pub mode : (word f t).mode ≡ (thread_at m t).mode
  pub domain : (word f t).domain ≡ (thread_at m t).domain
  pub aborted : (word f t).aborted ≡ (thread_at m t).aborted
  pub suspended : (word f t).suspended ≡ (thread_at m t).suspended

-- a thread without what sites keep of it
abbrev pub own_part : Thread → Thread
own_part me = as_thread (context_of 0 me)

-- rows as flags
abbrev pub flags_of : List ℕ → List Bool
flags_of [] = no_rows
flags_of (x ∷ xs) = slice_set (flags_of xs) x true

abbrev pub is_ended : Life → Bool
is_ended Life.Ended = true
is_ended _ = false

-- how often it stands that a thread was cut and isn't taken yet: on lists of processors, and with the scheduler
abbrev pub cutters : Fine → ℕ → ℕ
cutters f t = over_processors f (λ p. counted (is_cut_told t) p.todo) + one_if (is_cut (scheduler f) t)

-- an own part as the machine's thread has it: of one that was cut and isn't taken yet nothing is left but that it is killed
abbrev pub as_cut : ℕ → Context → Context
as_cut zero c = c
as_cut (suc n) c = record c { pending = Pending.Killed ∷ [] }

-- An own part is that of the machine's thread, which was started, and holds what that thread's call holds: rows that there are.
-- Where so often it stands that it was cut, its own part still waits.
pub record IsOf (f : Fine) (m : State) (c : Context) : Type 0 where
  pub index : c.thread < THREADS
  pub own : as_thread (as_cut (cutters f c.thread) c) ≡ own_part (thread_at m c.thread)
  pub waiting : 0 < cutters f c.thread → waits c.pending ≡ true
  pub claims : (thread_at m c.thread).checked ≡ flags_of c.claims
  pub ended : c.ended ≡ is_ended (thread_at m c.thread).life
  pub started : IsTrue (is_started (thread_at m c.thread).life)
  pub below : list_all (λ x. nat_lt x ROWS) c.claims ≡ true

-- The own part of a thread that a processor runs is that of the machine's thread until its steps are over; then it holds nothing.
pub record IsRun (f : Fine) (m : State) (c : Context) : Type 0 where
  pub index : c.thread < THREADS
  pub started : IsTrue (is_started (thread_at m c.thread).life)
  pub of : is_over c ≡ false → IsOf f m c
  pub over : is_over c ≡ true → c.claims ≡ []

-- a processor runs a thread whose steps aren't over
abbrev pub runs_on : ℕ → Processor → Bool
runs_on t p = runs_thread t p && not (is_over p.context)

-- in how many places an own part lies: with processors that run the thread, on the way to the ready list, parked, and asleep
abbrev pub places : Fine → ℕ → ℕ
places f t =
    over_processors f (λ p. one_if (runs_on t p) + of_thread t (adders p.todo)) + one_if (is_some (parked_at (scheduler f) t))
    + one_if (is_some (asleep_at (joins f) t))

-- An own part lies with the processor that runs the thread, or is parked; that of a thread that was started and isn't added yet is on a
-- processor's list.
pub record ContextsAre (f : Fine) (m : State) : Type 0 where
  pub running : (k : ℕ) → k < f.cpus → runs (f.processors k) ≡ true → IsRun f m (f.processors k).context
  pub parked : (t : ℕ) (c : Context) → parked_at (scheduler f) t ≡ Some c → IsOf f m c × (c.thread ≡ t) × (c.ended ≡ false) × IsPutBack c
  -- one that sleeps is at rest, and holds nothing
  pub asleep : (t : ℕ) (c : Context) → asleep_at (joins f) t ≡ Some c
      → IsOf f m c × (c.thread ≡ t) × (c.ended ≡ false) × (c.pending ≡ []) × (c.claims ≡ [])
  pub added : (k : ℕ) (c : Context) → k < f.cpus → Adds c (f.processors k).todo → IsOf f m c × (c.ended ≡ false) × (c.pending ≡ []) × (c.noted ≡ None)
  pub once : (t : ℕ) → t < THREADS → places f t ≤ 1
  -- a turn ends with a thread that is at rest, and has ended or is doomed, or goes to sleep
  pub done : (k : ℕ) → k < f.cpus → list_any is_done (f.processors k).todo ≡ true → list_any is_sleep (f.processors k).todo ≡ false
      → ((f.processors k).context.pending ≡ []) × (((f.processors k).context.ended ≡ true) ⊎ ((thread_at m (f.processors k).context.thread).doomed ≡ true))

-- A thread that lies nowhere has no step left: it was never started, has ended, or is doomed at rest.
pub record AwayIs (f : Fine) (m : State) (t : ℕ) : Type 0 where
  pub away : places f t ≡ 0 → (((thread_at m t).life ≢ Life.Living) ⊎ ((thread_at m t).doomed ≡ true)) × ((thread_at m t).pending ≡ [])

abbrev pub first_told : Option Told → Option Told → Option Told
first_told None told = told
first_told (Some w) told = Some w

-- what it is told: by a wake that a processor still has to make, or by the scheduler
abbrev pub told_by : Fine → ℕ → ℕ → Option Told
told_by f t zero = told_at (scheduler f) t
told_by f t (suc k) = first_told (wake_of t (f.processors k).todo) (told_by f t k)

-- in how many places what a thread is told stands: on lists of processors, and with the scheduler
abbrev pub tellers : Fine → ℕ → ℕ
tellers f t = over_processors f (λ p. counted (is_wake t) p.todo) + one_if (is_some (told_at (scheduler f) t))

-- What a woken thread is told stands with the scheduler, or on the list of the processor that wakes it.
pub record ToldIs (f : Fine) (m : State) (t : ℕ) : Type 0 where
  pub told : (thread_at m t).told ≡ told_by f t f.cpus
  pub once : tellers f t ≤ 1

-- A thread is held by the processor that runs it.
pub record HeldIs (f : Fine) (t : ℕ) : Type 0 where
  pub held : one_if (word f t).held ≡ over_processors f (λ p. one_if (runs_thread t p && has_held p))

-- what a thread does after its end
abbrev pub is_ending : Pending → Bool
is_ending (Pending.Drops from) = true
is_ending (Pending.ClearInit a) = true
is_ending (Pending.Dooms from) = true
is_ending q = false

-- A processor that holds its thread has that one's domain; and what it was told of a domain to which its thread moves is no error while it
-- has still to end the claim. A thread that has ended, or dooms all, has only the steps of that left, and isn't held.
pub record DomainKept (f : Fine) (k : ℕ) : Type 0 where
  pub kept : has_held (f.processors k) ≡ true → (f.processors k).domain ≡ (word f (f.processors k).context.thread).domain
  pub moves : list_any is_move_done (f.processors k).todo ≡ true → fails (f.processors k).reply ≡ false
  pub lives : has_held (f.processors k) ≡ true → (f.processors k).context.ended ≡ false
  pub ends : (f.processors k).context.ended ≡ true → list_all is_ending (f.processors k).context.pending ≡ true

-- how often a number stands in a list
abbrev pub occurs : ℕ → List ℕ → ℕ
occurs x [] = 0
occurs x (y ∷ ys) = if x == y then occurs x ys + 1 else occurs x ys

abbrev pub is_ready_there : Option Context → Option Told → Bool → Bool
is_ready_there None told cut = false
is_ready_there (Some c) told cut = not (waits c.pending) || is_some told || cut

-- Who is ready is parked, stands in the ready list once, and waits for nothing.
pub record ReadyIs (f : Fine) (t : ℕ) : Type 0 where
  pub ready : occurs t (scheduler f).ready ≡ one_if (is_ready_there (parked_at (scheduler f) t) (told_at (scheduler f) t) (is_cut (scheduler f) t))

-- The scheduler counts the processors that run a thread.
pub record RunningIs (f : Fine) : Type 0 where
  pub running : (scheduler f).running ≡ over_processors f (λ p. one_if (runs p))

-- The scheduler has a place for each thread index.
pub record SchedulerIs (f : Fine) : Type 0 where
  pub parked : length (scheduler f).parked ≡ THREADS
  pub told : length (scheduler f).told ≡ THREADS
  pub cuts : length (scheduler f).cuts ≡ THREADS
