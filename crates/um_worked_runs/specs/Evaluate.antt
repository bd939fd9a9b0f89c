-- The machine by evaluation: a run from a list of choices, and tests for what its relations say.
use Rattle.std.specs.Prelude.{ℕ, zero, suc, ◌+◌, Bool, true, false, ◌==◌, ◌&&◌, ◌||◌, not, nat_le, List, [], ◌∷◌, length, take, Option, Some, None, is_some}
use Rattle.std.specs.List.{list_all, list_any}
use Rattle.um_base.specs.declared.ask.Waiter.{Waiter}
use Rattle.um_base.specs.declared.limits.TheConstants.{THREADS, ROWS}
use Rattle.um_base.specs.declared.names.Kind.{Kind}
use Rattle.um_base.specs.declared.names.ThreadIx.{ThreadIx}
use Rattle.um_base.specs.declared.act.Event.{Event}
use Rattle.um_base.specs.declared.image.Image.{Image}
use Rattle.um_base.specs.Places.{own_row, thread_of_row}
use Rattle.um_machine.specs.declared.pending.Pending.{Pending}
use Rattle.um_machine.specs.declared.thread.Thread.{Thread}
use Rattle.um_machine.specs.State.{State, thread_at, object_at, pair_at, waiters_in, is_living, is_started, instruction_at}
use Rattle.um_machine.specs.Objects.{is_gone, is_held, has_none}
use Rattle.um_machine.specs.Order.{Steps, to_thread}
use Rattle.um_machine.specs.Time.{next_deadline, has_come, has_run_out}
use Rattle.um_machine.specs.Joins.{is_joined, may_say, is_ending}
use Rattle.um_machine.specs.Table.{act_of, after, pays, row_of}
use Rattle.um_machine.specs.Run.{none_due, may_go, must_stop, is_tending, waits_at, is_free_for, opening}

-- which of the steps that it is offered a thread makes
pub data Way : Type 0 where
  -- the next one of its instruction
  goes : Way
  -- the one after an inheritance or the drops of an end, where nothing is due
  skips : Way
  -- the begin of its line
  begins : Way
  -- its exit after the last line
  exits : Way
  -- its end, since it was aborted
  stops : Way
  -- the word to those who wait for its end
  leaves : Way
  -- a step that any thread may make that was started
  tends : Pending → Way

-- the drop of a pair of this thread, whose object is gone
abbrev pub cleans : ℕ → Way
cleans who = tends (Pending.CleanPair (to_thread who))

-- the recycling of an object that is gone
abbrev pub recycles : Way
recycles = tends Pending.Recycle

-- the next deadline
abbrev pub ticks : Way
ticks = tends Pending.Tick

-- the deadline of this thread has come
abbrev pub times_out : ℕ → Way
times_out who = tends (Pending.TimeOut (to_thread who))

-- that of a timer
abbrev pub expires : Way
expires = tends Pending.Expire

-- this thread, which is aborted, waits no longer
abbrev pub cuts : ℕ → Way
cuts who = tends (Pending.Cut (to_thread who))

-- a choice: the thread, the row that its step chooses where it may choose, and the way
pub record Choice : Type 0 where
  pub thread : ℕ
  pub row : ℕ
  pub way : Way

-- a step, and what is left of the instruction then
abbrev pub Offer : Type 0
Offer = Option (Pending × Steps)

abbrev pub offer_if : Bool → Pending × Steps → Offer
offer_if true step = Some step
offer_if false step = None

abbrev pub next_offer : Steps → Offer
next_offer [] = None
next_offer (p ∷ rest) = Some (p, rest)

-- the step after an inheritance or the drops of an end
abbrev pub later_offer : Steps → Offer
later_offer (Pending.Inherit who ∷ p ∷ rest) = Some (p, rest)
later_offer (Pending.Drops from ∷ p ∷ rest) = Some (p, rest)
later_offer _ = None

abbrev pub unless_due : Bool → Offer → Offer
unless_due true offer = offer
unless_due false offer = None

-- whether nothing is pending, and this holds
abbrev pub rests : Steps → Bool → Bool
rests [] b = b
rests (p ∷ rest) b = false

abbrev pub is_at_rest : Thread → Bool
is_at_rest me = rests me.pending (is_living me.life && may_go me)

-- whether a thread at rest has to end
abbrev pub is_at_stop : Thread → Bool
is_at_stop me = rests me.pending (is_living me.life && must_stop me)

-- the step that a thread is offered by a way, or none
abbrev pub offered : State → ℕ → Way → Offer
offered s t goes = next_offer (thread_at s t).pending
offered s t skips = unless_due (none_due (thread_at s t)) (later_offer (thread_at s t).pending)
offered s t begins =
    offer_if (is_at_rest (thread_at s t) && is_some (instruction_at s.image (thread_at s t).place)) (Pending.Begin, [])
offered s t exits =
    offer_if (is_at_rest (thread_at s t) && not (is_some (instruction_at s.image (thread_at s t).place))) (Pending.Exit, [])
offered s t stops = offer_if (is_at_stop (thread_at s t)) (Pending.Killed, [])
offered s t leaves = offer_if (is_ending (thread_at s t)) (Pending.Left, (thread_at s t).pending)
offered s t (tends p) = offer_if (is_tending p && is_started (thread_at s t).life) (p, (thread_at s t).pending)

-- the numbers from i on, n of them
abbrev pub numbers : ℕ → ℕ → List ℕ
numbers i zero = []
numbers i (suc n) = i ∷ numbers (i + 1) n

abbrev pub all_rows : List ℕ
all_rows = numbers 0 ROWS

-- the numbers of all cells: those of the objects, of the joins and of the futexes
abbrev pub all_cells : List ℕ
all_cells = numbers 0 130

abbrev pub all_threads : List ℕ
all_threads = numbers 0 THREADS

-- whether a thread may be the one that cleans an object
abbrev pub is_cleaner : ℕ → Option ThreadIx → Bool
is_cleaner t None = true
is_cleaner t (Some cleaner) = cleaner.0 == t

-- whether a thread may clean the object of a row
abbrev pub may_clean : State → ℕ → ℕ → Bool
may_clean s t x = is_gone (object_at s x).status && not (is_held s x) && is_cleaner t (object_at s x).cleaner

abbrev pub no_pairs_of : State → Option ℕ → Bool
no_pairs_of s None = true
no_pairs_of s (Some t) = has_none s t

-- whether a row can be reserved: one that is free for the kind, or the first one, which stands for none, where there is none or the pool can't pay
abbrev pub may_reserve : State → Bool → Kind → ℕ → Bool
may_reserve s true kind x = is_free_for s kind x || ((x == 0) && not (list_any (is_free_for s kind) all_rows))
may_reserve s false kind x = x == 0

-- whether a step may choose this row
abbrev pub may_choose : State → ℕ → ℕ → Pending → Bool
may_choose s t x (Pending.Inherit who) = pair_at s t x && not (pair_at s who.0 x) && not (x == own_row s.image t)
may_choose s t x (Pending.Drops from) = nat_le from x && pair_at s t x && list_all not (take x (thread_at s t).due)
may_choose s t x (Pending.Reserve kind) = may_reserve s (pays s (thread_at s t).pool 64) kind x
may_choose s t x (Pending.CleanPair who) = may_clean s t (own_row s.image who.0) && pair_at s who.0 x
may_choose s t x Pending.Recycle = may_clean s t x && no_pairs_of s (thread_of_row s.image x)
may_choose s t x Pending.Resume = is_some (thread_at s t).told
may_choose s t x (Pending.ClearInit a) = not (row_of s a == own_row s.image t && is_joined s t)
may_choose s t x (Pending.Join who timeout) = may_say s t x who.0 timeout
may_choose s t x Pending.Left = is_joined s t
may_choose s t x Pending.Tick = is_some (next_deadline s.now s.armed)
may_choose s t x (Pending.TimeOut who) = has_come s.now (thread_at s who.0).until && waits_at s who.0 x
may_choose s t x Pending.Expire = has_run_out s.now (object_at s x).contents
may_choose s t x (Pending.Cut who) = (thread_at s who.0).aborted && waits_at s who.0 x
may_choose s t x p = true

-- what choices come to: their events, whether each was offered and may be chosen, and the state that they leave
pub record Course : Type 0 where
  pub events : List Event
  pub is_lawful : Bool
  pub last : State

abbrev pub event_of : State → Choice → Pending → Event
event_of s c p = record { thread = to_thread c.thread; act = act_of s c.thread c.row p }

-- a choice that takes an offer, and what goes on from there
abbrev pub course_by : State → Choice → (State → Course) → Offer → Course
course_by s c go None = record { events = []; is_lawful = false; last = s }
course_by s c go (Some step) =
    let rest = go (after s c.thread c.row step.0 step.1) in
    record {
      events = event_of s c step.0 ∷ rest.events;
      is_lawful = may_choose s c.thread c.row step.0 && rest.is_lawful;
      last = rest.last;
    }

abbrev pub course : List Choice → State → Course
course [] s = record { events = []; is_lawful = true; last = s }
course (c ∷ cs) s = course_by s c (course cs) (offered s c.thread c.way)

-- whether a thread can make the step of an offer, with any row or cell
abbrev pub can_take : State → ℕ → Offer → Bool
can_take s t None = false
can_take s t (Some step) = list_any (λ x. may_choose s t x step.0) all_cells

abbrev pub can_go : State → ℕ → Way → Bool
can_go s t way = can_take s t (offered s t way)

abbrev pub is_stuck : State → ℕ → Bool
is_stuck s t = not (can_go s t goes || can_go s t skips || can_go s t begins || can_go s t exits || can_go s t stops || can_go s t leaves)

-- whether a thread that was started may clean the object of a row, if it is gone
abbrev pub is_cleanable : State → Bool → ℕ → Bool
is_cleanable s false x = false
is_cleanable s true x = list_any (λ t. is_started (thread_at s t).life && may_clean s t x) all_threads

-- whether a waiter's deadline has come, or it is aborted
abbrev pub is_over : State → Waiter → Bool
is_over s w = let me = thread_at s w.thread.0 in has_come s.now me.until || me.aborted

-- whether somebody may be taken out of a cell, or its timer run out
abbrev pub is_due : State → ℕ → Bool
is_due s c = list_any (is_over s) (waiters_in s c) || has_run_out s.now (object_at s c).contents

-- whether a step of time or of an abort is left, which any thread may make that was started
abbrev pub is_tendable : State → Bool
is_tendable s =
    (is_some (next_deadline s.now s.armed) || list_any (is_due s) all_cells)
    && list_any (λ t. is_started (thread_at s t).life) all_threads

-- whether a state has no more threads and rows than there may be
abbrev pub keeps_limits : State → Bool
keeps_limits s = nat_le (length s.threads) THREADS && nat_le (length s.objects) ROWS && nat_le (length s.pairs) ROWS

-- whether no step is left
abbrev pub is_complete : State → Bool
is_complete s =
    keeps_limits s && list_all (is_stuck s) all_threads
    && not (list_any (λ x. is_cleanable s (is_gone (object_at s x).status) x) all_rows) && not (is_tendable s)

-- a run of an image by choices
abbrev pub run_of : Image → List Choice → Course
run_of image choices = course choices (opening image)
