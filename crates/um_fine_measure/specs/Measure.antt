-- What a processor and a site have left of fine steps: a number of each. A step lowers the sum of what its processor and its site have left,
-- of which some goes from one to the other by the step, and some to what all sites and processors have left together (Whole).
use Rattle.std.specs.Prelude.{ℕ, ◌+◌, ◌-◌, ◌*◌, Bool, true, false, if◌then◌else◌, [], ◌∷◌, length, Option, Some, None}
use Rattle.um_base.specs.declared.ask.Told.{Told}
use Rattle.um_base.specs.declared.image.Image.{Image}
use Rattle.um_base.specs.declared.limits.TheConstants.{ROWS, THREADS}
use Rattle.um_machine.specs.declared.pending.Pending.{Pending}
use Rattle.um_machine.specs.Order.{Steps}
use Rattle.um_machine.specs.State.{first_place}
use Rattle.um_measure.specs.Measure.{ahead as above, lines_ahead, lines_left, total}
use Rattle.um_words.specs.declared.row_word.RowWord.{RowWord}
use Rattle.um_words.specs.declared.row_word.Stage.{Stage}
use Rattle.um_fine.specs.Cells.{Cell}
use Rattle.um_fine.specs.Clock.{Clock, Marked, deadlines}
use Rattle.um_fine.specs.Context.{Context}
use Rattle.um_fine.specs.Joins.{Joins}
use Rattle.um_fine.specs.Memory.{Bytes}
use Rattle.um_fine.specs.Objects.{ObjectCell}
use Rattle.um_fine.specs.Places.{Todo, Todos}
use Rattle.um_fine.specs.Processor.{Processor}
use Rattle.um_fine.specs.Scheduler.{Scheduler}
use Rattle.um_fine.specs.Sites.{SiteState}

-- the end of a thread: its exit or that it is killed, a visit of each row, two marks cleared with the claims that may end then and those told
-- that join it, and the end of its turn
abbrev pub end_cost : ℕ
end_cost = ROWS + 9

-- the cleaning of an object: a visit of each row, the cell cleared, the row vacated, and the address given back
abbrev pub cleaning_cost : ℕ
cleaning_cost = ROWS + 3

-- one that waits: its wake, and the end of one more turn
abbrev pub waiting_cost : ℕ
waiting_cost = 3

-- a deadline: its mark is due, is handled, and is paid; and time goes on to it
abbrev pub mark_cost : ℕ
mark_cost = 3

abbrev pub armed_cost : ℕ
armed_cost = mark_cost + 1

-- a word is read once more behind a wait, and where it shows that its thread is aborted a look is made
abbrev pub reread_cost : ℕ
reread_cost = 2

-- a sleep: the word is read, the thread is put to sleep, the word is read once more, the turn is done with, and the thread is taken again
abbrev pub sleep_cost : ℕ
sleep_cost = 5

-- a rouse: the thread is looked for and added, and may sleep once more
abbrev pub rouse_cost : ℕ
rouse_cost = 2 + sleep_cost

-- so many processors there are at most, and each may be about to read the word of one thread once more: by a step that wakes the thread, each
-- may rouse it
abbrev pub MOST_CPUS : ℕ
MOST_CPUS = 8

abbrev pub waking_cost : ℕ
waking_cost = rouse_cost * MOST_CPUS

-- the end of a thread's turn: it is put back, and is taken again
abbrev pub put_back_cost : ℕ
put_back_cost = 2

-- the visits of the rows from one on: one at least
abbrev pub visits_cost : ℕ → ℕ
visits_cost x = 1 + (ROWS - (x + 1))

-- Steps of a thread.

-- the event of a pending step, with what it adds to other costs. A begin is paid by its line, and an exit, a fatal error and a kill by the end of
-- the thread. An inheritance and the drops of an end are visits alone
abbrev pub event_cost : Image → Pending → ℕ
event_cost image Pending.Begin = 0
event_cost image Pending.Exit = 0
event_cost image (Pending.Fatal reason cause) = 0
event_cost image (Pending.Check a kind want refusal) = 2
event_cost image (Pending.CopyStr a) = 2
event_cost image Pending.Killed = 0
event_cost image (Pending.Work a ask) = 1 + waiting_cost + reread_cost
event_cost image (Pending.Join who timeout) = 1 + waiting_cost + reread_cost
event_cost image (Pending.FutexWait a value timeout) = 1 + waiting_cost + reread_cost
event_cost image (Pending.Arm ticks) = 1 + armed_cost
event_cost image (Pending.ArmTimer ticks) = 1 + armed_cost
event_cost image (Pending.Abort who) = 1 + rouse_cost + waking_cost
event_cost image (Pending.Continue who) = 1 + rouse_cost + waking_cost
event_cost image (Pending.Suspend who) = 1 + sleep_cost
event_cost image (Pending.Start who script stack priority mode) = 1 + waking_cost
event_cost image Pending.Resume = 0
event_cost image (Pending.Inherit who) = 0
event_cost image (Pending.Drops from) = 0
event_cost image (Pending.SetInit a strict undo) = 4
event_cost image (Pending.ClearInit a) = 2
event_cost image (Pending.Reserve kind) = 2 + cleaning_cost
event_cost image (Pending.Born a) = 1 + cleaning_cost
event_cost image (Pending.Buffer size) = 2
event_cost image (Pending.EnterUser script) = 1 + lines_left image (first_place image script)
event_cost image (Pending.Dooms from) = 1 + (THREADS - from)
event_cost image q = 1

-- a thread that is started, with the step that puts it into the ready list
abbrev pub start_cost : Image → ℕ → ℕ
start_cost image script = 2 + end_cost + lines_left image (first_place image script)

-- the fine steps before and after an event: a hold, claims, the load of regions, looks, an edit, visits, a note, that a deadline is owed and settled,
-- and those told that join a thread
abbrev pub round_cost : Image → Pending → ℕ
round_cost image (Pending.Load to a n) = 5
round_cost image (Pending.Store a n value) = 5
round_cost image (Pending.Fetch a) = 5
round_cost image (Pending.Probe a amount) = 6
round_cost image (Pending.CopyIn a amount) = 6
round_cost image (Pending.CopyOut a) = 5
round_cost image (Pending.CopyStr a) = 5
round_cost image (Pending.DomInit d parts) = 2
round_cost image (Pending.DomAdd d range attr) = 2
round_cost image (Pending.DomRemove d range attr) = 2
round_cost image (Pending.DomMove d who) = 2
round_cost image (Pending.Start who script stack priority mode) = 3 + start_cost image script
round_cost image (Pending.Work a ask) = 2
round_cost image (Pending.Join who timeout) = 2
round_cost image (Pending.FutexWait a value timeout) = 7
round_cost image (Pending.FutexWake a all) = 5
round_cost image (Pending.Arm ticks) = 2
round_cost image (Pending.ArmTimer ticks) = 1
round_cost image (Pending.ClearInit a) = 1
round_cost image (Pending.Inherit who) = ROWS
round_cost image (Pending.Drops from) = ROWS
round_cost image q = 0

-- a pending step
abbrev pub fine_cost : Image → Pending → ℕ
fine_cost image q = event_cost image q + round_cost image q

abbrev pub steps_cost : Image → Steps → ℕ
steps_cost image steps = total (fine_cost image) steps

-- Threads.

-- the end of a thread that hasn't ended, and the lines that it has still to begin
abbrev pub ahead_cost : Image → Context → ℕ
ahead_cost image c = if c.ended then 0 else end_cost + lines_ahead image c.place c.pending

-- a thread after the fine steps that are on its processor's list
abbrev pub rest_cost : Image → Context → ℕ
rest_cost image c = ahead_cost image c + steps_cost image c.pending + put_back_cost

-- a thread that no processor runs: it is taken, and the claims of its call end
abbrev pub parked_cost : Image → Context → ℕ
parked_cost image c = 1 + length c.claims + ahead_cost image c + steps_cost image c.pending

-- Lists of fine steps.

-- a fine step that isn't its thread's own event
abbrev pub todo_cost : Image → Todo → ℕ
todo_cost image (Todo.read_claim (Some d)) = 2
todo_cost image (Todo.wake who told) = waiting_cost
todo_cost image (Todo.add c) = 1 + parked_cost image c
todo_cost image (Todo.pass who x) = visits_cost x
todo_cost image (Todo.drop x) = visits_cost x
todo_cost image (Todo.clean_pair who x) = visits_cost x
todo_cost image (Todo.reread site) = reread_cost
todo_cost image (Todo.rouse who) = rouse_cost
todo_cost image q = 1

abbrev pub todos_cost : Image → Todos → ℕ
todos_cost image todo = total (todo_cost image) todo

-- an event with the steps that are left behind it
abbrev pub shown_cost : Image → Pending → Steps → ℕ
shown_cost image Pending.Begin rest = 0
shown_cost image Pending.Exit rest = 0
shown_cost image Pending.Killed rest = 0
shown_cost image q rest = event_cost image q + steps_cost image rest + put_back_cost

-- a list: what its steps cost, what its thread's lines and end cost, and what the thread costs after the list. A thread that is done costs
-- nothing more, nor does one that is put to sleep: who sleeps costs where it lies
abbrev pub list_cost : Image → ℕ → ℕ → Todos → ℕ
list_cost image ahead rest [] = rest
list_cost image ahead rest (Todo.show q steps ∷ todo) = ahead + shown_cost image q steps + todos_cost image todo
list_cost image ahead rest (Todo.park ∷ todo) = rest
list_cost image ahead rest (Todo.done ∷ todo) = 1
list_cost image ahead rest (Todo.paid ∷ todo) = 1
list_cost image ahead rest (Todo.sleep ∷ todo) = 2 + rest
list_cost image ahead rest (q ∷ todo) = todo_cost image q + list_cost image ahead rest todo

-- a list, with the ends of the claims of its thread's call
abbrev pub running_cost : Image → Context → Todos → ℕ
running_cost image c todo = length c.claims + list_cost image (ahead_cost image c) (rest_cost image c) todo

abbrev pub cost_if_running : Image → Context → Todos → ℕ
cost_if_running image c [] = 0
cost_if_running image c (q ∷ todo) = running_cost image c (q ∷ todo)

abbrev pub processor_cost : Image → Processor → ℕ
processor_cost image p = cost_if_running image p.context p.todo

-- Sites.

-- the cleaning of a dynamic object is still to come, and in cleaning each claim could begin it once more
abbrev pub stage_cost : Stage → Bool → ℕ → ℕ
stage_cost Stage.Free dynamic claims = 0
stage_cost Stage.Live dynamic claims = if dynamic then cleaning_cost else 0
stage_cost Stage.Dying dynamic claims = cleaning_cost
stage_cost Stage.Cleaning dynamic claims = cleaning_cost * claims

abbrev pub row_cost : RowWord → ℕ
row_cost w = stage_cost w.stage w.dynamic w.claims

-- those who wait
abbrev pub object_cost : ObjectCell → ℕ
object_cost o = waiting_cost * length o.waiters

-- those who wait on a futex
abbrev pub memory_cost : Bytes → ℕ
memory_cost m = waiting_cost * length m.futexes

-- a place for a thread that no processor runs
abbrev pub place_cost : Image → Option Context → ℕ
place_cost image None = 0
place_cost image (Some c) = parked_cost image c

-- one more turn of a thread that was woken
abbrev pub told_cost : Option Told → ℕ
told_cost None = 0
told_cost (Some told) = put_back_cost

abbrev pub scheduler_cost : Image → Scheduler → ℕ
scheduler_cost image s = total (place_cost image) s.parked + total told_cost s.told

-- those who wait for the end of a thread, and those who sleep
abbrev pub joins_cost : Image → Joins → ℕ
joins_cost image j = waiting_cost * length j.waiters + total (place_cost image) j.asleep

-- a mark that wasn't given yet
abbrev pub given_cost : Bool → ℕ
given_cost true = 0
given_cost false = mark_cost

-- marks, and the deadlines to which time has still to go on
abbrev pub clock_cost : Clock → ℕ
clock_cost c = total (λ (m : Marked). given_cost m.given) c.marks + above c.now (deadlines c.marks)

abbrev pub cell_cost : Image → Cell → ℕ
cell_cost image (Cell.object o) = object_cost o
cell_cost image (Cell.memory m) = memory_cost m
cell_cost image (Cell.scheduler s) = scheduler_cost image s
cell_cost image (Cell.clock c) = clock_cost c
cell_cost image (Cell.joins j) = joins_cost image j
cell_cost image c = 0

abbrev pub site_cost : Image → SiteState → ℕ
site_cost image (SiteState.row w) = row_cost w
site_cost image (SiteState.cell n c) = cell_cost image c
site_cost image s = 0
