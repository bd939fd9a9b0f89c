-- A measure of the states of a machine, which falls with each step.
use Rattle.std.specs.Prelude.{ℕ, zero, suc, ◌+◌, ◌-◌, ◌*◌, max, Bool, true, false, if◌then◌else◌, List, [], ◌∷◌, length, drop, nat_lt, Option, Some, None, slice_get}
use Rattle.um_base.specs.Weight.{line_cost, lines_cost, weights_from}
use Rattle.um_base.specs.declared.image.Image.{Image}
use Rattle.um_base.specs.declared.instr.Instr.{Instr}
use Rattle.um_base.specs.declared.limits.TheConstants.{ROWS, THREADS}
use Rattle.um_base.specs.declared.names.ThreadIx.{ThreadIx}
use Rattle.um_machine.specs.declared.contents.Contents.{Contents}
use Rattle.um_machine.specs.declared.object.Object.{Object}
use Rattle.um_machine.specs.declared.pending.Pending.{Pending}
use Rattle.um_machine.specs.declared.thread.Life.{Life}
use Rattle.um_machine.specs.declared.thread.Place.{Place}
use Rattle.um_machine.specs.declared.thread.Thread.{Thread}
pub use Rattle.um_invariants.specs.Counts.{one_if}
use Rattle.um_machine.specs.Objects.{is_gone}
use Rattle.um_machine.specs.Order.{Steps}
use Rattle.um_machine.specs.State.{State, script_lines, is_repeat, first_place, next_place}

-- the sum of a number of each item
abbrev pub total : {A : Type 0} → (A → ℕ) → List A → ℕ
total f [] = 0
total f (x ∷ xs) = f x + total f xs

-- how many flags are set
abbrev pub flags_set : List Bool → ℕ
flags_set flags = total one_if flags

-- Lines.

-- the weights of the scripts behind the i-th
unfoldable pub weights_behind : Image → ℕ → List ℕ
weights_behind image i = weights_from (i + 1) (drop (i + 1) image.scripts)

abbrev pub cost_of_line : List ℕ → ℕ → Option Instr → ℕ
cost_of_line later i None = 0
cost_of_line later i (Some line) = line_cost later i line

-- what the lines from the last repeat before a line up to that line cost
abbrev pub turn_cost : List ℕ → ℕ → List Instr → ℕ → ℕ
turn_cost later i lines zero = 0
turn_cost later i lines (suc line) =
    if is_repeat (slice_get lines line) then 0 else turn_cost later i lines line + cost_of_line later i (slice_get lines line)

-- what the lines that are left from a place on cost, with all turns that are left
abbrev pub cost_from : List ℕ → List Instr → Place → ℕ
cost_from later lines place =
    lines_cost later place.script (max 1 place.left) (drop place.line lines) + (place.left - 1) * turn_cost later place.script lines place.line

unfoldable pub lines_left : Image → Place → ℕ
lines_left image place = cost_from (weights_behind image place.script) (script_lines image place.script) place

-- Steps.

-- what the end of a thread costs: an exit or a fatal error, and what follows, which is at most the dooms of all threads
abbrev pub end_cost : ℕ
end_cost = 2 + THREADS

-- what a step costs: one for itself, one more where a single step may follow in the place of those that are left, and what it adds
-- to the other costs. A fatal error and a kill are paid by the end, a drop by its pair, and an inheritance by its row
abbrev pub step_cost : Image → Pending → ℕ
step_cost image (Pending.Check addr kind want refusal) = 2
step_cost image (Pending.CopyStr addr) = 2
step_cost image (Pending.Work addr ask) = 4
step_cost image (Pending.Join who timeout) = 3
step_cost image (Pending.FutexWait addr value timeout) = 3
step_cost image (Pending.Arm ticks) = 2
step_cost image (Pending.ArmTimer ticks) = 2
step_cost image Pending.Killed = 0
step_cost image (Pending.SetInit addr strict undo) = 2
step_cost image (Pending.Buffer size) = 2
step_cost image (Pending.Grant who addr) = 3
step_cost image (Pending.Own who) = 3 + 3 * ROWS
step_cost image (Pending.Born addr) = 3
step_cost image (Pending.Reserve kind) = 4
step_cost image (Pending.Start who script stack priority mode) = 1 + end_cost + lines_left image (first_place image script)
step_cost image (Pending.EnterUser script) = 1 + lines_left image (first_place image script)
step_cost image (Pending.Dooms from) = 1 + (THREADS - from)
step_cost image (Pending.Inherit who) = 0
step_cost image (Pending.Drops from) = 0
step_cost image (Pending.Fatal reason cause) = 0
step_cost image _ = 1

-- Threads.

-- what the lines cost that a thread has still to begin
abbrev pub lines_ahead : Image → Place → Steps → ℕ
lines_ahead image place [] = lines_left image place
lines_ahead image place (step ∷ steps) = lines_left image (next_place image place)

-- a living thread has its lines, and its end
abbrev pub life_cost : Image → Life → Place → Steps → ℕ
life_cost image Life.Unborn place steps = 0
life_cost image Life.Living place steps = end_cost + lines_ahead image place steps
life_cost image Life.Ended place steps = 0

-- what the rows cost that a creator has still to pass on
abbrev pub due_cost : Option ThreadIx → List Bool → ℕ
due_cost None due = 0
due_cost (Some child) due = 3 * flags_set due

unfoldable pub thread_cost : Image → Thread → ℕ
thread_cost image me = life_cost image me.life me.place me.pending + total (step_cost image) me.pending + due_cost me.child me.due

-- States.

-- whether a timer runs
abbrev pub is_running : Contents → Bool
is_running (Contents.Running deadline) = true
is_running contents = false

-- an object that is gone is still to be freed, who waits on it may be taken out, and a timer that runs may run out
abbrev pub object_cost : Object → ℕ
object_cost o = one_if (is_gone o.status) + length o.waiters + one_if (is_running o.contents)

-- how many deadlines are above a moment
abbrev pub ahead : ℕ → List ℕ → ℕ
ahead now [] = 0
ahead now (d ∷ ds) = one_if (nat_lt now d) + ahead now ds

-- who waits for the end of a thread or on a futex may be taken out, and time may go on to each deadline
abbrev pub time_of : State → ℕ
time_of s = length s.joins + length s.futexes + ahead s.now s.armed

-- each pair is still to be dropped, by which its object may be gone
unfoldable pub store_cost : List (List Bool) → List Object → ℕ
store_cost pairs objects = 2 * total flags_set pairs + total object_cost objects

-- a bound on the events that can still come, as long as each inheritance is of a row that is due
unfoldable pub measure : State → ℕ
measure s = total (thread_cost s.image) s.threads + store_cost s.pairs s.objects + time_of s

-- a bound on the deadlines of a run: those that were armed, and what the threads have still to do, which pays for each that is to come. No step
-- raises it
unfoldable pub armings : State → ℕ
armings s = length s.armed + total (thread_cost s.image) s.threads
