-- The event of a thread's next step, and what has to be done after it.
use Rattle.std.specs.Prelude.{ℕ, Bool, true, false, List, [], ◌∷◌, ◌++◌, ◌&&◌, ◌||◌, not, drop, Some, if◌then◌else◌}
use Rattle.um_base.specs.declared.ask.Told.{Told}
use Rattle.um_base.specs.declared.image.Image.{Image}
use Rattle.um_base.specs.declared.names.ThreadIx.{ThreadIx}
use Rattle.um_machine.specs.declared.pending.Pending.{Pending}
use Rattle.um_machine.specs.Goes.{Next}
use Rattle.um_machine.specs.Order.{Steps}
use Rattle.um_words.specs.declared.thread_word.ThreadWord.{ThreadWord}
use Rattle.um_fine.specs.Context.{Context}
use Rattle.um_fine.specs.Continues.{gone_part}
use Rattle.um_fine.specs.Follows.{end_calls, filled_up, wakes}
use Rattle.um_fine.specs.Places.{Todo, Todos}
use Rattle.um_fine.specs.Processor.{Processor}
use Rattle.um_processor.specs.declared.phase.Phase.{Phase}
use Rattle.um_processor.specs.declared.running.Running.{Running}
use Rattle.um_processor.specs.declared.running.calls.Wanted.{Wanted}
use Rattle.um_base.specs.declared.act.Answer.{Answer}
use Rattle.um_processor.specs.Phases.{first_of, released, showing}
use Rattle.um_tables.specs.Contexts.{steps_behind}
use Rattle.um_processor.specs.Processors.{Ready, behind_access, ready_of, rereads_if, settling_of, with_todo}

-- the steps after the next one
abbrev pub rest_of : Running → Steps
rest_of r = drop 1 (steps_behind r.visited r.context.value.pending)

-- what stands after the event of a step in a phase, with this behind an access to memory
abbrev pub todo_after : Phase → Todos → Ready → Todos
todo_after Phase.Access tail r = released ++ tail
todo_after Phase.Start tail r = Todo.let_go ∷ Todo.add r.born ∷ []
todo_after Phase.Act tail r = settling_of r
todo_after phase tail r = []

-- a processor that makes the event of this step next
abbrev pub about_to : Phase → Pending → Running → Processor
about_to phase step r = with_todo r (Todo.show step (rest_of r) ∷ todo_after phase (behind_access step (ready_of r)) (ready_of r))

-- the same in the phase in which it is
abbrev pub shows : Pending → Running → Processor
shows step r = about_to r.phase step r

-- a processor that puts its thread back next
abbrev pub about_to_park : Phase → Running → Processor
about_to_park phase r = with_todo r (Todo.park ∷ todo_after phase [] (ready_of r))

abbrev pub parks : Running → Processor
parks r = about_to_park r.phase r

-- a processor that makes the event of its thread's next step, or puts its thread back if there is no step
abbrev pub at_event : Phase → Running → Processor
at_event phase r =
    let steps = steps_behind r.visited r.context.value.pending in with_todo r (showing steps (todo_after phase (behind_access (first_of steps) (ready_of r)) (ready_of r)))

abbrev pub shows_next : Running → Processor
shows_next r = at_event r.phase r

-- the processor after the event of a step by a thread, which left this own part of the thread, and behind which this is left
abbrev pub left_behind : Image → Todos → Context → ℕ → Running → Processor
left_behind image todo c t r = record (with_todo r []) { context = c; todo = filled_up image c todo; actor = Some t }

-- the same where nothing of its own stands behind the event
abbrev pub behind_event : Image → Phase → Context → Running → Processor
behind_event image phase c r = left_behind image (todo_after phase [] (ready_of r)) c r.context.value.thread r

-- the same, where the thread goes on so
abbrev pub gone_by : Image → Next → Running → Processor
gone_by image next r = left_behind image (todo_after r.phase [] (ready_of r)) (gone_part image (rest_of r) next r.context.value) r.context.value.thread r

-- the same of an act that waits, or doesn't, in the cell of a site
abbrev pub waited_by : Image → Todos → Bool → ℕ → Next → Running → Processor
waited_by image tail waits site next r =
    left_behind image (todo_after r.phase tail (ready_of r) ++ rereads_if waits site) (gone_part image (rest_of r) next r.context.value) r.context.value.thread r

-- where an act that answers so is to be read behind
abbrev pub is_wait : Answer → Bool
is_wait Answer.Wait = true
is_wait answer = false

-- whether the thread's word is read once more behind an act with this answer
abbrev pub rereads_behind : Bool → Answer → Bool
rereads_behind waits answer = waits && is_wait answer

-- the same, with an errand before
abbrev pub with_errand : Todo → Processor → Processor
with_errand errand p = record p { todo = errand ∷ p.todo }

-- the same, with claims to end before
abbrev pub with_ends : List ℕ → Processor → Processor
with_ends ends p = record p { todo = end_calls ends p.todo }

-- the same, with threads to wake before
abbrev pub with_woken : List (ThreadIx × Told) → Processor → Processor
with_woken woken p = record p { todo = wakes woken p.todo }

-- the step that looks for an object
abbrev pub check_for : Wanted → Pending
check_for w = Pending.Check w.addr w.kind w.want w.refusal

-- a thread at rest whose word shows it doomed, or suspended and not aborted, goes on no further: it stops running, or goes to sleep
abbrev pub rests_by : ThreadWord → Bool
rests_by w = w.doomed || (w.suspended && not w.aborted)

abbrev pub resting_by : ThreadWord → Running → Running
resting_by w r = if w.doomed then record r { phase = Phase.Done } else if w.suspended && not w.aborted then record r { phase = Phase.Sleep } else r
