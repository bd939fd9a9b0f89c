-- What work on an object, or a string read, leaves to threads.
use Rattle.std.specs.Prelude.{ℕ, List, [], ◌∷◌, Some, slice_index_or, slice_set}
use Rattle.um_base.specs.declared.act.Answer.{Answer}
use Rattle.um_base.specs.declared.act.Found.{Found}
use Rattle.um_base.specs.declared.ask.Ask.{Ask}
use Rattle.um_base.specs.declared.ask.Told.{Told}
use Rattle.um_base.specs.declared.image.Image.{Image}
use Rattle.um_base.specs.declared.names.Addr.{Addr}
use Rattle.um_base.specs.declared.names.ThreadIx.{ThreadIx}
use Rattle.um_machine.specs.declared.thread.Thread.{Thread}
use Rattle.um_machine.specs.Goes.{Next, asked_way, at_steps, changed, steps_by, text_change, text_way, went, work_change, work_way}
use Rattle.um_machine.specs.Memory.{string_bytes}
use Rattle.um_machine.specs.Order.{Steps}
use Rattle.um_machine.specs.State.{State, nobody}

-- the woken among the threads are told
abbrev pub threads_woken : List (ThreadIx × Told) → List Thread → List Thread
threads_woken [] ts = ts
threads_woken (w ∷ ws) ts = threads_woken ws (slice_set ts w.0.0 (record (slice_index_or ts w.0.0 nobody) { told = Some w.1 }))

-- the thread that did the work has its answer, or waits
abbrev pub answered : Image → Thread → Ask → List ℕ → Steps → Answer → Thread
answered image me ask taken rest answer = at_steps image (changed (work_change answer taken) me) (steps_by rest (work_way me.mode ask answer))

-- the same of a thread that asked no object
abbrev pub asked : Image → Thread → Steps → Answer → Thread
asked image me rest answer = at_steps image (changed (work_change answer []) me) (steps_by rest (asked_way answer))

-- a thread has the string that it read, or answers why there is none
abbrev pub string_taken : State → ℕ → Addr → Steps → Found → State
string_taken s t a rest found =
    went rest s t (Next.on (text_change (elim found as (λ _. List ℕ) [ Found.Length n ↦ string_bytes s a.0 n | _ ↦ [] ]) found) (text_way found))
