-- Threads that can go on, and who becomes ready.
use Rattle.std.specs.Prelude.{ℕ, Bool, true, false, ◌==◌, ◌&&◌, ◌||◌, not, nat_lt, if◌then◌else◌, List, [], ◌∷◌, length, map, Option, Some, None, is_some, slice_get}
use Rattle.um_base.specs.declared.act.Act.{Act}
use Rattle.um_base.specs.declared.image.Boot.{Boot}
use Rattle.um_base.specs.declared.image.Image.{Image}
use Rattle.um_base.specs.declared.limits.TheConstants.{THREADS}
use Rattle.um_base.specs.declared.names.Reply.{Reply}
use Rattle.um_base.specs.declared.names.ThreadIx.{ThreadIx}
use Rattle.um_base.specs.Places.{thread_of_row}
use Rattle.um_machine.specs.declared.pending.Pending.{Pending}
use Rattle.um_machine.specs.State.{State, thread_at, is_living}
use Rattle.um_machine.specs.Order.{to_thread}
use Rattle.um_invariants.specs.Lines.{all_join, joins}

-- a thread stands still: it is at rest, and doomed, or suspended and not aborted
abbrev pub is_still : State → ℕ → Bool
is_still s t = let me = thread_at s t in (me.doomed || me.suspended && not me.aborted) && length me.pending == 0

-- a thread is living and at rest
abbrev pub is_at_rest : State → ℕ → Bool
is_at_rest s t = let me = thread_at s t in is_living me.life && length me.pending == 0

-- a thread goes on with its instruction: it has a step left, and doesn't wait
abbrev pub is_ready_step : Bool → Option Pending → Bool
is_ready_step told None = false
is_ready_step told (Some Pending.Resume) = told
is_ready_step told (Some step) = true

abbrev pub goes_on : State → ℕ → Bool
goes_on s t = let me = thread_at s t in is_ready_step (is_some me.told) (slice_get me.pending 0)

-- whom an act starts, wakes or cuts
abbrev pub readied : Act → List ℕ
readied (Act.Start who) = who.0 ∷ []
readied (Act.Work a answer woken) = map (λ (w : ThreadIx × Reply). w.0.0) woken
readied (Act.Expire a woken) = map (λ (w : ThreadIx × Reply). w.0.0) woken
readied (Act.Left who woken) = map (λ (w : ThreadIx × Reply). w.0.0) woken
readied (Act.FutexWake a answer woken) = map (λ (w : ThreadIx × Reply). w.0.0) woken
readied (Act.TimedOut who) = who.0 ∷ []
readied (Act.Cut who) = who.0 ∷ []
readied act = []

-- whom an act rouses: a thread at rest that is aborted, or no longer suspended. One that is ready keeps its place
abbrev pub roused : State → Act → List ℕ
roused s2 (Act.Abort who true) = if is_at_rest s2 who.0 then who.0 ∷ [] else []
roused s2 (Act.Continue who true) = if is_at_rest s2 who.0 then who.0 ∷ [] else []
roused s2 act = []

-- the thread of a boot entry is ready
abbrev pub joins_some : List ℕ → Option ℕ → List ℕ
joins_some line None = line
joins_some line (Some t) = if nat_lt t THREADS then joins line t else line

abbrev pub boots_ready : Image → List ℕ → List Boot → List ℕ
boots_ready image line [] = line
boots_ready image line (boot ∷ boots) = boots_ready image (joins_some line (thread_of_row image boot.thread.0)) boots

-- The ready list.

-- the first of these threads that doesn't stand still, and those after it. Those before it leave the list
abbrev pub next_ready : State → List ℕ → Option ThreadIx
next_ready s [] = None
next_ready s (t ∷ ts) = if is_still s t then next_ready s ts else Some (to_thread t)

abbrev pub behind_next : State → List ℕ → List ℕ
behind_next s [] = []
behind_next s (t ∷ ts) = if is_still s t then behind_next s ts else ts

-- the thread that a processor runs, and those that are ready then
abbrev pub running_or : Option ThreadIx → Option ThreadIx → Option ThreadIx
running_or None next = next
running_or (Some t) next = Some t

-- the ready threads after an event of a thread: those that it starts, wakes, cuts or rouses go to the back
abbrev pub with_readied : List ℕ → Act → State → List ℕ
with_readied ready act s2 = all_join (all_join ready (readied act)) (roused s2 act)

-- and then the thread itself if it is at rest
abbrev pub ready_after : List ℕ → ℕ → Act → State → List ℕ
ready_after ready t act s2 = let others = with_readied ready act s2 in if is_at_rest s2 t then joins others t else others
