-- What a processor asks of the memory's cell: the steps as they are made at a cell with these bytes and this step number, what the cell
-- says, and what a copy takes.
use Rattle.std.specs.Prelude.{◌≡◌, ℕ, Bool, true, nat_le, List, []}
use Rattle.um_base.specs.declared.act.Act.{Act}
use Rattle.um_base.specs.declared.act.Event.{Event}
use Rattle.um_base.specs.declared.act.Found.{Found}
use Rattle.um_base.specs.declared.image.Image.{Image}
use Rattle.um_words.specs.declared.fine.FineAct.{FineAct}
use Rattle.um_words.specs.declared.fine.More.{More}
use Rattle.um_fine.specs.Answers.{act_in, bytes_in, found_in, value_in}
use Rattle.um_fine.specs.Cells.{Cell}
use Rattle.um_fine.specs.Memory.{Bytes, memory_moves, memory_says}
use Rattle.um_fine.specs.Steps.{Exchange, FineStep, Site}
use Rattle.um_tables.specs.Asked.{by_thread, cell_made, shown}
use Rattle.um_tables.specs.declared.memory_act.MemoryAct.{MemoryAct}
use Rattle.um_tables.specs.declared.memory_act.MemorySaid.{MemorySaid}

-- the act without the answer of the cell
abbrev pub memory_act : MemoryAct → FineAct
memory_act (MemoryAct.Load t a n) = shown t (Act.Load a n 0) More.Nothing
memory_act (MemoryAct.Store t a n value) = shown t (Act.Store a n value) More.Nothing
memory_act (MemoryAct.Fetch t a) = shown t (Act.Fetch a) More.Nothing
memory_act (MemoryAct.Fault t access a n) = shown t (Act.Fault access a n) More.Nothing
memory_act (MemoryAct.Probe t a n fits) = shown t (Act.Probe a n fits) More.Nothing
memory_act (MemoryAct.CopyIn t a n fits) = shown t (Act.CopyIn a n fits) More.Nothing
memory_act (MemoryAct.CopyOut t a n fits) = shown t (Act.CopyOut a n fits) More.Nothing
memory_act (MemoryAct.CopyStr t a n) = shown t (Act.CopyStr a Found.Unreadable) More.Nothing
memory_act (MemoryAct.Erase t stack) = shown t (Act.Erase stack) More.Nothing

-- a load has four bytes at most, and a text 32
abbrev pub has_room : MemoryAct → Bool
has_room (MemoryAct.Load t a n) = nat_le n 4
has_room (MemoryAct.CopyStr t a n) = nat_le n 32
has_room act = true

-- what goes with it: bytes of the thread's buffer
abbrev pub memory_sent : MemoryAct → List ℕ → Exchange
memory_sent (MemoryAct.CopyOut t a n fits) buffer = Exchange.bytes buffer
memory_sent (MemoryAct.CopyStr t a n) buffer = Exchange.text n []
memory_sent act buffer = Exchange.nothing

module _ (image : Image) (m : Bytes) (act : MemoryAct) (buffer : List ℕ) where
  -- the act with the answer of the cell
  abbrev pub memory_answered : FineAct
  memory_answered = memory_says image m (memory_sent act buffer) (memory_act act)

  -- what goes with it then
  abbrev pub memory_given : Exchange
  memory_given = memory_moves image m (act_in (memory_act act)) (memory_sent act buffer)

-- what the cell says, by the act with its answer
abbrev pub memory_said : FineAct → MemorySaid
memory_said act = record { value = value_in (act_in act); found = found_in (act_in act) }

-- the event of the step, by what the cell says
abbrev pub memory_event : MemoryAct → MemorySaid → Event
memory_event (MemoryAct.Load t a n) said = by_thread t (Act.Load a n said.value)
memory_event (MemoryAct.Store t a n value) said = by_thread t (Act.Store a n value)
memory_event (MemoryAct.Fetch t a) said = by_thread t (Act.Fetch a)
memory_event (MemoryAct.Fault t access a n) said = by_thread t (Act.Fault access a n)
memory_event (MemoryAct.Probe t a n fits) said = by_thread t (Act.Probe a n fits)
memory_event (MemoryAct.CopyIn t a n fits) said = by_thread t (Act.CopyIn a n fits)
memory_event (MemoryAct.CopyOut t a n fits) said = by_thread t (Act.CopyOut a n fits)
memory_event (MemoryAct.CopyStr t a n) said = by_thread t (Act.CopyStr a said.found)
memory_event (MemoryAct.Erase t stack) said = by_thread t (Act.Erase stack)

-- the buffer after the copy of a text: its bytes, where its end was found
abbrev pub text_taken : Found → List ℕ → List ℕ → List ℕ
text_taken (Found.Length n) bytes buffer = bytes
text_taken found bytes buffer = buffer

-- the buffer after the act with its answer
abbrev pub taken_after : Act → Exchange → List ℕ → List ℕ
taken_after (Act.CopyIn a n true) moved buffer = bytes_in moved
taken_after (Act.CopyStr a found) moved buffer = text_taken found (bytes_in moved) buffer
taken_after act moved buffer = buffer

abbrev pub memory_made : Image → ℕ → ℕ → Bytes → MemoryAct → List ℕ → FineStep
memory_made image cpu n m act buffer = cell_made image cpu Site.memory n (Cell.memory m) (memory_act act) (memory_sent act buffer)

-- what a step that was made says, and leaves in the buffer
pub record Tells (e : FineStep) (said : MemorySaid) (before after : List ℕ) : Type 0 where
  pub said_is : said ≡ memory_said e.act
  pub taken : after ≡ taken_after (act_in e.act) e.moved before
