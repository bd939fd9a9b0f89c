-- What follows, on a processor's list, each unseen step that belongs to an event.
use Rattle.std.specs.Prelude.{◌≡◌, ◌⊎◌, ℕ, Bool, true, false, ◌==◌, [], ◌∷◌, Some, None}
use Rattle.um_base.specs.declared.image.Image.{Image}
use Rattle.um_base.specs.declared.names.Addr.{Addr}
use Rattle.um_base.specs.declared.names.ThreadIx.{ThreadIx}
use Rattle.um_machine.specs.declared.pending.Pending.{Pending}
use Rattle.um_machine.specs.Order.{Steps}
use Rattle.um_fine.specs.Addresses.{row_named}
use Rattle.um_fine.specs.Context.{Context}
use Rattle.um_words.specs.declared.fine.Mark.{Mark}
use Rattle.um_fine.specs.Places.{Todo, Todos, noted_cell, on_memory}
use Rattle.um_refinement.specs.Lists.{edits_step, is_arm, queue_in}

-- the events for which the thread is held and its domain claimed
abbrev pub OnMemory : Pending → Type 0
OnMemory (Pending.Load to a n) = Unit {0}
OnMemory (Pending.Store a n value) = Unit {0}
OnMemory (Pending.Fetch a) = Unit {0}
OnMemory (Pending.Probe a amount) = Unit {0}
OnMemory (Pending.CopyIn a amount) = Unit {0}
OnMemory (Pending.CopyOut a) = Unit {0}
OnMemory (Pending.CopyStr a) = Unit {0}
OnMemory (Pending.FutexWait a value timeout) = Unit {0}
OnMemory (Pending.FutexWake a all) = Unit {0}
OnMemory q = ⊥

-- the end of a call's act, behind its event: its mark is settled, and where it waits its word is read once more
pub data IsWaitOver : Todos → Type 0 where
  nothing : IsWaitOver []
  settled : {deadline : ℕ} {mark : Mark} → IsWaitOver (Todo.settle deadline mark ∷ [])
  rereads : {site : ℕ} → IsWaitOver (Todo.reread site ∷ [])
  both : {deadline : ℕ} {mark : Mark} {site : ℕ} → IsWaitOver (Todo.settle deadline mark ∷ Todo.reread site ∷ [])

-- what stands behind an act that may wait: the end of its access, and that its mark is settled
pub data IsActOver : Todos → Type 0 where
  act_alone : IsActOver []
  act_settled : {deadline : ℕ} {mark : Mark} → IsActOver (Todo.settle deadline mark ∷ [])
  access_alone : IsActOver (Todo.read_done None ∷ Todo.let_go ∷ [])
  access_settled : {deadline : ℕ} {mark : Mark} → IsActOver (Todo.read_done None ∷ Todo.let_go ∷ Todo.settle deadline mark ∷ [])

-- the end of an access
abbrev pub access_over : Todos → Todos
access_over over = Todo.read_done None ∷ Todo.let_go ∷ over

-- an event on memory is next
abbrev pub IsAccess : Todos → Type 0
IsAccess todo = (q : Pending) × (rest : Steps) × (over : Todos) × (todo ≡ Todo.show q rest ∷ access_over over) × OnMemory q × IsWaitOver over

-- a start of this thread is next
abbrev pub starts_one : ℕ → Pending → Bool
starts_one who (Pending.Start t script stack priority mode) = t.0 == who
starts_one who q = false

abbrev pub IsStart : ℕ → Todos → Type 0
IsStart who todo = (q : Pending) × (rest : Steps) × (c : Context) × (todo ≡ Todo.show q rest ∷ Todo.let_go ∷ Todo.add c ∷ []) × (starts_one who q ≡ true)

-- a sleeper may be roused before a turn is done with
abbrev pub IsSleepOver : Todos → Type 0
IsSleepOver todo = todo ≡ Todo.done ∷ []

-- a move to a domain is next
abbrev pub IsMove : ℕ → Todos → Type 0
IsMove d todo = (who : ThreadIx) × (rest : Steps) × (todo ≡ Todo.show (Pending.DomMove d who) rest ∷ [])

-- what a note is made for: the act that may wait in the cell of this site, or the arming of its deadline
pub data IsNoted (image : Image) (site : ℕ) : Todos → Type 0 where
  acts : {q : Pending} {rest : Steps} {over : Todos} → noted_cell image (q ∷ []) ≡ Some site → IsNoted image site (Todo.show q rest ∷ over)
  accesses : {q : Pending} {rest : Steps} {over : Todos} → noted_cell image (q ∷ []) ≡ Some site
      → IsNoted image site (Todo.hold ∷ Todo.read_claim None ∷ Todo.region_load ∷ Todo.show q rest ∷ access_over over)
  arming : {q : Pending} {rest : Steps} → is_arm q ≡ true → noted_cell image rest ≡ Some site → IsNoted image site (Todo.owe ∷ Todo.show q rest ∷ [])

-- what follows a step
abbrev pub Behind : Image → Todo → Todos → Type 0
Behind image (Todo.show q rest) todo = (site : ℕ) → noted_cell image (q ∷ []) ≡ Some site → IsActOver todo
Behind image Todo.hold todo =
    ((access : Todos) × (todo ≡ Todo.read_claim None ∷ Todo.region_load ∷ access) × IsAccess access)
    ⊎ ((who : ℕ) × (start : Todos) × (todo ≡ Todo.unshut who ∷ start) × IsStart who start)
Behind image Todo.let_go todo = IsWaitOver todo ⊎ ((c : Context) × (todo ≡ Todo.add c ∷ []))
Behind image (Todo.read_claim None) todo = (access : Todos) × (todo ≡ Todo.region_load ∷ access) × IsAccess access
Behind image (Todo.unshut who) todo = IsStart who todo
Behind image (Todo.settle deadline mark) todo = (todo ≡ []) ⊎ ((site : ℕ) × (todo ≡ Todo.reread site ∷ []))
Behind image (Todo.reread site) todo = todo ≡ []
Behind image (Todo.note site) todo = IsNoted image site todo
Behind image Todo.owe todo = (q : Pending) × (rest : Steps) × (todo ≡ Todo.show q rest ∷ []) × (is_arm q ≡ true)
Behind image Todo.sleep todo = todo ≡ Todo.reread_asleep ∷ Todo.done ∷ []
Behind image Todo.reread_asleep todo = IsSleepOver todo
Behind image (Todo.handle deadline mark) todo = todo ≡ Todo.paid ∷ []
Behind image Todo.paid todo = todo ≡ []
Behind image Todo.leave todo = (a : Addr) × (rest : Steps) × (todo ≡ Todo.show (Pending.ClearInit a) rest ∷ [])
Behind image (Todo.read_claim (Some d)) todo = IsMove d todo
Behind image (Todo.read_done None) todo = (over : Todos) × (todo ≡ Todo.let_go ∷ over) × IsWaitOver over
Behind image (Todo.read_done (Some d)) todo = IsMove d todo
Behind image Todo.region_load todo = IsAccess todo
Behind image (Todo.write_claim d) todo = (q : Pending) × (rest : Steps) × (todo ≡ Todo.edit d q ∷ Todo.show q rest ∷ []) × (edits_step d q ≡ true)
Behind image (Todo.edit d q) todo = (rest : Steps) × (todo ≡ Todo.show q rest ∷ []) × (edits_step d q ≡ true)
Behind image (Todo.size_look x) todo = (q : Pending) × (rest : Steps) × (a : Addr) × (todo ≡ on_memory q rest) × (queue_in q ≡ Some a) × (x ≡ row_named image a)
-- a new thread is added at the end of its start; one that was roused before whatever else is left
Behind image (Todo.add c) todo = c.claims ≡ []
Behind image Todo.park todo = todo ≡ []
Behind image Todo.done todo = todo ≡ []
Behind image q todo = Unit {0}

abbrev pub AreFramed : Image → Todos → Type 0
AreFramed image [] = Unit {0}
AreFramed image (q ∷ todo) = Behind image q todo × AreFramed image todo
