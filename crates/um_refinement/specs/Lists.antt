-- What a processor has on its list of steps to make.
use Rattle.std.specs.Prelude.{◌≡◌, ◌⊎◌, ℕ, ◌+◌, Bool, true, false, ◌==◌, ◌&&◌, not, if◌then◌else◌, nat_lt, List, [], ◌∷◌, Option, Some, None}
use Rattle.std.specs.List.{list_any}
use Rattle.um_base.specs.declared.ask.Told.{Told}
use Rattle.um_base.specs.declared.limits.TheConstants.{ROWS}
use Rattle.um_base.specs.declared.names.Addr.{Addr}
use Rattle.um_base.specs.declared.names.Reply.{Reply}
use Rattle.um_machine.specs.declared.pending.Amount.{Amount}
use Rattle.um_machine.specs.declared.pending.Pending.{Pending}
use Rattle.um_fine.specs.Context.{Context}
use Rattle.um_fine.specs.Places.{Todo, Todos, is_paid}
use Rattle.um_fine.specs.Processor.{Processor, fails}

-- it runs a thread
abbrev pub has_steps : Todos → Bool
has_steps [] = false
has_steps (q ∷ todo) = true

-- it has a mark in its hand, and runs no thread meanwhile
abbrev pub times : Todos → Bool
times todo = list_any is_paid todo

abbrev pub runs : Processor → Bool
runs p = has_steps p.todo && not (times p.todo)

abbrev pub runs_thread : ℕ → Processor → Bool
runs_thread t p = runs p && (p.context.thread == t)

-- how many steps on a list pass a test
abbrev pub counted : (Todo → Bool) → Todos → ℕ
counted f [] = 0
counted f (q ∷ todo) = if f q then counted f todo + 1 else counted f todo

abbrev pub is_end_call : ℕ → Todo → Bool
is_end_call x (Todo.end_call y) = x == y
is_end_call x _ = false

abbrev pub is_recycle : ℕ → Todo → Bool
is_recycle x (Todo.recycle y) = x == y
is_recycle x _ = false

abbrev pub is_vacate : ℕ → Todo → Bool
is_vacate x (Todo.vacate y) = x == y
is_vacate x _ = false

abbrev pub is_wipe : ℕ → Todo → Bool
is_wipe x (Todo.wipe y) = x == y
is_wipe x _ = false

-- the cell of this object was cleared, and the rest of its cleaning comes next
abbrev pub is_cleared : ℕ → Todos → Bool
is_cleared x (Todo.vacate y ∷ todo) = x == y
is_cleared x (Todo.recycle y ∷ todo) = x == y
is_cleared x todo = false

abbrev pub is_wake : ℕ → Todo → Bool
is_wake t (Todo.wake who told) = who == t
is_wake t _ = false

-- a deadline is armed by this step of a call
abbrev pub is_arm : Pending → Bool
is_arm (Pending.Arm ticks) = true
is_arm (Pending.ArmTimer ticks) = true
is_arm _ = false

-- a thread that was cut gets ready by this step
abbrev pub is_cut_told : ℕ → Todo → Bool
is_cut_told t (Todo.tell_cut who) = who == t
is_cut_told t _ = false

abbrev pub is_done : Todo → Bool
is_done Todo.done = true
is_done _ = false

-- a suspended thread is put to sleep by this step
abbrev pub is_sleep : Todo → Bool
is_sleep Todo.sleep = true
is_sleep _ = false

-- a thread that was started or roused is added with this own part by a step on a list
abbrev pub Adds : Context → Todos → Type 0
Adds c [] = ⊥
Adds c (Todo.show q rest ∷ todo) = ⊥
Adds c (Todo.add d ∷ todo) = (c ≡ d) ⊎ Adds c todo
Adds c (q ∷ todo) = Adds c todo

-- the own parts of all threads that were started or roused and are added by steps on a list
abbrev pub adders : Todos → List Context
adders [] = []
adders (Todo.show q rest ∷ todo) = []
adders (Todo.add d ∷ todo) = d ∷ adders todo
adders (q ∷ todo) = adders todo

-- how many own parts are of a thread
abbrev pub of_thread : ℕ → List Context → ℕ
of_thread t [] = 0
of_thread t (c ∷ cs) = if c.thread == t then of_thread t cs + 1 else of_thread t cs

abbrev pub is_hold : Todo → Bool
is_hold Todo.hold = true
is_hold _ = false

abbrev pub is_let_go : Todo → Bool
is_let_go Todo.let_go = true
is_let_go _ = false

-- a claim of the thread's own domain, and its end
abbrev pub is_own_claim : Todo → Bool
is_own_claim (Todo.read_claim None) = true
is_own_claim _ = false

abbrev pub is_own_done : Todo → Bool
is_own_done (Todo.read_done None) = true
is_own_done _ = false

abbrev pub is_region_load : Todo → Bool
is_region_load Todo.region_load = true
is_region_load _ = false

-- its thread is held; it has a claim on that one's domain; its table is loaded
abbrev pub has_held : Processor → Bool
has_held p = list_any is_let_go p.todo && not (list_any is_hold p.todo)

abbrev pub has_claimed : Processor → Bool
has_claimed p = list_any is_own_done p.todo && not (list_any is_own_claim p.todo)

abbrev pub has_loaded : Processor → Bool
has_loaded p = has_claimed p && not (list_any is_region_load p.todo)

-- the end of a claim to a domain that a thread moves to, which doesn't fail
abbrev pub is_move_done : Todo → Bool
is_move_done (Todo.read_done (Some d)) = true
is_move_done _ = false

-- it has a claim to read a domain that a thread moves to: a move that fails ends it by its event
abbrev pub moves_step : ℕ → Reply → Pending → Bool
moves_step d reply (Pending.DomMove e who) = fails reply && (d == e)
moves_step d reply _ = false

abbrev pub moves_to : ℕ → Reply → Todos → Bool
moves_to d reply [] = false
moves_to d reply (Todo.read_claim (Some e) ∷ todo) = false
moves_to d reply (Todo.read_done (Some e) ∷ todo) = d == e
moves_to d reply (Todo.show q rest ∷ todo) = moves_step d reply q
moves_to d reply (q ∷ todo) = moves_to d reply todo

-- it has the claim to write a domain
abbrev pub edits_step : ℕ → Pending → Bool
edits_step d (Pending.DomInit e parts) = d == e
edits_step d (Pending.DomAdd e range attr) = d == e
edits_step d (Pending.DomRemove e range attr) = d == e
edits_step d _ = false

abbrev pub edits : ℕ → Todos → Bool
edits d [] = false
edits d (Todo.write_claim e ∷ todo) = false
edits d (Todo.edit e q ∷ todo) = d == e
edits d (Todo.show q rest ∷ todo) = edits_step d q
edits d (q ∷ todo) = edits d todo

-- it has edited the domain's cell, and the event of that edit comes next
abbrev pub edited : ℕ → Todos → Option Pending
edited d [] = None
edited d (Todo.write_claim e ∷ todo) = None
edited d (Todo.edit e q ∷ todo) = None
edited d (Todo.show q rest ∷ todo) = if edits_step d q then Some q else None
edited d (q ∷ todo) = edited d todo

-- what a thread is told by a wake that is still to come
abbrev pub wake_of : ℕ → Todos → Option Told
wake_of t [] = None
wake_of t (Todo.wake who told ∷ todo) = if who == t then Some told else wake_of t todo
wake_of t (q ∷ todo) = wake_of t todo

-- the row that it visits next for its thread, or the number of rows if all are visited
abbrev pub visited : Todos → ℕ
visited [] = ROWS
visited (Todo.pass who x ∷ todo) = x
visited (Todo.drop x ∷ todo) = x
visited (q ∷ todo) = visited todo

-- the same for a thread whose object it cleans
abbrev pub cleaned_pairs : ℕ → Todos → ℕ
cleaned_pairs who [] = ROWS
cleaned_pairs who (Todo.clean_pair u x ∷ todo) = if u == who then x else cleaned_pairs who todo
cleaned_pairs who (q ∷ todo) = cleaned_pairs who todo

-- the queue one of whose messages the next event copies or probes, once its message size was looked at
abbrev pub queue_of : Amount → Option Addr
queue_of (Amount.Bytes n) = None
queue_of (Amount.MessageOf a) = Some a

abbrev pub queue_in : Pending → Option Addr
queue_in (Pending.Probe a amount) = queue_of amount
queue_in (Pending.CopyIn a amount) = queue_of amount
queue_in _ = None

abbrev pub looked : Todos → Option Addr
looked [] = None
looked (Todo.size_look x ∷ todo) = None
looked (Todo.show q rest ∷ todo) = queue_in q
looked (q ∷ todo) = looked todo

-- the domain to which a thread moves by the event that comes next, once it was claimed
abbrev pub domain_moved : Pending → Option ℕ
domain_moved (Pending.DomMove d who) = Some d
domain_moved _ = None

abbrev pub moving : Todos → Option ℕ
moving [] = None
moving (Todo.read_claim (Some d) ∷ todo) = None
moving (Todo.read_done (Some d) ∷ todo) = Some d
moving (Todo.show q rest ∷ todo) = domain_moved q
moving (q ∷ todo) = moving todo

-- a row that a step names is one
abbrev pub names_row : Todo → Bool
names_row (Todo.end_call x) = nat_lt x ROWS
names_row (Todo.pass who x) = nat_lt x ROWS
names_row (Todo.drop x) = nat_lt x ROWS
names_row (Todo.clean_pair who x) = nat_lt x ROWS
names_row (Todo.wipe x) = nat_lt x ROWS
names_row (Todo.vacate x) = nat_lt x ROWS
names_row (Todo.recycle x) = nat_lt x ROWS
names_row _ = true
