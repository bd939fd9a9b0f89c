-- Where the unseen steps stand: the fine steps that a thread's next pending step takes.
use Rattle.std.specs.Prelude.{ℕ, ◌+◌, Bool, true, false, ◌==◌, nat_lt, if◌then◌else◌, List, [], ◌∷◌, ◌++◌, Option, Some, None, is_some}
use Rattle.um_base.specs.declared.ask.Ask.{Ask}
use Rattle.um_base.specs.declared.ask.Told.{Told}
use Rattle.um_base.specs.declared.names.Timeout.{Timeout}
use Rattle.um_words.specs.declared.fine.Mark.{Mark}
use Rattle.um_base.specs.declared.image.Image.{Image}
use Rattle.um_base.specs.declared.instr.Instr.{Instr}
use Rattle.um_base.specs.declared.limits.TheConstants.{ROWS}
use Rattle.um_base.specs.Places.{own_row, thread_of_row}
use Rattle.um_machine.specs.declared.pending.Amount.{Amount}
use Rattle.um_machine.specs.declared.pending.Pending.{Pending}
use Rattle.um_machine.specs.State.{instruction_at}
use Rattle.um_machine.specs.Order.{Steps, to_row, to_thread}
use Rattle.um_fine.specs.Context.{Context}
use Rattle.um_fine.specs.Addresses.{row_named}
use Rattle.um_fine.specs.Continues.{newborn}

-- A fine step that a processor has still to make.
pub data Todo : Type 0 where
  -- the event of a pending step, behind which these steps are left
  show : Pending → Steps → Todo
  -- round an access to memory, and a start
  hold : Todo
  let_go : Todo
  -- of the domain that is held, or of this one
  read_claim : Option ℕ → Todo
  read_done : Option ℕ → Todo
  region_load : Todo
  -- before the event of a domain's edit
  write_claim : ℕ → Todo
  edit : ℕ → Pending → Todo
  -- before a message is copied
  size_look : ℕ → Todo
  -- behind a reply or a fatal error
  end_call : ℕ → Todo
  -- behind an act that wakes
  wake : ℕ → Told → Todo
  -- behind a start
  add : Context → Todo
  -- a visit of this row: a permission on its object is passed on to a child, is dropped at the thread's end, or is dropped of a thread that is gone
  pass : ℕ → ℕ → Todo
  drop : ℕ → Todo
  clean_pair : ℕ → ℕ → Todo
  -- the cleaning of an object
  wipe : ℕ → Todo
  vacate : ℕ → Todo
  recycle : ℕ → Todo
  -- the end of a turn
  park : Todo
  done : Todo
  -- before an act that may wait: its cell is noted by its number
  note : ℕ → Todo
  -- before a deadline is armed, and behind the event that it was armed for
  owe : Todo
  settle : ℕ → Mark → Todo
  -- behind the wait: the own word is read once more
  reread : ℕ → Todo
  -- a look for a thread that was aborted, in a cell, if its note is older than this number; and it gets ready
  look : ℕ → ℕ → ℕ → Todo
  tell_cut : ℕ → Todo
  -- a look for a thread that sleeps
  rouse : ℕ → Todo
  -- a suspended thread at rest
  sleep : Todo
  reread_asleep : Todo
  -- before a start, and before the own object is cleared at the end
  unshut : ℕ → Todo
  leave : Todo
  -- a mark in the hand: its timeout or expiry, or that it is void; and it is paid
  handle : ℕ → Mark → Todo
  paid : Todo

abbrev pub Todos : Type 0
Todos = List Todo

-- the visits from a row on, one of which stands for all that are left
abbrev pub passes : ℕ → ℕ → Todos → Todos
passes who x todo = if nat_lt x ROWS then Todo.pass who x ∷ todo else todo

abbrev pub drops : ℕ → Todos → Todos
drops x todo = if nat_lt x ROWS then Todo.drop x ∷ todo else todo

abbrev pub clean_pairs : ℕ → ℕ → Todos → Todos
clean_pairs who x todo = if nat_lt x ROWS then Todo.clean_pair who x ∷ todo else todo

-- a row, unless it is the own one, and then the next
abbrev pub but : ℕ → ℕ → ℕ
but own x = if x == own then x + 1 else x

-- the cleaning of an object that is gone: of a thread object, first the pairs of its thread
abbrev pub emptying : ℕ → Todos
emptying x = Todo.wipe x ∷ Todo.vacate x ∷ Todo.recycle x ∷ []

abbrev pub cleaning_of : ℕ → Option ℕ → Todos
cleaning_of x None = emptying x
cleaning_of x (Some who) = clean_pairs who 0 (emptying x)

-- how many objects are to be cleaned
abbrev pub cleanings : Todos → ℕ
cleanings [] = 0
cleanings (Todo.recycle x ∷ todo) = cleanings todo + 1
cleanings (q ∷ todo) = cleanings todo

abbrev pub is_cleaning_todo : Todo → Bool
is_cleaning_todo (Todo.clean_pair who x) = true
is_cleaning_todo (Todo.wipe x) = true
is_cleaning_todo (Todo.vacate x) = true
is_cleaning_todo (Todo.recycle x) = true
is_cleaning_todo _ = false

-- an object is cleaned before anything else, but behind those whose cleaning has begun
abbrev pub with_cleaning : Todos → Todos → Todos
with_cleaning block [] = block
with_cleaning block (q ∷ todo) = if is_cleaning_todo q then q ∷ with_cleaning block todo else block ++ q ∷ todo

-- which calls may wait
abbrev pub is_patient : Timeout → Bool
is_patient Timeout.NoWait = false
is_patient _ = true

abbrev pub may_wait : Ask → Bool
may_wait (Ask.SemTake timeout) = is_patient timeout
may_wait (Ask.MutexLock timeout) = is_patient timeout
may_wait (Ask.MsgqPut timeout) = is_patient timeout
may_wait (Ask.MsgqGet timeout) = is_patient timeout
may_wait (Ask.StackPop timeout) = is_patient timeout
may_wait (Ask.PipeWrite n timeout) = is_patient timeout
may_wait (Ask.PipeRead n timeout) = is_patient timeout
may_wait Ask.TimerSync = true
may_wait ask = false

abbrev pub if_patient : Bool → ℕ → Option ℕ
if_patient true site = Some site
if_patient false site = None

abbrev pub is_timer_start : Ask → Bool
is_timer_start (Ask.TimerStart deadline) = true
is_timer_start ask = false

-- a suspended thread at rest goes to sleep; a doomed one is done with
abbrev pub put_away : Bool → Todos
put_away true = Todo.done ∷ []
put_away false = Todo.sleep ∷ Todo.reread_asleep ∷ Todo.done ∷ []

-- a mark is handled; no thread runs meanwhile
abbrev pub handling : ℕ → Mark → Todos
handling deadline mark = Todo.handle deadline mark ∷ Todo.paid ∷ []

abbrev pub is_paid : Todo → Bool
is_paid Todo.paid = true
is_paid _ = false

abbrev pub on_memory : Pending → Steps → Todos
on_memory p rest =
    Todo.hold ∷ Todo.read_claim None ∷ Todo.region_load ∷ Todo.show p rest ∷ Todo.read_done None ∷ Todo.let_go ∷ []

module _ (image : Image) where
  abbrev pub cleaning : ℕ → Todos
  cleaning x = cleaning_of x (thread_of_row image x)

  abbrev pub sized : Amount → Todos → Todos
  sized (Amount.Bytes n) todo = todo
  sized (Amount.MessageOf a) todo = Todo.size_look (row_named image a) ∷ todo

  -- the cell in which the next act of these steps may wait
  abbrev pub noted_cell : Steps → Option ℕ
  noted_cell (Pending.Work a ask ∷ rest) = if_patient (may_wait ask) (168 + row_named image a)
  noted_cell (Pending.Join who timeout ∷ rest) = if_patient (is_patient timeout) 308
  noted_cell (Pending.FutexWait a value timeout ∷ rest) = if_patient (is_patient timeout) 304
  noted_cell steps = None

  -- a call notes it once
  abbrev pub noting : Context → Option ℕ → Todos → Todos
  noting c None todo = todo
  noting c (Some site) todo = if is_some c.noted then todo else Todo.note site ∷ todo

  -- for what the next of these steps has armed a deadline, or is about to
  abbrev pub mark_for : ℕ → Steps → Mark
  mark_for t (Pending.Work a ask ∷ rest) =
      let x = row_named image a in if is_timer_start ask then Mark.Timer (to_row x) else Mark.Thread (to_thread t) (168 + x)
  mark_for t (Pending.Join who timeout ∷ rest) = Mark.Thread (to_thread t) 308
  mark_for t steps = Mark.Thread (to_thread t) 304

  -- the deadline that is armed for an act: that of its call, or the one to which a timer starts
  abbrev pub armed_for : Context → Pending → Option ℕ
  armed_for c (Pending.Work a (Ask.TimerStart deadline)) = Some deadline
  armed_for c p = c.until

  abbrev pub settling : Context → Option ℕ → Pending → Todos
  settling c None p = []
  settling c (Some deadline) p = Todo.settle deadline (mark_for c.thread (p ∷ [])) ∷ []

  -- an act that may wait, with what stands round it
  abbrev pub acting : Context → Pending → Todos → Todos
  acting c p todo = noting c (noted_cell (p ∷ [])) (todo ++ settling c (armed_for c p) p)

  -- the end of a thread tells those who wait for it before its own object is cleared
  abbrev pub clearing : Bool → Pending → Steps → Todos
  clearing true p rest = Todo.leave ∷ Todo.show p rest ∷ []
  clearing false p rest = Todo.show p rest ∷ []

  -- the fine steps of a pending step, behind which these are left
  abbrev pub fine_steps : Context → Pending → Steps → Todos
  fine_steps c (Pending.Load to a n) rest = on_memory (Pending.Load to a n) rest
  fine_steps c (Pending.Store a n value) rest = on_memory (Pending.Store a n value) rest
  fine_steps c (Pending.Fetch a) rest = on_memory (Pending.Fetch a) rest
  fine_steps c (Pending.Probe a amount) rest = sized amount (on_memory (Pending.Probe a amount) rest)
  fine_steps c (Pending.CopyIn a amount) rest = sized amount (on_memory (Pending.CopyIn a amount) rest)
  fine_steps c (Pending.CopyOut a) rest = on_memory (Pending.CopyOut a) rest
  fine_steps c (Pending.CopyStr a) rest = on_memory (Pending.CopyStr a) rest
  fine_steps c (Pending.DomInit d parts) rest =
      let p = Pending.DomInit d parts in Todo.write_claim d ∷ Todo.edit d p ∷ Todo.show p rest ∷ []
  fine_steps c (Pending.DomAdd d range attr) rest =
      let p = Pending.DomAdd d range attr in Todo.write_claim d ∷ Todo.edit d p ∷ Todo.show p rest ∷ []
  fine_steps c (Pending.DomRemove d range attr) rest =
      let p = Pending.DomRemove d range attr in Todo.write_claim d ∷ Todo.edit d p ∷ Todo.show p rest ∷ []
  fine_steps c (Pending.DomMove d who) rest = Todo.read_claim (Some d) ∷ Todo.show (Pending.DomMove d who) rest ∷ []
  fine_steps c (Pending.Start who script stack priority mode) rest =
      let p = Pending.Start who script stack priority mode in
      Todo.hold ∷ Todo.unshut who.0 ∷ Todo.show p rest ∷ Todo.let_go ∷ Todo.add (newborn image c p) ∷ []
  fine_steps c (Pending.Work a ask) rest = let p = Pending.Work a ask in acting c p (Todo.show p rest ∷ [])
  fine_steps c (Pending.Join who timeout) rest = let p = Pending.Join who timeout in acting c p (Todo.show p rest ∷ [])
  fine_steps c (Pending.FutexWait a value timeout) rest = let p = Pending.FutexWait a value timeout in acting c p (on_memory p rest)
  fine_steps c (Pending.FutexWake a all) rest = on_memory (Pending.FutexWake a all) rest
  fine_steps c (Pending.Arm ticks) rest = noting c (noted_cell rest) (Todo.owe ∷ Todo.show (Pending.Arm ticks) rest ∷ [])
  fine_steps c (Pending.ArmTimer ticks) rest = Todo.owe ∷ Todo.show (Pending.ArmTimer ticks) rest ∷ []
  fine_steps c (Pending.ClearInit a) rest = clearing (row_named image a == own_row image c.thread) (Pending.ClearInit a) rest
  fine_steps c p rest = Todo.show p rest ∷ []

  abbrev pub end_of_turn : Bool → Todos
  end_of_turn true = Todo.done ∷ []
  end_of_turn false = Todo.park ∷ []

  -- the next fine steps of a thread that has these steps to make
  abbrev pub next_steps : Context → Steps → Todos
  next_steps c [] = end_of_turn c.ended
  next_steps c (Pending.Resume ∷ rest) = end_of_turn false
  next_steps c (Pending.Inherit who ∷ p ∷ rest) = passes who.0 (but (own_row image c.thread) 0) (fine_steps c p rest)
  next_steps c (Pending.Drops from ∷ p ∷ rest) = drops from (fine_steps c p rest)
  next_steps c (p ∷ rest) = fine_steps c p rest

  -- the first fine step of a turn
  abbrev pub turn_of : Option Instr → Todos
  turn_of (Some instr) = Todo.show Pending.Begin [] ∷ []
  turn_of None = Todo.show Pending.Exit [] ∷ []

  abbrev pub turn : Context → Todos
  turn c = turn_of (instruction_at image c.place)
