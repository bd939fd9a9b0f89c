-- The fine steps that are left of a thread's next step, by the phase in which its processor is.
use Rattle.std.specs.Prelude.{ℕ, Bool, true, false, ◌==◌, ◌&&◌, not, if◌then◌else◌, [], ◌∷◌, Option, Some, None, is_some, unwrap_or, drop}
use Rattle.um_base.specs.declared.ask.Ask.{Ask}
use Rattle.um_base.specs.declared.image.Image.{Image}
use Rattle.um_base.specs.declared.names.Addr.{Addr}
use Rattle.um_base.specs.Places.{own_row}
use Rattle.um_machine.specs.declared.pending.Amount.{Amount}
use Rattle.um_machine.specs.declared.pending.Pending.{Pending}
use Rattle.um_machine.specs.Order.{Steps}
use Rattle.um_words.specs.declared.fine.Mark.{Mark}
use Rattle.um_fine.specs.Addresses.{row_named}
use Rattle.um_fine.specs.Context.{Context}
use Rattle.um_fine.specs.Places.{Todo, Todos, armed_for, is_timer_start, mark_for, may_wait, noted_cell}
use Rattle.um_processor.specs.declared.phase.Phase.{Phase}

abbrev pub is_idle : Phase → Bool
is_idle Phase.Idle = true
is_idle phase = false

-- whether it has no thread; it may have a mark in its hand
abbrev pub lacks_thread : Phase → Bool
lacks_thread Phase.Idle = true
lacks_thread Phase.Handle = true
lacks_thread Phase.Paid = true
lacks_thread phase = false

-- whether its step leaves nothing to be done before the next one: no claim ends, no row comes to cleaning, nobody is woken
abbrev pub is_plain_phase : Phase → Bool
is_plain_phase Phase.Idle = false
is_plain_phase Phase.Begin = false
is_plain_phase Phase.Exit = false
is_plain_phase Phase.Drop = false
is_plain_phase Phase.Access = false
is_plain_phase Phase.Start = false
is_plain_phase Phase.Act = false
is_plain_phase Phase.Leave = false
is_plain_phase Phase.Show = false
is_plain_phase Phase.Handle = false
is_plain_phase phase = true

-- whether it looks for another thread, before its own thread's next step or at the end of its turn, or has a mark in its hand
abbrev pub is_errand : Phase → Bool
is_errand Phase.Look = true
is_errand Phase.TellCut = true
is_errand Phase.Rouse = true
is_errand Phase.AddRoused = true
is_errand Phase.Handle = true
is_errand Phase.Paid = true
is_errand phase = false

-- whether a phase is one of the thread's own next step: there is a thread, and no row is visited, and it is no errand
abbrev pub is_own : Phase → Bool
is_own Phase.Idle = false
is_own Phase.Pass = false
is_own Phase.Drop = false
is_own phase = not (is_errand phase)

-- such a phase, or that in which the thread is put back
abbrev pub own_phase : Phase → Phase
own_phase phase = if is_own phase then phase else Phase.Park

-- whether nothing stands in a phase before the thread's next step
abbrev pub is_over : Phase → Bool
is_over Phase.Open = true
is_over Phase.Idle = true
is_over phase = false

-- whether an errand may come before a phase: there is a thread, and it is no errand
abbrev pub is_going : Phase → Bool
is_going Phase.Idle = false
is_going phase = not (is_errand phase)

-- the phase that stays behind such an errand
abbrev pub kept_phase : Phase → Phase
kept_phase Phase.Open = Phase.Park
kept_phase phase = phase

-- a phase that comes behind an errand, or that in which the thread is put back
abbrev pub behind_phase : Phase → Phase
behind_phase phase = if is_errand phase then Phase.Park else phase

-- the thread to which permissions are passed on
abbrev pub passed_to : Steps → ℕ
passed_to (Pending.Inherit who ∷ rest) = who.0
passed_to steps = 0

abbrev pub first_of : Steps → Pending
first_of [] = Pending.Resume
first_of (p ∷ rest) = p

-- the domain that a call names
abbrev pub domain_named : Pending → ℕ
domain_named (Pending.DomInit d parts) = d
domain_named (Pending.DomAdd d range attr) = d
domain_named (Pending.DomRemove d range attr) = d
domain_named (Pending.DomMove d who) = d
domain_named p = 0

-- the row of the queue whose message size a copy looks at
abbrev pub row_of_amount : Image → Amount → ℕ
row_of_amount image (Amount.Bytes n) = 0
row_of_amount image (Amount.MessageOf a) = row_named image a

abbrev pub queue_of : Image → Pending → ℕ
queue_of image (Pending.Probe a amount) = row_of_amount image amount
queue_of image (Pending.CopyIn a amount) = row_of_amount image amount
queue_of image p = 0

-- the event of the next step, before these: a thread without one is put back
abbrev pub showing : Steps → Todos → Todos
showing [] todo = Todo.park ∷ todo
showing (p ∷ rest) todo = Todo.show p rest ∷ todo

abbrev pub released : Todos
released = Todo.read_done None ∷ Todo.let_go ∷ []

-- What is timed: the act for which a deadline is armed, the cell in which a call may wait, and the deadline and the mark to settle.

abbrev pub is_arming : Pending → Bool
is_arming (Pending.Arm ticks) = true
is_arming p = false

-- the act for which a deadline is armed or is about to be: a step, or the one behind it
abbrev pub act_of : Pending → Pending → Pending
act_of p later = if is_arming p then later else p

-- the site of the cell in which the call may wait, or 0
abbrev pub cell_of : Image → Pending → Pending → ℕ
cell_of image p later = unwrap_or (noted_cell image (act_of p later ∷ [])) 0

abbrev pub settles_at : Image → Context → Pending → ℕ
settles_at image c p = unwrap_or (armed_for image c p) 0

abbrev pub settled_mark : Image → Context → Pending → Mark
settled_mark image c p = mark_for image c.thread (p ∷ [])

abbrev pub noting_phase : Context → Option ℕ → Phase → Phase
noting_phase c None phase = phase
noting_phase c (Some site) phase = if is_some c.noted then phase else Phase.Note

-- the first phase of a step, and of the steps that are left
abbrev pub phase_of_amount : Amount → Phase
phase_of_amount (Amount.Bytes n) = Phase.Hold
phase_of_amount (Amount.MessageOf a) = Phase.SizeLook

-- an act on an object that can't wait, for which nothing is armed, is shown as it is
abbrev pub is_untimed : Context → Ask → Bool
is_untimed c ask = not (may_wait ask) && not (is_timer_start ask) && not (is_some c.until)

-- whether the object at an address is a thread's own
abbrev pub is_own_object : Image → ℕ → Addr → Bool
is_own_object image t a = row_named image a == own_row image t

abbrev pub clearing_phase : Bool → Phase
clearing_phase true = Phase.Leave
clearing_phase false = Phase.Show

abbrev pub act_phase : Image → Context → Pending → Bool → Phase
act_phase image c p true = Phase.Show
act_phase image c p false = noting_phase c (noted_cell image (p ∷ [])) Phase.Act

-- by the step behind it
abbrev pub first_phase : Image → Context → Pending → Pending → Phase
first_phase image c (Pending.Load to a n) later = Phase.Hold
first_phase image c (Pending.Store a n value) later = Phase.Hold
first_phase image c (Pending.Fetch a) later = Phase.Hold
first_phase image c (Pending.Probe a amount) later = phase_of_amount amount
first_phase image c (Pending.CopyIn a amount) later = phase_of_amount amount
first_phase image c (Pending.CopyOut a) later = Phase.Hold
first_phase image c (Pending.CopyStr a) later = Phase.Hold
first_phase image c (Pending.FutexWake a all) later = Phase.Hold
first_phase image c (Pending.DomInit d parts) later = Phase.WriteClaim
first_phase image c (Pending.DomAdd d range attr) later = Phase.WriteClaim
first_phase image c (Pending.DomRemove d range attr) later = Phase.WriteClaim
first_phase image c (Pending.DomMove d who) later = Phase.MoveClaim
first_phase image c (Pending.Start who script stack priority mode) later = Phase.StartHold
first_phase image c (Pending.ArmTimer ticks) later = Phase.Owe
first_phase image c (Pending.Arm ticks) later = noting_phase c (noted_cell image (later ∷ [])) Phase.Owe
first_phase image c (Pending.FutexWait a value timeout) later = noting_phase c (noted_cell image (Pending.FutexWait a value timeout ∷ [])) Phase.Hold
first_phase image c (Pending.Join who timeout) later = noting_phase c (noted_cell image (Pending.Join who timeout ∷ [])) Phase.Act
first_phase image c (Pending.Work a ask) later = act_phase image c (Pending.Work a ask) (is_untimed c ask)
first_phase image c (Pending.ClearInit a) later = clearing_phase (is_own_object image c.thread a)
first_phase image c p later = Phase.Show

-- whether a step only waits, or has rows visited before the step behind it
abbrev pub has_visits : Pending → Bool
has_visits Pending.Resume = true
has_visits (Pending.Inherit who) = true
has_visits (Pending.Drops from) = true
has_visits p = false

-- by its kind alone, whether no visits come before a step, and its fine steps name no queue, no new thread, no cell and no mark
abbrev pub is_direct : Pending → Bool
is_direct Pending.Resume = false
is_direct (Pending.Inherit who) = false
is_direct (Pending.Drops from) = false
is_direct (Pending.Probe a amount) = false
is_direct (Pending.CopyIn a amount) = false
is_direct (Pending.Start who script stack priority mode) = false
is_direct (Pending.Arm ticks) = false
is_direct (Pending.FutexWait a value timeout) = false
is_direct (Pending.Join who timeout) = false
is_direct (Pending.Work a ask) = false
is_direct (Pending.ClearInit a) = false
is_direct p = true

abbrev pub phase_of : Image → Context → Steps → Phase
phase_of image c steps = first_phase image c (first_of steps) (first_of (drop 1 steps))

-- the phase behind the note of a cell
abbrev pub noted_phase : Pending → Phase
noted_phase (Pending.Arm ticks) = Phase.Owe
noted_phase (Pending.FutexWait a value timeout) = Phase.Hold
noted_phase p = Phase.Act
