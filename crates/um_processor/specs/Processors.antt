-- The processor that the code's fields stand for, and what comes of a turn.
use Rattle.std.specs.Prelude.{◌≡◌, ℕ, Bool, true, false, nat_le, nat_lt, if◌then◌else◌, [], ◌∷◌, ◌++◌, drop, is_some, Some, None}
use Rattle.um_base.specs.declared.image.Image.{Image}
use Rattle.um_base.specs.declared.limits.TheConstants.{ROWS, THREADS}
use Rattle.um_machine.specs.declared.pending.Pending.{Pending}
use Rattle.um_machine.specs.Order.{Steps}
use Rattle.um_fine.specs.Asks.{has_room, next_site}
use Rattle.um_fine.specs.Context.{Context, no_context}
use Rattle.um_fine.specs.Continues.{newborn}
use Rattle.um_fine.specs.Follows.{p_next}
use Rattle.um_fine.specs.Places.{Todo, Todos, armed_for, cleaning, cleanings, next_steps, turn, with_cleaning}
use Rattle.um_fine.specs.Processor.{Processor}
use Rattle.um_fine.specs.Sites.{is_site}
use Rattle.um_fine.specs.Steps.{FineStep, Site}
use Rattle.um_processor.specs.Wants.{Wants}
use Rattle.um_tables.specs.Parked.{some_if}
use Rattle.um_processor.specs.Phases.{cell_of, domain_named, first_of, lacks_thread, own_phase, passed_to, queue_of, released, settled_mark, settles_at, showing}
use Rattle.um_tables.specs.Looks.{is_waited_at}
use Rattle.um_words.specs.declared.fine.FineAct.{FineAct}
use Rattle.um_words.specs.declared.fine.Mark.{Mark}
use Rattle.um_words.specs.declared.fine.Unseen.{Unseen}
use Rattle.um_tables.specs.Contexts.{born, steps_behind}
use Rattle.um_processor.specs.declared.cleaning.TheConstants.{MOST}
use Rattle.um_processor.specs.declared.phase.Phase.{Phase}
use Rattle.um_processor.specs.declared.phase.Turn.{Turn}
use Rattle.um_processor.specs.declared.running.Running.{Running}

-- What a processor has ready for its thread's next step: the row of the queue whose message size it looks at, a new thread, the cell in which
-- its call may wait, the mark that is to be settled behind an act, and whether the thread's word is read once more behind that.
pub record Ready : Type 0 where
  pub queue : ℕ
  pub born : Context
  pub cell : ℕ
  pub settles : Bool
  pub deadline : ℕ
  pub mark : Mark
  pub rereads : Bool

abbrev pub ready_of : Running → Ready
ready_of r =
    record {
      queue = r.queue;
      born = born r.newborn;
      cell = r.cell;
      settles = r.settles;
      deadline = r.deadline;
      mark = r.mark;
      rereads = r.rereads;
    }

-- what it has to have ready for a step, by the step behind it
abbrev pub ready_for : Image → Context → Pending → Pending → Ready
ready_for image c p behind =
    record {
      queue = queue_of image p;
      born = newborn image c p;
      cell = cell_of image p behind;
      settles = is_some (armed_for image c p);
      deadline = settles_at image c p;
      mark = settled_mark image c p;
      rereads = false;
    }

-- Behind an act stands the mark to settle, if there is one, and behind a wait the second read of the thread's word.
abbrev pub settles_if : Bool → ℕ → Mark → Todos
settles_if true deadline mark = Todo.settle deadline mark ∷ []
settles_if false deadline mark = []

abbrev pub rereads_if : Bool → ℕ → Todos
rereads_if true site = Todo.reread site ∷ []
rereads_if false site = []

abbrev pub settling_of : Ready → Todos
settling_of r = settles_if r.settles r.deadline r.mark

abbrev pub rereading_of : Ready → Todos
rereading_of r = rereads_if r.rereads r.cell

-- behind an access to memory, where that is a wait on a futex
abbrev pub behind_access : Pending → Ready → Todos
behind_access (Pending.FutexWait a value timeout) r = settling_of r
behind_access p r = []

abbrev pub on_memory : Steps → Ready → Todos
on_memory steps r = Todo.hold ∷ Todo.read_claim None ∷ Todo.region_load ∷ showing steps (released ++ behind_access (first_of steps) r)

-- an arming, a wait on a futex, or any other act, once its cell is noted
abbrev pub acting_by : Pending → Steps → Ready → Todos
acting_by (Pending.Arm ticks) steps r = Todo.owe ∷ showing steps []
acting_by (Pending.FutexWait a value timeout) steps r = on_memory steps r
acting_by p steps r = showing steps (settling_of r)

-- The fine steps that are left in a phase after the visits, given the thread's pending steps. The phases of a processor without a thread, or at
-- its visits, or on an errand, don't come here.
abbrev pub todo_in : Phase → Steps → Ready → Todos
todo_in Phase.Begin steps r = Todo.show Pending.Begin [] ∷ []
todo_in Phase.Exit steps r = Todo.show Pending.Exit [] ∷ []
todo_in Phase.SizeLook steps r = Todo.size_look r.queue ∷ Todo.hold ∷ Todo.read_claim None ∷ Todo.region_load ∷ showing steps (released ++ behind_access (first_of steps) r)
todo_in Phase.Hold steps r = on_memory steps r
todo_in Phase.ReadClaim steps r = Todo.read_claim None ∷ Todo.region_load ∷ showing steps (released ++ behind_access (first_of steps) r)
todo_in Phase.RegionLoad steps r = Todo.region_load ∷ showing steps (released ++ behind_access (first_of steps) r)
todo_in Phase.Access steps r = showing steps (released ++ behind_access (first_of steps) r)
todo_in Phase.ReadDone steps r = released
todo_in Phase.LetGo steps r = Todo.let_go ∷ []
todo_in Phase.WriteClaim steps r =
    let p = first_of steps in Todo.write_claim (domain_named p) ∷ Todo.edit (domain_named p) p ∷ showing steps []
todo_in Phase.Edit steps r = let p = first_of steps in Todo.edit (domain_named p) p ∷ showing steps []
todo_in Phase.MoveClaim steps r = Todo.read_claim (Some (domain_named (first_of steps))) ∷ showing steps []
todo_in Phase.MoveDone steps r = Todo.read_done (Some (domain_named (first_of steps))) ∷ showing steps []
todo_in Phase.StartHold steps r =
    Todo.hold ∷ Todo.unshut r.born.thread ∷ showing steps (Todo.let_go ∷ Todo.add r.born ∷ [])
todo_in Phase.Unshut steps r = Todo.unshut r.born.thread ∷ showing steps (Todo.let_go ∷ Todo.add r.born ∷ [])
todo_in Phase.Start steps r = showing steps (Todo.let_go ∷ Todo.add r.born ∷ [])
todo_in Phase.StartLetGo steps r = Todo.let_go ∷ Todo.add r.born ∷ rereading_of r
todo_in Phase.Add steps r = Todo.add r.born ∷ rereading_of r
todo_in Phase.Note steps r = Todo.note r.cell ∷ acting_by (first_of steps) steps r
todo_in Phase.Owe steps r = Todo.owe ∷ showing steps []
todo_in Phase.Act steps r = showing steps (settling_of r)
todo_in Phase.ActDone steps r = Todo.read_done None ∷ Todo.let_go ∷ settling_of r ++ rereading_of r
todo_in Phase.ActLetGo steps r = Todo.let_go ∷ settling_of r ++ rereading_of r
todo_in Phase.Settle steps r = Todo.settle r.deadline r.mark ∷ rereading_of r
todo_in Phase.Reread steps r = Todo.reread r.cell ∷ []
todo_in Phase.Leave steps r = Todo.leave ∷ showing steps []
todo_in Phase.Show steps r = showing steps []
todo_in Phase.Done steps r = Todo.done ∷ []
todo_in Phase.Sleep steps r = Todo.sleep ∷ Todo.reread_asleep ∷ Todo.done ∷ []
todo_in Phase.RereadAsleep steps r = Todo.reread_asleep ∷ Todo.done ∷ []
todo_in phase steps r = Todo.park ∷ []

-- What is left of the thread's next step: its pending steps, whether rows were visited before the next one, the row to visit, the first phase
-- behind the visits, and what is ready for it.
pub record Left : Type 0 where
  pub pending : Steps
  pub visited : Bool
  pub row : ℕ
  pub next : Phase
  pub ready : Ready

abbrev pub left_of : Running → Left
left_of r = record { pending = r.context.value.pending; visited = r.visited; row = r.row; next = r.next; ready = ready_of r }

-- the same from the first phase of a step on, after visits
abbrev pub todo_behind : Running → Todos
todo_behind r = todo_in r.next (drop 1 r.context.value.pending) (ready_of r)

-- The list of a processor in a phase, with nothing to do before its thread's next step. The steps of a running thread leave no other lists,
-- as the contract of each function of `Running` says of its step.
abbrev pub list_of : Phase → Left → Todos
list_of Phase.Idle k = []
list_of Phase.Pass k = Todo.pass (passed_to k.pending) k.row ∷ todo_in k.next (drop 1 k.pending) k.ready
list_of Phase.Drop k = Todo.drop k.row ∷ todo_in k.next (drop 1 k.pending) k.ready
list_of phase k = todo_in phase (steps_behind k.visited k.pending) k.ready

abbrev pub todo_of : Phase → Running → Todos
todo_of phase r = list_of phase (left_of r)

-- what comes behind an errand: what was next, or nothing, and then the thread's next step
abbrev pub list_behind : Phase → Left → Todos
list_behind Phase.Open k = []
list_behind phase k = list_of phase k

abbrev pub behind_errand : Phase → Running → Todos
behind_errand phase r = list_behind phase (left_of r)

-- the same with an errand before it; behind a mark in its hand comes nothing
abbrev pub errands_of : Phase → Running → Todos
errands_of Phase.Look r = Todo.look r.sought r.place r.before ∷ behind_errand r.after r
errands_of Phase.TellCut r = Todo.tell_cut r.sought ∷ behind_errand r.after r
errands_of Phase.Rouse r = Todo.rouse r.sought ∷ behind_errand r.after r
errands_of Phase.AddRoused r = Todo.add r.room.value ∷ behind_errand r.after r
errands_of Phase.Handle r = Todo.handle r.deadline r.mark ∷ Todo.paid ∷ []
errands_of Phase.Paid r = Todo.paid ∷ []
errands_of phase r = todo_of phase r

-- a processor that has no thread has an own part of none
abbrev pub context_in : Phase → Context → Context
context_in phase c = if lacks_thread phase then no_context else c

-- the processor in a phase
abbrev pub in_phase : Phase → Running → Processor
in_phase phase r =
    record {
      context = context_in phase r.context.value;
      todo = errands_of phase r;
      table = some_if r.loaded r.table;
      domain = r.domain;
      version = r.version;
      reply = r.reply;
      size = r.size;
      charge = r.charge;
      actor = r.actor;
    }

abbrev pub processor_of : Running → Processor
processor_of r = in_phase r.phase r

-- at the visit of this row, or at the step after the visits if there is no such row
abbrev pub visiting : ℕ → Phase → Running → Running
visiting row phase r = record r { row = row; visited = true; phase = if nat_lt row ROWS then phase else own_phase r.next }

-- the processor with a thread and these steps
abbrev pub with_todo : Running → Todos → Processor
with_todo r todo = record (in_phase Phase.Park r) { todo = todo }

-- the same at the first fine step of its thread's next step, and of a turn
abbrev pub refilled : Image → Running → Processor
refilled image r = with_todo r (next_steps image r.context.value r.context.value.pending)

abbrev pub turning : Image → Running → Processor
turning image r = with_todo r (turn image r.context.value)

-- the same, with an object to clean if its row came to cleaning
abbrev pub cleaned : Image → ℕ → Bool → Processor → Processor
cleaned image x false p = p
cleaned image x true p = record p { todo = with_cleaning (cleaning image x) p.todo }

-- a step that the processor of this number asks for, and the processor after it
pub record Goes (cpu : ℕ) (image : Image) (p : Processor) (e : FineStep) (z : Processor) : Type 0 where
  pub asks : Wants cpu image p e
  pub next : z ≡ p_next image p e

-- the site of its next step: one that has no thread takes a ready one
abbrev pub site_next : Image → Processor → Site
site_next image p = next_site image p (FineAct.Unseen Unseen.Done)

-- It has no step that it could ask for: there is no room for its next step, or that step has no event, or it is at a site or names a thread
-- index that doesn't exist, or it looks where nobody can wait, or more objects are to be cleaned than there are dynamic rows.
abbrev pub has_thread : Todos → Bool
has_thread (Todo.wake who told ∷ todo) = nat_lt who THREADS
has_thread (Todo.add c ∷ todo) = nat_lt c.thread THREADS
has_thread (Todo.tell_cut who ∷ todo) = nat_lt who THREADS
has_thread (Todo.rouse who ∷ todo) = nat_lt who THREADS
has_thread todo = true

abbrev pub fits_next : Image → Processor → Todos → Bool
fits_next image p (Todo.show q rest ∷ todo) = has_room image p q
fits_next image p todo = true

-- whether a step has an event of its own: a wait, visits of rows and a cleaner's steps have none
abbrev pub is_event : Pending → Bool
is_event Pending.Resume = false
is_event (Pending.Inherit who) = false
is_event (Pending.Drops from) = false
is_event (Pending.CleanPair who) = false
is_event Pending.Recycle = false
is_event Pending.Left = false
is_event Pending.Tick = false
is_event (Pending.TimeOut who) = false
is_event Pending.Expire = false
is_event (Pending.Cut who) = false
is_event step = true

abbrev pub shows_event : Todos → Bool
shows_event (Todo.show q rest ∷ todo) = is_event q
shows_event todo = true

-- whether threads wait at the site at which it looks
abbrev pub waits_at : Mark → Bool
waits_at (Mark.Thread who site) = is_waited_at site
waits_at (Mark.Timer x) = true

abbrev pub looks_well : Todos → Bool
looks_well (Todo.look who site before ∷ todo) = is_waited_at site
looks_well (Todo.handle deadline mark ∷ todo) = waits_at mark
looks_well todo = true

pub data IsStuck (image : Image) (p : Processor) : Type 0 where
  no_room : fits_next image p p.todo ≡ false → IsStuck image p
  no_event : shows_event p.todo ≡ false → IsStuck image p
  no_site : is_site (site_next image p) ≡ false → IsStuck image p
  no_look : looks_well p.todo ≡ false → IsStuck image p
  no_thread : has_thread p.todo ≡ false → IsStuck image p
  full : nat_le MOST (cleanings p.todo) ≡ true → IsStuck image p

-- every step that the processor of this number asks for, it may make
abbrev pub MayNext : ℕ → Image → Processor → (FineStep → Type 0) → Type 0
MayNext cpu image p may = (e : FineStep) → Wants cpu image p e → may e

-- What comes of a turn of the processor of this number, given what the sites say in each case: a step was made; it was refused; none was
-- made since others are at its site; there was none to ask for. This is of a turn at the given site.
abbrev pub TurnedAt : Site → Turn → ℕ → Image → Processor → Processor → (FineStep → Type 0) → (FineStep → Type 0) → (Site → Type 0) → Type 0 → Type 0
TurnedAt site Turn.Made cpu image p z took shut late none = (e : FineStep) × took e × Goes cpu image p e z
TurnedAt site Turn.Busy cpu image p z took shut late none = (e : FineStep) × shut e × Wants cpu image p e
TurnedAt site Turn.Changed cpu image p z took shut late none = late site
TurnedAt site Turn.Stuck cpu image p z took shut late none = none × IsStuck image p

-- the same at the site of the step that it asks for next
abbrev pub Turned : Turn → ℕ → Image → Processor → Processor → (FineStep → Type 0) → (FineStep → Type 0) → (Site → Type 0) → Type 0 → Type 0
Turned Turn.Made cpu image p z took shut late none = (e : FineStep) × took e × Goes cpu image p e z
Turned Turn.Busy cpu image p z took shut late none = (e : FineStep) × shut e × Wants cpu image p e
Turned Turn.Changed cpu image p z took shut late none = late (site_next image p)
Turned Turn.Stuck cpu image p z took shut late none = none × IsStuck image p

-- where a step was made, and where none was
abbrev pub OnMade : Turn → Type 0 → Type 0
OnMade Turn.Made holds = holds
OnMade turn holds = Unit {0}

abbrev pub UnlessMade : Turn → Type 0 → Type 0
UnlessMade Turn.Made kept = Unit {0}
UnlessMade turn kept = kept
