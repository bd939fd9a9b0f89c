-- The order of the events of one processor, said of the events and of the states between them.
use Rattle.std.specs.Prelude.{◌≡◌, ◌⊎◌, ℕ, ◌<◌, Bool, true, false, if◌then◌else◌, List, [], ◌∷◌, Option, Some, None, is_some}
use Rattle.um_base.specs.declared.act.Act.{Act}
use Rattle.um_base.specs.declared.act.Event.{Event}
use Rattle.um_base.specs.declared.image.Image.{Image}
use Rattle.um_base.specs.declared.names.ThreadIx.{ThreadIx}
use Rattle.um_machine.specs.declared.pending.Pending.{Pending}
use Rattle.um_machine.specs.Run.{MayChoose, Step, opening}
use Rattle.um_machine.specs.State.{State, is_waiting, thread_at}
use Rattle.um_invariants.specs.Armings.{Arming, armings_after, gone_through, late_cell, late_step}
use Rattle.um_invariants.specs.NextSteps.{IsNext}
use Rattle.um_invariants.specs.Ready.{behind_next, boots_ready, goes_on, next_ready, ready_after, running_or, with_readied}

-- The order so far: the ready threads, with the one that has waited longest at the front; the thread whose instruction isn't over; one that
-- waits and was just aborted; the deadlines that weren't gone through, in the order of their arming; and the thread of the last event.
pub record Point : Type 0 where
  pub state : State
  pub ready : List ℕ
  pub inside : Option ThreadIx
  pub cut : Option ThreadIx
  pub armings : List Arming
  pub last : Option ThreadIx

-- drops ascend: none of a lower row may be dropped
abbrev pub DropsLeast : State → ℕ → Pending → ℕ → Type 0
DropsLeast s t (Pending.CleanPair who) row = (x : ℕ) → x < row → MayChoose s t x (Pending.CleanPair who) → ⊥
DropsLeast s t step row = Unit {0}

-- whether a step cleans
abbrev pub is_cleaning : Pending → Bool
is_cleaning (Pending.CleanPair who) = true
is_cleaning Pending.Recycle = true
is_cleaning step = false

-- An event is a cleaning step: an object that is gone, and that nobody holds, is recycled, or a permission of its thread is dropped.
pub record IsCleaning (s : State) (event : Event) (s2 : State) : Type 0 where
  pub made : Step s event s2
  pub cleans : is_cleaning made.step ≡ true
  pub least : DropsLeast s event.thread.0 made.step made.row

-- no cleaning step of a thread is lawful
abbrev pub CleansNone : State → Option ThreadIx → Type 0
CleansNone s None = Unit {0}
CleansNone s (Some t) = (act : Act) (s2 : State) → IsCleaning s (record { thread = t; act = act }) s2 → ⊥

-- A cleaning step is made by the thread of the last event. It may stand between the events of an instruction.
pub record CleansUp (p : Point) (event : Event) (p2 : Point) : Type 0 where
  pub by : p.last ≡ Some event.thread
  pub made : IsCleaning p.state event p2.state
  pub leaves : p2 ≡ record p { state = p2.state }

-- the threads that are ready after the one that goes on
abbrev pub waiting : Point → List ℕ
waiting p = if is_some p.inside then p.ready else behind_next p.state p.ready

-- whom an act leaves to be cut: the one that it aborts, where that waits
abbrev pub to_cut : Act → State → Option ThreadIx
to_cut (Act.Abort who true) s2 = if is_waiting (thread_at s2 who.0) then Some who else None
to_cut act s2 = None

-- An event makes this step, with this cell or row.
pub record Makes (s : State) (event : Event) (s2 : State) (step : Pending) (row : ℕ) : Type 0 where
  pub made : Step s event s2
  pub is : made.step ≡ step
  pub at : made.row ≡ row

-- If no cleaning step is lawful, one that waits is cut right behind its abort, by the thread that aborted it. It goes to the back.
pub record CutsShort (p : Point) (event : Event) (p2 : Point) : Type 0 where
  pub clean : CleansNone p.state p.last
  pub by : p.last ≡ Some event.thread
  pub who : ThreadIx
  pub cell : ℕ
  pub is_due : p.cut ≡ Some who
  pub made : Makes p.state event p2.state (Pending.Cut who) cell
  pub leaves : p2 ≡ record p { state = p2.state; cut = None; ready = with_readied p.ready event.act p2.state }

-- If no cleaning step is lawful, the thread whose instruction isn't over goes on; if there is none, the first ready thread that doesn't
-- stand still. It makes its next step, with the least row that this may take. The threads that it starts or wakes join the ready list at
-- the back, and so does it, after them, if it is at rest.
pub record GoesOn (p : Point) (event : Event) (p2 : Point) : Type 0 where
  pub clean : CleansNone p.state p.last
  pub uncut : p.cut ≡ None
  pub thread : running_or p.inside (next_ready p.state p.ready) ≡ Some event.thread
  pub made : IsNext p.state event.thread.0 event.act p2.state
  pub ready : p2.ready ≡ ready_after (waiting p) event.thread.0 event.act p2.state
  pub inside : p2.inside ≡ if goes_on p2.state event.thread.0 then Some event.thread else None
  pub cut : p2.cut ≡ to_cut event.act p2.state
  pub armings : p2.armings ≡ armings_after p.armings event.thread event.act p2.state
  pub last : p2.last ≡ Some event.thread

-- the step of time that is next: that of the first deadline that was gone through and makes one, or a tick
abbrev pub time_step : Option Arming → Pending
time_step None = Pending.Tick
time_step (Some arming) = late_step arming.aim

abbrev pub time_cell : Option Arming → ℕ
time_cell None = 0
time_cell (Some arming) = late_cell arming.aim

-- If no cleaning step is lawful, no instruction is left to go on with, and no thread is ready but those that stand still, which leave the
-- list, the deadlines that have come are gone through: the first that makes a step makes it, or else time goes on. It is the thread of the
-- last event that makes it. Whoever is told then is ready.
pub record PassesTime (p : Point) (event : Event) (p2 : Point) : Type 0 where
  pub clean : CleansNone p.state p.last
  pub uncut : p.cut ≡ None
  pub none : running_or p.inside (next_ready p.state p.ready) ≡ None
  pub by : p.last ≡ Some event.thread
  pub made : (let next = (gone_through p.state p.armings).1 in Makes p.state event p2.state (time_step next) (time_cell next))
  pub leaves : p2 ≡ record p { state = p2.state; ready = with_readied [] event.act p2.state; armings = (gone_through p.state p.armings).0 }

abbrev pub Follows : Point → Event → Point → Type 0
Follows p event p2 = CleansUp p event p2 ⊎ CutsShort p event p2 ⊎ GoesOn p event p2 ⊎ PassesTime p event p2

abbrev pub AreInOrder : Point → List Event → Type 0
AreInOrder p [] = Unit {0}
AreInOrder p (event ∷ events) = (p2 : Point) × Follows p event p2 × AreInOrder p2 events

-- the boot threads are ready in the order of the description
abbrev pub opening_point : Image → Point
opening_point image = record { state = opening image; ready = boots_ready image [] image.boots; inside = None; cut = None; armings = []; last = None }

abbrev pub IsInOrder : Image → List Event → Type 0
IsInOrder image events = AreInOrder (opening_point image) events
