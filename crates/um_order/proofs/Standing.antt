-- How the one processor, the scheduler's cell, the marks of the clock and who sleeps relate to the point that the events so far have led to.
use Rattle.std.specs.Prelude.{◌≡◌, ◌≢◌, ◌⊎◌, ℕ, ◌≤◌, Bool, true, false, ◌&&◌, not, if◌then◌else◌, List, [], ◌∷◌, ◌++◌, map, Option, Some, None, slice_index_or}
use Rattle.std.specs.List.{list_all, list_any}
use Rattle.um_base.specs.declared.names.ThreadIx.{ThreadIx}
use Rattle.um_base.specs.Places.{own_row}
use Rattle.um_machine.specs.declared.pending.Pending.{Pending}
use Rattle.um_machine.specs.Order.{Steps, to_thread}
use Rattle.um_machine.specs.Services.{is_empty}
use Rattle.um_machine.specs.State.{State, is_waiting, pair_at, thread_at}
use Rattle.um_words.specs.declared.fine.Mark.{Mark}
use Rattle.um_fine.specs.Clock.{Marked}
use Rattle.um_fine.specs.Context.{Context}
use Rattle.um_fine.specs.Joins.{Joins, sleeps}
use Rattle.um_invariants.specs.InOrder.{Point}
use Rattle.um_invariants.specs.Ready.{is_still}
use Rattle.um_fine.specs.Places.{Todo, Todos}
use Rattle.um_fine.specs.Processor.{Processor}
use Rattle.um_fine.specs.Scheduler.{Scheduler, waits}
use Rattle.um_refinement.specs.Lists.{adders, counted, has_steps, is_end_call, is_recycle}
use Rattle.um_refinement.specs.Timing.{IsPaying}
use Rattle.um_refinement.proofs.ListDone.{says_done}
use Rattle.um_refinement.proofs.ListWakes.{Wakes, wakers}
use Rattle.um_order.proofs.ArmingOrder.{Held, Passed, Plain}

-- the threads that the steps on a list make ready, in their order: those that are woken or cut, or the one that is started or was roused
abbrev pub woken_of : Wakes → List ℕ
woken_of ws = map (λ w. w.0) ws

abbrev pub cutters : Todos → List ℕ
cutters [] = []
cutters (Todo.tell_cut who ∷ todo) = who ∷ cutters todo
cutters (q ∷ todo) = cutters todo

abbrev pub comers : Todos → List ℕ
comers todo = woken_of (wakers todo) ++ (cutters todo ++ map (λ (c : Context). c.thread) (adders todo))

-- its own thread, if that joins the ready list at the end of the turn: it has no step left, and hasn't ended
abbrev pub back : Context → List ℕ
back c = if is_empty c.pending && not c.ended then c.thread ∷ [] else []

-- whether a thread with these steps goes on with its instruction: it has a step left, and doesn't wait
abbrev pub goes : Steps → Bool
goes [] = false
goes (Pending.Resume ∷ rest) = false
goes (q ∷ rest) = true

abbrev pub inside_of : Context → Option ThreadIx
inside_of c = if goes c.pending then Some (to_thread c.thread) else None

abbrev pub is_show : Todo → Bool
is_show (Todo.show q rest) = true
is_show q = false

-- a step but a look or a rouse, which stand in front alone; and but one that puts a thread to sleep, or has a mark in the hand
abbrev pub is_calm : Todo → Bool
is_calm (Todo.look who site before) = false
is_calm (Todo.rouse who) = false
is_calm Todo.sleep = false
is_calm Todo.reread_asleep = false
is_calm (Todo.handle deadline mark) = false
is_calm Todo.paid = false
is_calm q = true

-- all of these threads stand still
abbrev pub AllStill : State → List ℕ → Type 0
AllStill s [] = Unit {0}
AllStill s (t ∷ ts) = (is_still s t ≡ true) × AllStill s ts

-- The processor has no thread. Those that it has taken since the last event stood still, so it gave them up, or put them to sleep. They still stand
-- in the point's ready list. Marks that it was given since then made no step; there are such only where no thread is ready.
pub record Idles (p : Processor) (s : Scheduler) (ms : List Marked) (at : Point) : Type 0 where
  pub list : p.todo ≡ []
  pub skipped : List ℕ
  pub still : AllStill at.state skipped
  pub ready : at.ready ≡ skipped ++ s.ready
  pub inside : at.inside ≡ None
  pub cut : at.cut ≡ None
  pub armings : Plain ms at.armings ⊎ (Passed at.state ms at.armings × (s.ready ≡ []))

-- The processor has taken a thread at rest, or one that was cut, which has made no event yet: next it begins a line, exits or is killed.
pub record Opens (p : Processor) (s : Scheduler) (ms : List Marked) (at : Point) : Type 0 where
  pub first : Todo
  pub list : p.todo ≡ first ∷ []
  pub is : is_show first ≡ true
  pub rests : (p.context.pending ≡ []) ⊎ (p.context.pending ≡ Pending.Killed ∷ [])
  pub on : p.context.ended ≡ false
  pub skipped : List ℕ
  pub still : AllStill at.state skipped
  pub ready : at.ready ≡ skipped ++ p.context.thread ∷ s.ready
  pub inside : at.inside ≡ None
  pub cut : at.cut ≡ None
  pub armings : Plain ms at.armings

-- The processor gives up a thread that stands still, or puts it to sleep.
pub data IsAway : Todos → Type 0 where
  gives_up : IsAway (Todo.done ∷ [])
  puts_to_sleep : IsAway (Todo.sleep ∷ Todo.reread_asleep ∷ Todo.done ∷ [])
  looks_again : IsAway (Todo.reread_asleep ∷ Todo.done ∷ [])

pub record PutsAway (p : Processor) (s : Scheduler) (ms : List Marked) (at : Point) : Type 0 where
  pub list : IsAway p.todo
  pub skipped : List ℕ
  pub still : AllStill at.state skipped
  pub own : is_still at.state p.context.thread ≡ true
  -- one that goes to sleep is suspended
  pub sleeps : (p.todo ≡ Todo.done ∷ []) ⊎ (((thread_at at.state p.context.thread).suspended && not (thread_at at.state p.context.thread).aborted) ≡ true)
  pub ready : at.ready ≡ skipped ++ s.ready
  pub inside : at.inside ≡ None
  pub cut : at.cut ≡ None
  pub armings : Plain ms at.armings

-- where one that was cut is to get ready, nobody is to be woken; and neither where one is to be added
abbrev pub ComeAlone : Todos → Type 0
ComeAlone todo = (is_empty (cutters todo) ≡ false → wakers todo ≡ []) × (is_empty (adders todo) ≡ false → (wakers todo ≡ []) × (cutters todo ≡ []))

-- The processor's thread has made the last event, and this list is left to it, in front of which these threads come. In the point's ready list stand
-- already those, those whom the list has still to wake or to add, and the thread itself if it goes back.
pub record Turns (p : Processor) (todo : Todos) (front : List ℕ) (s : Scheduler) (ms : List Marked) (at : Point) : Type 0 where
  pub runs : has_steps todo ≡ true
  pub calm : list_all is_calm todo ≡ true
  pub last : at.last ≡ Some (to_thread p.context.thread)
  pub ready : at.ready ≡ s.ready ++ (front ++ (comers todo ++ back p.context))
  pub inside : at.inside ≡ inside_of p.context
  -- a thread at rest has no event on the list, and `done` is on the list only if the thread has ended
  pub shows : is_empty p.context.pending ≡ true → list_any is_show todo ≡ false
  pub ends : says_done todo ≡ true → p.context.ended ≡ true
  -- a thread that waits wasn't told anything yet, and wasn't cut
  pub told : waits p.context.pending ≡ true → (thread_at at.state p.context.thread).told ≡ None
  pub whole : waits p.context.pending ≡ true → waits (thread_at at.state p.context.thread).pending ≡ true
  pub alone : ComeAlone todo
  pub armings : Plain ms at.armings

abbrev pub Begun : Processor → Scheduler → List Marked → Point → Type 0
Begun p s ms at = Turns p p.todo [] s ms at × (at.cut ≡ None)

-- It has gone on with another thread, or aborted it, and looks whether it sleeps.
pub record Rouses (p : Processor) (s : Scheduler) (j : Joins) (ms : List Marked) (at : Point) : Type 0 where
  pub who : ℕ
  pub todo : Todos
  pub list : p.todo ≡ Todo.rouse who ∷ todo
  pub turn : Turns p todo (if sleeps j who then who ∷ [] else []) s ms at
  pub bare : (wakers todo ≡ []) × (cutters todo ≡ [])
  pub cut : at.cut ≡ None

-- It has aborted another thread, and looks whether it waits.
pub record Looks (p : Processor) (s : Scheduler) (ms : List Marked) (at : Point) : Type 0 where
  pub who : ℕ
  pub site : ℕ
  pub before : ℕ
  pub todo : Todos
  pub list : p.todo ≡ Todo.look who site before ∷ todo
  pub turn : Turns p todo [] s ms at
  pub bare : (wakers todo ≡ []) × (cutters todo ≡ []) × (adders todo ≡ [])
  pub goes_then : goes p.context.pending ≡ true
  pub clear : (x : ℕ) → (counted (is_end_call x) todo ≡ 0) × (counted (is_recycle x) todo ≡ 0)
  pub cut : at.cut ≡ if is_waiting (thread_at at.state who) then Some (to_thread who) else None

-- It has a mark in the hand: no thread is ready but those that stand still.
pub record Holds (p : Processor) (s : Scheduler) (ms : List Marked) (at : Point) : Type 0 where
  pub deadline : ℕ
  pub mark : Mark
  pub list : p.todo ≡ Todo.handle deadline mark ∷ Todo.paid ∷ []
  pub still : AllStill at.state at.ready
  pub none : s.ready ≡ []
  pub inside : at.inside ≡ None
  pub cut : at.cut ≡ None
  pub armings : Held at.state deadline mark ms at.armings

-- It has made the step of that mark, or has found that it makes none, and tells those whom it wakes.
pub record Pays (p : Processor) (s : Scheduler) (ms : List Marked) (at : Point) : Type 0 where
  pub list : IsPaying p.todo
  pub skipped : List ℕ
  pub still : AllStill at.state skipped
  pub ready : at.ready ≡ skipped ++ (s.ready ++ woken_of (wakers p.todo))
  pub inside : at.inside ≡ None
  pub cut : at.cut ≡ None
  pub armings : Plain ms at.armings ⊎ (Passed at.state ms at.armings × (s.ready ≡ []) × (wakers p.todo ≡ []))

pub data Stands (p : Processor) (s : Scheduler) (j : Joins) (ms : List Marked) (at : Point) : Type 0 where
  idles : Idles p s ms at → Stands p s j ms at
  opens : Opens p s ms at → Stands p s j ms at
  away : PutsAway p s ms at → Stands p s j ms at
  begun : Begun p s ms at → Stands p s j ms at
  rouses : Rouses p s j ms at → Stands p s j ms at
  looks : Looks p s ms at → Stands p s j ms at
  holds : Holds p s ms at → Stands p s j ms at
  pays : Pays p s ms at → Stands p s j ms at

-- Where a thread passes permissions on, each one that it still can pass on is due. Where it drops them at its end, each one from that row on is
-- due. Several processors break this: another one may grant or revoke meanwhile.
abbrev pub IsFull : State → ℕ → Steps → Type 0
IsFull m t (Pending.Inherit who ∷ rest) =
    (x : ℕ) → pair_at m t x ≡ true → pair_at m who.0 x ≡ false → x ≢ own_row m.image t → slice_index_or (thread_at m t).due x false ≡ true
IsFull m t (Pending.Drops from ∷ rest) = (x : ℕ) → from ≤ x → pair_at m t x ≡ true → slice_index_or (thread_at m t).due x false ≡ true
IsFull m t steps = Unit {0}
