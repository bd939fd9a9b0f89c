-- Processors that may make the step that comes next, whatever their sites take. Each processor in a fine run is one.
use Rattle.std.specs.Prelude.{◌≡◌, ℕ, Bool, true, false, IsTrue, [], ◌∷◌, Some, None, is_some}
use Rattle.std.specs.List.{list_all}
use Rattle.um_base.specs.declared.image.Image.{Image}
use Rattle.um_machine.specs.declared.pending.Pending.{Pending}
use Rattle.um_machine.specs.Order.{Steps}
use Rattle.um_machine.specs.Services.{is_empty}
use Rattle.um_machine.specs.State.{instruction_at}
use Rattle.um_measure.specs.Reached.{IsPlace}
use Rattle.um_words.specs.declared.fine.FineAct.{FineAct}
use Rattle.um_fine.specs.Answers.{is_due_act, is_tick}
use Rattle.um_fine.specs.Cells.{Cell}
use Rattle.um_fine.specs.Context.{Context}
use Rattle.um_fine.specs.Places.{Todo, Todos}
use Rattle.um_fine.specs.Processor.{Processor}
use Rattle.um_fine.specs.Scheduler.{is_cut, parked_at, waits}
use Rattle.um_fine.specs.Sites.{SiteState}
use Rattle.um_fine.specs.Steps.{Exchange}

-- a thread whose event this is. A resume, visits, the end of a cleaning and what no thread has on its list are made by steps of their own
abbrev pub MayShow : Image → Context → Pending → Type 0
MayShow image c Pending.Begin = (c.ended ≡ false) × (c.pending ≡ []) × IsPlace image c.place × IsTrue (is_some (instruction_at image c.place))
MayShow image c Pending.Exit = (c.ended ≡ false) × (c.pending ≡ [])
MayShow image c Pending.Killed = c.ended ≡ false
MayShow image c (Pending.Fatal reason cause) = c.ended ≡ false
MayShow image c (Pending.Dooms from) = c.ended ≡ true
MayShow image c Pending.Resume = ⊥
MayShow image c (Pending.Inherit who) = ⊥
MayShow image c (Pending.Drops from) = ⊥
MayShow image c (Pending.CleanPair who) = ⊥
MayShow image c Pending.Recycle = ⊥
MayShow image c Pending.Left = ⊥
MayShow image c Pending.Tick = ⊥
MayShow image c (Pending.TimeOut who) = ⊥
MayShow image c Pending.Expire = ⊥
MayShow image c (Pending.Cut who) = ⊥
MayShow image c q = is_empty c.pending ≡ false

-- no event, and no end of a turn or of a mark
abbrev pub is_round : Todo → Bool
is_round (Todo.show q rest) = false
is_round Todo.park = false
is_round Todo.done = false
is_round Todo.sleep = false
is_round Todo.paid = false
is_round q = true

-- a thread that is taken and was told nothing is at rest, or is to be killed
abbrev pub IsTaken : Steps → Type 0
IsTaken [] = Unit {0}
IsTaken (Pending.Killed ∷ []) = Unit {0}
IsTaken steps = ⊥

-- a processor without a thread, which has this own part, is given a mark that is due, lets time go on, or is given a thread
abbrev pub IsTurn : Context → (due tick : Bool) → Exchange → Type 0
IsTurn own true false (Exchange.mark deadline mark) = own.claims ≡ []
IsTurn own true tick moved = ⊥
IsTurn own false true moved = Unit {0}
IsTurn own false false (Exchange.thread c None) = IsTaken c.pending
IsTurn own false false (Exchange.thread c (Some told)) = Unit {0}
IsTurn own false false moved = ⊥

-- a thread drops what is its own
abbrev pub HasDrops : Steps → Type 0
HasDrops (Pending.Drops from ∷ rest) = Unit {0}
HasDrops steps = ⊥

-- a processor that has this list, where it does this and the site gives that
abbrev pub MayStep : Image → Processor → FineAct → Exchange → Todos → Type 0
MayStep image p act moved [] = IsTurn p.context (is_due_act act) (is_tick act) moved
MayStep image p act moved (Todo.show q rest ∷ todo) = MayShow image p.context q × (list_all is_round todo ≡ true)
MayStep image p act moved (Todo.drop x ∷ todo) = HasDrops p.context.pending
MayStep image p act moved (Todo.sleep ∷ todo) = todo ≡ Todo.reread_asleep ∷ Todo.done ∷ []
MayStep image p act moved todo = Unit {0}

-- who was cut and is parked waits
abbrev pub AreCut : SiteState → Type 0
AreCut (SiteState.cell n (Cell.scheduler s)) = (t : ℕ) (c : Context) → parked_at s t ≡ Some c → is_cut s t ≡ true → waits c.pending ≡ true
AreCut s = Unit {0}
