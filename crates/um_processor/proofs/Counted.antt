-- How many objects are to be cleaned: none after the cleaning.
use Rattle.std.proofs.Common.{◌≡◌, ◌∙◌, ◌++◌, ℕ, Bool, true, false, List, [], ◌∷◌, drop, refl}
use Rattle.um_base.specs.declared.ask.Told.{Told}
use Rattle.um_base.specs.declared.names.ThreadIx.{ThreadIx}
use Rattle.um_machine.specs.declared.pending.Pending.{Pending}
use Rattle.um_machine.specs.Order.{Steps}
use Rattle.um_words.specs.declared.fine.Mark.{Mark}
use Rattle.um_fine.specs.Follows.{end_calls, wakes}
use Rattle.um_fine.specs.Places.{Todos, cleanings}
use Rattle.um_processor.specs.declared.phase.Phase.{Phase}
use Rattle.um_processor.specs.declared.running.Running.{Running}
use Rattle.um_processor.specs.Phases.{first_of, released, showing}
use Rattle.um_tables.specs.Contexts.{steps_behind}
use Rattle.um_processor.specs.Processors.{Ready, acting_by, behind_access, behind_errand, errands_of, ready_of, rereads_if, settles_if, todo_behind, todo_in, todo_of}

none-showing : (steps : Steps) (todo : Todos) → cleanings (showing steps todo) ≡ cleanings todo
none-showing [] todo = refl
none-showing (p ∷ rest) todo = refl

none-settling : (b : Bool) (deadline : ℕ) (mark : Mark) (todo : Todos) → cleanings (settles_if b deadline mark ++ todo) ≡ cleanings todo
none-settling true deadline mark todo = refl
none-settling false deadline mark todo = refl

none-rereading : (b : Bool) (site : ℕ) → cleanings (rereads_if b site) ≡ 0
none-rereading true site = refl
none-rereading false site = refl

none-alone : (b : Bool) (deadline : ℕ) (mark : Mark) → cleanings (settles_if b deadline mark) ≡ 0
none-alone true deadline mark = refl
none-alone false deadline mark = refl

none-access : (p : Pending) (k : Ready) → cleanings (released ++ behind_access p k) ≡ 0
none-access (Pending.FutexWait a value timeout) k = none-alone k.settles k.deadline k.mark
none-access p k = refl

none-acting : (p : Pending) (steps : Steps) (k : Ready) → cleanings (acting_by p steps k) ≡ 0
none-acting (Pending.Arm ticks) steps k = none-showing steps []
none-acting (Pending.FutexWait a value timeout) steps k = none-showing steps _ ∙ none-access (first_of steps) k
none-acting p steps k = none-showing steps _ ∙ none-alone k.settles k.deadline k.mark

none-in : (phase : Phase) (steps : Steps) (k : Ready) → cleanings (todo_in phase steps k) ≡ 0
none-in Phase.SizeLook steps k = none-showing steps _ ∙ none-access (first_of steps) k
none-in Phase.Hold steps k = none-showing steps _ ∙ none-access (first_of steps) k
none-in Phase.ReadClaim steps k = none-showing steps _ ∙ none-access (first_of steps) k
none-in Phase.RegionLoad steps k = none-showing steps _ ∙ none-access (first_of steps) k
none-in Phase.Access steps k = none-showing steps _ ∙ none-access (first_of steps) k
none-in Phase.WriteClaim steps k = none-showing steps _
none-in Phase.Edit steps k = none-showing steps _
none-in Phase.MoveClaim steps k = none-showing steps _
none-in Phase.MoveDone steps k = none-showing steps _
none-in Phase.StartHold steps k = none-showing steps _
none-in Phase.Unshut steps k = none-showing steps _
none-in Phase.Start steps k = none-showing steps _
none-in Phase.StartLetGo steps k = none-rereading k.rereads k.cell
none-in Phase.Add steps k = none-rereading k.rereads k.cell
none-in Phase.Note steps k = none-acting (first_of steps) steps k
none-in Phase.Owe steps k = none-showing steps _
none-in Phase.Act steps k = none-showing steps _ ∙ none-alone k.settles k.deadline k.mark
none-in Phase.ActDone steps k = none-settling k.settles k.deadline k.mark _ ∙ none-rereading k.rereads k.cell
none-in Phase.ActLetGo steps k = none-settling k.settles k.deadline k.mark _ ∙ none-rereading k.rereads k.cell
none-in Phase.Settle steps k = none-rereading k.rereads k.cell
none-in Phase.Leave steps k = none-showing steps _
none-in Phase.Show steps k = none-showing steps _
none-in phase steps k = refl

none-behind : (r : Running) → cleanings (todo_behind r) ≡ 0
none-behind r = none-in r.next (drop 1 r.context.value.pending) (ready_of r)

none-own : (phase : Phase) (r : Running) → cleanings (todo_of phase r) ≡ 0
none-own Phase.Idle r = refl
none-own Phase.Pass r = none-behind r
none-own Phase.Drop r = none-behind r
none-own phase r = none-in phase (steps_behind r.visited r.context.value.pending) (ready_of r)

none-errand : (phase : Phase) (r : Running) → cleanings (behind_errand phase r) ≡ 0
none-errand Phase.Open r = refl
none-errand phase r = none-own phase r

pub none-of : (phase : Phase) (r : Running) → cleanings (errands_of phase r) ≡ 0
none-of Phase.Look r = none-errand r.after r
none-of Phase.TellCut r = none-errand r.after r
none-of Phase.Rouse r = none-errand r.after r
none-of Phase.AddRoused r = none-errand r.after r
none-of Phase.Handle r = refl
none-of Phase.Paid r = refl
none-of phase r = none-own phase r

none-wakes : (woken : List (ThreadIx × Told)) (todo : Todos) → cleanings todo ≡ 0 → cleanings (wakes woken todo) ≡ 0
none-wakes [] todo e = e
none-wakes (w ∷ ws) todo e = none-wakes ws todo e

pub none-before : (ends : List ℕ) (woken : List (ThreadIx × Told)) (todo : Todos) → cleanings todo ≡ 0 → cleanings (end_calls ends (wakes woken todo)) ≡ 0
none-before [] woken todo e = none-wakes woken todo e
none-before (x ∷ xs) woken todo e = none-before xs woken todo e
