-- What comes of asking a core for a step: a processor makes one, or it halts.
use Rattle.std.specs.Prelude.{◌≡◌, ◌≢◌, ℕ, ◌<◌, ◌≤◌, Bool, true, false, List, [], ◌∷◌, ◌++◌, length, slice_index_or, slice_set}
use Rattle.um_base.specs.declared.image.Image.{Image}
use Rattle.um_base.specs.Weight.{weight}
use Rattle.um_invariants.specs.Described.{IsDescribed}
use Rattle.um_words.specs.declared.fine.FineAct.{FineAct}
use Rattle.um_fine.specs.Answers.{is_due_act, is_tick}
use Rattle.um_fine.specs.Follows.{p_next}
use Rattle.um_fine.specs.Processor.{Processor, idle}
use Rattle.um_fine.specs.Scheduler.{Scheduler}
use Rattle.um_fine.specs.Steps.{FineStep, Site}
use Rattle.um_refinement.specs.Fine.{scheduler_state}
use Rattle.um_refinement.specs.Room.{CanRun}
use Rattle.um_processor.specs.declared.phase.Turn.{Turn}
use Rattle.um_processor.specs.Idles.{is_turn}
use Rattle.um_processor.specs.Processors.{IsStuck}
use Rattle.um_processor.specs.Wants.{Wants}
use Rattle.um_tables.specs.Sited.{IsFull, IsShut, WasMade, state_at}
use Rattle.um_core.specs.Cores.{Core, Stands}
use Rattle.um_core.specs.PickedRun.{IsNext, behind}

-- whether a processor made a step in its turn
abbrev pub is_made : Turn → Bool
is_made Turn.Made = true
is_made turn = false

-- the contents of the scheduler's cell
abbrev pub scheduler_there : Core → Scheduler
scheduler_there core = scheduler_state (state_at core.sites Site.scheduler)

-- a processor by its number
abbrev pub processor_at : Core → ℕ → Processor
processor_at core k = slice_index_or core.processors k idle

-- A step that this processor asks for is refused by its site.
pub record IsRefused (image : Image) (core : Core) (k : ℕ) (e : FineStep) : Type 0 where
  pub asks : Wants k image (processor_at core k) e
  pub shut : IsShut image (state_at core.sites e.site) e

-- A processor has no step that it could ask for, or there is no room for an event.
pub data HasNone (image : Image) (core : Core) (k : ℕ) : Type 0 where
  stuck : IsStuck image (processor_at core k) → HasNone image core k
  full : IsFull core.sites → HasNone image core k

-- Of a processor without a thread, the act of a step passes a test.
abbrev pub Passes : (FineAct → Bool) → Core → ℕ → FineStep → Type 0
Passes test core k e = (processor_at core k).todo ≡ [] → test e.act ≡ true

-- A processor makes a step, and its site takes it.
pub record Makes (image : Image) (k : ℕ) (made : FineStep) (old new : Core) : Type 0 where
  pub asks : Wants k image (processor_at old k) made
  pub taken : WasMade image old.sites made new.sites
  pub leaves : new.processors ≡ slice_set old.processors k (p_next image (processor_at old k) made)

-- What comes of a turn of a processor; of one without a thread, for a step that passes a test.
abbrev pub HasTurned : (FineAct → Bool) → Turn → Image → ℕ → Core → Core → Type 0
HasTurned test Turn.Made image k old new = (e : FineStep) × Passes test old k e × Makes image k e old new
HasTurned test Turn.Busy image k old new = (e : FineStep) × (new ≡ old) × Passes test old k e × IsRefused image old k e
HasTurned test turn image k old new = (new ≡ old) × HasNone image old k

abbrev pub IsTurnRefused : Image → Core → ℕ → FineStep → Type 0
IsTurnRefused image core k e = Passes is_turn core k e × IsRefused image core k e

-- Why a processor without a thread doesn't let time go on: a thread runs, or no deadline is to come.
pub data StandsStill (image : Image) (core : Core) (k : ℕ) : Type 0 where
  runs : 0 < (scheduler_there core).running → StandsStill image core k
  waits : (e : FineStep) → is_tick e.act ≡ true → IsRefused image core k e → StandsStill image core k
  none : HasNone image core k → StandsStill image core k

-- What comes of it, by whether time went on.
abbrev pub HasPassed : Bool → Image → ℕ → Core → Core → Type 0
HasPassed true image k old new = (e : FineStep) × ((scheduler_there old).running ≡ 0) × Makes image k e old new
HasPassed false image k old new = (new ≡ old) × StandsStill image old k

-- Why one, where no thread is ready, doesn't tend to time: no mark is due, and time stands still.
pub data LetsStand (image : Image) (core : Core) (k : ℕ) : Type 0 where
  waits : (e : FineStep) → is_due_act e.act ≡ true → IsRefused image core k e → StandsStill image core k → LetsStand image core k
  none : HasNone image core k → LetsStand image core k

-- How a step that tends to time was chosen: it gives a mark; or none is due, and no thread runs.
pub data Tends (image : Image) (core : Core) (k : ℕ) (made : FineStep) : Type 0 where
  gives : is_due_act made.act ≡ true → Tends image core k made
  passes : (e : FineStep) → is_due_act e.act ≡ true → IsRefused image core k e → (scheduler_there core).running ≡ 0 → Tends image core k made

abbrev pub HasTended : Bool → Image → ℕ → Core → Core → Type 0
HasTended true image k old new = (e : FineStep) × Tends image old k e × Makes image k e old new
HasTended false image k old new = (new ≡ old) × LetsStand image old k

-- A processor makes no step now: its site refuses the one that it asks for; or it has no thread, none is ready, and it lets time stand; or it
-- has no step that it could ask for.
pub data Halts (image : Image) (core : Core) (k : ℕ) : Type 0 where
  refused : (e : FineStep) → (processor_at core k).todo ≢ [] → IsRefused image core k e → Halts image core k
  idles : (e : FineStep) → (processor_at core k).todo ≡ [] → IsTurnRefused image core k e → LetsStand image core k → Halts image core k
  none : HasNone image core k → Halts image core k

-- How the step of a processor was chosen: it has a thread, or takes one that is ready; or none is ready, and it tends to time.
pub data WasChosen (image : Image) (core : Core) (k : ℕ) (made : FineStep) : Type 0 where
  turns : Passes is_turn core k made → WasChosen image core k made
  tends : (e : FineStep) → (processor_at core k).todo ≡ [] → IsTurnRefused image core k e → Tends image core k made → WasChosen image core k made

-- A processor makes its next step, which is chosen, and its site takes it.
pub record Steps (image : Image) (k : ℕ) (old new : Core) : Type 0 where
  pub made : FineStep
  pub makes : Makes image k made old new
  pub chosen : WasChosen image old k made

-- By whether it makes one: it does, or it halts and the core is as before.
abbrev pub HasMoved : Bool → Image → ℕ → Core → Core → Type 0
HasMoved true image k old new = Steps image k old new
HasMoved false image k old new = (new ≡ old) × Halts image old k

-- The first processor that doesn't halt steps, from this one on.
pub record FirstSteps (image : Image) (first : ℕ) (old new : Core) : Type 0 where
  pub turn : ℕ
  pub within : turn < length old.processors
  pub steps : Steps image (behind (length old.processors) first turn) old new
  pub others : (n : ℕ) → n < turn → Halts image old (behind (length old.processors) first n)

-- all processors halt
abbrev pub AllHalt : Image → ℕ → Core → Type 0
AllHalt image first core = (n : ℕ) → n < length core.processors → Halts image core (behind (length core.processors) first n)

-- A core of a described image is as a fine run of this many processors has left it, with room in its log for the longest run.
pub record IsCoreOf (image : Image) (cpus : ℕ) (done : List FineStep) (core : Core) : Type 0 where
  pub described : IsDescribed image
  pub can : CanRun image cpus
  pub stands : Stands image cpus done core
  pub room : weight image ≤ core.sites.most

-- The run goes on by a step of this processor, and the core is as that step leaves it.
pub record GoesOn (image : Image) (cpus : ℕ) (done : List FineStep) (k : ℕ) (new : Core) : Type 0 where
  pub made : FineStep
  pub maker : made.cpu ≡ k
  pub next : IsNext image cpus done made
  pub stands : Stands image cpus (done ++ made ∷ []) new
