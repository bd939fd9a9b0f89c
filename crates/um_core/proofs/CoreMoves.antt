-- What comes of a processor's turns one after another: it takes its turn, is given a mark, or lets time go on.
use Rattle.std.proofs.Common.{◌≡◌, ℕ, Bool, true, false, [], subst}
use Rattle.std.proofs.lemmas.Bool.{false≢true, true≢false}
use Rattle.um_base.specs.declared.image.Image.{Image}
use Rattle.um_fine.specs.Answers.{is_due_act, is_tick}
use Rattle.um_fine.specs.Steps.{FineStep}
use Rattle.um_processor.specs.declared.phase.Turn.{Turn}
use Rattle.um_core.specs.CoreSteps.{Halts, HasMoved, HasPassed, HasTended, HasTurned, IsTurnRefused, Steps, is_made, processor_at, scheduler_there}
use Rattle.um_core.specs.CoreSteps as C
use Rattle.um_core.specs.Cores.{Core}

module _ (image : Image) (k : ℕ) (old new : Core) where
  pub has-passed : (processor_at old k).todo ≡ [] → (scheduler_there old).running ≡ 0 → (turn : Turn) → HasTurned is_tick turn image k old new → HasPassed (is_made turn) image k old new
  has-passed idle still Turn.Made (e, passes, makes) = (e, still, makes)
  has-passed idle still Turn.Busy (e, same, passes, refused) = (same, C.StandsStill.waits e (passes idle) refused)
  has-passed idle still Turn.Changed told = (told.0, C.StandsStill.none told.1)
  has-passed idle still Turn.Stuck told = (told.0, C.StandsStill.none told.1)

  pub has-moved : (e : FineStep) → (processor_at old k).todo ≡ [] → IsTurnRefused image old k e → (b : Bool) → HasTended b image k old new → HasMoved b image k old new
  has-moved e idle turn true (x, tends, makes) = record { made = x; makes = makes; chosen = C.WasChosen.tends e idle turn tends }
  has-moved e idle turn false (same, lets) = (same, C.Halts.idles e idle turn lets)

  pub moved-steps : (b : Bool) → HasMoved b image k old new → b ≡ true → Steps image k old new
  moved-steps true h made = h
  moved-steps false h made = absurd (false≢true made)

  pub moved-none : (b : Bool) → HasMoved b image k old new → b ≡ false → (new ≡ old) × Halts image old k
  moved-none true h none = absurd (true≢false none)
  moved-none false h none = h

pub has-tended : (image : Image) (k : ℕ) (old mid new : Core) → (processor_at old k).todo ≡ [] → HasTurned is_due_act Turn.Busy image k old mid → (b : Bool) → HasPassed b image k mid new
    → HasTended b image k old new
has-tended image k old mid new idle (e, same, due, refused) b passed = by b (subst (λ (core : Core). HasPassed b image k core new) same passed)
  where
    by : (b : Bool) → HasPassed b image k old new → HasTended b image k old new
    by true (x, still, makes) = (x, C.Tends.passes e (due idle) refused still, makes)
    by false (kept, stands) = (kept, C.LetsStand.waits e (due idle) refused stands)
