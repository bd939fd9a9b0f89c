-- The turn of a processor without a thread.
use Rattle.std.proofs.Common.{◌≡◌, ℕ, Bool, Some, None, true, false, [], ap, drop, refl, sym, subst}
use Rattle.um_base.specs.declared.image.Image.{Image}
use Rattle.um_fine.specs.Processor.{Processor}
use Rattle.um_fine.specs.Asks.{site_by}
use Rattle.um_fine.specs.Places.{Todos}
use Rattle.um_fine.specs.Scheduler.{Scheduler, first_ready, turn_in}
use Rattle.um_fine.specs.Steps.{Exchange, FineStep, Site}
use Rattle.um_words.specs.declared.fine.FineAct.{FineAct}
use Rattle.um_words.specs.declared.fine.Unseen.{Unseen}
use Rattle.um_tables.specs.SchedulerActs.{taken_made}
use Rattle.um_tables.specs.declared.here.Here.{Here}
use Rattle.um_tables.specs.declared.sites.Sites.{Ghosts as SitesOf}
use Rattle.um_processor.specs.declared.phase.Phase.{Phase}
use Rattle.um_processor.specs.declared.phase.Turn.{Turn}
use Rattle.um_processor.specs.declared.processor.Processor.{Processor as Kept}
use Rattle.um_processor.specs.declared.running.Running.{Running}
use Rattle.um_processor.specs.Phases.{is_idle}
use Rattle.um_processor.specs.Processors.{Goes, OnMade, TurnedAt, in_phase, processor_of, site_next}
use Rattle.um_processor.specs.Standing.{whole}
use Rattle.um_processor.specs.Idles.{HasIdled, IdlesAt, is_turn}
use Rattle.um_processor.specs.Turns.{MayTurn, TurnsAt}
use Rattle.um_processor.proofs.Lifted.{idle-whole}
use Rattle.um_processor.proofs.Standings.{some_busy}

-- it has no step left
pub idle-known : (k : Kept) → (whole k).todo ≡ [] → is_idle k.running.phase ≡ true
idle-known k h = by (is_idle k.running.phase) refl
  where
    by : (b : Bool) → is_idle k.running.phase ≡ b → is_idle k.running.phase ≡ true
    by true e = e
    by false e = absurd (some_busy k.cleans k.ends.items (drop k.told k.outcome.woken) k.running e h)

-- a thread that is taken, as the scheduler fills that in
turn-of : (moved : Exchange) → is_turn (turn_in (FineAct.Unseen (Unseen.Next (record { 0 = 0 }))) moved) ≡ true
turn-of (Exchange.thread c None) = refl
turn-of (Exchange.thread c (Some told)) = refl
turn-of moved = refl

pub takes_turns : (image : Image) (cpu n : ℕ) (s : Scheduler) → is_turn (taken_made image cpu n s).act ≡ true
takes_turns image cpu n s = turn-of (first_ready s s.ready)

-- it takes a thread at the scheduler
pub idle-site : (image : Image) (p : Processor) → p.todo ≡ [] → site_next image p ≡ Site.scheduler
idle-site image p none = ap (λ (todo : Todos). site_by image p todo (FineAct.Unseen Unseen.Done)) none

module _ {S : Type 0} (sites : SitesOf S) where
  -- what it may ask for
  pub tends-may : (cpu : ℕ) (image : Image) (s : S) (k : Kept) → (whole k).todo ≡ [] → MayTurn sites cpu image s (whole k) → MayTurn sites cpu image s (in_phase Phase.Idle k.running)
  tends-may cpu image s k none may = subst (λ (p : Processor). MayTurn sites cpu image s p) (idle-whole k.running _ _ _ (idle-known k none)) may

  module _ (site : Site) (test : FineAct → Bool) where
    idles-as : (turn : Turn) (cpu : ℕ) (image : Image) (p y z : Processor) (took shut : FineStep → Type 0) (late : Site → Type 0) (none : Type 0) → OnMade turn (z ≡ y)
        → TurnedAt site turn cpu image p y took shut late none → TurnedAt site turn cpu image p z took shut late none
    idles-as Turn.Made cpu image p y z took shut late none e h = (h.0, h.1, subst (λ (x : Processor). Goes cpu image p h.0 x) (sym e) h.2)
    idles-as Turn.Busy cpu image p y z took shut late none e h = h
    idles-as Turn.Changed cpu image p y z took shut late none e h = h
    idles-as Turn.Stuck cpu image p y z took shut late none e h = h

    pub idled : (turn : Turn) (here : Here) (s t : S) (k : Kept) (q : Running) (z : Processor) → (whole k).todo ≡ []
        → HasIdled sites site test turn here s t (in_phase Phase.Idle k.running) (processor_of k.running) (processor_of q) → OnMade turn (z ≡ processor_of q)
        → IdlesAt sites site test turn here.cpu here.image.now s t (whole k) z
    idled turn here s t k q z none h new =
        subst (λ (p : Processor). IdlesAt sites site test turn here.cpu here.image.now s t p z) (sym (idle-whole k.running _ _ _ (idle-known k none)))
        (idles-as turn here.cpu here.image.now _ _ z _ _ _ _ new h.2)

    -- the same as a turn like any other
    pub idled-turned : (turn : Turn) (cpu : ℕ) (image : Image) (s t : S) (p z : Processor) → site_next image p ≡ site → IdlesAt sites site test turn cpu image s t p z
        → TurnsAt sites turn cpu image s t p z
    idled-turned Turn.Made cpu image s t p z here h = (h.0, h.1.1, h.2)
    idled-turned Turn.Busy cpu image s t p z here h = (h.0, (h.1.2, h.1.3), h.2)
    idled-turned Turn.Changed cpu image s t p z here h = (h.0, subst (λ (i : Site). sites.Contended image s i t) (sym here) h.1)
    idled-turned Turn.Stuck cpu image s t p z here h = h
