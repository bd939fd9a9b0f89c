-- What a turn needs of the sites, and what comes of it there.
use Rattle.std.specs.Prelude.{◌≡◌, ℕ, Bool, false, List}
use Rattle.um_base.specs.declared.image.Image.{Image}
use Rattle.um_fine.specs.Processor.{Processor}
use Rattle.um_tables.specs.declared.here.Here.{Here}
use Rattle.um_processor.specs.declared.phase.Turn.{Turn}
use Rattle.um_processor.specs.declared.processor.Processor.{Processor as Kept}
use Rattle.um_processor.specs.declared.running.Running.{Running}
use Rattle.um_tables.specs.declared.sites.Sites.{Ghosts as SitesOf}
use Rattle.um_processor.specs.Events.{with_ends}
use Rattle.um_processor.specs.Phases.{is_idle}
use Rattle.um_processor.specs.Processors.{MayNext, OnMade, Turned, UnlessMade, cleaned, processor_of}
use Rattle.um_processor.specs.Standing.{whole}

-- the sites let the processor of this number make whatever step it asks for next
abbrev pub MayTurn : {S : Type 0} → SitesOf S → ℕ → Image → S → Processor → Type 0
MayTurn sites cpu image s p = MayNext cpu image p (sites.May image s)

-- The turn of a processor takes the sites from s to t, and leaves the processor z. A step that was made, the sites took. If it was refused,
-- or others were at its site, none was made. If there was no step to ask for, the sites are as before.
abbrev pub TurnsAt : {S : Type 0} → SitesOf S → Turn → ℕ → Image → S → S → Processor → Processor → Type 0
TurnsAt sites turn cpu image s t p z =
    Turned turn cpu image p z
    (λ e. sites.Took image s e t)
    (λ e. sites.Kept s t × sites.Shut image s e t)
    (λ site. sites.Kept s t × sites.Contended image s site t)
    (t ≡ s)

-- what a step here asks for: the sites are those of the image, and let this processor make its next step
abbrev pub CanTurn : {S : Type 0} → SitesOf S → Here → S → Processor → Type 0
CanTurn sites here s p = sites.IsOf here.image.now s × MayTurn sites here.cpu here.image.now s p

-- What comes of it: the sites are still those of the image; unless a step was made, the processor that was y is as before; and its turn leaves it z.
abbrev pub HasTurned : {S : Type 0} → SitesOf S → Turn → Here → S → S → Processor → Processor → Processor → Type 0
HasTurned sites turn here s t p y z =
    sites.IsOf here.image.now t × UnlessMade turn (z ≡ y) × TurnsAt sites turn here.cpu here.image.now s t p z

-- the same of a processor that its thread's steps keep busy
abbrev pub HasRun : {S : Type 0} → SitesOf S → Turn → Here → S → S → Processor → Running → Running → Type 0
HasRun sites turn here s t p r q = HasTurned sites turn here s t p (processor_of r) (processor_of q)

-- the same, with the claims that it still has to end, given those before
pub record HasEnded {S : Type 0} (sites : SitesOf S) (made : Turn) (here : Here) (s t : S) (p : Processor) (r q : Running) (before left : List ℕ) : Type 0 where
  pub image : sites.IsOf here.image.now t
  pub ends : UnlessMade made (left ≡ before)
  pub same : UnlessMade made (processor_of q ≡ processor_of r)
  pub runs : OnMade made (is_idle q.phase ≡ false)
  pub turn : TurnsAt sites made here.cpu here.image.now s t p (with_ends left (processor_of q))

-- and with the object of a row to clean, if the row came to cleaning
pub record HasCleaned {S : Type 0} (sites : SitesOf S) (made : Turn) (here : Here) (s t : S) (p : Processor) (r q : Running) (x : ℕ) (before left : Bool) : Type 0 where
  pub image : sites.IsOf here.image.now t
  pub cleans : UnlessMade made (left ≡ before)
  pub same : UnlessMade made (processor_of q ≡ processor_of r)
  pub runs : OnMade made (is_idle q.phase ≡ false)
  pub turn : TurnsAt sites made here.cpu here.image.now s t p (cleaned here.image.now x left (processor_of q))

-- and of one with all that it has to do before its thread's next step
abbrev pub HasStepped : {S : Type 0} → SitesOf S → Turn → Here → S → S → Processor → Kept → Kept → Type 0
HasStepped sites turn here s t p k l = HasTurned sites turn here s t p (whole k) (whole l)
