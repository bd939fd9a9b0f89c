-- What comes of a turn of a processor without a thread, by the kind of step that it asks for: it takes a thread that is ready, takes a mark that
-- is due, or lets time go on.
use Rattle.std.specs.Prelude.{◌≡◌, ℕ, Bool, true, ◌||◌, not}
use Rattle.um_base.specs.declared.image.Image.{Image}
use Rattle.um_words.specs.declared.fine.FineAct.{FineAct}
use Rattle.um_fine.specs.Answers.{is_due_act, is_tick}
use Rattle.um_fine.specs.Processor.{Processor}
use Rattle.um_fine.specs.Steps.{Site}
use Rattle.um_tables.specs.declared.here.Here.{Here}
use Rattle.um_tables.specs.declared.sites.Sites.{Ghosts as SitesOf}
use Rattle.um_processor.specs.declared.phase.Turn.{Turn}
use Rattle.um_processor.specs.Processors.{TurnedAt, UnlessMade}

-- whether a thread that is ready is taken
abbrev pub is_turn : FineAct → Bool
is_turn act = not (is_due_act act || is_tick act)

-- The turn takes the sites from s to t, and leaves the processor z. It was for a step at this site whose act passes the test.
abbrev pub IdlesAt : {S : Type 0} → SitesOf S → Site → (FineAct → Bool) → Turn → ℕ → Image → S → S → Processor → Processor → Type 0
IdlesAt sites site test turn cpu image s t p z =
    TurnedAt site turn cpu image p z
    (λ e. (test e.act ≡ true) × sites.Took image s e t)
    (λ e. (e.site ≡ site) × (test e.act ≡ true) × sites.Kept s t × sites.Shut image s e t)
    (λ late. sites.Kept s t × sites.Contended image s late t)
    (t ≡ s)

-- The sites are still those of the image; unless a step was made, the processor that was y is as before; and its turn leaves it z.
abbrev pub HasIdled : {S : Type 0} → SitesOf S → Site → (FineAct → Bool) → Turn → Here → S → S → Processor → Processor → Processor → Type 0
HasIdled sites site test turn here s t p y z =
    sites.IsOf here.image.now t × UnlessMade turn (z ≡ y) × IdlesAt sites site test turn here.cpu here.image.now s t p z
