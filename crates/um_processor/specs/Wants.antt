-- The step that a processor asks for, with what the word of a thread at rest shows of a kill.
use Rattle.std.specs.Prelude.{◌≡◌, ℕ, Bool, ◌&&◌, ◌||◌, not, IsTrue, ◌∷◌}
use Rattle.um_base.specs.declared.image.Image.{Image}
use Rattle.um_machine.specs.declared.pending.Pending.{Pending}
use Rattle.um_fine.specs.Answers.{is_killed, thread_in}
use Rattle.um_fine.specs.Asks.{fits_step, made_by}
use Rattle.um_fine.specs.Places.{Todo, Todos}
use Rattle.um_fine.specs.Processor.{Processor}
use Rattle.um_fine.specs.Steps.{FineStep}

-- whether a kill was the one to make: the word that is left shows that the thread was aborted
abbrev pub kills_rightly : FineStep → Bool
kills_rightly e = not (is_killed e.act) || (thread_in e.word).aborted

-- It fits. Of a thread at rest, a kill is asked for only where its word shows that it was aborted, also if the word then refuses it.
abbrev pub wants_step : Image → Processor → Todos → FineStep → Bool
wants_step image p (Todo.show Pending.Begin rest ∷ todo) e = fits_step image p (Todo.show Pending.Begin rest ∷ todo) e && kills_rightly e
wants_step image p (Todo.show Pending.Exit rest ∷ todo) e = fits_step image p (Todo.show Pending.Exit rest ∷ todo) e && kills_rightly e
wants_step image p todo e = fits_step image p todo e

-- a step that the processor of this number asks for, as its site fills it in
pub record Wants (cpu : ℕ) (image : Image) (p : Processor) (e : FineStep) : Type 0 where
  pub maker : e.cpu ≡ cpu
  pub makes : made_by image p e ≡ e
  pub fit : IsTrue (wants_step image p p.todo e)
