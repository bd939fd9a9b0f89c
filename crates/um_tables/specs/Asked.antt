-- Steps as a processor asks for them, before the site has filled them in, and what comes of them at the site.
use Rattle.std.specs.Prelude.{◌≡◌, ℕ, false, IsTrue}
use Rattle.um_base.specs.declared.image.Image.{Image}
use Rattle.um_words.specs.declared.fine.FineAct.{FineAct}
pub use Rattle.um_words.specs.ShownActs.{by_thread, event_of, shown}
use Rattle.um_fine.specs.Answers.{no_row}
use Rattle.um_fine.specs.Asks.{fits_step, made_by}
use Rattle.um_fine.specs.Processor.{Processor}
use Rattle.um_fine.specs.Steps.{Exchange, FineStep, Site, Word}
use Rattle.um_fine.specs.Cells.{Cell}
use Rattle.um_fine.specs.Sites.{SiteMay, SiteState, filled, s_next, site_takes}

-- a step without the word that its site leaves
abbrev pub asked : ℕ → Site → FineAct → Exchange → FineStep
asked cpu site act moved = record { cpu = cpu; site = site; act = act; word = Word.row no_row; moved = moved }

-- the step as it is made at a cell with these contents, after this many steps
abbrev pub cell_made : Image → ℕ → Site → ℕ → Cell → FineAct → Exchange → FineStep
cell_made image cpu site n c act moved = filled image (SiteState.cell n c) (asked cpu site act moved)

-- the step is lawful at its site in the first state, and leaves the second
pub record Takes (image : Image) (s : SiteState) (e : FineStep) (z : SiteState) : Type 0 where
  pub may : SiteMay image s e
  pub leaves : z ≡ s_next image s e

-- the site takes no such step
abbrev pub Refuses : SiteState → FineStep → Type 0
Refuses s e = site_takes s e.act ≡ false

-- a step that the processor of this number asks for, as its site fills it in
pub record AsksFor (cpu : ℕ) (image : Image) (p : Processor) (e : FineStep) : Type 0 where
  pub maker : e.cpu ≡ cpu
  pub makes : made_by image p e ≡ e
  pub fit : IsTrue (fits_step image p p.todo e)
