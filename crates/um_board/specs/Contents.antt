-- The contents of a board's cells: those with which they open, and those that a step leaves.
use Rattle.std.specs.Prelude.{◌≡◌, ℕ, IsTrue}
use Rattle.um_base.specs.declared.image.Image.{Image}
use Rattle.um_words.specs.declared.fine.FineAct.{FineAct}
use Rattle.um_fine.specs.Cells.{Cell, cell_after, cell_moves, cell_says, cell_takes}
use Rattle.um_fine.specs.Opening.{s_start}
use Rattle.um_fine.specs.Sites.{SiteState, site_numbered}
use Rattle.um_fine.specs.Steps.{Exchange}

-- the contents of a cell of the board of an image
pub record Known : Type 0 where
  pub image : Image
  pub cell : Cell

abbrev pub known : Image → Cell → Known
known image cell = record { image = image; cell = cell }

-- The cell at this site of the image's board opens with these contents.
pub record Opens (image : Image) (i : ℕ) (c : Known) : Type 0 where
  pub of : c.image ≡ image
  pub first : s_start image (site_numbered i) ≡ SiteState.cell 0 c.cell

-- A step with this act and this exchange turns the first contents into the second: the cell takes it and has nothing to fill in.
pub record Follows (c : Known) (act : FineAct) (moved : Exchange) (d : Known) : Type 0 where
  pub of : d.image ≡ c.image
  pub takes : IsTrue (cell_takes c.cell act)
  pub says : cell_says c.image c.cell moved act ≡ act
  pub moves : cell_moves c.image c.cell act moved ≡ moved
  pub leaves : d.cell ≡ cell_after c.image c.cell act moved
