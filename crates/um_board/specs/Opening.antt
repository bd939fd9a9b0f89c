-- The board of an image as it opens: its words, what its cells keep, and the seat that steps first.
use Rattle.std.specs.Prelude.{◌≡◌, ℕ, ◌+◌, ◌<◌, ◌≤◌, ◌%◌, true, List, [], length, slice_index, slice_index_or}
use mathlib.Core.Option.{some}
use lib.ListN.{get_elem?}
use Rattle.um_base.specs.declared.image.Image.{Image}
use Rattle.um_base.specs.declared.limits.TheConstants.{DOMAINS, ROWS}
use Rattle.um_machine.specs.Run.{opening}
use Rattle.um_words.specs.Steps.{number}
use Rattle.um_site.specs.declared.seat.Seat.{Seat}
use Rattle.um_fine.specs.Cells.{Cell}
use Rattle.um_fine.specs.Opening.{s_start}
use Rattle.um_fine.specs.Sites.{SiteState, site_numbered, word_of}
use Rattle.um_fine.specs.Steps.{Site}
use Rattle.um_tables.specs.ObjectCells.{cleared}
use Rattle.um_tables.specs.Sited.{object_state}
use Rattle.um_tables.specs.declared.domain_cell.DomainCell.{DomainCell}
use Rattle.um_tables.specs.declared.object_cell.ObjectCell.{ObjectCell}
use Rattle.um_opening.specs.Opened.{AreParts}
use Rattle.um_board.specs.Contents.{Known, Opens}
use Rattle.um_board.specs.Noted.{packed}

-- what stands at a site at the opening
abbrev pub opening_word : Image → ℕ → ℕ
opening_word image i = packed (word_of (s_start image (site_numbered i)))

-- the word of a site at the opening: what stands there, which has taken no step, and no turn of a cell is taken
pub record IsFirstWord (image : Image) (i w : ℕ) : Type 0 where
  pub value : w ≡ opening_word image i
  pub unstepped : number i w ≡ 0
  pub free : 168 ≤ i → w % 2 ≡ 0

-- There is a word for each site, and in it is what stands there at the opening.
pub record AreOpening (image : Image) (words : List ℕ) : Type 0 where
  pub count : length words ≡ 309
  pub each : (i : ℕ) → i < 309 → slice_index words i ≡ packed (word_of (s_start image (site_numbered i)))

-- the cell at this site opens so, and so do the cells of the objects and of the domains
abbrev pub OpensWith : Image → Site → Cell → Type 0
OpensWith image site cell = s_start image site ≡ SiteState.cell 0 cell

abbrev pub AreObjects : Image → List ObjectCell → Type 0
AreObjects image objects = (x : ℕ) → x < ROWS → object_state (slice_index_or objects x (cleared 0)) ≡ s_start image (Site.object x)

abbrev pub AreDomainCells : Image → List DomainCell → Type 0
AreDomainCells image cells = AreParts (opening image) DOMAINS cells

-- the contents with which the first cells open
abbrev pub AreFirst : Image → List Known → Type 0
AreFirst image cs = (k : ℕ) (c : Known) → get_elem? cs k ≡ some c → Opens image (168 + k) c

-- the first seat of a board, that has made no step, has split none off and has taken none in
pub record IsFirst (seat : Seat Known) : Type 0 where
  pub first : seat.first ≡ true
  pub split : seat.split ≡ 0
  pub joined : seat.joined ≡ 0
  pub name : seat.token.me.0.name ≡ []
  pub splits : seat.token.me.0.splits ≡ 0
  pub made : seat.token.me.0.made ≡ []
  pub lists : seat.token.me.0.joined ≡ []
  pub children : seat.token.me.0.children ≡ []
