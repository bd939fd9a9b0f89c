-- The step of a site's word: where the word of each kind stands, and from which word to which a step goes.
use Rattle.std.specs.Prelude.{◌≡◌, ℕ, ◌/◌, nat_lt, ◌==◌, if◌then◌else◌, Option, Some}
use Rattle.um_words.specs.declared.fine.FineAct.{FineAct}
use Rattle.um_words.specs.declared.kind.CellKind.{CellKind}
use Rattle.um_words.specs.declared.kind.WordKind.{WordKind}
use Rattle.um_words.specs.declared.row_word.RowWord.{RowWord}
use Rattle.um_words.specs.declared.cell_word.CellWord.{CellWord}
use Rattle.um_words.specs.Packed.{packed_row, row_of, packed_thread, thread_of, packed_domain, domain_of, packed_cell, cell_of}
use Rattle.um_words.specs.Rows.{RowMay}
use Rattle.um_words.specs.Threads.{ThreadMay}
use Rattle.um_words.specs.Domains.{DomainMay}
use Rattle.um_words.specs.Cells.{CellMay}

-- the cells: sites 168 to 295 those of the objects by row, 296 to 303 those of the domains, and then those of memory, of the heap, of the scheduler,
-- of the clock and of the joins
abbrev pub cell_kind_at : ℕ → CellKind
cell_kind_at site =
    if nat_lt site 296 then CellKind.Object
    else if nat_lt site 304 then CellKind.Domain
    else if site == 304 then CellKind.Memory
    else if site == 305 then CellKind.Heap
    else if site == 306 then CellKind.Scheduler
    else if site == 307 then CellKind.Clock
    else if site == 308 then CellKind.Join
    else CellKind.Unused

-- sites 0 to 127 are the rows, 128 to 159 the threads by index, 160 to 167 the domains, and then come the cells
abbrev pub kind_at : ℕ → WordKind
kind_at site =
    if nat_lt site 128 then WordKind.Row
    else if nat_lt site 160 then WordKind.Thread
    else if nat_lt site 168 then WordKind.Domain
    else WordKind.Cell (cell_kind_at site)

-- the step number in a word of a kind
abbrev pub number_in : WordKind → ℕ → ℕ
number_in WordKind.Row w = w / 17592186044416
number_in _ w = w / 68719476736

unfoldable pub number : ℕ → ℕ → ℕ
number site w = number_in (kind_at site) w

pub record RowStep (w : ℕ) (act : FineAct) (next : ℕ) : Type 0 where
  pub left : RowWord
  pub may : RowMay (row_of w) act left
  pub is : next ≡ packed_row left

-- a step at a word that can be read, as not every one can
pub record ReadStep {W : Type 0} (said : Option W) (May : W → W → Type 0) (packed : W → ℕ) (next : ℕ) : Type 0 where
  pub found : W
  pub reads : said ≡ Some found
  pub left : W
  pub may : May found left
  pub is : next ≡ packed left

abbrev pub ThreadStep : ℕ → FineAct → ℕ → Type 0
ThreadStep w act next = ReadStep (thread_of w) (λ found left. ThreadMay found act left) packed_thread next

abbrev pub DomainStep : ℕ → FineAct → ℕ → Type 0
DomainStep w act next = ReadStep (domain_of w) (λ found left. DomainMay found act left) packed_domain next

pub record CellStep (kind : CellKind) (w : ℕ) (act : FineAct) (next : ℕ) : Type 0 where
  pub left : CellWord
  pub may : CellMay kind (cell_of w) act left
  pub is : next ≡ packed_cell left

abbrev pub StepIn : WordKind → ℕ → FineAct → ℕ → Type 0
StepIn WordKind.Row w act next = RowStep w act next
StepIn WordKind.Thread w act next = ThreadStep w act next
StepIn WordKind.Domain w act next = DomainStep w act next
StepIn (WordKind.Cell kind) w act next = CellStep kind w act next

-- the step is lawful at the site with this word, and leaves that one
pub record WordMay (site w : ℕ) (act : FineAct) (next : ℕ) : Type 0 where
  pub step : StepIn (kind_at site) w act next
