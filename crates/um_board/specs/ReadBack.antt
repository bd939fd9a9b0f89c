-- Words and steps, as they are read back from a board.
use Rattle.std.specs.Prelude.{◌≡◌, ℕ}
use Rattle.um_words.specs.Packed.{cell_of, domain_in, row_of, thread_in}
use Rattle.um_words.specs.declared.made.Made.{Made}
use Rattle.um_fine.specs.Sites.{site_number, site_numbered}
use Rattle.um_fine.specs.Steps.{FineStep, Site, Word}
use Rattle.um_board.specs.Noted.{packed}

-- what the bits of a site's word say
abbrev pub unpacked : Site → ℕ → Word
unpacked (Site.row x) w = Word.row (row_of w)
unpacked (Site.thread t) w = Word.thread (thread_in w)
unpacked (Site.domain d) w = Word.domain (domain_in w)
unpacked _ w = Word.cell (cell_of w)

-- the step of this processor that stands so in its seat's list
abbrev pub fine_at : ℕ → Made → FineStep
fine_at k m =
    let site = site_numbered m.site in
    record { cpu = k; site = site; act = m.act; word = unpacked site m.word; moved = m.moved }

-- The site of the step and the word that it leaves are those that its number and its bits say.
pub record IsReadBack (e : FineStep) : Type 0 where
  pub site : site_numbered (site_number e.site) ≡ e.site
  pub word : unpacked e.site (packed e.word) ≡ e.word
