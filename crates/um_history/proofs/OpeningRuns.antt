-- What the sites of an image have at the opening fits their words; so from there the steps of each site are a run.
use Rattle.std.proofs.Common.{◌≡◌, ℕ, ◌<◌, List, [], ◌∷◌, length, map, Some, refl, sym, ap, ◌∙◌, subst, arith}
use Rattle.std.specs.Prelude.{IsTrue, slice_index_or}
use Rattle.std.proofs.lemmas.Bool.{ltb-true}
use Rattle.um_base.specs.declared.image.Image.{Image}
use Rattle.um_machine.specs.Objects.{thread_holds}
use Rattle.um_machine.specs.Run.{opening}
use Rattle.um_machine.specs.State.{thread_at}
use Rattle.um_words.specs.History.{Entry, Words}
use Rattle.um_words.specs.History as History
use Rattle.um_words.specs.Steps.{WordMay}
use Rattle.um_words.specs.declared.made.Made.{Made}
use Rattle.um_fine.specs.Cells.{Cell, cell_word}
use Rattle.um_fine.specs.Opening.{boot_index, count, indexed, s_start, scheduler_cell}
use Rattle.um_fine.specs.Runs.{ends}
use Rattle.um_fine.specs.Sites.{SiteState, is_site, is_sort, s_next, site_number, word_of}
use Rattle.um_fine.specs.Steps.{Site}
use Rattle.um_fine.proofs.Keys.{number-back}
use Rattle.um_site.specs.Cells.{ContentsAre, Follow}
use Rattle.um_board.specs.Contents.{Follows, Known, Opens}
use Rattle.um_board.specs.Noted.{packed}
use Rattle.um_history.specs.Played.{Each}
use Rattle.um_history.proofs.CellRuns.{CellFits, CellKnown, Contents, cell-goes, is_cell}
use Rattle.um_history.proofs.Entries.{fine_of}
use Rattle.um_history.proofs.SiteRuns.{Goes, Ran, site-known, site-runs}
use Rattle.um_history.proofs.WordRuns.{DomainKnown, RowKnown, ThreadKnown, domain-goes, row-goes, thread-goes}

-- what stands at the opening fits the words
pub record OpensWell (image : Image) : Type 0 where
  pub flags : (x : ℕ) → x < 128 → length (slice_index_or (opening image).pairs x []) ≡ 32
  pub claims : (x : ℕ) → count (indexed (thread_holds (opening image).image x) 0 (opening image).threads) < 128
  pub domains : (t : ℕ) → (thread_at (opening image) t).domain < 8
  pub ready : length (map (boot_index (opening image)) (opening image).image.boots) < 256

-- what is known of a site's state before these steps, after which a cell has the last contents
abbrev pub SiteKnown : Image → Known → Site → SiteState → List Made → Type 0
SiteKnown image last (Site.row x) s ms = RowKnown s ms
SiteKnown image last (Site.thread t) s ms = ThreadKnown s ms
SiteKnown image last (Site.domain d) s ms = DomainKnown s ms
SiteKnown image last i s ms = CellKnown image last i s ms

-- after these steps a cell has the last contents
abbrev pub Lasts : Image → Known → Site → List Made → Type 0
Lasts image last i ms = IsTrue (is_cell i) → ContentsAre Opens Follows image (site_number i) ms (Some last)

site-goes : (image : Image) (last : Known) (i : Site) → IsTrue (is_site i) → (s : SiteState) (e : Entry) (ms : List Made) → e.1.site ≡ site_number i → SiteKnown image last i s (e.1 ∷ ms)
    → WordMay (site_number i) (packed (word_of s)) e.1.act e.1.word → Goes image (SiteKnown image last i) s e ms
site-goes image last (Site.row x) there = row-goes image x there
site-goes image last (Site.thread t) there = thread-goes image t there
site-goes image last (Site.domain d) there = domain-goes image d there
site-goes image last (Site.object x) there = cell-goes image last (Site.object x) there refl
site-goes image last (Site.parts d) there = cell-goes image last (Site.parts d) there refl
site-goes image last Site.memory there = cell-goes image last Site.memory there refl
site-goes image last Site.heap there = cell-goes image last Site.heap there refl
site-goes image last Site.scheduler there = cell-goes image last Site.scheduler there refl
site-goes image last Site.clock there = cell-goes image last Site.clock there refl
site-goes image last Site.joins there = cell-goes image last Site.joins there refl

module _ (image : Image) (well : OpensWell image) where
  start-contents : (i : Site) (c : Cell) → IsTrue (is_site i) → s_start image i ≡ SiteState.cell 0 c → (ms : List Made) (last : Known) → ContentsAre Opens Follows image (site_number i) ms (Some last) → Contents image last c ms
  start-contents i c there starts ms last (x, first, is, opens, follow) =
      let same : SiteState.cell 0 first.cell ≡ SiteState.cell 0 c = sym opens.first ∙ ap (s_start image) (number-back i there) ∙ starts in
      let cell : first.cell ≡ c = cc in
      let this : x ≡ last = cc in
      record { old = first; of = opens.of; is = cell; follow = subst (λ (y : Known). Follow Opens Follows first ms y) this follow }

  quiet : (i : Site) (c : Cell) → IsTrue (is_sort i (SiteState.cell 0 c)) → (cell_word c 0).ready ≡ 0 → (cell_word c 0).running ≡ 0 → (cell_word c 0).owed ≡ 0 → CellFits i 0 c
  quiet i c sort ready running owed = record { sort = sort; number = omega arith; counts = (omega (arith, ready), omega (arith, running), omega (arith, owed)) }

  scheduler-fits : CellFits Site.scheduler 0 (scheduler_cell (opening image))
  scheduler-fits = record { sort = refl; number = omega arith; counts = (well.ready, omega arith, omega arith) }

  start-known : (i : Site) → IsTrue (is_site i) → (ms : List Made) (last : Known) → Lasts image last i ms → SiteKnown image last i (s_start image i) ms
  start-known (Site.row x) there ms last lasts = record { long = well.flags x (ltb-true x 128 there); fits = record { claims = well.claims x; number = omega arith } }
  start-known (Site.thread t) there ms last lasts = record { domain = well.domains t; note = tt; number = omega arith }
  start-known (Site.domain d) there ms last lasts = record { readers = omega arith; version = omega arith; number = omega arith }
  start-known (Site.object x) there ms last lasts = (quiet (Site.object x) _ refl refl refl refl, start-contents (Site.object x) _ there refl ms last (lasts refl))
  start-known (Site.parts d) there ms last lasts = (quiet (Site.parts d) _ refl refl refl refl, start-contents (Site.parts d) _ there refl ms last (lasts refl))
  start-known Site.memory there ms last lasts = (quiet Site.memory _ refl refl refl refl, start-contents Site.memory _ there refl ms last (lasts refl))
  start-known Site.heap there ms last lasts = (quiet Site.heap _ refl refl refl refl, start-contents Site.heap _ there refl ms last (lasts refl))
  start-known Site.scheduler there ms last lasts = (scheduler-fits, start-contents Site.scheduler (scheduler_cell (opening image)) there refl ms last (lasts refl))
  start-known Site.clock there ms last lasts = (quiet Site.clock _ refl refl refl refl, start-contents Site.clock _ there refl ms last (lasts refl))
  start-known Site.joins there ms last lasts = (quiet Site.joins _ refl refl refl refl, start-contents Site.joins _ there refl ms last (lasts refl))

  module _ (i : Site) (there : IsTrue (is_site i)) (l : List Entry) (z : ℕ) (last : Known) (here : Each (λ (e : Entry). e.1.site ≡ site_number i) l)
      (words : Words (site_number i) (packed (word_of (s_start image i))) (map History.made_of l) z) (lasts : Lasts image last i (map History.made_of l)) where
    pub opening-runs : Ran image (s_start image i) (map fine_of l) z
    opening-runs =
        site-runs image (site_number i) (SiteKnown image last i) (site-goes image last i there) (s_start image i) l z (start-known i there (map History.made_of l) last lasts) here words

    -- what is known of the state that they leave
    pub opening-left : SiteKnown image last i (ends (s_next image) (s_start image i) (map fine_of l)) []
    opening-left =
        site-known image (site_number i) (SiteKnown image last i) (site-goes image last i there) (s_start image i) l z (start-known i there (map History.made_of l) last lasts) here words
