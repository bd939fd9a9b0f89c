-- What stands at each site of a closed board is what the steps of its history have left there.
use Rattle.std.proofs.Common.{◌≡◌, ℕ, ◌+◌, ◌-◌, ◌<◌, ◌≤◌, List, [], Some, refl, sym, ap, ◌∙◌, subst, arith}
use Rattle.std.specs.Prelude.{IsTrue, Option, slice_index}
use Rattle.std.proofs.lemmas.Bool.{ltb-true}
use mathlib.Core.Option.{some}
use lib.ListN.{get_elem?}
use Rattle.um_base.specs.declared.image.Image.{Image}
use Rattle.um_words.specs.declared.cell_word.CellWord.{CellWord}
use Rattle.um_words.specs.History.{Entry, bare, by_site}
use Rattle.um_words.specs.Inverse.{thread-back}
use Rattle.um_words.specs.Packed.{cell_of, domain_in, row_of, thread_of}
use Rattle.um_fine.specs.Cells.{Cell, cell_word}
use Rattle.um_fine.specs.FineRun.{SameOrder}
use Rattle.um_fine.specs.Opening.{s_start}
use Rattle.um_fine.specs.Runs.{ends}
use Rattle.um_fine.specs.Sites.{SiteState, is_site, s_next, site_number, word_of}
use Rattle.um_fine.specs.Steps.{FineStep, Site}
use Rattle.um_fine.proofs.Keys.{number-bound}
use Rattle.um_site.proofs.Bare.{bare-low}
use Rattle.um_site.specs.Cells.{ContentsAre}
use Rattle.um_merge.specs.Logs.{Log}
use Rattle.um_site.specs.declared.view.View.{View}
use Rattle.um_board.specs.Contents.{Follows, Known, Opens}
use Rattle.um_board.specs.Noted.{packed}
use Rattle.um_history.specs.Fine.{left_at}
use Rattle.um_history.specs.Left.{AreLeft, in_slot, steps_there, thread_read}
use Rattle.um_history.specs.Played.{IsPlayed}
use Rattle.um_history.proofs.CellRuns.{CellKnown, cell-reads, is_cell, word-number}
use Rattle.um_history.proofs.Moments.{all, site-left, site-ran}
use Rattle.um_history.proofs.OpeningRuns.{OpensWell, SiteKnown}
use Rattle.um_history.proofs.Played.{history, of-played}
use Rattle.um_history.proofs.WordRuns.{DomainKnown, RowKnown, ThreadKnown, domain-reads, row-reads}

-- what the bits of a word say is what stands there

row-there : (w : ℕ) (s : SiteState) → RowKnown s [] → packed (word_of s) ≡ w → SiteState.row (row_of w) ≡ s
row-there w (SiteState.row r) known word = ap SiteState.row (ap row_of (sym word) ∙ row-reads r known)
row-there w s known word = absurd known

thread-there : (w : ℕ) (s : SiteState) → ThreadKnown s [] → packed (word_of s) ≡ w → SiteState.thread (thread_read (thread_of w)) ≡ s
thread-there w (SiteState.thread t) known word = ap (λ r. SiteState.thread (thread_read r)) (ap thread_of (sym word) ∙ thread-back t known)
thread-there w s known word = absurd known

domain-there : (w : ℕ) (s : SiteState) → DomainKnown s [] → packed (word_of s) ≡ w → SiteState.domain (domain_in w) ≡ s
domain-there w (SiteState.domain d) known word = ap SiteState.domain (ap domain_in (sym word) ∙ domain-reads d known)
domain-there w s known word = absurd known

cell-there : (image : Image) (last : Known) (i : Site) (w : ℕ) (s : SiteState) → CellKnown image last i s [] → packed (word_of s) ≡ w → SiteState.cell (cell_of w).number last.cell ≡ s
cell-there image last i w (SiteState.cell n c) known word =
    let read : cell_of w ≡ cell_word c n = ap cell_of (sym word) ∙ cell-reads i n c known.0 in
    let number : (cell_of w).number ≡ n = ap (λ (x : CellWord). x.number) read ∙ word-number c n in
    let cell : last.cell ≡ c = sym (ap (λ (k : Known). k.cell) known.1.follow) ∙ known.1.is in
    λ j. SiteState.cell (number j) (cell j)
cell-there image last i w s known word = absurd known

module _ (image : Image) (cpus : ℕ) (v : View) (words : List ℕ) (slots : List (Option Known)) (logs : List Log) (steps : ℕ → List FineStep) (well : OpensWell image)
    (played : IsPlayed image cpus v words slots logs steps) where
  abbrev entries : List Entry
  entries = history image cpus v words slots logs steps played

  abbrev g : List FineStep
  g = all image cpus words entries (of-played image cpus v words slots logs steps played)

  -- what stands at a site after all steps
  abbrev there : Site → SiteState
  there i = left_at image g i

  word-there : (i : Site) → IsTrue (is_site i) → packed (word_of (there i)) ≡ bare (site_number i) (slice_index words (site_number i))
  word-there i is = (site-ran image cpus words entries (of-played image cpus v words slots logs steps played) well i is).word

  low-there : (i : Site) → IsTrue (is_site i) → site_number i < 168 → packed (word_of (there i)) ≡ slice_index words (site_number i)
  low-there i is low = word-there i is ∙ bare-low (site_number i) (slice_index words (site_number i)) low

  known-there : (i : Site) → IsTrue (is_site i) → (last : Known) → (IsTrue (is_cell i) → ContentsAre Opens Follows image (site_number i) (by_site (site_number i) entries) (Some last))
      → SiteKnown image last i (there i) []
  known-there i is last lasts = site-left image cpus words entries (of-played image cpus v words slots logs steps played) well i is last lasts

  -- a site that is no cell
  nothing : Known
  nothing = record { image = image; cell = Cell.parts Option.None }

  -- the contents that a cell has in its slot follow from its steps
  abbrev InSlot : ℕ → Type 0
  InSlot n = (last : Known) × (get_elem? slots (n - 168) ≡ some (Some last)) × ContentsAre Opens Follows image n (by_site n entries) (Some last)

  in-slot : (n : ℕ) → 168 ≤ n → n < 309 → InSlot n
  in-slot n far near =
      let (y, at, are) = played.closed.contents n (played.filled n far near) in
      let (x, first, is, opens, follow) = subst (λ (i : Image). ContentsAre Opens Follows i n (by_site n entries) y) played.image_is are in
      (x, subst (λ (z : Option Known). get_elem? slots (n - 168) ≡ some z) is at, (x, first, refl, opens, follow))

  cell-left : (i : Site) (k : ℕ) → IsTrue (is_site i) → 168 + k ≡ site_number i → ((last : Known) → SiteKnown image last i (there i) [] → CellKnown image last i (there i) [])
      → SiteState.cell (steps_there words (site_number i)) (in_slot (get_elem? slots k)) ≡ there i
  cell-left i k is at known =
      let n = site_number i in
      let (last, home, are) = in-slot n (omega (arith, at)) (number-bound i is) in
      let slot : n - 168 ≡ k = omega (arith, at) in
      let here : get_elem? slots k ≡ some (Some last) = subst (λ (m : ℕ). get_elem? slots m ≡ some (Some last)) slot home in
      ap (λ o. SiteState.cell (steps_there words n) (in_slot o)) here
      ∙ cell-there image last i (bare n (slice_index words n)) (there i) (known last (known-there i is last (λ cell. are))) (word-there i is)

  pub are-left : AreLeft image words slots g
  are-left (Site.row x) is =
      let low = ltb-true x 128 is in
      row-there (slice_index words x) (there (Site.row x)) (known-there (Site.row x) is nothing (λ cell. absurd (cc))) (low-there (Site.row x) is (omega (arith, low)))
  are-left (Site.thread t) is =
      let low = ltb-true t 32 is in
      thread-there (slice_index words (128 + t)) (there (Site.thread t)) (known-there (Site.thread t) is nothing (λ cell. absurd (cc))) (low-there (Site.thread t) is (omega (arith, low)))
  are-left (Site.domain d) is =
      let low = ltb-true d 8 is in
      domain-there (slice_index words (160 + d)) (there (Site.domain d)) (known-there (Site.domain d) is nothing (λ cell. absurd (cc))) (low-there (Site.domain d) is (omega (arith, low)))
  are-left (Site.object x) is = cell-left (Site.object x) x is refl (λ last known. known)
  are-left (Site.parts d) is = cell-left (Site.parts d) (128 + d) is (omega arith) (λ last known. known)
  are-left Site.memory is = cell-left Site.memory 136 is refl (λ last known. known)
  are-left Site.heap is = cell-left Site.heap 137 is refl (λ last known. known)
  are-left Site.scheduler is = cell-left Site.scheduler 138 is refl (λ last known. known)
  are-left Site.clock is = cell-left Site.clock 139 is refl (λ last known. known)
  are-left Site.joins is = cell-left Site.joins 140 is refl (λ last known. known)

  -- the same after steps in another order that keeps each site's
  pub left-in-order : (h : List FineStep) → SameOrder g h → AreLeft image words slots h
  left-in-order h same i is = are-left i is ∙ ap (λ (l : List FineStep). ends (s_next image) (s_start image i) l) (same.sites i)
