-- What a seat saw at a site in a call by which no step was made there.
use Rattle.std.specs.Prelude.{◌≡◌, ◌≢◌, ℕ, ◌+◌, ◌<◌, ◌≤◌, ◌%◌, ◌⊎◌, List, [], ◌∷◌, ◌++◌, length, None, Some}
use Rattle.um_base.specs.Weight.{weight}
use Rattle.um_base.specs.declared.image.Image.{Image}
use Rattle.um_machine.specs.Order.{to_thread}
use Rattle.um_words.specs.History.{by_site}
use Rattle.um_words.specs.Packed.{cell_of, domain_of, thread_of}
use Rattle.um_words.specs.declared.fine.FineAct.{FineAct}
use Rattle.um_words.specs.declared.fine.Unseen.{Unseen}
use Rattle.um_fine.specs.Cells.{Cell, cell_word}
use Rattle.um_fine.specs.Clock.{Clock}
use Rattle.um_fine.specs.Sites.{SiteState, site_number, word_of}
use Rattle.um_fine.specs.Steps.{FineStep, Site}
use Rattle.um_merge.specs.declared.logged.Logged.{Logged}
use Rattle.um_tables.specs.Sited.{IsShut}
use Rattle.um_site.specs.Cells.{ContentsAre, Moment}
use Rattle.um_site.specs.declared.seat.Seat.{Seat}
use Rattle.um_site.specs.declared.view.View.{View}
use Rattle.um_board.specs.Contents.{Follows, Known, Opens, known}
use Rattle.um_board.specs.NextSteps.{NextGoes}
use Rattle.um_board.specs.ReadBack.{unpacked}

-- the word was got or left at the site
abbrev pub WasGot : List (ℕ × ℕ) → ℕ → ℕ → Type 0
WasGot [] i w = ⊥
WasGot (e ∷ es) i w = ((e.0 ≡ i) × (e.1 ≡ w)) ⊎ WasGot es i w

-- the same, among the words that were read since
abbrev pub GotSince : List (ℕ × ℕ) → List (ℕ × ℕ) → ℕ → ℕ → Type 0
GotSince old new i w = (more : List (ℕ × ℕ)) × (new ≡ more ++ old) × WasGot more i w

-- the word was read at the site between the two states of the seat
abbrev pub Got : Seat Known → Seat Known → ℕ → ℕ → Type 0
Got s t i w = GotSince s.token.me.0.got t.token.me.0.got i w

-- The seat has the steps, the name, the cells, and the seats split off and joined, of this view.
pub record IsOfView (s : Seat Known) (v : View) : Type 0 where
  pub image : v.image ≡ s.token.me.0.image
  pub opening : v.opening ≡ s.token.me.0.opening
  pub name : v.name ≡ s.token.me.0.name
  pub made : v.made ≡ s.token.me.0.made
  pub children : v.children ≡ s.token.me.0.children
  pub lists : v.joined ≡ s.token.me.0.joined
  pub filled : v.filled ≡ s.token.me.0.filled

-- The board's rule held with this word at the site i, at a moment at which the seat had made the steps that it has made.
pub record SawAt (s : Seat Known) (i w : ℕ) : Type 0 where
  pub view : View
  pub of : IsOfView s view
  pub moment : Moment Opens Follows NextGoes view i w

-- the same at a cell, of which nobody had the turn, and which had these contents
pub record SawCell (s : Seat Known) (i w : ℕ) (c : Known) : Type 0 where
  pub saw : SawAt s i w
  pub free : w % 2 ≡ 0
  pub contents : ContentsAre Opens Follows saw.view.image i (by_site i saw.moment.history) (Some c)

-- Why the site refuses the step. The seat read a word there, and the state with that word, or the cell with that word and its contents,
-- refuses the step as it would be made there. Or it read a word of the scheduler that counts no ready thread, so that a processor without a
-- thread can't take one.
pub data SawShut (image : Image) (s t : Seat Known) (e : FineStep) : Type 0 where
  word_refused : (z : SiteState) (w : ℕ) → site_number e.site < 168 → Got s t (site_number e.site) w → SawAt s (site_number e.site) w → unpacked e.site w ≡ word_of z → IsShut image z e → SawShut image s t e
  cell_refused : (n w : ℕ) (c : Known) → 168 ≤ site_number e.site → Got s t (site_number e.site) w → SawCell s (site_number e.site) w c → cell_of w ≡ cell_word c.cell n → IsShut image (SiteState.cell n c.cell) e → SawShut image s t e
  none_ready : (w : ℕ) → e.site ≡ Site.scheduler → Got s t (site_number e.site) w → SawAt s (site_number e.site) w → (cell_of w).ready ≡ 0
      → e.act ≡ FineAct.Unseen (Unseen.Next (to_thread 0)) → SawShut image s t e

-- Others were at the site i: another seat had the turn of the cell, or the word had changed since the seat looked.
pub data OthersAt (s t : Seat Known) (i : ℕ) : Type 0 where
  out : (w : ℕ) → 168 ≤ i → Got s t i w → w % 2 ≡ 1 → OthersAt s t i
  moved : (w z : ℕ) → Got s t i w → Got s t i z → z ≢ w → OthersAt s t i

-- Why no step was made at the site i: others were there; the log is full; the word that stood there can't be read; or the word doesn't
-- count what the cell's contents count, or has counted as many steps as it can; or the clock has more marks than the image's weight, or
-- 2^28 - 1. All but the first never happen to a processor of a described image.
pub data Hinders (room : ℕ) (log : List Logged) (s t : Seat Known) (i : ℕ) : Type 0 where
  others : OthersAt s t i → Hinders room log s t i
  full : (w : ℕ) → SawAt s i w → room ≤ length log → Hinders room log s t i
  no_thread : (n w : ℕ) → n < 32 → i ≡ 128 + n → SawAt s i w → thread_of w ≡ None → Hinders room log s t i
  no_domain : (d w : ℕ) → d < 8 → i ≡ 160 + d → SawAt s i w → domain_of w ≡ None → Hinders room log s t i
  worn : (w : ℕ) (c : Known) → 168 ≤ i → SawCell s i w c → ((n : ℕ) → n < 268435455 → cell_of w ≢ cell_word c.cell n) → Hinders room log s t i
  crowded : (w : ℕ) (image : Image) (c : Clock) → i ≡ site_number Site.clock → SawCell s i w (known image (Cell.clock c)) → (weight image < length c.marks) ⊎ (268435455 ≤ length c.marks) → Hinders room log s t i
