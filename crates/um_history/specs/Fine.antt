-- One list of the steps of several processors.
use Rattle.std.specs.Prelude.{◌≡◌, ℕ, ◌<◌, ◌≤◌, eqb, IsTrue, List, [], length, map, slice_index}
use Rattle.um_base.specs.Weight.{weight}
use Rattle.um_base.specs.declared.image.Image.{Image}
use Rattle.um_words.specs.History.{bare}
use Rattle.um_fine.specs.FineRun.{IsFineRun, cpu_of, same_cpu, site_of}
use Rattle.um_fine.specs.Opening.{s_start}
use Rattle.um_fine.specs.Runs.{state_at, sublist}
use Rattle.um_fine.specs.Sites.{SiteState, is_site, s_next, same_site, site_number, site_numbered, word_of}
use Rattle.um_fine.specs.Steps.{FineStep, Site}
use Rattle.um_refinement.specs.After.{left_by}
use Rattle.um_refinement.specs.Fine.{Fine}
use Rattle.um_refinement.specs.Waits.{WaitsFor}
use Rattle.um_merge.specs.Merged as Merged
use Rattle.um_merge.specs.Merged.{AreNumbered}
use Rattle.um_tables.specs.Asked.{Refuses}
use Rattle.um_site.specs.declared.seat.Seat.{Seat}
use Rattle.um_board.specs.Contents.{Known}
use Rattle.um_board.specs.Noted.{logged_of, packed}
use Rattle.um_board.specs.ReadBack.{fine_at}
use Rattle.um_board.specs.Saw.{Got}
use Rattle.um_history.specs.Played.{Each}

-- The list is a fine run that has the steps of each processor in their order and no others, numbers those of each site from 1 without a gap, and
-- leaves these words, a cell's turn aside.
pub record IsFineOf (image : Image) (cpus : ℕ) (words : List ℕ) (steps : ℕ → List FineStep) (g : List FineStep) : Type 0 where
  pub run : IsFineRun image cpus g
  pub own : (k : ℕ) → k < cpus → sublist same_cpu cpu_of k g ≡ steps k
  pub others : (k : ℕ) → cpus ≤ k → sublist same_cpu cpu_of k g ≡ []
  pub sited : Each (λ (e : FineStep). IsTrue (is_site e.site)) g
  pub numbered : (site : ℕ) → AreNumbered 0 (sublist eqb Merged.site_of site (map logged_of g))
  pub words_are : (i : ℕ) → i < 309 → packed (word_of (state_at same_site site_of (s_next image) (s_start image) g (site_numbered i))) ≡ bare i (slice_index words i)

-- At some moment the board's history was this fine run of at most eight processors, with no more steps than the image's weight, and the
-- processor k had made these steps in it.
pub record Stood (image : Image) (k : ℕ) (own : List FineStep) (g : List FineStep) : Type 0 where
  pub run : IsFineRun image 8 g
  pub few : length g ≤ weight image
  pub own_is : sublist same_cpu cpu_of k g ≡ own

-- the state that a run leaves at a site
abbrev pub left_at : Image → List FineStep → Site → SiteState
left_at image g i = state_at same_site site_of (s_next image) (s_start image) g i

-- Why a processor goes on where one of its steps is refused: it has no thread, so another of its steps may be lawful; or it waits, for a thread
-- that is held or for a domain that is claimed.
pub data IsHeldUp (f : Fine) (k : ℕ) : Type 0 where
  idle : (f.processors k).todo ≡ [] → IsHeldUp f k
  waits : WaitsFor f k → IsHeldUp f k

-- The seat is the first one of its board, has split off none, and has taken in none.
pub record IsAlone (s : Seat Known) : Type 0 where
  pub name : s.token.me.0.name ≡ []
  pub children : s.token.me.0.children ≡ []
  pub lists : s.token.me.0.joined ≡ []

-- At some moment of a call the site of the step refused it, in the state in which the fine run of that moment had left it; the seat read
-- the word that the run had left there. After that run the processor is held up. If the seat is alone, that run has the steps of its
-- processor, and no others.
pub record WasRefused (image : Image) (k : ℕ) (s t : Seat Known) (e : FineStep) : Type 0 where
  pub word : ℕ
  pub got : Got s t (site_number e.site) word
  pub run : List FineStep
  pub stood : Stood image k (map (fine_at k) s.token.me.0.made) run
  pub left : packed (word_of (left_at image run e.site)) ≡ bare (site_number e.site) word
  pub refuses : Refuses (left_at image run e.site) e
  pub held_up : IsHeldUp (left_by image 8 run) k
  pub alone : IsAlone s → run ≡ map (fine_at k) s.token.me.0.made
