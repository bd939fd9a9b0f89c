-- What stood at the site that refused a step of a seat, and that the processor was held up.
use Rattle.std.proofs.Common.{◌≡◌, ℕ, ◌-◌, ◌/◌, ◌%◌, ◌<◌, ◌≤◌, Bool, false, List, [], length, map, refl, sym, ap, ◌∙◌, subst, arith}
use Rattle.std.specs.Prelude.{IsTrue, nat_lt, ◌&&◌}
use Rattle.std.proofs.lemmas.Bool.{false≢true}
use Rattle.um_base.specs.Weight.{weight}
use Rattle.um_base.specs.declared.image.Image.{Image}
use Rattle.um_machine.specs.Order.{to_thread}
use Rattle.um_invariants.specs.Described.{IsDescribed}
use Rattle.um_words.specs.History.{bare}
use Rattle.um_words.specs.Packed.{cell_of, domain_in, row_of, thread_in}
use Rattle.um_words.specs.declared.cell_word.CellWord.{CellWord}
use Rattle.um_words.specs.declared.dom_word.DomWord.{DomWord}
use Rattle.um_words.specs.declared.fine.FineAct.{FineAct}
use Rattle.um_words.specs.declared.fine.Unseen.{Unseen}
use Rattle.um_words.specs.declared.row_word.RowWord.{RowWord}
use Rattle.um_words.specs.declared.thread_word.ThreadWord.{ThreadWord}
use Rattle.um_fine.specs.Cells.{Cell, cell_word}
use Rattle.um_fine.specs.FineRun.{IsFineRun}
use Rattle.um_fine.specs.Scheduler.{Scheduler, has_ready}
use Rattle.um_fine.specs.Sites.{SiteState, is_site, site_number, site_takes, word_of}
use Rattle.um_fine.specs.Steps.{FineStep, Site, Word}
use Rattle.um_refinement.specs.Room.{CanRun}
use Rattle.um_core.specs.PickedRun.{processor_after}
use Rattle.um_processor.specs.Wants.{Wants}
use Rattle.um_tables.specs.Sited.{IsShut}
use Rattle.um_site.specs.declared.seat.Seat.{Seat}
use Rattle.um_site.proofs.Bare.{bare-even, bare-high, bare-low}
use Rattle.um_board.specs.Contents.{Known}
use Rattle.um_board.specs.Noted.{packed}
use Rattle.um_board.specs.ReadBack.{fine_at, unpacked}
use Rattle.um_board.proofs.Saws.{and-no}
use Rattle.um_board.specs.Saw.{Got, SawAt, SawShut}
use Rattle.um_history.specs.Fine.{Stood, WasRefused, left_at}
use Rattle.um_history.proofs.Alone.{alone-run}
use Rattle.um_history.proofs.CellRuns.{CellKnown, cell-reads, word-number}
use Rattle.um_history.proofs.Hindered.{as-cell, cell-far}
use Rattle.um_history.proofs.QuietEnd.{no-length}
use Rattle.um_history.proofs.OpeningRuns.{SiteKnown}
use Rattle.um_history.proofs.Stood.{IsSeatOf, cell-stood, g, left-stood, stood, word-stood}
use Rattle.um_history.proofs.Waiting.{WaitsAll, held-none, held-shut}
use Rattle.um_history.proofs.WordRuns.{DomainKnown, RowKnown, ThreadKnown, domain-reads, row-reads, thread-reads}

-- What refuses a step by the word that was got refuses it as it stood.

row-stands : (a : RowWord) (z : SiteState) → Word.row a ≡ word_of z → z ≡ SiteState.row a
row-stands a (SiteState.row b) e = cc
row-stands a (SiteState.thread b) e = absurd (cc)
row-stands a (SiteState.domain b) e = absurd (cc)
row-stands a (SiteState.cell n b) e = absurd (cc)

thread-stands : (a : ThreadWord) (z : SiteState) → Word.thread a ≡ word_of z → z ≡ SiteState.thread a
thread-stands a (SiteState.thread b) e = cc
thread-stands a (SiteState.row b) e = absurd (cc)
thread-stands a (SiteState.domain b) e = absurd (cc)
thread-stands a (SiteState.cell n b) e = absurd (cc)

domain-stands : (a : DomWord) (z : SiteState) → Word.domain a ≡ word_of z → z ≡ SiteState.domain a
domain-stands a (SiteState.domain b) e = cc
domain-stands a (SiteState.row b) e = absurd (cc)
domain-stands a (SiteState.thread b) e = absurd (cc)
domain-stands a (SiteState.cell n b) e = absurd (cc)

row-same : (x : ℕ) (s z : SiteState) (w : ℕ) → RowKnown s [] → packed (word_of s) ≡ w → unpacked (Site.row x) w ≡ word_of z → z ≡ s
row-same x (SiteState.row a) z w known word reads = row-stands a z (sym (ap Word.row (ap row_of (sym word) ∙ row-reads a known)) ∙ reads)
row-same x (SiteState.thread a) z w known word reads = absurd known
row-same x (SiteState.domain a) z w known word reads = absurd known
row-same x (SiteState.cell n a) z w known word reads = absurd known

thread-same : (t : ℕ) (s z : SiteState) (w : ℕ) → ThreadKnown s [] → packed (word_of s) ≡ w → unpacked (Site.thread t) w ≡ word_of z → z ≡ s
thread-same t (SiteState.thread a) z w known word reads = thread-stands a z (sym (ap Word.thread (ap thread_in (sym word) ∙ thread-reads a known)) ∙ reads)
thread-same t (SiteState.row a) z w known word reads = absurd known
thread-same t (SiteState.domain a) z w known word reads = absurd known
thread-same t (SiteState.cell n a) z w known word reads = absurd known

domain-same : (d : ℕ) (s z : SiteState) (w : ℕ) → DomainKnown s [] → packed (word_of s) ≡ w → unpacked (Site.domain d) w ≡ word_of z → z ≡ s
domain-same d (SiteState.domain a) z w known word reads = domain-stands a z (sym (ap Word.domain (ap domain_in (sym word) ∙ domain-reads a known)) ∙ reads)
domain-same d (SiteState.row a) z w known word reads = absurd known
domain-same d (SiteState.thread a) z w known word reads = absurd known
domain-same d (SiteState.cell n a) z w known word reads = absurd known

-- below the cells
word-same : (image : Image) (last : Known) (i : Site) (s z : SiteState) (w : ℕ) → site_number i < 168 → SiteKnown image last i s [] → packed (word_of s) ≡ w → unpacked i w ≡ word_of z → z ≡ s
word-same image last (Site.row x) s z w low known word reads = row-same x s z w known word reads
word-same image last (Site.thread t) s z w low known word reads = thread-same t s z w known word reads
word-same image last (Site.domain d) s z w low known word reads = domain-same d s z w known word reads
word-same image last (Site.object x) s z w low known word reads = absurd (omega (arith, low))
word-same image last (Site.parts d) s z w low known word reads = absurd (omega (arith, low))
word-same image last Site.memory s z w low known word reads = absurd (omega (arith, low))
word-same image last Site.heap s z w low known word reads = absurd (omega (arith, low))
word-same image last Site.scheduler s z w low known word reads = absurd (omega (arith, low))
word-same image last Site.clock s z w low known word reads = absurd (omega (arith, low))
word-same image last Site.joins s z w low known word reads = absurd (omega (arith, low))

-- of a cell whose contents were got
cell-same : (image : Image) (last : Known) (i : Site) (s : SiteState) (n w : ℕ) → CellKnown image last i s [] → packed (word_of s) ≡ w → cell_of w ≡ cell_word last.cell n → SiteState.cell n last.cell ≡ s
cell-same image last i (SiteState.cell m c) n w known word says =
    let same : last.cell ≡ c = sym (ap (λ (x : Known). x.cell) known.1.follow) ∙ known.1.is in
    let words : cell_word last.cell n ≡ cell_word c m = sym says ∙ ap cell_of (sym word) ∙ cell-reads i m c known.0 in
    let number : n ≡ m = sym (word-number last.cell n) ∙ ap (λ (x : CellWord). x.number) words ∙ word-number c m in
    λ j. SiteState.cell (number j) (same j)
cell-same image last i (SiteState.row a) n w known word says = absurd known
cell-same image last i (SiteState.thread a) n w known word says = absurd known
cell-same image last i (SiteState.domain a) n w known word says = absurd known

-- of a scheduler by whose word no thread is ready
none-there : (image : Image) (last : Known) (s : SiteState) (w : ℕ) → CellKnown image last Site.scheduler s [] → packed (word_of s) ≡ bare 306 w → (cell_of (bare 306 w)).ready ≡ 0
    → (n : ℕ) × (z : Scheduler) × (s ≡ SiteState.cell n (Cell.scheduler z)) × (z.ready ≡ [])
none-there image last (SiteState.cell n (Cell.scheduler z)) w known word none =
    let count : (cell_of (bare 306 w)).ready ≡ length z.ready = ap (λ (x : ℕ). (cell_of x).ready) (sym word) ∙ ap (λ (x : CellWord). x.ready) (cell-reads Site.scheduler n (Cell.scheduler z) known.0) in
    (n, z, refl, no-length z.ready (sym count ∙ none))
none-there image last (SiteState.cell n (Cell.object o)) w known word none = absurd (false≢true known.0.sort)
none-there image last (SiteState.cell n (Cell.parts p)) w known word none = absurd (false≢true known.0.sort)
none-there image last (SiteState.cell n (Cell.memory m)) w known word none = absurd (false≢true known.0.sort)
none-there image last (SiteState.cell n (Cell.heap h)) w known word none = absurd (false≢true known.0.sort)
none-there image last (SiteState.cell n (Cell.clock c)) w known word none = absurd (false≢true known.0.sort)
none-there image last (SiteState.cell n (Cell.joins j)) w known word none = absurd (false≢true known.0.sort)
none-there image last (SiteState.row a) w known word none = absurd known
none-there image last (SiteState.thread a) w known word none = absurd known
none-there image last (SiteState.domain a) w known word none = absurd known

-- by which one who has no thread takes none
none-taken : (n : ℕ) (z : Scheduler) (act : FineAct) → act ≡ FineAct.Unseen (Unseen.Next (to_thread 0)) → z.ready ≡ [] → site_takes (SiteState.cell n (Cell.scheduler z)) act ≡ false
none-taken n z act next none =
    ap (λ (a : FineAct). site_takes (SiteState.cell n (Cell.scheduler z)) a) next
    ∙ (ap (λ (b : Bool). nat_lt n 268435455 && b) (ap (has_ready z) none) ∙ and-no (nat_lt n 268435455))

-- a cell's word without its turn has the ready threads
ready-kept : (w z : ℕ) → w - w % 2 ≡ z → w / 2 % 256 ≡ z / 2 % 256
ready-kept w z e = let h : w / 2 ≡ z / 2 = omega arith in ap (λ n. n % 256) h

module _ (image : Image) (described : IsDescribed image) (can : CanRun image 8) (longest : (run : List FineStep) → IsFineRun image 8 run → length run ≤ weight image)
    (k : ℕ) (s : Seat Known) (seat : IsSeatOf image k s) where
  -- where the site refused the step, it refused it as it stood, and the processor waits
  module _ (all : WaitsAll image) (t : Seat Known) (e : FineStep) (there : IsTrue (is_site e.site))
      (asks : (h : List FineStep) → Stood image k (map (fine_at k) s.token.me.0.made) h → Wants k image (processor_after image h k) e) where
    -- as its state stood at the site
    shut-there : (w : ℕ) (saw : SawAt s (site_number e.site) w) → Got s t (site_number e.site) w → (z : SiteState) → z ≡ left_at image (g image described can longest k s seat (site_number e.site) w saw) e.site
        → IsShut image z e → WasRefused image k s t e
    shut-there w saw got z same shut =
        let run = g image described can longest k s seat (site_number e.site) w saw in
        let st = stood image described can longest k s seat (site_number e.site) w saw in
        let here = subst (λ (x : SiteState). IsShut image x e) same shut in
        record {
          word = w;
          got = got;
          run = run;
          stood = st;
          left = word-stood image described can longest k s seat (site_number e.site) w saw e.site there refl;
          refuses = here.refuses;
          held_up = held-shut image described all run st.run st.few k seat.few e (asks run st) here;
          alone = alone-run image described can longest k s seat (site_number e.site) w saw;
        }

    pub refused : SawShut image s t e → WasRefused image k s t e
    refused (SawShut.word_refused z w low got saw reads shut) =
        let i = site_number e.site in
        let left = left-stood image described can longest k s seat i w saw e.site there refl in
        let word = word-stood image described can longest k s seat i w saw e.site there refl in
        shut-there w saw got z (word-same image left.0 e.site _ z w low left.1 (word ∙ bare-low i w low) reads) shut
    refused (SawShut.cell_refused n w c far got saw says shut) =
        let i = site_number e.site in
        let known = as-cell image c e.site _ [] (cell-far e.site there far) (cell-stood image described can longest k s seat i w saw.saw e.site there refl c saw.contents) in
        let word = word-stood image described can longest k s seat i w saw.saw e.site there refl in
        shut-there w saw.saw got (SiteState.cell n c.cell) (cell-same image c e.site _ n w known (word ∙ bare-even i w (λ h. saw.free)) says) shut
    refused (SawShut.none_ready w is got saw none next) =
        let i = site_number e.site in
        let run = g image described can longest k s seat i w saw in
        let st = stood image described can longest k s seat i w saw in
        let left = left-stood image described can longest k s seat i w saw e.site there refl in
        let word = word-stood image described can longest k s seat i w saw e.site there refl in
        let known = subst (λ (j : Site). SiteKnown image left.0 j (left_at image run j) []) is left.1 in
        let same = ap (λ (j : Site). packed (word_of (left_at image run j))) (sym is) ∙ (word ∙ ap (λ (j : Site). bare (site_number j) w) is) in
        let found = none-there image left.0 (left_at image run Site.scheduler) w known same (sym (ready-kept w (bare 306 w) (sym (bare-high 306 w (omega arith)))) ∙ none) in
        let here : left_at image run e.site ≡ SiteState.cell found.0 (Cell.scheduler found.1) = ap (left_at image run) is ∙ found.2 in
        record {
          word = w;
          got = got;
          run = run;
          stood = st;
          left = word;
          refuses = ap (λ (x : SiteState). site_takes x e.act) here ∙ none-taken found.0 found.1 e.act next found.3;
          held_up = held-none image described all run st.run st.few k seat.few e (asks run st) next;
          alone = alone-run image described can longest k s seat i w saw;
        }
