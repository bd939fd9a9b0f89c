-- The steps of a cell: its word goes on with its contents.
use Rattle.std.proofs.Common.{◌≡◌, ℕ, ◌+◌, ◌-◌, ◌<◌, Bool, true, false, List, [], ◌∷◌, length, refl, sym, ap, ◌∙◌, subst, arith, length-append}
use Rattle.std.specs.Prelude.{◌&&◌, nat_lt, IsTrue}
use Rattle.std.proofs.lemmas.Bool.{and_from, and_parts, lt-ltb}
use Rattle.std.proofs.lemmas.Bool.Decides.{nat_tests}
use Rattle.um_base.specs.declared.image.Image.{Image}
use Rattle.um_words.specs.declared.cell_word.CellWord.{CellWord}
use Rattle.um_words.specs.declared.fine.FineAct.{FineAct}
use Rattle.um_words.specs.declared.fine.Unseen.{Unseen}
use Rattle.um_words.specs.declared.kind.CellKind.{CellKind}
use Rattle.um_words.specs.declared.kind.WordKind.{WordKind}
use Rattle.um_words.specs.declared.made.Made.{Made}
use Rattle.um_words.specs.CellActs.{is_resume}
use Rattle.um_words.specs.Cells.{CellMay, counted_cell, first_taken, has_ready, one_less, scheduler_after, scheduler_after_unseen, scheduler_takes, scheduler_takes_unseen, with_ready, word_after, word_takes}
use Rattle.um_words.specs.Exchanges.{Exchange}
use Rattle.um_words.specs.History.{Entry}
use Rattle.um_words.specs.Inverse.{cell-back}
use Rattle.um_words.specs.Packed.{cell_of, packed_cell}
use Rattle.um_words.specs.Steps.{CellStep, StepIn, WordMay}
use Rattle.um_fine.specs.Answers.{context_in}
use Rattle.um_fine.specs.Cells.{Cell, cell_after, cell_moves, cell_says, cell_takes, cell_word, quiet_word}
use Rattle.um_fine.specs.Scheduler.{Scheduler, behind, sched_after, sched_after_unseen, sched_takes, sched_takes_unseen}
use Rattle.um_fine.specs.Scheduler as Sched
use Rattle.um_fine.specs.Sites.{SiteState, is_site, is_sort, site_number, word_of}
use Rattle.um_fine.specs.Steps.{Site, Word}
use Rattle.um_site.specs.Cells.{Follow}
use Rattle.um_board.specs.Contents.{Follows, Known, Opens}
use Rattle.um_board.specs.Noted.{packed}
use Rattle.um_board.specs.ReadBack.{unpacked}
use Rattle.um_board.specs.Turned.{cell_kind}
use Rattle.um_history.proofs.Entries.{fine_of}
use Rattle.um_history.proofs.Numbers.{kind_of_site}
use Rattle.um_history.proofs.SiteRuns.{Goes}
use Rattle.um_history.proofs.WordRuns.{read-at, step-in}

-- What a step leaves of the counts in a word.

second-below : (b : Bool) (n m : ℕ) → IsTrue (b && nat_lt n m) → n < m
second-below b n m h = grind (arith, nat_tests)

abbrev Counts : CellWord → Type 0
Counts w = (w.ready < 256) × (w.running < 256) × (w.owed < 524288)

module _ (w : CellWord) (counts : Counts w) where
  first-counts : IsTrue (has_ready w) → Counts (first_taken w)
  first-counts h = let l = second-below (nat_lt 0 w.ready) w.running 255 h in (omega arith, omega arith, counts.2)

  ready-counts : (b : Bool) → w.ready < 32 → Counts (with_ready w b)
  ready-counts true h = (omega arith, counts.1, counts.2)
  ready-counts false h = counts

  less-counts : (b : Bool) → w.ready < 32 → Counts (one_less (with_ready w b))
  less-counts true h = (omega arith, omega arith, counts.2)
  less-counts false h = (counts.0, omega arith, counts.2)

  unseen-counts : (unseen : Unseen) → IsTrue (scheduler_takes_unseen w unseen) → Counts (scheduler_after_unseen w unseen)
  unseen-counts (Unseen.Next who) h = first-counts h
  unseen-counts (Unseen.Wake who b) h = ready-counts b (grind (arith, nat_tests))
  unseen-counts (Unseen.Park who b) h = less-counts b (second-below (nat_lt 0 w.running) w.ready 32 h)
  unseen-counts (Unseen.Add who) h = ready-counts true (grind (arith, nat_tests))
  unseen-counts (Unseen.Cut who b) h = ready-counts b (grind (arith, nat_tests))
  unseen-counts Unseen.Owe h = (counts.0, counts.1, grind (arith, nat_tests))
  unseen-counts Unseen.Paid h = (counts.0, counts.1, omega arith)
  unseen-counts Unseen.Done h = (counts.0, omega arith, counts.2)
  unseen-counts unseen h = absurd (cc)

  scheduler-counts : (act : FineAct) → IsTrue (scheduler_takes w act) → Counts (scheduler_after w act)
  scheduler-counts (FineAct.Shown event more) h = first-counts (and_parts (is_resume event.act) (has_ready w) h).1
  scheduler-counts (FineAct.Unseen unseen) h = unseen-counts unseen h

  word-counts : (kind : CellKind) (act : FineAct) → IsTrue (word_takes kind w act) → Counts (word_after kind w act)
  word-counts CellKind.Scheduler act h = scheduler-counts act h
  word-counts CellKind.Object act h = counts
  word-counts CellKind.Domain act h = counts
  word-counts CellKind.Memory act h = counts
  word-counts CellKind.Heap act h = counts
  word-counts CellKind.Clock act h = counts
  word-counts CellKind.Join act h = counts
  word-counts CellKind.Unused act h = counts

-- The scheduler's word counts what its contents have.

module _ (s : Scheduler) (n : ℕ) where
  abbrev word : CellWord
  word = quiet_word (length s.ready) s.running s.owed n

  first-word : (ready : List ℕ) → s.ready ≡ ready → IsTrue (Sched.has_ready s ready)
      → counted_cell (first_taken word) ≡ cell_word (Cell.scheduler (Sched.first_taken s ready)) (n + 1)
  first-word [] e h = absurd (cc)
  first-word (t ∷ ready) e h =
      let long = ap length e in
      let less : length s.ready - 1 ≡ length ready = omega (arith, long) in
      λ i. quiet_word (less i) (s.running + 1) s.owed (n + 1)

  behind-word : (b : Bool) (t : ℕ) → (with_ready word b).ready ≡ length (behind b t s.ready)
  behind-word true t = let long = length-append s.ready (t ∷ []) in omega (arith, long)
  behind-word false t = refl

  ready-word : (b : Bool) (t running : ℕ) → counted_cell (record (with_ready word b) { running = running }) ≡ quiet_word (length (behind b t s.ready)) running s.owed (n + 1)
  ready-word true t running = λ i. quiet_word (behind-word true t i) running s.owed (n + 1)
  ready-word false t running = refl

  running-same : (b : Bool) → (with_ready word b).running ≡ s.running
  running-same true = refl
  running-same false = refl

  unseen-word : (unseen : Unseen) (moved : Exchange) → IsTrue (sched_takes_unseen s unseen) → counted_cell (scheduler_after_unseen word unseen) ≡ cell_word (Cell.scheduler (sched_after_unseen s moved unseen)) (n + 1)
  unseen-word (Unseen.Next who) moved h = first-word s.ready refl h
  unseen-word (Unseen.Wake who true) moved h = ready-word true who.0 s.running
  unseen-word (Unseen.Wake who false) moved h = refl
  unseen-word (Unseen.Park who true) moved h = ready-word true (context_in moved).thread (s.running - 1)
  unseen-word (Unseen.Park who false) moved h = refl
  unseen-word (Unseen.Add who) moved h = ready-word true (context_in moved).thread s.running
  unseen-word (Unseen.Cut who true) moved h = ready-word true who.0 s.running
  unseen-word (Unseen.Cut who false) moved h = refl
  unseen-word Unseen.Owe moved h = refl
  unseen-word Unseen.Paid moved h = refl
  unseen-word Unseen.Done moved h = refl
  unseen-word unseen moved h = absurd (cc)

  scheduler-word : (act : FineAct) (moved : Exchange) → IsTrue (sched_takes s act) → counted_cell (scheduler_after word act) ≡ cell_word (Cell.scheduler (sched_after s act moved)) (n + 1)
  scheduler-word (FineAct.Shown event more) moved h = first-word s.ready refl (and_parts (is_resume event.act) (Sched.has_ready s s.ready) h).1
  scheduler-word (FineAct.Unseen unseen) moved h = unseen-word unseen moved h

-- Cells of all kinds.

-- whether a site is a cell
abbrev pub is_cell : Site → Bool
is_cell (Site.row x) = false
is_cell (Site.thread t) = false
is_cell (Site.domain d) = false
is_cell i = true

cell-kinds : (i : Site) → IsTrue (is_cell i) → kind_of_site i ≡ WordKind.Cell (cell_kind i)
cell-kinds (Site.row x) h = absurd (cc)
cell-kinds (Site.thread t) h = absurd (cc)
cell-kinds (Site.domain d) h = absurd (cc)
cell-kinds i h = refl

cell-unpacked : (i : Site) → IsTrue (is_cell i) → (w : ℕ) → unpacked i w ≡ Word.cell (cell_of w)
cell-unpacked (Site.row x) h w = absurd (cc)
cell-unpacked (Site.thread t) h w = absurd (cc)
cell-unpacked (Site.domain d) h w = absurd (cc)
cell-unpacked i h w = refl

module _ (image : Image) where
  next-word : (i : Site) (n : ℕ) (c : Cell) (act : FineAct) (moved : Exchange) → IsTrue (is_sort i (SiteState.cell n c)) → IsTrue (cell_takes c act)
      → counted_cell (word_after (cell_kind i) (cell_word c n) act) ≡ cell_word (cell_after image c act moved) (n + 1)
  next-word (Site.object x) n (Cell.object o) act moved sort takes = refl
  next-word (Site.parts d) n (Cell.parts p) act moved sort takes = refl
  next-word Site.memory n (Cell.memory m) act moved sort takes = refl
  next-word Site.heap n (Cell.heap h) act moved sort takes = refl
  next-word Site.scheduler n (Cell.scheduler s) act moved sort takes = scheduler-word s n act moved takes
  next-word Site.clock n (Cell.clock c) act moved sort takes = refl
  next-word Site.joins n (Cell.joins j) act moved sort takes = refl
  next-word i n c act moved sort takes = absurd (cc)

  next-sort : (i : Site) (n m : ℕ) (c : Cell) (act : FineAct) (moved : Exchange) → IsTrue (is_sort i (SiteState.cell n c)) → IsTrue (is_sort i (SiteState.cell m (cell_after image c act moved)))
  next-sort (Site.object x) n m (Cell.object o) act moved sort = refl
  next-sort (Site.parts d) n m (Cell.parts p) act moved sort = refl
  next-sort Site.memory n m (Cell.memory b) act moved sort = refl
  next-sort Site.heap n m (Cell.heap h) act moved sort = refl
  next-sort Site.scheduler n m (Cell.scheduler s) act moved sort = refl
  next-sort Site.clock n m (Cell.clock c) act moved sort = refl
  next-sort Site.joins n m (Cell.joins j) act moved sort = refl
  next-sort i n m c act moved sort = absurd (cc)

pub word-number : (c : Cell) (n : ℕ) → (cell_word c n).number ≡ n
word-number (Cell.object o) n = refl
word-number (Cell.parts p) n = refl
word-number (Cell.memory m) n = refl
word-number (Cell.heap h) n = refl
word-number (Cell.scheduler s) n = refl
word-number (Cell.clock c) n = refl
word-number (Cell.joins j) n = refl

-- a cell of the site's sort, whose counts its word has room for
pub record CellFits (i : Site) (n : ℕ) (c : Cell) : Type 0 where
  pub sort : IsTrue (is_sort i (SiteState.cell n c))
  pub number : n < 268435456
  pub counts : Counts (cell_word c n)

pub cell-reads : (i : Site) (n : ℕ) (c : Cell) → CellFits i n c → cell_of (packed_cell (cell_word c n)) ≡ cell_word c n
cell-reads i n c fits =
    let number = word-number c n in let small = fits.number in
    cell-back (cell_word c n) fits.counts.0 fits.counts.1 (record { owed = fits.counts.2; number = omega (arith, number, small) })

-- these are the contents of an image, and by the steps they come to the last ones
pub record Contents (image : Image) (last : Known) (c : Cell) (ms : List Made) : Type 0 where
  pub old : Known
  pub of : old.image ≡ image
  pub is : old.cell ≡ c
  pub follow : Follow Opens Follows old ms last

abbrev pub CellKnown : Image → Known → Site → SiteState → List Made → Type 0
CellKnown image last i (SiteState.cell n c) ms = CellFits i n c × Contents image last c ms
CellKnown image last i s ms = ⊥

module _ (image : Image) (last : Known) (i : Site) (there : IsTrue (is_site i)) (cell : IsTrue (is_cell i)) where
  cell-known : (n : ℕ) (c : Cell) (e : Entry) (ms : List Made) → e.1.site ≡ site_number i → CellFits i n c → Contents image last c (e.1 ∷ ms) → CellStep (cell_kind i) (packed_cell (cell_word c n)) e.1.act e.1.word
      → Goes image (CellKnown image last i) (SiteState.cell n c) e ms
  cell-known n c e ms here fits contents step =
      let back = cell-reads i n c fits in
      let may : CellMay (cell_kind i) (cell_word c n) e.1.act step.left = subst (λ (w : CellWord). CellMay (cell_kind i) w e.1.act step.left) back step.may in
      let follow = contents.follow in
      let by : Follows contents.old e.1.act e.1.moved follow.0 = follow.1 in
      let takes : IsTrue (cell_takes c e.1.act) = subst (λ (d : Cell). IsTrue (cell_takes d e.1.act)) contents.is by.takes in
      let says : cell_says image c e.1.moved e.1.act ≡ e.1.act = sym (λ j. cell_says (contents.of j) (contents.is j) e.1.moved e.1.act) ∙ by.says in
      let moves : cell_moves image c e.1.act e.1.moved ≡ e.1.moved = sym (λ j. cell_moves (contents.of j) (contents.is j) e.1.act e.1.moved) ∙ by.moves in
      let after : follow.0.cell ≡ cell_after image c e.1.act e.1.moved = by.leaves ∙ (λ j. cell_after (contents.of j) (contents.is j) e.1.act e.1.moved) in
      let next = cell_after image c e.1.act e.1.moved in
      let now = next-word image i n c e.1.act e.1.moved fits.sort takes in
      let number = word-number c n in
      let room : n < 268435455 = let r = may.room in omega (arith, number, r) in
      let left : CellFits i (n + 1) next = record {
        sort = next-sort image i n (n + 1) c e.1.act e.1.moved fits.sort;
        number = omega (arith, room);
        counts = subst Counts now (word-counts (cell_word c n) fits.counts (cell_kind i) e.1.act may.takes);
      } in
      let word : e.1.word ≡ packed_cell (cell_word next (n + 1)) = step.is ∙ ap packed_cell (may.leaves ∙ now) in
      let read : Word.cell (cell_word next (n + 1)) ≡ (fine_of e).word =
      sym (read-at i there e here ∙ cell-unpacked i cell e.1.word ∙ ap (λ (w : ℕ). Word.cell (cell_of w)) word ∙ ap Word.cell (cell-reads i (n + 1) next left)) in
      record {
        may = record {
          takes = and_from _ _ (lt-ltb n 268435455 room) takes;
          filled_in = λ j. record (fine_of e) { act = says j; word = ((λ k. Word.cell (cell_word (cell_after image c (says k) (moves k)) (n + 1))) ∙ read) j; moved = moves j };
        };
        word = word;
        on = (left, record { old = follow.0; of = by.of ∙ contents.of; is = after; follow = follow.2 });
      }

  pub cell-goes : (s : SiteState) (e : Entry) (ms : List Made) → e.1.site ≡ site_number i → CellKnown image last i s (e.1 ∷ ms) → WordMay (site_number i) (packed (word_of s)) e.1.act e.1.word → Goes image (CellKnown image last i) s e ms
  cell-goes (SiteState.cell n c) e ms here known may =
      cell-known n c e ms here known.0 known.1 (subst (λ (k : WordKind). StepIn k (packed_cell (cell_word c n)) e.1.act e.1.word) (cell-kinds i cell) (step-in i there (packed_cell (cell_word c n)) e.1.act e.1.word may))
  cell-goes (SiteState.row w) e ms here known may = absurd known
  cell-goes (SiteState.thread w) e ms here known may = absurd known
  cell-goes (SiteState.domain w) e ms here known may = absurd known
