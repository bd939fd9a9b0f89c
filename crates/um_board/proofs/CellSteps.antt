-- A step that a cell's contents take is lawful at its word, where the word counts what the contents count, and leaves the word that counts what
-- its contents have then.
use Rattle.std.proofs.Common.{◌≡◌, ℕ, ◌+◌, ◌-◌, ◌<◌, ◌≤◌, ◌&&◌, Bool, true, false, List, [], ◌∷◌, ◌++◌, length, nat_lt, IsTrue, refl, sym, ap, ◌∙◌, subst, arith, length-append, if◌then◌else◌}
use Rattle.std.proofs.lemmas.Bool.{false≢true, and_parts, ltb-true, lt-ltb}
use Rattle.std.proofs.lemmas.Bool.Decides.{nat_tests}
use Rattle.um_base.specs.declared.act.Act.{Act}
use Rattle.um_base.specs.declared.image.Image.{Image}
use Rattle.um_words.specs.declared.fine.FineAct.{FineAct}
use Rattle.um_words.specs.declared.fine.Unseen.{Unseen}
use Rattle.um_words.specs.declared.kind.CellKind.{CellKind}
use Rattle.um_words.specs.declared.kind.WordKind.{WordKind}
use Rattle.um_words.specs.declared.cell_word.CellWord.{CellWord}
use Rattle.um_words.specs.CellActs.{clock_takes, clock_takes_act}
use Rattle.um_words.specs.Cells.{CellMay, counted_cell, scheduler_after, scheduler_takes, with_ready, word_after}
use Rattle.um_words.specs.Packed.{cell_of, packed_cell}
use Rattle.um_words.specs.WordFacts.{cell-left as keeps-cell}
use Rattle.um_words.specs.Steps.{WordMay, cell_kind_at, kind_at, number}
use Rattle.um_fine.specs.Answers.{context_in}
use Rattle.um_fine.specs.Cells.{Cell, cell_after, cell_moves, cell_says, cell_takes, cell_word, quiet_word}
use Rattle.um_fine.specs.Clock.{Clock}
use Rattle.um_fine.specs.Scheduler.{Scheduler, behind, first_taken, has_ready, sched_after, sched_takes}
use Rattle.um_fine.specs.Sites.{SiteState, is_site, site_after, site_number, word_of}
use Rattle.um_fine.specs.Steps.{Exchange, FineStep, Site, Word}
use Rattle.um_fine.proofs.Filled.{filled-twice}
use Rattle.um_fine.proofs.Keys.{number-back}
use Rattle.um_tables.specs.Asked.{Takes, asked, cell_made}
use Rattle.um_board.specs.Contents.{Follows, Known}
use Rattle.um_board.specs.Noted.{number_of, packed}
use Rattle.um_board.specs.ReadBack.{IsReadBack, unpacked}
use Rattle.um_board.specs.Turned.{kind_of}
use Rattle.um_board.proofs.WordSteps.{step-at}

-- the word that a step leaves is the one of the state that it leaves
takes-word : (image : Image) (s z : SiteState) (e : FineStep) → Takes image s e z → e.word ≡ word_of z
takes-word image s z e t =
    let f = t.may.filled_in in
    sym (ap (λ (x : FineStep). x.word) f) ∙ (λ i. word_of (site_after image s ((ap (λ (x : FineStep). x.act) f) i) ((ap (λ (x : FineStep). x.moved) f) i))) ∙ ap word_of (sym t.leaves)

cell_in : Cell → SiteState → Cell
cell_in c (SiteState.cell n d) = d
cell_in c _ = c

takes-cell : (image : Image) (n m : ℕ) (c d : Cell) (e : FineStep) → Takes image (SiteState.cell n c) e (SiteState.cell m d) → d ≡ cell_after image c e.act e.moved
unfolding cell_in
takes-cell image n m c d e t = ap (cell_in c) t.leaves

-- what the scheduler's contents take, its word takes, and counts what they have then
word-ready : (s : Scheduler) (ready : List ℕ) (n : ℕ) → IsTrue (has_ready s ready) → (nat_lt 0 (length ready) && nat_lt s.running 255) ≡ true
word-ready s [] n h = absurd (false≢true h)
word-ready s (t ∷ ready) n h =
    let some : nat_lt 0 (length (t ∷ ready)) ≡ true = lt-ltb 0 (length (t ∷ ready)) (omega arith) in
    let p = and_parts _ _ h in
    (λ i. some i && p.1 i)

word-takes : (s : Scheduler) (n : ℕ) (act : FineAct) → IsTrue (sched_takes s act) → IsTrue (scheduler_takes (quiet_word (length s.ready) s.running s.owed n) act)
word-takes s n (FineAct.Shown event more) h = let p = and_parts _ _ h in (λ i. p.0 i && word-ready s s.ready n p.1 i)
word-takes s n (FineAct.Unseen (Unseen.Next who)) h = word-ready s s.ready n h
word-takes s n (FineAct.Unseen (Unseen.Wake who ready)) h = h
word-takes s n (FineAct.Unseen (Unseen.Park who ready)) h = h
word-takes s n (FineAct.Unseen (Unseen.Add who)) h = h
word-takes s n (FineAct.Unseen (Unseen.Cut who ready)) h = h
word-takes s n (FineAct.Unseen Unseen.Owe) h = h
word-takes s n (FineAct.Unseen Unseen.Paid) h = h
word-takes s n (FineAct.Unseen Unseen.Done) h = h
word-takes s n (FineAct.Unseen unseen) h = absurd (false≢true h)

ready-left : (s : Scheduler) (ready : List ℕ) (n : ℕ) → IsTrue (has_ready s ready)
    → quiet_word (length (first_taken s ready).ready) (first_taken s ready).running (first_taken s ready).owed (n + 1) ≡ quiet_word (length ready - 1) (s.running + 1) s.owed (n + 1)
ready-left s [] n h = absurd (false≢true h)
ready-left s (t ∷ ready) n h = ap (λ x. quiet_word x (s.running + 1) s.owed (n + 1)) (omega arith)

longer : (xs : List ℕ) (t : ℕ) → length (xs ++ t ∷ []) ≡ length xs + 1
longer xs t = let e = length-append xs (t ∷ []) in omega arith

behind-left : (ready : Bool) (t running owed n : ℕ) (xs : List ℕ) → quiet_word (length (behind ready t xs)) running owed n ≡ with_ready (quiet_word (length xs) running owed n) ready
behind-left true t running owed n xs = ap (λ x. quiet_word x running owed n) (longer xs t)
behind-left false t running owed n xs = refl

word-left : (s : Scheduler) (n : ℕ) (act : FineAct) (moved : Exchange) → IsTrue (sched_takes s act)
    → quiet_word (length (sched_after s act moved).ready) (sched_after s act moved).running (sched_after s act moved).owed (n + 1) ≡ counted_cell (scheduler_after (quiet_word (length s.ready) s.running s.owed n) act)
word-left s n (FineAct.Shown event more) moved h = ready-left s s.ready n (and_parts _ _ h).1
word-left s n (FineAct.Unseen (Unseen.Next who)) moved h = ready-left s s.ready n h
word-left s n (FineAct.Unseen (Unseen.Wake who true)) moved h = behind-left true who.0 s.running s.owed (n + 1) s.ready
word-left s n (FineAct.Unseen (Unseen.Wake who false)) moved h = refl
word-left s n (FineAct.Unseen (Unseen.Park who true)) moved h = behind-left true (context_in moved).thread (s.running - 1) s.owed (n + 1) s.ready
word-left s n (FineAct.Unseen (Unseen.Park who false)) moved h = refl
word-left s n (FineAct.Unseen (Unseen.Add who)) moved h = behind-left true (context_in moved).thread s.running s.owed (n + 1) s.ready
word-left s n (FineAct.Unseen (Unseen.Cut who true)) moved h = behind-left true who.0 s.running s.owed (n + 1) s.ready
word-left s n (FineAct.Unseen (Unseen.Cut who false)) moved h = refl
word-left s n (FineAct.Unseen Unseen.Owe) moved h = refl
word-left s n (FineAct.Unseen Unseen.Paid) moved h = refl
word-left s n (FineAct.Unseen Unseen.Done) moved h = refl
word-left s n (FineAct.Unseen unseen) moved h = absurd (false≢true h)

-- what the clock takes in some state, its word takes in each
clock-acts : (c : Clock) (act : Act) → IsTrue (Rattle.um_fine.specs.Clock.clock_takes_act c act) → IsTrue (clock_takes_act act)
clock-acts c (Act.Arm deadline) h = refl
clock-acts c (Act.Tick now) h = refl
clock-acts c act h = absurd (false≢true h)

clock-known : (c : Clock) (act : FineAct) → IsTrue (cell_takes (Cell.clock c) act) → IsTrue (clock_takes act)
clock-known c (FineAct.Shown event more) h = clock-acts c event.act h
clock-known c (FineAct.Unseen Unseen.Settle) h = refl
clock-known c (FineAct.Unseen Unseen.Due) h = refl
clock-known c (FineAct.Unseen unseen) h = absurd (false≢true h)

pub cell-may : (image : Image) (n : ℕ) (c d : Cell) (e : FineStep) → Takes image (SiteState.cell n c) e (SiteState.cell (n + 1) d) → CellMay (kind_of c) (cell_word c n) e.act (cell_word d (n + 1))
cell-may image n c d e t =
    let parts = and_parts _ _ t.may.takes in
    by c parts.0 parts.1 (takes-cell image n (n + 1) c d e t)
  where
    by : (c : Cell) → nat_lt n 268435455 ≡ true → cell_takes c e.act ≡ true → d ≡ cell_after image c e.act e.moved → CellMay (kind_of c) (cell_word c n) e.act (cell_word d (n + 1))
    by (Cell.object o) room takes left = record { free = refl; room = ltb-true _ _ room; takes = takes; leaves = ap (λ x. cell_word x (n + 1)) left }
    by (Cell.parts p) room takes left = record { free = refl; room = ltb-true _ _ room; takes = takes; leaves = ap (λ x. cell_word x (n + 1)) left }
    by (Cell.memory m) room takes left = record { free = refl; room = ltb-true _ _ room; takes = takes; leaves = ap (λ x. cell_word x (n + 1)) left }
    by (Cell.heap h) room takes left = record { free = refl; room = ltb-true _ _ room; takes = takes; leaves = ap (λ x. cell_word x (n + 1)) left }
    by (Cell.clock k) room takes left = record { free = refl; room = ltb-true _ _ room; takes = clock-known k e.act takes; leaves = ap (λ x. cell_word x (n + 1)) left }
    by (Cell.joins j) room takes left = record { free = refl; room = ltb-true _ _ room; takes = takes; leaves = ap (λ x. cell_word x (n + 1)) left }
    by (Cell.scheduler s) room takes left = record { free = refl; room = ltb-true _ _ room; takes = word-takes s n e.act takes; leaves = ap (λ x. cell_word x (n + 1)) left ∙ word-left s n e.act e.moved takes }

-- what the word counts as owed fits into its bits then
pub owed-fits : (image : Image) (word n : ℕ) (c d : Cell) (e : FineStep) → cell_of word ≡ cell_word c n → Takes image (SiteState.cell n c) e (SiteState.cell (n + 1) d) → (cell_word d (n + 1)).owed < 524288
owed-fits image word n c d e says t =
    let may = subst (λ (w : CellWord). CellMay (kind_of c) w e.act (cell_word d (n + 1))) (sym says) (cell-may image n c d e t) in
    let fits = (keeps-cell (kind_of c) word e.act (packed_cell (cell_word d (n + 1))) (record { left = cell_word d (n + 1); may = may; is = refl })).owed in
    let is : (cell_word d (n + 1)).owed ≡ (word_after (kind_of c) (cell_of word) e.act).owed = ap (λ (w : CellWord). w.owed) may.leaves in
    omega (arith, fits, is)

-- the site is a cell's, of this kind
cell-kind : (site : ℕ) (k : CellKind) → 168 ≤ site → k ≡ cell_kind_at site → kind_at site ≡ WordKind.Cell k
cell-kind site k low is =
    let a : nat_lt site 128 ≡ false = grind (arith, nat_tests) in
    let b : nat_lt site 160 ≡ false = grind (arith, nat_tests) in
    let c : nat_lt site 168 ≡ false = grind (arith, nat_tests) in
    by (nat_lt site 128) (nat_lt site 160) (nat_lt site 168) a b c ∙ ap WordKind.Cell (sym is)
  where
    by : (a b c : Bool) → a ≡ false → b ≡ false → c ≡ false
        → (if a then WordKind.Row else if b then WordKind.Thread else if c then WordKind.Domain else WordKind.Cell (cell_kind_at site)) ≡ WordKind.Cell (cell_kind_at site)
    by true b c h i j = absurd (false≢true (sym h))
    by false true c h i j = absurd (false≢true (sym i))
    by false false true h i j = absurd (false≢true (sym j))
    by false false false h i j = refl

pub cell-lawful : (image : Image) (site word n : ℕ) (c d : Cell) (e : FineStep) → 168 ≤ site → kind_of c ≡ cell_kind_at site → cell_of word ≡ cell_word c n
    → Takes image (SiteState.cell n c) e (SiteState.cell (n + 1) d) → (next : ℕ) → next ≡ packed_cell (cell_word d (n + 1)) → WordMay site word e.act next
cell-lawful image site word n c d e low kind says t next is =
    let may = subst (λ (w : CellWord). CellMay (kind_of c) w e.act (cell_word d (n + 1))) (sym says) (cell-may image n c d e t) in
    step-at site word e.act next (WordKind.Cell (kind_of c)) (cell-kind site (kind_of c) low kind) (record { left = cell_word d (n + 1); may = may; is = is })

-- the step number in the word of a cell
pub cell-number : (site word : ℕ) (w : CellWord) (k : CellKind) → 168 ≤ site → k ≡ cell_kind_at site → cell_of word ≡ w → number site word ≡ w.number
unfolding number
cell-number site word w k low kind is = ap (λ (x : WordKind). Rattle.um_words.specs.Steps.number_in x word) (cell-kind site k low kind) ∙ ap (λ (x : CellWord). x.number) is

-- the contents follow by the step
pub follows : (image : Image) (n : ℕ) (c d : Known) (e : FineStep) → c.image ≡ image → d.image ≡ image → Takes image (SiteState.cell n c.cell) e (SiteState.cell (n + 1) d.cell) → Follows c e.act e.moved d
follows image n c d e of to t =
    let f = t.may.filled_in in
    record {
      of = to ∙ sym of;
      takes = (and_parts _ _ t.may.takes).1;
      says = subst (λ (m : Image). cell_says m c.cell e.moved e.act ≡ e.act) (sym of) (ap (λ (x : FineStep). x.act) f);
      moves = subst (λ (m : Image). cell_moves m c.cell e.act e.moved ≡ e.moved) (sym of) (ap (λ (x : FineStep). x.moved) f);
      leaves = subst (λ (m : Image). d.cell ≡ cell_after m c.cell e.act e.moved) (sym of) (takes-cell image n (n + 1) c.cell d.cell e t);
    }

-- a step that is asked of contents which take it
pub cell-takes : (image : Image) (cpu : ℕ) (site : Site) (n : ℕ) (c z : Cell) (act : FineAct) (moved : Exchange) → n < 268435455
    → IsTrue (cell_takes c (cell_says image c moved act)) → z ≡ cell_after image c (cell_says image c moved act) (cell_moves image c act moved)
    → Takes image (SiteState.cell n c) (cell_made image cpu site n c act moved) (SiteState.cell (n + 1) z)
cell-takes image cpu site n c z act moved room takes leaves =
    record {
      may = record {
        takes = ap (λ (b : Bool). b && cell_takes c (cell_says image c moved act)) (lt-ltb n 268435455 room) ∙ takes;
        filled_in = filled-twice image (SiteState.cell n c) (asked cpu site act moved);
      };
      leaves = ap (λ (t : Cell). SiteState.cell (n + 1) t) leaves;
    }

-- the word that a step of a cell leaves, and its step number
pub cell-left : (image : Image) (n next : ℕ) (c d : Cell) (q : CellWord) (e : FineStep) → Takes image (SiteState.cell n c) e (SiteState.cell (n + 1) d) → cell_word d (n + 1) ≡ q → next ≡ packed_cell q → packed e.word ≡ next
cell-left image n next c d q e t counts is = ap packed (takes-word image (SiteState.cell n c) (SiteState.cell (n + 1) d) e t) ∙ (ap packed_cell counts ∙ sym is)

pub put-number : (image : Image) (site n : ℕ) (c d : Cell) (e : FineStep) (ready running owed next m : ℕ) (k : CellKind) → 168 ≤ site → k ≡ cell_kind_at site
    → Takes image (SiteState.cell n c) e (SiteState.cell (n + 1) d) → site_number e.site ≡ site → next ≡ packed_cell (quiet_word ready running owed (n + 1))
    → cell_of next ≡ quiet_word ready running owed (n + 1) → cell_word d (n + 1) ≡ quiet_word ready running owed (n + 1) → m ≡ number (site_number e.site) (packed e.word) → m ≡ number_of e.word
put-number image site n c d e ready running owed next m k low kind t at is back counts numbered =
    let left = cell-left image n next c d (quiet_word ready running owed (n + 1)) e t counts is in
    let here : number (site_number e.site) (packed e.word) ≡ number site next = λ i. number (at i) (left i) in
    let last : number_of e.word ≡ n + 1 = ap number_of (takes-word image (SiteState.cell n c) (SiteState.cell (n + 1) d) e t) ∙ ap (λ (w : CellWord). w.number) counts in
    numbered ∙ (here ∙ (cell-number site next (quiet_word ready running owed (n + 1)) k low kind back ∙ sym last))

-- a word of a cell is read back as one
cell-unpacked : (i : Site) (w : ℕ) → IsTrue (is_site i) → 168 ≤ site_number i → unpacked i w ≡ Word.cell (cell_of w)
cell-unpacked (Site.row x) w there high = let low = ltb-true x 128 there in absurd (omega (arith, low, high))
cell-unpacked (Site.thread t) w there high = let low = ltb-true t 32 there in absurd (omega (arith, low, high))
cell-unpacked (Site.domain d) w there high = let low = ltb-true d 8 there in absurd (omega (arith, low, high))
cell-unpacked (Site.object x) w there high = refl
cell-unpacked (Site.parts d) w there high = refl
cell-unpacked Site.memory w there high = refl
cell-unpacked Site.heap w there high = refl
cell-unpacked Site.scheduler w there high = refl
cell-unpacked Site.clock w there high = refl
cell-unpacked Site.joins w there high = refl

pub cell-reads-back : (image : Image) (site n next : ℕ) (c d : Cell) (q : CellWord) (e : FineStep) → Takes image (SiteState.cell n c) e (SiteState.cell (n + 1) d) → cell_word d (n + 1) ≡ q
    → IsTrue (is_site e.site) → 168 ≤ site → site_number e.site ≡ site → next ≡ packed_cell q → cell_of next ≡ q → IsReadBack e
cell-reads-back image site n next c d q e takes counts there high at left back =
    let is : e.word ≡ Word.cell q = takes-word image (SiteState.cell n c) (SiteState.cell (n + 1) d) e takes ∙ ap Word.cell counts in
    record {
      site = number-back e.site there;
      word =
          cell-unpacked e.site (packed e.word) there (omega (arith, high, at))
          ∙ (ap (λ n. Word.cell (cell_of n)) (cell-left image n next c d q e takes counts left) ∙ (ap Word.cell back ∙ sym is));
    }
