-- A step that the word of a row, of a thread or of a domain takes is lawful at its site.
use Rattle.std.proofs.Common.{◌≡◌, ℕ, ◌+◌, ◌%◌, ◌<◌, Bool, true, false, None, Some, nat_lt, if◌then◌else◌, IsTrue, sym, ap, ◌∙◌, subst, arith}
use Rattle.std.proofs.lemmas.Bool.{lt-ltb}
use Rattle.std.proofs.lemmas.Bool.Decides.{nat_tests}
use Rattle.um_base.specs.declared.image.Image.{Image}
use Rattle.um_words.specs.declared.fine.FineAct.{FineAct}
use Rattle.um_words.specs.declared.kind.WordKind.{WordKind}
use Rattle.um_words.specs.declared.row_word.RowWord.{RowWord}
use Rattle.um_words.specs.declared.thread_word.ThreadWord.{ThreadWord}
use Rattle.um_words.specs.declared.dom_word.DomWord.{DomWord}
use Rattle.um_words.specs.BitLists.{length-bits}
use Rattle.um_words.specs.Domains.{DomainMay, counted_domain, domain_after}
use Rattle.um_words.specs.WordFacts.{domain-keeps, thread-left as fits-left}
use Rattle.um_words.specs.Packed.{FitsDomain, FitsRow, FitsThread, domain_in, domain_of, is_domain, is_thread, packed_domain, packed_row, packed_thread, row_of, thread_in, thread_of}
use Rattle.um_words.specs.RowFacts.{row-fits}
use Rattle.um_words.specs.RowActs.{row_act_at, row_answers}
use Rattle.um_words.specs.Rows.{RowMay, counted_row, row_after}
use Rattle.um_words.specs.Steps.{StepIn, WordMay, cell_kind_at, kind_at, number, number_in}
use Rattle.um_words.specs.Threads.{ThreadMay, counted_thread, thread_after}
use Rattle.um_fine.proofs.Words.{domain-may, row-may, thread-may}
use Rattle.um_fine.specs.Answers.{domain_in as domain_word, row_in, thread_in as thread_word}
use Rattle.um_fine.proofs.Keys.{number-back}
use Rattle.um_fine.specs.Sites.{SiteState, is_site, site_number, site_numbered, word_of}
use Rattle.um_fine.specs.Steps.{FineStep, Site, Word}
use Rattle.um_site.proofs.Lawful.{at-row}
use Rattle.um_tables.proofs.WordActs.{row-takes}
use Rattle.um_tables.specs.Asked.{Takes}
use Rattle.um_tables.specs.RowActs.{row_made, row_said}
use Rattle.um_words.specs.declared.row_act.RowAct.{RowAct}
use Rattle.um_words.specs.declared.row_act.RowSaid.{RowSaid}
use Rattle.um_board.specs.Noted.{packed}
use Rattle.um_board.specs.ReadBack.{IsReadBack, unpacked}

-- the kind of a site by the three tests
abbrev kind_by : ℕ → Bool → Bool → Bool → WordKind
kind_by site row thread domain = if row then WordKind.Row else if thread then WordKind.Thread else if domain then WordKind.Domain else WordKind.Cell (cell_kind_at site)

pub thread-kind : (t : ℕ) → t < 32 → kind_at (128 + t) ≡ WordKind.Thread
thread-kind t h = let s = 128 + t in let a : nat_lt s 128 ≡ false = grind (arith, nat_tests) in let b : nat_lt s 160 ≡ true = grind (arith, nat_tests) in
    (λ i. kind_by s (a i) (b i) (nat_lt s 168))

pub domain-kind : (d : ℕ) → d < 8 → kind_at (160 + d) ≡ WordKind.Domain
domain-kind d h = let s = 160 + d in let a : nat_lt s 128 ≡ false = grind (arith, nat_tests) in let b : nat_lt s 160 ≡ false = grind (arith, nat_tests) in let c : nat_lt s 168 ≡ true = grind (arith, nat_tests) in
    (λ i. kind_by s (a i) (b i) (c i))

-- a step of the site's kind
pub step-at : (site seen : ℕ) (act : FineAct) (next : ℕ) (k : WordKind) → kind_at site ≡ k → StepIn k seen act next → WordMay site seen act next
step-at site seen act next k at step = record { step = subst (λ (k : WordKind). StepIn k seen act next) (sym at) step }

-- the word that the site has then is the step's
left-is : {W : Type 0} (word : W → Word) (May : W → Type 0) (made : Word) (y z n : W) → made ≡ word y → May y → y ≡ n → z ≡ n → (made ≡ word z) × May z × (z ≡ n)
left-is word May made y z n is may leaves left = let same : y ≡ z = leaves ∙ sym left in (is ∙ ap word same, subst May same may, left)

module _ (image : Image) (e : FineStep) where
  pub row-left : (w z : RowWord) → Takes image (SiteState.row w) e (SiteState.row z) → (e.word ≡ Word.row z) × RowMay w e.act z × (z ≡ counted_row (row_after w e.act))
  row-left w z t = let m = row-may image e w t.may in left-is Word.row (RowMay w e.act) e.word m.0 z _ m.1 m.2 m.2.leaves (ap (λ (s : SiteState). row_in (word_of s)) t.leaves)

  pub row-packs : (seen : ℕ) (z : RowWord) → Takes image (SiteState.row (row_of seen)) e (SiteState.row z) → FitsRow z
  row-packs seen z t =
      let l = row-left (row_of seen) z t in
      subst FitsRow (sym l.2) (row-fits (row_of seen) (length-bits 32 (seen % 4294967296)) (omega arith) l.1.room e.act l.1.takes)

  pub row-lawful : (site seen : ℕ) (z : RowWord) → site < 128 → Takes image (SiteState.row (row_of seen)) e (SiteState.row z) → (next : ℕ) → next ≡ packed_row z → WordMay site seen e.act next
  row-lawful site seen z low t next is = step-at site seen e.act next WordKind.Row (at-row site low) (record { left = z; may = (row-left (row_of seen) z t).1; is = is })

-- the word that was read is the one that stands
pub row-read : (image : Image) (cpu x : ℕ) (v w : RowWord) (act : RowAct) (z : RowWord) (said : RowSaid) → v ≡ w
    → RowMay v (row_act_at v act) z × (said ≡ row_answers v act)
    → Takes image (SiteState.row w) (row_made image cpu x w act) (SiteState.row z) × (said ≡ row_said (row_made image cpu x w act))
row-read image cpu x v w act z said is t =
    row-takes image cpu x w act z said (subst (λ (r : RowWord). RowMay r (row_act_at r act) z × (said ≡ row_answers r act)) is t)

pub row-number : (site word : ℕ) (z : RowWord) → site < 128 → row_of word ≡ z → number site word ≡ z.number
unfolding number
row-number site word z low is = ap (λ (k : WordKind). number_in k word) (at-row site low) ∙ ap (λ (r : RowWord). r.number) is

-- the same of a thread's word

module _ (image : Image) (e : FineStep) where
  pub thread-left : (w z : ThreadWord) → Takes image (SiteState.thread w) e (SiteState.thread z) → (e.word ≡ Word.thread z) × ThreadMay w e.act z × (z ≡ counted_thread (thread_after w e.act))
  thread-left w z t = let m = thread-may image e w t.may in left-is Word.thread (ThreadMay w e.act) e.word m.0 z _ m.1 m.2 m.2.leaves (ap (λ (s : SiteState). thread_word (word_of s)) t.leaves)

  pub thread-packs : (w z : ThreadWord) → FitsThread w → Takes image (SiteState.thread w) e (SiteState.thread z) → FitsThread z
  thread-packs w z fits t = fits-left w z e.act fits (thread-left w z t).1

  pub thread-lawful : (t seen : ℕ) (w z : ThreadWord) → t < 32 → thread_of seen ≡ Some w → Takes image (SiteState.thread w) e (SiteState.thread z) → (next : ℕ) → next ≡ packed_thread z
      → WordMay (128 + t) seen e.act next
  thread-lawful t seen w z low reads takes next is =
      step-at (128 + t) seen e.act next WordKind.Thread (thread-kind t low) (record { found = w; reads = reads; left = z; may = (thread-left w z takes).1; is = is })

-- the same of a domain's word

module _ (image : Image) (e : FineStep) where
  pub domain-left : (w z : DomWord) → Takes image (SiteState.domain w) e (SiteState.domain z) → (e.word ≡ Word.domain z) × DomainMay w e.act z × (z ≡ counted_domain (domain_after w e.act))
  domain-left w z t = let m = domain-may image e w t.may in left-is Word.domain (DomainMay w e.act) e.word m.0 z _ m.1 m.2 m.2.leaves (ap (λ (s : SiteState). domain_word (word_of s)) t.leaves)

  pub domain-packs : (w z : DomWord) → FitsDomain w → Takes image (SiteState.domain w) e (SiteState.domain z) → FitsDomain z
  domain-packs w z fits t =
      let l = domain-left w z t in
      let k = domain-keeps w fits.readers fits.version e.act l.1.takes in
      let room = l.1.room in
      let n = k.number in
      subst FitsDomain (sym l.2) (record { readers = k.readers; version = k.version; number = omega arith })

  pub domain-lawful : (d seen : ℕ) (w z : DomWord) → d < 8 → domain_of seen ≡ Some w → Takes image (SiteState.domain w) e (SiteState.domain z) → (next : ℕ) → next ≡ packed_domain z
      → WordMay (160 + d) seen e.act next
  domain-lawful d seen w z low reads takes next is =
      step-at (160 + d) seen e.act next WordKind.Domain (domain-kind d low) (record { found = w; reads = reads; left = z; may = (domain-left w z takes).1; is = is })

-- the step number in a word of a thread, and of a domain

if-some : {A : Type 0} (b : Bool) (x y : A) → (if b then Some x else None) ≡ Some y → x ≡ y
if-some true x y is = cc
if-some false x y is = absurd (cc)

pub thread-read : (w : ℕ) (t : ThreadWord) → thread_of w ≡ Some t → thread_in w ≡ t
thread-read w t is = if-some (is_thread w) (thread_in w) t is

pub domain-read : (w : ℕ) (d : DomWord) → domain_of w ≡ Some d → domain_in w ≡ d
domain-read w d is = if-some (is_domain w) (domain_in w) d is

pub thread-number : (t word : ℕ) (z : ThreadWord) → t < 32 → thread_of word ≡ Some z → number (128 + t) word ≡ z.number
unfolding number
thread-number t word z low is = ap (λ (k : WordKind). number_in k word) (thread-kind t low) ∙ ap (λ (r : ThreadWord). r.number) (thread-read word z is)

pub domain-number : (d word : ℕ) (z : DomWord) → d < 8 → domain_of word ≡ Some z → number (160 + d) word ≡ z.number
unfolding number
domain-number d word z low is = ap (λ (k : WordKind). number_in k word) (domain-kind d low) ∙ ap (λ (r : DomWord). r.number) (domain-read word z is)

-- Steps are read back from the board.

module _ (e : FineStep) where
  back-at : (i : Site) → e.site ≡ i → IsTrue (is_site i) → unpacked i (packed e.word) ≡ e.word → IsReadBack e
  back-at i at there word =
      record {
        site = subst (λ (j : Site). site_numbered (site_number j) ≡ j) (sym at) (number-back i there);
        word = subst (λ (j : Site). unpacked j (packed e.word) ≡ e.word) (sym at) word;
      }

  pub row-reads-back : (x word : ℕ) (z : RowWord) → e.site ≡ Site.row x → x < 128 → e.word ≡ Word.row z → word ≡ packed_row z → row_of word ≡ z → IsReadBack e
  row-reads-back x word z at low is left back =
      back-at (Site.row x) at (lt-ltb x 128 low) (ap (λ n. Word.row (row_of n)) (ap packed is ∙ sym left) ∙ (ap Word.row back ∙ sym is))

  pub thread-reads-back : (t word : ℕ) (z : ThreadWord) → e.site ≡ Site.thread t → t < 32 → e.word ≡ Word.thread z → word ≡ packed_thread z → thread_of word ≡ Some z → IsReadBack e
  thread-reads-back t word z at low is left back =
      back-at (Site.thread t) at (lt-ltb t 32 low) (ap (λ n. Word.thread (thread_in n)) (ap packed is ∙ sym left) ∙ (ap Word.thread (thread-read word z back) ∙ sym is))

  pub domain-reads-back : (d word : ℕ) (z : DomWord) → e.site ≡ Site.domain d → d < 8 → e.word ≡ Word.domain z → word ≡ packed_domain z → domain_of word ≡ Some z → IsReadBack e
  domain-reads-back d word z at low is left back =
      back-at (Site.domain d) at (lt-ltb d 8 low) (ap (λ n. Word.domain (domain_in n)) (ap packed is ∙ sym left) ∙ (ap Word.domain (domain-read word z back) ∙ sym is))
