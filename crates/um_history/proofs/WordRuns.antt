-- The steps of a row, of a thread index and of a domain.
use Rattle.std.proofs.Common.{◌≡◌, ℕ, ◌+◌, Bool, true, false, List, ◌∷◌, length, Some, None, refl, sym, ap, ◌∙◌, subst, arith}
use Rattle.std.specs.Prelude.{◌&&◌, ◌||◌, not, if◌then◌else◌, IsTrue}
use Rattle.std.proofs.lemmas.Bool.{and_from, lt-ltb}
use Rattle.um_base.specs.declared.act.Act.{Act}
use Rattle.um_base.specs.declared.act.Event.{Event}
use Rattle.um_base.specs.declared.image.Image.{Image}
use Rattle.um_base.specs.declared.names.ThreadIx.{ThreadIx}
use Rattle.um_machine.specs.State.{is_living}
use Rattle.um_words.specs.declared.dom_word.DomWord.{DomWord}
use Rattle.um_words.specs.declared.fine.FineAct.{FineAct}
use Rattle.um_words.specs.declared.fine.More.{More}
use Rattle.um_words.specs.declared.kind.WordKind.{WordKind}
use Rattle.um_words.specs.declared.made.Made.{Made}
use Rattle.um_words.specs.declared.row_word.RowWord.{RowWord}
use Rattle.um_words.specs.declared.thread_word.ThreadWord.{ThreadWord}
use Rattle.um_words.specs.Domains.{DomainMay, counted_domain, domain_after}
use Rattle.um_words.specs.BitLists.{bits_of-number, number-small}
use Rattle.um_words.specs.Bits.{bits_of, number_of}
use Rattle.um_words.specs.History.{Entry}
use Rattle.um_words.specs.Inverse.{domain-back, row-back, thread-back}
use Rattle.um_words.specs.Packed.{FitsDomain, FitsRow, FitsThread, packed_domain, packed_row, packed_thread, row_of, thread_in, is_thread, is_domain, domain_in}
use Rattle.um_words.specs.RowFacts.{row-fits, row-keeps}
use Rattle.um_words.specs.Rows.{RowMay, counted_row, row_after}
use Rattle.um_words.specs.Steps.{DomainStep, RowStep, StepIn, ThreadStep, WordMay}
use Rattle.um_words.specs.Threads.{ThreadMay, counted_thread, thread_after, thread_takes, thread_takes_act}
use Rattle.um_words.specs.WordFacts.{domain-keeps, thread-keeps}
use Rattle.um_fine.specs.Sites.{SiteState, is_site, site_number, site_numbered, word_of}
use Rattle.um_fine.specs.Steps.{Site, Word}
use Rattle.um_fine.specs.Threads.{thread_answers, turned, unless_stopped}
use Rattle.um_fine.proofs.Keys.{number-back}
use Rattle.um_board.specs.Noted.{packed}
use Rattle.um_board.specs.ReadBack.{unpacked}
use Rattle.um_history.proofs.Entries.{fine_of}
use Rattle.um_history.proofs.Numbers.{kind_of_site, kinds-are}
use Rattle.um_history.proofs.SiteRuns.{Goes}

-- the step is one of its site's kind
pub step-in : (i : Site) → IsTrue (is_site i) → (w : ℕ) (act : FineAct) (next : ℕ) → WordMay (site_number i) w act next → StepIn (kind_of_site i) w act next
step-in i there w act next may = subst (λ (k : WordKind). StepIn k w act next) (kinds-are i there) may.step

-- and its word is read as one of its site
pub read-at : (i : Site) → IsTrue (is_site i) → (e : Entry) → e.1.site ≡ site_number i → unpacked (site_numbered e.1.site) e.1.word ≡ unpacked i e.1.word
read-at i there e here = ap (λ (j : Site). unpacked j e.1.word) (ap site_numbered here ∙ number-back i there)

-- Rows.

pub record IsRow (w : RowWord) : Type 0 where
  pub long : length w.permissions ≡ 32
  pub fits : FitsRow w

pub row-reads : (w : RowWord) → IsRow w → row_of (packed_row w) ≡ w
row-reads w is = row-back w (number_of w.permissions) refl (subst (λ (n : ℕ). bits_of n (number_of w.permissions) ≡ w.permissions) is.long (bits_of-number w.permissions)) (number-small w.permissions is.long) is.fits

abbrev pub RowKnown : SiteState → List Made → Type 0
RowKnown (SiteState.row w) ms = IsRow w
RowKnown s ms = ⊥

row-known : (image : Image) (x : ℕ) → IsTrue (is_site (Site.row x)) → (w : RowWord) (e : Entry) (ms : List Made) → e.1.site ≡ x → IsRow w → RowStep (packed_row w) e.1.act e.1.word → Goes image RowKnown (SiteState.row w) e ms
row-known image x there w e ms here is step =
    let back = row-reads w is in
    let may : RowMay w e.1.act step.left = subst (λ (v : RowWord). RowMay v e.1.act step.left) back step.may in
    let next = counted_row (row_after w e.1.act) in
    let keeps = row-keeps w is.long is.fits.claims e.1.act may.takes in
    let fits : FitsRow next = row-fits w is.long is.fits.claims may.room e.1.act may.takes in
    let left : IsRow next = record { long = keeps.long; fits = fits } in
    let word : e.1.word ≡ packed_row next = step.is ∙ ap packed_row may.leaves in
    let read : Word.row next ≡ (fine_of e).word = sym (read-at (Site.row x) there e here ∙ ap (λ (n : ℕ). Word.row (row_of n)) word ∙ ap Word.row (row-reads next left)) in
    record {
      may = record {
        takes = and_from _ _ (lt-ltb w.number 1048575 may.room) may.takes;
        filled_in = λ i. record (fine_of e) { act = may.says i; word = (ap (λ a. Word.row (counted_row (row_after w a))) may.says ∙ read) i };
      };
      word = word;
      on = left;
    }

pub row-goes : (image : Image) (x : ℕ) → IsTrue (is_site (Site.row x)) → (s : SiteState) (e : Entry) (ms : List Made) → e.1.site ≡ x → RowKnown s (e.1 ∷ ms) → WordMay x (packed (word_of s)) e.1.act e.1.word → Goes image RowKnown s e ms
row-goes image x there (SiteState.row w) e ms here known may = row-known image x there w e ms here known (step-in (Site.row x) there (packed_row w) e.1.act e.1.word may)
row-goes image x there (SiteState.thread w) e ms here known may = absurd known
row-goes image x there (SiteState.domain w) e ms here known may = absurd known
row-goes image x there (SiteState.cell n c) e ms here known may = absurd known

-- Threads.

unless-none : (living doomed aborted suspended : Bool) (event : Event) (more : More) → IsTrue (living && not (doomed || aborted || suspended)) → unless_stopped doomed aborted suspended event more ≡ FineAct.Shown event more
unless-none true false false false event more h = refl
unless-none true true aborted suspended event more h = absurd (cc)
unless-none true false true suspended event more h = absurd (cc)
unless-none true false false true event more h = absurd (cc)
unless-none false doomed aborted suspended event more h = absurd (cc)

turned-act : (w : ThreadWord) (t : ThreadIx) (more : More) (act : Act) → IsTrue (thread_takes_act w more act)
    → let a = FineAct.Shown (record { thread = t; act = act }) more in turned w a ≡ a
turned-act w t more (Act.Begin script line) h = unless-none (is_living w.life) w.doomed w.aborted w.suspended (record { thread = t; act = Act.Begin script line }) more h
turned-act w t more Act.Exit h = unless-none (is_living w.life) w.doomed w.aborted w.suspended (record { thread = t; act = Act.Exit }) more h
turned-act w t more act h = refl

-- a step that the word takes is not one that it finds doomed, aborted or suspended
turned-same : (w : ThreadWord) (act : FineAct) → IsTrue (thread_takes w act) → turned w act ≡ act
turned-same w (FineAct.Shown event more) h = turned-act w event.thread more event.act h
turned-same w (FineAct.Unseen unseen) h = refl

pub thread-reads : (w : ThreadWord) → FitsThread w → thread_in (packed_thread w) ≡ w
thread-reads w fits = by (is_thread (packed_thread w)) (thread-back w fits)
  where
    by : (b : Bool) → (if b then Some (thread_in (packed_thread w)) else None) ≡ Some w → thread_in (packed_thread w) ≡ w
    by true e = cc
    by false e = absurd (cc)

abbrev pub ThreadKnown : SiteState → List Made → Type 0
ThreadKnown (SiteState.thread w) ms = FitsThread w
ThreadKnown s ms = ⊥

thread-known : (image : Image) (t : ℕ) → IsTrue (is_site (Site.thread t)) → (w : ThreadWord) (e : Entry) (ms : List Made) → e.1.site ≡ 128 + t → FitsThread w → ThreadStep (packed_thread w) e.1.act e.1.word → Goes image ThreadKnown (SiteState.thread w) e ms
thread-known image t there w e ms here is step =
    let found : step.found ≡ w = let r = step.reads in let b = thread-back w is in cc in
    let may : ThreadMay w e.1.act step.left = subst (λ (v : ThreadWord). ThreadMay v e.1.act step.left) found step.may in
    let next = counted_thread (thread_after w e.1.act) in
    let keeps = thread-keeps w is.domain is.note e.1.act may.takes in
    let number = keeps.number in
    let room = may.room in
    let fits : FitsThread next = record { domain = keeps.domain; note = keeps.note; number = omega (arith, number, room) } in
    let word : e.1.word ≡ packed_thread next = step.is ∙ ap packed_thread may.leaves in
    let says : thread_answers w e.1.act ≡ e.1.act = ap (turned w) may.says ∙ turned-same w e.1.act may.takes in
    let read : Word.thread next ≡ (fine_of e).word = sym (read-at (Site.thread t) there e here ∙ ap (λ (n : ℕ). Word.thread (thread_in n)) word ∙ ap Word.thread (thread-reads next fits)) in
    record {
      may = record {
        takes = and_from _ _ (lt-ltb w.number 268435455 may.room) may.takes;
        filled_in = λ i. record (fine_of e) { act = says i; word = (ap (λ a. Word.thread (counted_thread (thread_after w a))) says ∙ read) i };
      };
      word = word;
      on = fits;
    }

pub thread-goes : (image : Image) (t : ℕ) → IsTrue (is_site (Site.thread t)) → (s : SiteState) (e : Entry) (ms : List Made) → e.1.site ≡ 128 + t → ThreadKnown s (e.1 ∷ ms) → WordMay (128 + t) (packed (word_of s)) e.1.act e.1.word
    → Goes image ThreadKnown s e ms
thread-goes image t there (SiteState.thread w) e ms here known may = thread-known image t there w e ms here known (step-in (Site.thread t) there (packed_thread w) e.1.act e.1.word may)
thread-goes image t there (SiteState.row w) e ms here known may = absurd known
thread-goes image t there (SiteState.domain w) e ms here known may = absurd known
thread-goes image t there (SiteState.cell n c) e ms here known may = absurd known

-- Domains.

pub domain-reads : (w : DomWord) → FitsDomain w → domain_in (packed_domain w) ≡ w
domain-reads w fits = by (is_domain (packed_domain w)) (domain-back w fits)
  where
    by : (b : Bool) → (if b then Some (domain_in (packed_domain w)) else None) ≡ Some w → domain_in (packed_domain w) ≡ w
    by true e = cc
    by false e = absurd (cc)

abbrev pub DomainKnown : SiteState → List Made → Type 0
DomainKnown (SiteState.domain w) ms = FitsDomain w
DomainKnown s ms = ⊥

domain-known : (image : Image) (d : ℕ) → IsTrue (is_site (Site.domain d)) → (w : DomWord) (e : Entry) (ms : List Made) → e.1.site ≡ 160 + d → FitsDomain w → DomainStep (packed_domain w) e.1.act e.1.word → Goes image DomainKnown (SiteState.domain w) e ms
domain-known image d there w e ms here is step =
    let found : step.found ≡ w = let r = step.reads in let b = domain-back w is in cc in
    let may : DomainMay w e.1.act step.left = subst (λ (v : DomWord). DomainMay v e.1.act step.left) found step.may in
    let next = counted_domain (domain_after w e.1.act) in
    let keeps = domain-keeps w is.readers is.version e.1.act may.takes in
    let number = keeps.number in
    let room = may.room in
    let fits : FitsDomain next = record { readers = keeps.readers; version = keeps.version; number = omega (arith, number, room) } in
    let word : e.1.word ≡ packed_domain next = step.is ∙ ap packed_domain may.leaves in
    let read : Word.domain next ≡ (fine_of e).word = sym (read-at (Site.domain d) there e here ∙ ap (λ (n : ℕ). Word.domain (domain_in n)) word ∙ ap Word.domain (domain-reads next fits)) in
    record {
      may = record {
        takes = and_from _ _ (lt-ltb w.number 268435455 may.room) may.takes;
        filled_in = λ i. record (fine_of e) { word = read i };
      };
      word = word;
      on = fits;
    }

pub domain-goes : (image : Image) (d : ℕ) → IsTrue (is_site (Site.domain d)) → (s : SiteState) (e : Entry) (ms : List Made) → e.1.site ≡ 160 + d → DomainKnown s (e.1 ∷ ms) → WordMay (160 + d) (packed (word_of s)) e.1.act e.1.word
    → Goes image DomainKnown s e ms
domain-goes image d there (SiteState.domain w) e ms here known may = domain-known image d there w e ms here known (step-in (Site.domain d) there (packed_domain w) e.1.act e.1.word may)
domain-goes image d there (SiteState.row w) e ms here known may = absurd known
domain-goes image d there (SiteState.thread w) e ms here known may = absurd known
domain-goes image d there (SiteState.cell n c) e ms here known may = absurd known
