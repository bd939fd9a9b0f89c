-- The words with which a board opens: each fits into its bits, and none has taken a step.
use Rattle.std.proofs.Common.{◌≡◌, ◌≢◌, ℕ, ◌+◌, ◌-◌, ◌<◌, ◌≤◌, Bool, true, false, List, [], ◌∷◌, Option, Some, refl, sym, ap, ◌∙◌, arith, subst, length}
use Rattle.std.specs.Prelude.{IfSome, IsTrue, slice_index_or}
use Rattle.std.proofs.lemmas.Bool.{lt-ltb}
use Rattle.std.proofs.lemmas.Bool.Decides.{nat_tests}
use Rattle.std.proofs.lemmas.List.{get_or_default, length-map}
use mathlib.Core.Logic.{dite}
use native.Mathlib.Decide.{dec_le}
use Rattle.um_base.specs.declared.image.Image.{Image}
use Rattle.um_base.specs.declared.limits.TheConstants.{DOMAINS, ROWS, THREADS}
use Rattle.um_base.specs.Lawful.{IsLawful}
use Rattle.um_machine.specs.declared.thread.Thread.{Thread}
use Rattle.um_machine.specs.Objects.{thread_holds}
use Rattle.um_machine.specs.Run.{opening}
use Rattle.um_machine.specs.State.{nobody}
use Rattle.um_words.specs.declared.row_word.RowWord.{RowWord}
use Rattle.um_words.specs.declared.thread_word.ThreadWord.{ThreadWord}
use Rattle.um_words.specs.declared.dom_word.DomWord.{DomWord}
use Rattle.um_words.specs.Packed.{FitsDomain, FitsRow, FitsThread, domain_of, packed_cell, packed_domain, packed_row, packed_thread, row_of, thread_of}
use Rattle.um_words.specs.Steps.{number}
use Rattle.um_site.proofs.Bare.{high-number}
use Rattle.um_fine.specs.Answers.{domain_in as domain_word, no_domain, no_row, no_thread, row_in, thread_in as thread_word}
use Rattle.um_fine.specs.Cells.{quiet_word}
use Rattle.um_fine.specs.Opening.{boot_index, count, domain_state, indexed, row_state, s_start, thread_state}
use Rattle.um_fine.specs.Sites.{SiteState, is_site, site_number, site_numbered, word_of}
use Rattle.um_fine.specs.Steps.{Site}
use Rattle.um_fine.proofs.Keys.{number-back}
use Rattle.um_opening.proofs.Fresh.{opening-domains, opening-fresh, opening-image, opening-threads}
use Rattle.um_opening.specs.Opened.{AreDomains, AreRows, AreThreads}
use Rattle.um_board.specs.Noted.{packed}
use Rattle.um_board.specs.Opening.{IsFirstWord, opening_word}
use Rattle.um_board.proofs.WordSteps.{domain-number, row-number, thread-number}

-- the word of a site by its name
pub word-at : (image : Image) (i : ℕ) (s : Site) → IsTrue (is_site s) → i ≡ site_number s → opening_word image i ≡ packed (word_of (s_start image s))
word-at image i s there e = ap (λ (z : Site). packed (word_of (s_start image z))) (ap site_numbered e ∙ number-back s there)

-- the word of a row, of a thread or of a domain, which says what stands there
low-word : (image : Image) (i w : ℕ) (s : Site) (z : SiteState) → IsTrue (is_site s) → i ≡ site_number s → i < 168 → z ≡ s_start image s → w ≡ packed (word_of z) → number i w ≡ 0 → IsFirstWord image i w
low-word image i w s z there at low is value unstepped =
    record {
      value = value ∙ (ap (λ (x : SiteState). packed (word_of x)) is ∙ sym (word-at image i s there at));
      unstepped = unstepped;
      free = λ high. absurd (omega (arith, high, low));
    }

-- what is read of a list, whatever stands past its end
here : {A : Type 0} (P : A → Type 0) (xs : List A) (x : ℕ) (w d e : A) → x < length xs → w ≡ slice_index_or xs x d → P (slice_index_or xs x e) → P w
here P xs x w d e within read p = subst P (sym (read ∙ get_or_default xs x d e within)) p

-- Rows.

pub row-here : (image : Image) (xs : List RowWord) (x : ℕ) (w d : RowWord) → AreRows (opening image) ROWS xs → length xs ≡ ROWS → x < ROWS → w ≡ slice_index_or xs x d → SiteState.row w ≡ row_state (opening image) x
row-here image xs x w d are all low read = here (λ (z : RowWord). SiteState.row z ≡ row_state (opening image) x) xs x w d no_row (omega (arith, all, low)) read (are x low)

few-counted : (f : ℕ → Thread → Bool) (i : ℕ) (xs : List Thread) → count (indexed f i xs) ≤ length xs
few-counted f i [] = omega arith
few-counted f i (x ∷ xs) = let more = few-counted f (i + 1) xs in by (f i x) more
  where
    by : (b : Bool) → count (indexed f (i + 1) xs) ≤ length xs → count (b ∷ indexed f (i + 1) xs) ≤ length (x ∷ xs)
    by true more = omega (arith, more)
    by false more = omega (arith, more)

pub row-fits : (image : Image) (x : ℕ) (w : RowWord) → SiteState.row w ≡ row_state (opening image) x → FitsRow w
row-fits image x w e = record {
  claims =
      let is = ap (λ (z : SiteState). (row_in (word_of z)).claims) e in
      let few = few-counted (thread_holds (opening image).image x) 0 (opening image).threads in
      let long = opening-threads image in
      omega (arith, is, few, long);
  number = let is = ap (λ (z : SiteState). (row_in (word_of z)).number) e in omega (arith, is);
}

pub row-packed : (image : Image) (x p : ℕ) (w : RowWord) → row_of p ≡ w → p ≡ packed_row w → x < ROWS → SiteState.row w ≡ row_state (opening image) x → IsFirstWord image x p
row-packed image x p w back value low is =
    low-word image x p (Site.row x) (SiteState.row w) (lt-ltb x 128 low) refl (omega (arith, low)) is value
    (row-number x p w low back ∙ ap (λ (z : SiteState). (row_in (word_of z)).number) is)

-- Threads.

pub thread-here : (image : Image) (xs : List ThreadWord) (t : ℕ) (w d : ThreadWord) → AreThreads (opening image) THREADS xs → length xs ≡ THREADS → t < THREADS → w ≡ slice_index_or xs t d → SiteState.thread w ≡ thread_state (opening image) t
thread-here image xs t w d are all low read = here (λ (z : ThreadWord). SiteState.thread z ≡ thread_state (opening image) t) xs t w d no_thread (omega (arith, all, low)) read (are t low)

pub thread-fits : (image : Image) (t : ℕ) (w : ThreadWord) → IsLawful image → length image.domains ≤ DOMAINS → t < THREADS → SiteState.thread w ≡ thread_state (opening image) t → FitsThread w
thread-fits image t w lawful few low e = record {
  domain =
      let is = ap (λ (z : SiteState). (thread_word (word_of z)).domain) e in
      let many = opening-domains image in
      let long = opening-threads image in
      let named = (opening-fresh image lawful).named (omega (arith, many, few)) t nobody (omega (arith, long, low)) in
      omega (arith, is, named);
  note = subst (λ (n : Option ℕ). IfSome n (λ site. site < 65536)) (sym (ap (λ (z : SiteState). (thread_word (word_of z)).note) e)) tt;
  number = let is = ap (λ (z : SiteState). (thread_word (word_of z)).number) e in omega (arith, is);
}

pub thread-packed : (image : Image) (t p : ℕ) (w : ThreadWord) → thread_of p ≡ Some w → p ≡ packed_thread w → t < THREADS → SiteState.thread w ≡ thread_state (opening image) t → IsFirstWord image (128 + t) p
thread-packed image t p w back value low is =
    low-word image (128 + t) p (Site.thread t) (SiteState.thread w) (lt-ltb t 32 low) refl (omega (arith, low)) is value
    (thread-number t p w low back ∙ ap (λ (z : SiteState). (thread_word (word_of z)).number) is)

-- Domains.

pub domain-here : (image : Image) (xs : List DomWord) (x : ℕ) (w d : DomWord) → AreDomains (opening image) DOMAINS xs → length xs ≡ DOMAINS → x < DOMAINS → w ≡ slice_index_or xs x d → SiteState.domain w ≡ domain_state (opening image) x
domain-here image xs x w d are all low read = here (λ (z : DomWord). SiteState.domain z ≡ domain_state (opening image) x) xs x w d no_domain (omega (arith, all, low)) read (are x low)

pub domain-fits : (image : Image) (d : ℕ) (w : DomWord) → SiteState.domain w ≡ domain_state (opening image) d → FitsDomain w
domain-fits image d w e = record {
  readers = let is = ap (λ (z : SiteState). (domain_word (word_of z)).readers) e in omega (arith, is);
  version = let is = ap (λ (z : SiteState). (domain_word (word_of z)).version) e in omega (arith, is);
  number = let is = ap (λ (z : SiteState). (domain_word (word_of z)).number) e in omega (arith, is);
}

pub domain-packed : (image : Image) (d p : ℕ) (w : DomWord) → domain_of p ≡ Some w → p ≡ packed_domain w → d < DOMAINS → SiteState.domain w ≡ domain_state (opening image) d → IsFirstWord image (160 + d) p
domain-packed image d p w back value low is =
    low-word image (160 + d) p (Site.domain d) (SiteState.domain w) (lt-ltb d 8 low) refl (omega (arith, low)) is value
    (domain-number d p w low back ∙ ap (λ (z : SiteState). (domain_word (word_of z)).number) is)

-- Cells.

pub cell-value : (image : Image) (i : ℕ) → 168 ≤ i → i < 309 → i ≢ 306 → opening_word image i ≡ 0
cell-value image i low high other = dite (dec_le 296 i)
    (λ parts. dite (dec_le 304 i)
    (λ last. dite (dec_le 305 i)
    (λ heap. dite (dec_le 307 i)
    (λ time. dite (dec_le 308 i)
    (λ joins. word-at image i Site.joins refl (omega arith))
    (λ clock. word-at image i Site.clock refl (omega arith)))
    (λ below. word-at image i Site.heap refl (let is : i ≢ 306 = other in omega (arith, is))))
    (λ memory. word-at image i Site.memory refl (omega arith)))
    (λ part. word-at image i (Site.parts (i - 296)) (grind (arith, nat_tests)) (omega arith)))
    (λ object. word-at image i (Site.object (i - 168)) (grind (arith, nat_tests)) (omega arith))

pub scheduler-value : (image : Image) → packed_cell (quiet_word (length image.boots) 0 0 0) ≡ opening_word image 306
scheduler-value image =
    let s = opening image in
    ap (λ (n : ℕ). packed_cell (quiet_word n 0 0 0)) (sym (length-map s.image.boots (boot_index s) ∙ ap (λ (z : Image). length z.boots) (opening-image image)))

pub cell-number : (i p : ℕ) → 168 ≤ i → p < 68719476736 → number i p ≡ 0
cell-number i p low small = high-number i p low ∙ omega (arith, small)
