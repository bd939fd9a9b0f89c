-- The list of all steps of a board's history is one list of the steps of its processors, with the step numbers of each site.
use Rattle.std.proofs.Common.{◌≡◌, ℕ, ◌+◌, ◌<◌, ◌≤◌, eqb, List, [], ◌∷◌, length, map, refl, sym, ap, ◌∙◌, subst, arith}
use Rattle.std.specs.Prelude.{IsTrue}
use mathlib.Core.Logic.{dite}
use native.Mathlib.Decide.{dec_lt}
use Rattle.um_base.specs.declared.image.Image.{Image}
use Rattle.um_words.specs.History.{Entry, Numbers, is_at}
use Rattle.um_words.specs.History as History
use Rattle.um_words.specs.Steps.{kind_at, number, number_in}
use Rattle.um_words.specs.Sublists.{sub}
use Rattle.um_words.specs.declared.kind.WordKind.{WordKind}
use Rattle.um_fine.specs.FineRun.{IsFineRun, cpu_of, same_cpu}
use Rattle.um_fine.specs.Runs.{sublist}
use Rattle.um_fine.specs.Sites.{is_site, site_numbered}
use Rattle.um_fine.specs.Steps.{FineStep, Site}
use Rattle.um_merge.specs.Merged as Merged
use Rattle.um_merge.specs.Merged.{AreNumbered}
use Rattle.um_merge.specs.declared.logged.Logged.{Logged}
use Rattle.um_board.specs.Noted.{logged_of, number_of}
use Rattle.um_board.specs.ReadBack.{unpacked}
use Rattle.um_history.specs.Fine.{IsFineOf}
use Rattle.um_history.specs.Played.{Each, IsHistoryOf}
use Rattle.um_history.proofs.Entries.{fine_of}
use Rattle.um_history.proofs.Granted.{AreAsked, AreTaken}
use Rattle.um_history.proofs.Lists.{each-map, each-mapped, map-map, none-mapped, sub-map, sub-same}
use Rattle.um_history.proofs.Numbers.{kind_of_site, kinds-are, number-of-numbered, numbered-is}
use Rattle.um_history.proofs.OpeningRuns.{OpensWell}
use Rattle.um_history.proofs.Moments.{all, all-asked, all-placed, no-others, sites-run, sites-tested, subs-are, words-left}

number-in-word : (i : Site) (w : ℕ) → number_of (unpacked i w) ≡ number_in (kind_of_site i) w
number-in-word (Site.row x) w = refl
number-in-word (Site.thread t) w = refl
number-in-word (Site.domain d) w = refl
number-in-word i w = refl

-- the step number of a word as it is read
pub read-number : (n : ℕ) → n < 309 → (w : ℕ) → number_of (unpacked (site_numbered n) w) ≡ number n w
unfolding number
read-number n near w =
    let i = site_numbered n in
    number-in-word i w ∙ sym (ap (λ (k : WordKind). number_in k w) (sym (ap kind_at (number-of-numbered n near)) ∙ kinds-are i (numbered-is n near)))

abbrev noted : Entry → Logged
noted e = logged_of (fine_of e)

numbered-on : (n m : ℕ) → n < 309 → (l : List Entry) → Each (λ (e : Entry). e.1.site ≡ n) l → Numbers n m (map History.made_of l) → AreNumbered m (map noted l)
numbered-on n m near [] here numbers = tt
numbered-on n m near (e ∷ l) here numbers =
    let same : number_of (unpacked (site_numbered e.1.site) e.1.word) ≡ number n e.1.word = ap (λ (j : ℕ). number_of (unpacked (site_numbered j) e.1.word)) here.0 ∙ read-number n near e.1.word in
    (same ∙ numbers.0, numbered-on n (m + 1) near l here.1 numbers.1)

module _ (image : Image) (cpus : ℕ) (words : List ℕ) (entries : List Entry) (of : IsHistoryOf image cpus words entries) (few : cpus ≤ 8) (well : OpensWell image)
    (grant : (h : List FineStep) → AreAsked image cpus h → AreTaken image h → IsFineRun image cpus h)
    (steps : ℕ → List FineStep) (own : (k : ℕ) → k < cpus → sublist same_cpu cpu_of k (all image cpus words entries of) ≡ steps k) where
  abbrev steps_of_all : List FineStep
  steps_of_all = all image cpus words entries of

  wide : length words ≡ 309
  wide = of.stands.wide ∙ of.opens.count

  noted-sublist : (n : ℕ) → sublist eqb Merged.site_of n (map logged_of steps_of_all) ≡ map noted (sub (is_at n) entries)
  noted-sublist n =
      ap (sublist eqb Merged.site_of n) (map-map fine_of logged_of entries)
      ∙ subs-are (λ (s : Logged). eqb s.site n) (map noted entries)
      ∙ sub-map noted (λ (s : Logged). eqb s.site n) entries
      ∙ ap (map noted) (sub-same (λ (e : Entry). eqb (noted e).site n) (is_at n) entries
      (each-map (λ (e : Entry). e.1.site < 309) (λ (e : Entry). eqb (noted e).site n ≡ is_at n e) (λ e near. ap (λ (j : ℕ). eqb j n) (number-of-numbered e.1.site near)) entries (all-placed image cpus words entries of)))

  numbered : (n : ℕ) → AreNumbered 0 (sublist eqb Merged.site_of n (map logged_of steps_of_all))
  numbered n = subst (AreNumbered 0) (sym (noted-sublist n)) (dite (dec_lt n 309)
      (λ near. numbered-on n 0 near (sub (is_at n) entries) (sites-tested image cpus words entries of n) (of.stands.numbers n (omega (arith, near, wide))))
      (λ far. subst (λ (l : List Entry). AreNumbered 0 (map noted l)) (sym (none-mapped History.made_of (sub (is_at n) entries) (of.stands.inside n (omega (arith, far, wide))))) tt))

  sited : Each (λ (e : FineStep). IsTrue (is_site e.site)) steps_of_all
  sited = each-mapped fine_of (λ (e : FineStep). IsTrue (is_site e.site)) entries
      (each-map (λ (e : Entry). e.1.site < 309) (λ (e : Entry). IsTrue (is_site (site_numbered e.1.site))) (λ e near. numbered-is e.1.site near) entries (all-placed image cpus words entries of))

  pub is-fine-of : IsFineOf image cpus words steps steps_of_all
  is-fine-of =
      record {
        run = grant steps_of_all (all-asked image cpus words entries of few) (sites-run image cpus words entries of well);
        own = own;
        others = no-others image cpus words entries of;
        sited = sited;
        numbered = numbered;
        words_are = words-left image cpus words entries of well;
      }
