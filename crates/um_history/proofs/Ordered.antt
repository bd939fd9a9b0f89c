-- The logs of processors that have played have an order, and each list in that order is what the logs note of a fine run of the same steps.
use Rattle.std.proofs.Common.{◌≡◌, ℕ, zero, suc, ◌<◌, ◌≤◌, Bool, true, false, eqb, List, [], ◌∷◌, length, map, refl, sym, ap, ◌∙◌, subst, arith, eq-eqb}
use Rattle.std.specs.Prelude.{IsTrue}
use mathlib.Core.Logic.{dite}
use native.Mathlib.Decide.{dec_lt}
use Rattle.um_base.specs.declared.act.Event.{Event}
use Rattle.um_base.specs.declared.image.Image.{Image}
use Rattle.um_words.specs.declared.fine.FineAct.{FineAct}
use Rattle.um_fine.specs.Erasure.{shown, shown_by}
use Rattle.um_fine.specs.FineRun.{ByOneOf, IsFineRun, SameOrder, p_start, site_of}
use Rattle.um_fine.specs.Follows.{p_next}
use Rattle.um_fine.specs.Opening.{s_start}
use Rattle.um_fine.specs.Runs.{Run, SameAt, ends, sublist}
use Rattle.um_fine.specs.Sites.{SiteMay, is_site, s_next, same_site, site_number, site_numbered, word_of}
use Rattle.um_fine.specs.Steps.{FineStep, Site}
use Rattle.um_merge.specs.Merged as Merged
use Rattle.um_merge.specs.Logs.{Log, event_on, events_of}
use Rattle.um_merge.specs.Merged.{AreNumbered, IsOrder, log_at}
use Rattle.um_merge.specs.declared.logged.Logged.{Logged}
use Rattle.um_tables.specs.Asked.{event_of}
use Rattle.um_board.specs.Noted.{logged_of, packed}
use Rattle.um_history.specs.Fine.{IsFineOf}
use Rattle.um_history.specs.Played.{Each}
use Rattle.um_history.proofs.Lifts.{lift, sublist_map}
use Rattle.um_history.proofs.Lists.{each-keyed, each-map, each-sub, sub-none, sub-same}
use Rattle.um_history.proofs.Numbers.{names-compare, no-name}
use Rattle.um_history.proofs.Moments.{subs-are}

no-log : (logs : List Log) (k : ℕ) → length logs ≤ k → log_at logs k ≡ []
no-log [] k far = refl
no-log (log ∷ logs) zero far = absurd (omega arith)
no-log (log ∷ logs) (suc k) far = no-log logs k (omega arith)

shown-one : (act : FineAct) (events : List Event) → event_on (event_of act) events ≡ shown_by act events
shown-one (FineAct.Shown event more) events = refl
shown-one (FineAct.Unseen unseen) events = refl

pub shown-noted : (g : List FineStep) → events_of (map logged_of g) ≡ shown g
shown-noted [] = refl
shown-noted (e ∷ g) = shown-one e.act (events_of (map logged_of g)) ∙ ap (shown_by e.act) (shown-noted g)

pub noted-long : (g : List FineStep) → length (map logged_of g) ≡ length g
noted-long [] = refl
noted-long (e ∷ g) = ap suc (noted-long g)

abbrev Sited : FineStep → Type 0
Sited e = IsTrue (is_site e.site)

-- Lists with the same steps at each site number have the same steps at each site, if their sites exist.
module _ (g h : List FineStep) (same : SameAt eqb (λ (e : FineStep). site_number e.site) g h) (sited : Each Sited g) where
  abbrev at : ℕ → FineStep → Bool
  at n e = eqb (site_number e.site) n

  pub sited-too : Each Sited h
  sited-too = each-keyed at (λ (e : FineStep). site_number e.site) (λ e. eq-eqb (site_number e.site) (site_number e.site) refl) Sited h
      (λ n. subst (Each Sited) (sym (subs-are (at n) g) ∙ same n ∙ subs-are (at n) h) (each-sub (at n) Sited g sited))

  by-number : (i : Site) → IsTrue (is_site i) → (l : List FineStep) → Each Sited l → sublist same_site site_of i l ≡ sublist eqb (λ (e : FineStep). site_number e.site) (site_number i) l
  by-number i there l here =
      subs-are (λ (e : FineStep). same_site e.site i) l
      ∙ sub-same (λ (e : FineStep). same_site e.site i) (at (site_number i)) l (each-map Sited (λ (e : FineStep). same_site e.site i ≡ at (site_number i) e) (λ e k. names-compare e.site i k there) l here)
      ∙ sym (subs-are (at (site_number i)) l)

  none-at : (i : Site) → is_site i ≡ false → (l : List FineStep) → Each Sited l → sublist same_site site_of i l ≡ []
  none-at i none l here =
      subs-are (λ (e : FineStep). same_site e.site i) l
      ∙ sub-none (λ (e : FineStep). same_site e.site i) l (each-map Sited (λ (e : FineStep). same_site e.site i ≡ false) (λ e k. no-name i e.site none k) l here)

  pub sites-same : SameAt same_site site_of g h
  sites-same i = by (is_site i) refl
    where
      by : (b : Bool) → is_site i ≡ b → sublist same_site site_of i g ≡ sublist same_site site_of i h
      by true there = by-number i there g sited ∙ same (site_number i) ∙ sym (by-number i there h sited-too)
      by false none = none-at i none g sited ∙ sym (none-at i none h sited-too)

-- a list in the same order as a fine run is one
pub fine-same : (image : Image) (cpus : ℕ) (g h : List FineStep) → SameOrder g h → IsFineRun image cpus g → IsFineRun image cpus h
fine-same image cpus g h same run =
    record {
      processors = λ k. subst (Run (ByOneOf image cpus) (p_next image) (p_start k)) (same.processors k) (run.processors k);
      sites = λ i. subst (Run (SiteMay image) (s_next image) (s_start image i)) (same.sites i) (run.sites i);
    }

-- A list in the same order as the notes of these steps is the notes of the same steps in some order that keeps each processor's and each
-- site's, if their sites exist.
pub lifted : (g : List FineStep) → Each Sited g → (list : List Logged) → Merged.SameOrder list (map logged_of g) → (h : List FineStep) × (map logged_of h ≡ list) × SameOrder g h × Each Sited h
lifted g sited list (cpus, sites) =
    let l = lift logged_of Merged.cpu_of Merged.site_of list g (λ k. sym (cpus k)) (λ k. sym (sites k)) in
    (l.0, l.1, record { processors = l.2; sites = sites-same g l.0 l.3 sited }, sited-too g l.0 l.3 sited)

-- It has the steps of the same processors, numbers those of each site as they are numbered, and leaves the same words.
pub fine-of-same : (image : Image) (cpus : ℕ) (words : List ℕ) (steps : ℕ → List FineStep) (g h : List FineStep) → IsFineOf image cpus words steps g → SameOrder g h → Each Sited h
    → SameAt eqb Merged.site_of (map logged_of h) (map logged_of g) → IsFineOf image cpus words steps h
fine-of-same image cpus words steps g h fine same sited sites =
    record {
      run = fine-same image cpus g h same fine.run;
      own = λ k less. sym (same.processors k) ∙ fine.own k less;
      others = λ k far. sym (same.processors k) ∙ fine.others k far;
      sited = sited;
      numbered = λ n. subst (AreNumbered 0) (sym (sites n)) (fine.numbered n);
      words_are = λ i near. ap (λ (l : List FineStep). packed (word_of (ends (s_next image) (s_start image (site_numbered i)) l))) (sym (same.sites (site_numbered i))) ∙ fine.words_are i near;
    }

module _ (image : Image) (cpus : ℕ) (words : List ℕ) (steps : ℕ → List FineStep) (g : List FineStep) (fine : IsFineOf image cpus words steps g) (logs : List Log) (as-many : length logs ≡ cpus)
    (noted : (k : ℕ) → k < cpus → log_at logs k ≡ map logged_of (steps k)) where
  logged : (k : ℕ) → sublist eqb Merged.cpu_of k (map logged_of g) ≡ log_at logs k
  logged k = sublist_map logged_of Merged.cpu_of k g ∙ dite (dec_lt k cpus)
      (λ less. ap (map logged_of) (fine.own k less) ∙ sym (noted k less))
      (λ far. ap (map logged_of) (fine.others k (omega (arith, far))) ∙ sym (no-log logs k (omega (arith, far, as-many))))

  pub is-order : IsOrder logs (map logged_of g)
  is-order = record { logged = logged; numbered = fine.numbered }
