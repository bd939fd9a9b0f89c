-- The history of a board whose processors play: every step in it is of one of them and at a site that there is, each asks for its own, and the sites
-- take them.
use Rattle.std.proofs.Common.{◌≡◌, ℕ, zero, suc, ◌<◌, ◌≤◌, Bool, true, false, cond, eqb, List, [], ◌∷◌, ◌⊎◌, inl, inr, ⊎_elim, length, map, refl, sym, ap, ◌∙◌, subst, arith, eq-eqb}
use Rattle.std.specs.Prelude.{IsTrue, None, slice_index, ◌&&◌}
use Rattle.std.proofs.lemmas.Bool.{eqb-true, false≢true}
use mathlib.Core.Logic.{dite}
use native.Mathlib.Decide.{dec_lt}
use Rattle.um_base.specs.declared.image.Image.{Image}
use Rattle.um_words.specs.History.{Entry, Words, bare, by_seat, by_site, is_at, is_by}
use Rattle.um_words.specs.History as History
use Rattle.um_words.specs.Sublists.{same_name, sub}
use Rattle.um_fine.specs.Cells.{Cell}
use Rattle.um_fine.specs.FineRun.{cpu_of, same_cpu, site_of}
use Rattle.um_fine.specs.Follows.{p_next}
use Rattle.um_fine.specs.Opening.{s_start}
use Rattle.um_fine.specs.Processor.{idle}
use Rattle.um_fine.specs.Runs.{Run, ends, state_at, sublist}
use Rattle.um_fine.specs.Runs as Runs
use Rattle.um_fine.specs.Sites.{SiteMay, is_site, s_next, same_site, site_number, site_numbered, word_of}
use Rattle.um_fine.specs.Steps.{FineStep, Site}
use Rattle.um_fine.proofs.Keys.{number-back, number-bound}
use Rattle.um_site.proofs.Sublists.{same_itself, same_sound}
use Rattle.um_tables.specs.Asked.{AsksFor}
use Rattle.um_board.specs.Contents.{Known}
use Rattle.um_board.specs.NextSteps.{seat_name}
use Rattle.um_board.specs.Noted.{packed}
use Rattle.um_board.specs.ReadBack.{fine_at}
use Rattle.um_board.proofs.NextRuns.{local-runs}
use Rattle.um_history.specs.Played.{Each, IsHistoryOf}
use Rattle.um_history.proofs.CellRuns.{is_cell}
use Rattle.um_history.proofs.Granted.{AreAsked, IsAsked, asked-of}
use Rattle.um_history.proofs.Entries.{fine_of, name-back, name_cpu}
use Rattle.um_history.proofs.Lists.{each-keyed, each-map, each-tested, none-mapped, sub-map, sub-none, sub-same}
use Rattle.um_history.proofs.Numbers.{no-site, not-true, numbered-is, number-of-numbered, sites-compare, tests-same}
use Rattle.um_history.proofs.OpeningRuns.{Lasts, OpensWell, SiteKnown, opening-left, opening-runs}
use Rattle.um_history.proofs.SiteRuns.{Ran}

-- both definitions of a sublist give one
pub subs-are : {X : Type 0} (p : X → Bool) (xs : List X) → Runs.sub p xs ≡ sub p xs
subs-are p [] = refl
subs-are p (x ∷ xs) = λ i. cond (p x) (x ∷ subs-are p xs i) (subs-are p xs i)

one-name : (j k : ℕ) → same_name (seat_name j) (seat_name k) ≡ same_cpu j k
one-name zero zero = refl
one-name zero (suc k) = sym (not-true (eqb 0 (suc k)) (λ e. let same = eqb-true 0 (suc k) e in absurd (omega (arith, same))))
one-name (suc j) zero = sym (not-true (eqb (suc j) 0) (λ e. let same = eqb-true (suc j) 0 e in absurd (omega (arith, same))))
one-name (suc j) (suc k) = by (eqb j k) ∙ tests-same (eqb j k) (eqb (suc j) (suc k))
    (λ e. let same = eqb-true j k e in eq-eqb (suc j) (suc k) (omega (arith, same)))
    (λ e. let same = eqb-true (suc j) (suc k) e in eq-eqb j k (omega (arith, same)))
  where
    by : (b : Bool) → (b && true) ≡ b
    by true = refl
    by false = refl

module _ (image : Image) (cpus : ℕ) (words : List ℕ) (history : List Entry) (of : IsHistoryOf image cpus words history) where
  -- the list of all steps
  abbrev pub all : List FineStep
  all = map fine_of history

  long : length words ≡ 309
  long = of.stands.wide ∙ of.opens.count

  -- Every step is a processor's, and its site exists.

  abbrev OfOne : Entry → Type 0
  OfOne e = (k : ℕ) × (k < cpus) × (e.0 ≡ seat_name k)

  names-tested : (n : List ℕ) → Each (λ (e : Entry). e.0 ≡ n) (sub (is_by n) history)
  names-tested n = each-map (λ (e : Entry). is_by n e ≡ true) (λ (e : Entry). e.0 ≡ n) (λ e t. same_sound e.0 n t) (sub (is_by n) history) (each-tested (is_by n) history)

  none-each : (P : Entry → Type 0) (l : List Entry) → l ≡ [] → Each P l
  none-each P l none = subst (Each P) (sym none) tt

  nobody : (n : List ℕ) → by_seat n history ≡ [] → sub (is_by n) history ≡ []
  nobody n none = none-mapped History.made_of (sub (is_by n) history) none

  -- a name is that of a processor, or nothing in the history is under it
  pub names-of : (n : List ℕ) → (sub (is_by n) history ≡ []) ⊎ ((k : ℕ) × (k < cpus) × (n ≡ seat_name k))
  names-of n = ⊎_elim (λ none. inl (nobody n none)) inr (of.owned n)

  owned : (n : List ℕ) → Each OfOne (sub (is_by n) history)
  owned n = ⊎_elim
      (λ none. none-each OfOne (sub (is_by n) history) none)
      (λ k. each-map (λ (e : Entry). e.0 ≡ n) OfOne (λ e is. (k.0, k.1, is ∙ k.2)) (sub (is_by n) history) (names-tested n))
      (names-of n)

  pub all-owned : Each OfOne history
  all-owned = each-keyed is_by (λ (e : Entry). e.0) (λ e. same_itself e.0) OfOne history owned

  abbrev Placed : Entry → Type 0
  Placed e = e.1.site < 309

  pub sites-tested : (i : ℕ) → Each (λ (e : Entry). e.1.site ≡ i) (sub (is_at i) history)
  sites-tested i = each-map (λ (e : Entry). is_at i e ≡ true) (λ (e : Entry). e.1.site ≡ i) (λ e t. eqb-true e.1.site i t) (sub (is_at i) history) (each-tested (is_at i) history)

  placed : (i : ℕ) → Each Placed (sub (is_at i) history)
  placed i = dite (dec_lt i 309)
      (λ near. each-map (λ (e : Entry). e.1.site ≡ i) Placed (λ e is. omega (arith, is, near)) (sub (is_at i) history) (sites-tested i))
      (λ far. none-each Placed (sub (is_at i) history) (none-mapped History.made_of (sub (is_at i) history) (of.stands.inside i (omega (arith, far, long)))))

  pub all-placed : Each Placed history
  all-placed = each-keyed is_at (λ (e : Entry). e.1.site) (λ e. eq-eqb e.1.site e.1.site refl) Placed history placed

  -- The sublists.

  cpu-test : (k : ℕ) (e : Entry) → OfOne e → same_cpu (name_cpu e.0) k ≡ is_by (seat_name k) e
  cpu-test k e (j, less, is) =
      ap (λ (n : List ℕ). same_cpu (name_cpu n) k) is ∙ ap (λ (i : ℕ). same_cpu i k) (name-back j) ∙ sym (one-name j k) ∙ ap (λ (n : List ℕ). same_name n (seat_name k)) (sym is)

  pub cpu-sublist : (k : ℕ) → sublist same_cpu cpu_of k all ≡ map fine_of (sub (is_by (seat_name k)) history)
  cpu-sublist k =
      subs-are (λ (e : FineStep). same_cpu e.cpu k) all
      ∙ sub-map fine_of (λ (e : FineStep). same_cpu e.cpu k) history
      ∙ ap (map fine_of) (sub-same (λ (e : Entry). same_cpu (name_cpu e.0) k) (is_by (seat_name k)) history (each-map OfOne (λ (e : Entry). same_cpu (name_cpu e.0) k ≡ is_by (seat_name k) e) (cpu-test k) history all-owned))

  pub site-sublist : (i : Site) → IsTrue (is_site i) → sublist same_site site_of i all ≡ map fine_of (sub (is_at (site_number i)) history)
  site-sublist i there =
      subs-are (λ (e : FineStep). same_site e.site i) all
      ∙ sub-map fine_of (λ (e : FineStep). same_site e.site i) history
      ∙ ap (map fine_of) (sub-same (λ (e : Entry). same_site (site_numbered e.1.site) i) (is_at (site_number i)) history
      (each-map Placed (λ (e : Entry). same_site (site_numbered e.1.site) i ≡ is_at (site_number i) e) (λ e near. sites-compare i e.1.site there near) history all-placed))

  pub no-sublist : (i : Site) → is_site i ≡ false → sublist same_site site_of i all ≡ []
  no-sublist i none =
      subs-are (λ (e : FineStep). same_site e.site i) all
      ∙ sub-map fine_of (λ (e : FineStep). same_site e.site i) history
      ∙ ap (map fine_of) (sub-none (λ (e : Entry). same_site (site_numbered e.1.site) i) history
      (each-map Placed (λ (e : Entry). same_site (site_numbered e.1.site) i ≡ false) (λ e near. no-site i e.1.site none near) history all-placed))

  -- The processors.

  -- the steps of a processor, as they stand in the list of its seat
  abbrev pub steps_of : ℕ → List FineStep
  steps_of k = map (fine_at k) (by_seat (seat_name k) history)

  under : (k : ℕ) (l : List Entry) → Each (λ (e : Entry). e.0 ≡ seat_name k) l → map fine_of l ≡ map (fine_at k) (map History.made_of l)
  under k [] names = refl
  under k (e ∷ l) names = let first : fine_of e ≡ fine_at k e.1 = ap (λ (n : List ℕ). fine_at (name_cpu n) e.1) names.0 ∙ ap (λ (i : ℕ). fine_at i e.1) (name-back k) in λ i. first i ∷ under k l names.1 i

  pub own-steps : (k : ℕ) → sublist same_cpu cpu_of k all ≡ steps_of k
  own-steps k = cpu-sublist k ∙ under k (sub (is_by (seat_name k)) history) (names-tested (seat_name k))

  pub no-others : (k : ℕ) → cpus ≤ k → sublist same_cpu cpu_of k all ≡ []
  no-others k far = cpu-sublist k ∙ ap (map fine_of) (⊎_elim
      (λ none. none)
      (λ (j, less, is). let same : k ≡ j = sym (name-back k) ∙ ap name_cpu is ∙ name-back j in absurd (omega (arith, same, less, far)))
      (names-of (seat_name k)))

  -- each asks for its steps one after another
  module _ (few : cpus ≤ 8) where
    pub asks : (k : ℕ) → k < cpus → Run (AsksFor k image) (p_next image) idle (steps_of k)
    asks k less = (local-runs image of.opening words history of.stands).run k (omega (arith, less, few))

    pub all-asked : AreAsked image cpus all
    all-asked k = dite (dec_lt k cpus)
        (λ less. subst (Run (IsAsked image cpus) (p_next image) idle) (sym (own-steps k)) (asked-of image cpus k less idle (steps_of k) (asks k less)))
        (λ far. subst (Run (IsAsked image cpus) (p_next image) idle) (sym (no-others k (omega (arith, far)))) tt)

  -- The sites.

  module _ (well : OpensWell image) where
    cell-far : (i : Site) → IsTrue (is_cell i) → 168 ≤ site_number i
    cell-far (Site.row x) cell = absurd (cc)
    cell-far (Site.thread t) cell = absurd (cc)
    cell-far (Site.domain d) cell = absurd (cc)
    cell-far (Site.object x) cell = omega arith
    cell-far (Site.parts d) cell = omega arith
    cell-far Site.memory cell = omega arith
    cell-far Site.heap cell = omega arith
    cell-far Site.scheduler cell = omega arith
    cell-far Site.clock cell = omega arith
    cell-far Site.joins cell = omega arith

    -- the contents that the steps of a cell leave
    abbrev pub LastAt : Site → Type 0
    LastAt i = (last : Known) × Lasts image last i (by_site (site_number i) history)

    pub last-at : (i : Site) → IsTrue (is_site i) → LastAt i
    last-at i there = by (is_cell i) refl
      where
        by : (b : Bool) → is_cell i ≡ b → LastAt i
        by true cell = let (y, (x, first, is, opens, follow)) = of.contents (site_number i) (cell-far i cell) (number-bound i there) in (x, λ c. (x, first, refl, opens, follow))
        by false none = (record { image = image; cell = Cell.parts None }, λ cell. absurd (false≢true (sym none ∙ cell)))

    words-at : (i : Site) → IsTrue (is_site i) → Words (site_number i) (packed (word_of (s_start image i))) (by_site (site_number i) history) (bare (site_number i) (slice_index words (site_number i)))
    words-at i there =
        let n = site_number i in
        let near : n < 309 = number-bound i there in
        let opens : slice_index of.opening n ≡ packed (word_of (s_start image i)) = of.opens.each n near ∙ ap (λ (j : Site). packed (word_of (s_start image j))) (number-back i there) in
        subst (λ (w : ℕ). Words n w (by_site n history) (bare n (slice_index words n))) opens (of.stands.sites n (omega (arith, near, long)))

    pub site-ran : (i : Site) → IsTrue (is_site i) → Ran image (s_start image i) (sublist same_site site_of i all) (bare (site_number i) (slice_index words (site_number i)))
    site-ran i there =
        let n = site_number i in
        let last = last-at i there in
        subst (λ (l : List FineStep). Ran image (s_start image i) l (bare n (slice_index words n))) (sym (site-sublist i there))
        (opening-runs image well i there (sub (is_at n) history) (bare n (slice_index words n)) last.0 (sites-tested n) (words-at i there) last.1)

    -- what stands at a site, whose cell has the contents that its steps leave
    pub site-left : (i : Site) → IsTrue (is_site i) → (last : Known) → Lasts image last i (by_site (site_number i) history) → SiteKnown image last i (state_at same_site site_of (s_next image) (s_start image) all i) []
    site-left i there last lasts =
        let n = site_number i in
        subst (λ (l : List FineStep). SiteKnown image last i (ends (s_next image) (s_start image i) l) []) (sym (site-sublist i there))
        (opening-left image well i there (sub (is_at n) history) (bare n (slice_index words n)) last (sites-tested n) (words-at i there) lasts)

    pub sites-run : (i : Site) → Run (SiteMay image) (s_next image) (s_start image i) (sublist same_site site_of i all)
    sites-run i = by (is_site i) refl
      where
        by : (b : Bool) → is_site i ≡ b → Run (SiteMay image) (s_next image) (s_start image i) (sublist same_site site_of i all)
        by true there = (site-ran i there).run
        by false none = subst (Run (SiteMay image) (s_next image) (s_start image i)) (sym (no-sublist i none)) tt

    pub words-left : (n : ℕ) → n < 309 → packed (word_of (state_at same_site site_of (s_next image) (s_start image) all (site_numbered n))) ≡ bare n (slice_index words n)
    words-left n near =
        (site-ran (site_numbered n) (numbered-is n near)).word ∙ ap (λ (m : ℕ). bare m (slice_index words m)) (number-of-numbered n near)
