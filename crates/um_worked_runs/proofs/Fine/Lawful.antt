-- What the evaluation makes of a list of processors is a fine run.
use Rattle.std.proofs.Common.{◌≡◌, ℕ, zero, suc, ◌<◌, Bool, true, false, cond, List, [], ◌∷◌, ◌++◌, length, Option, Some, None, refl, sym, ap, ◌∙◌, subst, append_assoc, append-nil, arith, eq-eqb}
use Rattle.std.specs.Prelude.{◌==◌, ◌&&◌, nat_lt, IsTrue, slice_index_or, slice_set}
use Rattle.std.specs.List.{range_with_len}
use Rattle.std.proofs.lemmas.Bool.{and_parts, eqb-true, true≢false, ltb-true}
use Rattle.std.proofs.lemmas.List.{get_or-replicate, length-map, length-replicate}
use Rattle.std.proofs.lemmas.List.FromFn.{get_or-map-range_with_len, length-range_with_len}
use Rattle.um_base.specs.declared.image.Image.{Image}
use Rattle.um_words.specs.declared.fine.FineAct.{FineAct}
use Rattle.um_fine.specs.Steps.{Exchange, FineStep, Site}
use Rattle.um_fine.specs.Sites.{SiteMay, SiteState, is_site, s_next, same_site, site_moves, site_number, site_numbered}
use Rattle.um_fine.specs.Cells.{Cell}
use Rattle.um_fine.specs.Opening.{s_start}
use Rattle.um_fine.specs.Places.{Todo, Todos}
use Rattle.um_fine.specs.Processor.{Processor, idle}
use Rattle.um_fine.specs.Asks.{CpuMay, moves, says, site_at}
use Rattle.um_fine.specs.Follows.{p_next}
use Rattle.um_fine.specs.Runs.{state_at}
use Rattle.um_fine.specs.FineRun.{ByOneOf, IsFineRun, cpu_of, p_start, same_cpu, site_of}
use Rattle.um_fine.proofs.FineRuns.{runs_push, state_push}
use Rattle.um_fine.proofs.Keys.{number-back, number-bound, number-sound, same-itself, same-sound}
use Rattle.um_fine.proofs.Made.{IsApart, IsSettled, asks-lawfully}
use Rattle.um_worked_runs.specs.Fine.Evaluate.{Board, SITES, alone, alone_by, asked, due_seed, fine_course, fine_course_by, first_of, is_apart, looks_rightly, may, next_at, next_by, next_made, no_site, only_there, opening_board, or_else, processor_in, running_in, seeds, site_in, stepped, tends, tick_seed, ticks_if}
use Rattle.um_worked_runs.proofs.Fine.Indices.{written-else, written-here, written-length}

module _ (image : Image) where
  -- an edit that was asked for has the partitions that stand, and nobody is looked for at the scheduler
  apart : (p : Processor) (s : SiteState) → IsTrue (is_apart image s) → IsApart image p s
  apart p (SiteState.cell n (Cell.scheduler x)) h = absurd (true≢false (sym h))
  apart p (SiteState.cell n (Cell.object o)) h = tt
  apart p (SiteState.cell n (Cell.parts d)) h = tt
  apart p (SiteState.cell n (Cell.memory m)) h = tt
  apart p (SiteState.cell n (Cell.heap x)) h = tt
  apart p (SiteState.cell n (Cell.clock c)) h = tt
  apart p (SiteState.cell n (Cell.joins j)) h = tt
  apart p (SiteState.row w) h = tt
  apart p (SiteState.thread w) h = tt
  apart p (SiteState.domain w) h = tt

  settled : (p : Processor) (todo : Todos) (s : SiteState) (act : FineAct) (moved : Exchange) → IsTrue (looks_rightly image todo s)
      → IsSettled image p todo s (site_moves image s (says image p todo act moved) (moves image p todo act moved))
  settled p (Todo.edit d q ∷ todo) (SiteState.cell n (Cell.parts parts)) act moved h = refl
  settled p (Todo.look who site before ∷ todo) s act moved h = apart p s h
  settled p (Todo.handle deadline mark ∷ todo) s act moved h = apart p s h
  settled p todo s act moved h = tt

  -- a step of the k-th processor, which runs p, at a site with this state
  abbrev IsStep : ℕ → Processor → Site → SiteState → Option FineStep → Type 0
  IsStep k p i s None = Unit {0}
  IsStep k p i s (Some e) = (e.cpu ≡ k) × (e.site ≡ i) × CpuMay image p e × SiteMay image s e

  abbrev AllOf : ℕ → List FineStep → Type 0
  AllOf k [] = Unit {0}
  AllOf k (e ∷ es) = (e.cpu ≡ k) × AllOf k es

  one-sound : (k : ℕ) (p : Processor) (i : Site) (s : SiteState) (e : FineStep) (other : Option FineStep) (b : Bool) → e.cpu ≡ k
      → may image p i s (asked image p s (asked image p s e)) ≡ b → IsStep k p i s other
      → IsStep k p i s (elim b as (λ _. Option FineStep) [ true ↦ Some (asked image p s (asked image p s e)) | false ↦ other ])
  one-sound k p i s e other true cpu h rest =
      let parts = and_parts _ _ h in
      let there = and_parts _ _ parts.1 in
      let looks = and_parts _ _ there.1 in
      let both = and_parts _ _ looks.1 in
      let lawful = asks-lawfully image p s (asked image p s e) there.0 (settled p p.todo s e.act e.moved looks.0) both.0 both.1 in
      (cpu, same-sound _ i parts.0, lawful.0, lawful.1)
  one-sound k p i s e other false cpu h rest = rest

  first-sound : (k : ℕ) (p : Processor) (i : Site) (s : SiteState) (es : List FineStep) → AllOf k es → IsStep k p i s (first_of image p i s es)
  first-sound k p i s [] all = tt
  first-sound k p i s (e ∷ es) all =
      one-sound k p i s e (first_of image p i s es) (may image p i s (asked image p s (asked image p s e))) all.0 refl (first-sound k p i s es all.1)

  -- what stands on a board is what the steps so far have left
  record Stands (cpus : ℕ) (b : Board) (h : List FineStep) : Type 0 where
    processors : length b.processors ≡ cpus
    sites : length b.sites ≡ SITES
    each : (k : ℕ) → k < cpus → processor_in b k ≡ state_at same_cpu cpu_of (p_next image) p_start h k
    every : (i : Site) → IsTrue (is_site i) → site_in b i ≡ state_at same_site site_of (s_next image) (s_start image) h i
    runs : IsFineRun image cpus h

  -- a step that the evaluation found
  record Found (cpus : ℕ) (b : Board) (e : FineStep) : Type 0 where
    cpu : e.cpu < cpus
    site : IsTrue (is_site e.site)
    made : CpuMay image (processor_in b e.cpu) e
    taken : SiteMay image (site_in b e.site) e

  -- what the evaluation finds for the k-th processor is a step of it, at a site that there is
  abbrev IsMade : Board → ℕ → Option FineStep → Type 0
  IsMade b k None = Unit {0}
  IsMade b k (Some e) = (e.cpu ≡ k) × IsTrue (is_site e.site) × CpuMay image (processor_in b k) e × SiteMay image (site_in b e.site) e

  at-there : (b : Board) (k : ℕ) (i : Site) (made : Option FineStep) → IsTrue (is_site i) → IsStep k (processor_in b k) i (site_in b i) made → IsMade b k made
  at-there b k i None there step = tt
  at-there b k i (Some e) there step =
      (step.0, subst (λ j. IsTrue (is_site j)) (sym step.1) there, step.2, subst (λ j. SiteMay image (site_in b j) e) (sym step.1) step.3)

  at-sound : (b : Board) (k : ℕ) (es : List FineStep) (i : Site) → AllOf k es → IsMade b k (next_at image b k es i)
  at-sound b k es i all = by (is_site i) refl
    where
      by : (there : Bool) → is_site i ≡ there → IsMade b k (only_there image there (first_of image (processor_in b k) i (site_in b i) es))
      by true h = at-there b k i (first_of image (processor_in b k) i (site_in b i) es) h (first-sound k (processor_in b k) i (site_in b i) es all)
      by false h = tt

  else-sound : (b : Board) (k : ℕ) (made other : Option FineStep) → IsMade b k made → IsMade b k other → IsMade b k (or_else image made other)
  else-sound b k (Some e) other h g = h
  else-sound b k None other h g = g

  seeds-of : (k : ℕ) → AllOf k (seeds k)
  seeds-of k = (refl, (refl, (refl, (refl, tt))))

  ticks-sound : (b : Board) (k n : ℕ) → IsMade b k (ticks_if image b k n)
  ticks-sound b k zero = at-sound b k (tick_seed k ∷ []) Site.clock (refl, tt)
  ticks-sound b k (suc n) = tt

  next-sound : (b : Board) (k : ℕ) (todo : Todos) → IsMade b k (next_by image b k todo)
  next-sound b k [] =
      else-sound b k (next_at image b k (seeds k) Site.scheduler) (tends image b k) (at-sound b k (seeds k) Site.scheduler (seeds-of k))
      (else-sound b k (next_at image b k (due_seed k ∷ []) Site.clock) (ticks_if image b k (running_in image b)) (at-sound b k (due_seed k ∷ []) Site.clock (refl, tt))
      (ticks-sound b k (running_in image b)))
  next-sound b k (q ∷ todo) = at-sound b k (seeds k) (site_at image (processor_in b k) (q ∷ todo)) (seeds-of k)

  found : (cpus : ℕ) (b : Board) (k : ℕ) (e : FineStep) → length b.processors ≡ cpus → next_made image b k ≡ Some e → Found cpus b e
  found cpus b k e long at = by (nat_lt k (length b.processors)) refl at
    where
      by : (there : Bool) → nat_lt k (length b.processors) ≡ there → only_there image there (next_by image b k (processor_in b k).todo) ≡ Some e → Found cpus b e
      by true h same =
          let step = subst (IsMade b k) same (next-sound b k (processor_in b k).todo) in
          record {
            cpu = subst (λ n. n < cpus) (sym step.0) (subst (λ n. k < n) long (ltb-true _ _ h));
            site = step.1;
            made = subst (λ n. CpuMay image (processor_in b n) e) (sym step.0) step.2;
            taken = step.3;
          }
      by false h same = absurd (none-some same)
        where
          none-some : None ≡ Some e → ⊥
          none-some q = subst is-none q tt
            where
              is-none : Option FineStep → Type 0
              is-none None = Unit {0}
              is-none (Some x) = ⊥

  module _ (cpus : ℕ) (b : Board) (h : List FineStep) (e : FineStep) (was : Stands cpus b h) (now : Found cpus b e) where
    processor : ℕ → Processor
    processor k = state_at same_cpu cpu_of (p_next image) p_start h k

    site : Site → SiteState
    site i = state_at same_site site_of (s_next image) (s_start image) h i

    each-next : (k : ℕ) (same : Bool) → (e.cpu == k) ≡ same → k < cpus → processor_in (stepped image b e) k ≡ cond same (p_next image (processor k) e) (processor k)
    unfolding processor
    each-next k true q l =
        subst (λ (j : ℕ). slice_index_or (slice_set b.processors e.cpu (p_next image (processor_in b e.cpu) e)) j idle ≡ p_next image (processor j) e) (eqb-true e.cpu k q)
        (written-here b.processors e.cpu (p_next image (processor_in b e.cpu) e) idle (subst (λ n. e.cpu < n) (sym was.processors) now.cpu)
        ∙ ap (λ p. p_next image p e) (was.each e.cpu now.cpu))
    each-next k false q l =
        written-else b.processors e.cpu k (p_next image (processor_in b e.cpu) e) idle (λ eq. true≢false (sym (eq-eqb e.cpu k (sym eq)) ∙ q)) ∙ was.each k l

    every-next : (i : Site) (same : Bool) → same_site e.site i ≡ same → IsTrue (is_site i) → site_in (stepped image b e) i ≡ cond same (s_next image (site i) e) (site i)
    unfolding site
    every-next i true q there =
        subst (λ (j : Site). slice_index_or (slice_set b.sites (site_number e.site) (s_next image (site_in b e.site) e)) (site_number j) no_site ≡ s_next image (site j) e) (same-sound e.site i q)
        (written-here b.sites (site_number e.site) (s_next image (site_in b e.site) e) no_site
        (subst (λ n. site_number e.site < n) (sym was.sites) (number-bound e.site now.site))
        ∙ ap (λ s. s_next image s e) (was.every e.site now.site))
    every-next i false q there =
        written-else b.sites (site_number e.site) (site_number i) (s_next image (site_in b e.site) e) no_site
        (λ eq. true≢false (sym (subst (λ (j : Site). same_site e.site j ≡ true) (sym (number-sound i e.site there now.site eq)) (same-itself e.site)) ∙ q))
        ∙ was.every i there

    stands-next : Stands cpus (stepped image b e) (h ++ e ∷ [])
    unfolding processor site
    stands-next =
        record {
          processors = written-length b.processors e.cpu (p_next image (processor_in b e.cpu) e) ∙ was.processors;
          sites = written-length b.sites (site_number e.site) (s_next image (site_in b e.site) e) ∙ was.sites;
          each = λ k l. each-next k (e.cpu == k) refl l
              ∙ sym (state_push same_cpu (λ j. eq-eqb j j refl) (λ j k q. eqb-true j k q) cpu_of (ByOneOf image cpus) (p_next image) p_start h e k);
          every = λ i there. every-next i (same_site e.site i) refl there
              ∙ sym (state_push same_site same-itself same-sound site_of (SiteMay image) (s_next image) (s_start image) h e i);
          runs = record {
            processors = runs_push same_cpu (λ j. eq-eqb j j refl) (λ j k q. eqb-true j k q) cpu_of (ByOneOf image cpus) (p_next image) p_start h e was.runs.processors
                (record { may = subst (λ (p : Processor). CpuMay image p e) (was.each e.cpu now.cpu) now.made; named = now.cpu });
            sites = runs_push same_site same-itself same-sound site_of (SiteMay image) (s_next image) (s_start image) h e was.runs.sites
                (subst (λ (s : SiteState). SiteMay image s e) (was.every e.site now.site) now.taken);
          };
        }

  stands-first : (cpus : ℕ) → Stands cpus (opening_board image cpus) []
  stands-first cpus =
      record {
        processors = length-replicate cpus idle;
        sites = length-map (range_with_len 0 SITES) (λ n. s_start image (site_numbered n)) ∙ length-range_with_len 0 SITES;
        each = λ k l. get_or-replicate cpus k idle idle l;
        every = λ i there. get_or-map-range_with_len (λ n. s_start image (site_numbered n)) 0 SITES (site_number i) (site_number i) no_site (number-bound i there) (omega arith)
            ∙ ap (s_start image) (number-back i there);
        runs = record { processors = λ k. tt; sites = λ i. tt };
      }

  ends-here : (cpus : ℕ) (b : Board) (h : List FineStep) → Stands cpus b h → IsFineRun image cpus (h ++ [])
  ends-here cpus b h was = subst (IsFineRun image cpus) (sym (append-nil h)) was.runs

  course-from : (cpus : ℕ) (ks : List ℕ) (b : Board) (h : List FineStep) → Stands cpus b h → IsFineRun image cpus (h ++ (fine_course image ks b).made)
  course-from cpus [] b h was = ends-here cpus b h was
  course-from cpus (k ∷ ks) b h was = by (next_made image b k) refl (λ c g. course-from cpus ks c g)
    where
      by : (made : Option FineStep) → next_made image b k ≡ made
          → ((c : Board) (g : List FineStep) → Stands cpus c g → IsFineRun image cpus (g ++ (fine_course image ks c).made))
          → IsFineRun image cpus (h ++ (fine_course_by image b (fine_course image ks) made).made)
      by None at more = ends-here cpus b h was
      by (Some e) at more =
          subst (IsFineRun image cpus) (append_assoc h (e ∷ []) (fine_course image ks (stepped image b e)).made)
          (more (stepped image b e) (h ++ e ∷ []) (stands-next cpus b h e was (found cpus b k e was.processors at)))

  -- the steps that these processors make, one after another, are a fine run
  pub course-runs : (cpus : ℕ) (ks : List ℕ) → IsFineRun image cpus (fine_course image ks (opening_board image cpus)).made
  course-runs cpus ks = course-from cpus ks (opening_board image cpus) [] (stands-first cpus)

  alone-from : (cpus n : ℕ) (b : Board) (h : List FineStep) → Stands cpus b h → IsFineRun image cpus (h ++ (alone image n b).made)
  alone-from cpus zero b h was = ends-here cpus b h was
  alone-from cpus (suc n) b h was = by (next_made image b 0) refl (λ c g. alone-from cpus n c g)
    where
      by : (made : Option FineStep) → next_made image b 0 ≡ made
          → ((c : Board) (g : List FineStep) → Stands cpus c g → IsFineRun image cpus (g ++ (alone image n c).made))
          → IsFineRun image cpus (h ++ (alone_by image b (alone image n) made).made)
      by None at more = ends-here cpus b h was
      by (Some e) at more =
          subst (IsFineRun image cpus) (append_assoc h (e ∷ []) (alone image n (stepped image b e)).made)
          (more (stepped image b e) (h ++ e ∷ []) (stands-next cpus b h e was (found cpus b 0 e was.processors at)))

  -- and so are those that one processor makes alone
  pub alone-runs : (n : ℕ) → IsFineRun image 1 (alone image n (opening_board image 1)).made
  alone-runs n = alone-from 1 n (opening_board image 1) [] (stands-first 1)
