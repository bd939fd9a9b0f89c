-- A core goes on: a step that one of its processors asks for and that its tables make may follow, and leaves the core as the longer run
-- does.
use Rattle.std.proofs.Common.{◌≡◌, ℕ, zero, suc, ◌<◌, Bool, true, false, cond, List, [], ◌∷◌, ◌++◌, length, refl, sym, ap, ◌∙◌, subst, arith, append_assoc, eq-eqb}
use Rattle.std.specs.Prelude.{◌==◌, IsTrue, replicate, slice_index_or, slice_set}
use Rattle.std.proofs.lemmas.Bool.{eqb-false, eqb-true}
use Rattle.std.proofs.lemmas.List.{get_or-set_other, get_or-set_same, length-set}
use Rattle.um_base.specs.declared.act.Event.{Event}
use Rattle.um_base.specs.declared.image.Image.{Image}
use Rattle.um_invariants.specs.Described.{IsDescribed}
use Rattle.um_words.specs.declared.fine.FineAct.{FineAct}
use Rattle.um_fine.specs.Asks.{made_by}
use Rattle.um_fine.specs.Erasure.{shown, shown_by}
use Rattle.um_fine.specs.FineRun.{ByOneOf, cpu_of, p_start, same_cpu, site_of}
use Rattle.um_fine.specs.Follows.{p_next}
use Rattle.um_fine.specs.Opening.{s_start}
use Rattle.um_fine.specs.Processor.{Processor, idle}
use Rattle.um_fine.specs.Sites.{SiteMay, SiteState, is_site, is_sort, s_next, same_site}
use Rattle.um_fine.specs.Steps.{FineStep, Site}
use Rattle.um_fine.proofs.FineRuns.{state_push}
use Rattle.um_fine.proofs.Keys.{same-itself, same-sound}
use Rattle.um_refinement.specs.Room.{CanRun}
use Rattle.um_processor.specs.Wants.{Wants, wants_step}
use Rattle.um_tables.specs.Sited.{IsSized, Sited, WasMade, noted, state_at, with_state}
use Rattle.um_tables.proofs.Noted.{made-log}
use Rattle.um_core.specs.Cores.{Core, Stands}
use Rattle.um_core.specs.PickedRun.{MayFollow, processor_after, site_after}
use Rattle.um_core.proofs.MomentsKnown.{asked-may, site-there}
use Rattle.um_core.proofs.OneRun.{fine-more}
use Rattle.um_core.proofs.OneStep.{wants-fit}
use Rattle.um_core.proofs.SitesSet.{logged-more, noted-at, noted-sized, set-else, set-here, set-sized}
use Rattle.um_core.proofs.Sorts.{sorts-after}

-- what is shown of one step more
shown-by-more : (act : FineAct) (xs : List Event) → shown_by act xs ≡ shown_by act [] ++ xs
shown-by-more (FineAct.Shown event more) xs = refl
shown-by-more (FineAct.Unseen unseen) xs = refl

shown-more : (done : List FineStep) (e : FineStep) → shown (done ++ e ∷ []) ≡ shown done ++ shown_by e.act []
shown-more [] e = refl
shown-more (x ∷ done) e =
    shown-by-more x.act (shown (done ++ e ∷ []))
    ∙ (ap (λ events. shown_by x.act [] ++ events) (shown-more done e)
    ∙ (sym (append_assoc (shown_by x.act []) (shown done) (shown_by e.act [])) ∙ ap (λ events. events ++ shown_by e.act []) (sym (shown-by-more x.act (shown done)))))

-- what one step more leaves
module _ (image : Image) (done : List FineStep) (e : FineStep) where
  processor-more : (k : ℕ) → processor_after image (done ++ e ∷ []) k ≡ cond (e.cpu == k) (p_next image (processor_after image done k) e) (processor_after image done k)
  processor-more k = state_push same_cpu (λ k. eq-eqb k k refl) (λ j k h. eqb-true j k h) cpu_of (λ p (x : FineStep). Unit {0}) (p_next image) p_start done e k

  site-more : (i : Site) → site_after image (done ++ e ∷ []) i ≡ cond (same_site e.site i) (s_next image (site_after image done i) e) (site_after image done i)
  site-more i = state_push same_site same-itself same-sound site_of (λ s (x : FineStep). Unit {0}) (s_next image) (s_start image) done e i

-- a core stands at the opening, with processors that have no thread
idle-at : (n k : ℕ) → slice_index_or (replicate n idle) k idle ≡ idle
idle-at zero k = refl
idle-at (suc n) zero = refl
idle-at (suc n) (suc k) = idle-at n k

idle-long : (n : ℕ) → length (replicate n idle) ≡ n
idle-long zero = refl
idle-long (suc n) = ap suc (idle-long n)

pub stands-first : (image : Image) (cpus : ℕ) (sites : Sited) → ((i : Site) → IsTrue (is_site i) → state_at sites i ≡ s_start image i) → IsSized sites → sites.log ≡ []
    → Stands image cpus [] (record { sites = sites; processors = replicate cpus idle })
stands-first image cpus sites at sized none =
    record { run = record { processors = λ k. tt; sites = λ i. tt }; at = at; processors = λ k l. idle-at cpus k; count = idle-long cpus; sized = sized; log = none }

module _ (image : Image) (cpus : ℕ) (described : IsDescribed image) (can : CanRun image cpus) (done : List FineStep) (core : Core) (stands : Stands image cpus done core)
    (k : ℕ) (l : k < cpus) (e : FineStep) (asks : Wants k image (slice_index_or core.processors k idle) e) (sites : Sited) (made : WasMade image core.sites e sites) where
  abbrev p : Processor
  p = slice_index_or core.processors k idle

  is-p : p ≡ processor_after image done k
  is-p = stands.processors k l

  makes-here : made_by image (processor_after image done k) e ≡ e
  makes-here = subst (λ (q : Processor). made_by image q e ≡ e) is-p asks.makes

  there : IsTrue (is_site e.site)
  there = subst (λ i. IsTrue (is_site i)) (ap (λ (x : FineStep). x.site) makes-here) (site-there image cpus described can done stands.run k l e.act)

  stood : state_at core.sites e.site ≡ site_after image done e.site
  stood = stands.at e.site there

  taken : SiteMay image (site_after image done e.site) e
  taken = subst (λ (s : SiteState). SiteMay image s e) stood made.may

  pub follows : MayFollow image cpus done e
  follows =
      let lawful = asked-may image cpus described can done stands.run k l e makes-here (wants-fit image (processor_after image done k) (processor_after image done k).todo e (subst (λ (q : Processor). IsTrue (wants_step image q q.todo e)) is-p asks.fit)) taken in
      record {
        makes = subst (λ j. ByOneOf image cpus (processor_after image done j) e) (sym asks.maker) (record { may = lawful; named = subst (λ n. n < cpus) (sym asks.maker) l });
        takes = taken;
      }

  -- the core after the step
  abbrev pub moved : Core
  moved = record { sites = sites; processors = slice_set core.processors k (p_next image p e) }

  -- the state that the step leaves
  abbrev left : SiteState
  left = s_next image (state_at core.sites e.site) e

  left-is : left ≡ site_after image (done ++ e ∷ []) e.site
  left-is = ap (λ (s : SiteState). s_next image s e) stood
      ∙ sym (site-more image done e e.site ∙ ap (λ b. cond b (s_next image (site_after image done e.site) e) (site_after image done e.site)) (same-itself e.site))

  sort : IsTrue (is_sort e.site left)
  sort = subst (λ (s : SiteState). IsTrue (is_sort e.site s)) (sym left-is) (sorts-after image (done ++ e ∷ []) e.site)

  at : (i : Site) → IsTrue (is_site i) → state_at sites i ≡ site_after image (done ++ e ∷ []) i
  at i named = ap (λ (s : Sited). state_at s i) made.leaves ∙ by (same_site e.site i) refl
    where
      by : (b : Bool) → same_site e.site i ≡ b → state_at (with_state (noted core.sites e) e.site left) i ≡ site_after image (done ++ e ∷ []) i
      by true h =
          subst (λ j. state_at (with_state (noted core.sites e) e.site left) j ≡ site_after image (done ++ e ∷ []) j) (same-sound e.site i h)
          (set-here (noted core.sites e) (noted-sized core.sites e stands.sized) e.site left there sort ∙ left-is)
      by false h =
          set-else (noted core.sites e) e.site left i sort h
          ∙ (noted-at core.sites e i ∙ stands.at i named ∙ sym (site-more image done e i ∙ ap (λ b. cond b (s_next image (site_after image done i) e) (site_after image done i)) h))

  processors : (j : ℕ) → j < cpus → slice_index_or moved.processors j idle ≡ processor_after image (done ++ e ∷ []) j
  processors j few = by (e.cpu == j) refl
    where
      count : k < length core.processors
      count = let many = stands.count in omega (arith, many, l)

      more : (b : Bool) → (e.cpu == j) ≡ b → processor_after image (done ++ e ∷ []) j ≡ cond b (p_next image (processor_after image done j) e) (processor_after image done j)
      more b h = processor-more image done e j ∙ ap (λ b. cond b (p_next image (processor_after image done j) e) (processor_after image done j)) h

      by : (b : Bool) → (e.cpu == j) ≡ b → slice_index_or moved.processors j idle ≡ processor_after image (done ++ e ∷ []) j
      by true h =
          let is : k ≡ j = sym asks.maker ∙ eqb-true e.cpu j h in
          ap (λ n. slice_index_or moved.processors n idle) (sym is)
          ∙ (get_or-set_same core.processors k (p_next image p e) idle count
          ∙ (ap (λ (q : Processor). p_next image q e) is-p
          ∙ (ap (λ n. p_next image (processor_after image done n) e) is ∙ sym (more true h))))
      by false h =
          get_or-set_other core.processors k j (p_next image p e) idle (λ is. eqb-false e.cpu j h (asks.maker ∙ sym is))
          ∙ (stands.processors j few ∙ sym (more false h))

  pub steps-on : Stands image cpus (done ++ e ∷ []) moved
  steps-on =
      record {
        run = fine-more image cpus done e stands.run follows;
        at = at;
        processors = processors;
        count = length-set core.processors k (p_next image p e) ∙ stands.count;
        sized = subst IsSized (sym made.leaves) (set-sized (noted core.sites e) e.site left sort (noted-sized core.sites e stands.sized));
        log = made-log image core.sites e sites made ∙ (logged-more core.sites.log e.act ∙ (ap (λ xs. xs ++ shown_by e.act []) stands.log ∙ sym (shown-more done e)));
      }
