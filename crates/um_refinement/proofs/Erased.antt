-- Where each fine step keeps the relation with a state that a run reaches, the events that a fine run shows are a run of the access-matrix
-- machine, whose last state is related to what the fine run leaves.
use Rattle.um_refinement.proofs.Words.{◌≡◌, ℕ, List, [], ◌∷◌, ◌++◌, refl, sym, ap, subst, eq-eqb, eqb-true, Event, Image, Runs, opening, State, FineAct, Site, FineStep, SiteMay, SiteState, s_next, same_site, s_start, Processor, p_next, state_at, ByOneOf, IsFineRun, cpu_of, p_start, same_cpu, site_of, shown, same-itself, same-sound, Fine, Rel, append-nil, Step, shown_by, Along, along, nothing, then}
use Rattle.um_fine.specs.Runs.{changed}

-- what an act is to the access-matrix machine: the step of its event, or nothing
abbrev pub GoesBy : State → FineAct → State → Type 0
GoesBy m (FineAct.Shown event more) m2 = Step m event m2
GoesBy m (FineAct.Unseen unseen) m2 = m2 ≡ m

abbrev pub Goes : State → FineStep → State → Type 0
Goes m e m2 = GoesBy m e.act m2

-- runs, one after another
runs-append : (s mid s2 : State) (xs ys : List Event) → Runs s xs mid → Runs mid ys s2 → Runs s (xs ++ ys) s2
runs-append s mid s2 [] ys r q = subst (λ (z : State). Runs z ys s2) r q
runs-append s mid s2 (x ∷ xs) ys r q = (r.0, r.1, runs-append r.0 mid s2 xs ys r.2 q)

shown-more : (act : FineAct) (xs ys zs : List Event) → xs ≡ ys ++ zs → shown_by act xs ≡ shown_by act ys ++ zs
shown-more (FineAct.Shown event more) xs ys zs e = ap (λ l. event ∷ l) e
shown-more (FineAct.Unseen unseen) xs ys zs e = e

pub shown-append : (h g : List FineStep) → shown (h ++ g) ≡ shown h ++ shown g
shown-append [] g = refl
shown-append (e ∷ h) g = shown-more e.act (shown (h ++ g)) (shown h) (shown g) (shown-append h g)

-- what goes along a list of fine steps is a run of what it shows
one-shown : (s m m2 : State) (h : List FineStep) (act : FineAct) → Runs s (shown h) m → GoesBy m act m2 → Runs s (shown h ++ shown_by act []) m2
one-shown s m m2 h (FineAct.Shown event more) r q = runs-append s m m2 (shown h) (event ∷ []) r (m2, q, refl)
one-shown s m m2 h (FineAct.Unseen unseen) r q =
    subst (λ (z : State). Runs s (shown h ++ []) z) (sym q) (subst (λ (l : List Event). Runs s l m) (sym (append-nil (shown h))) r)

pub along-runs : (s m : State) (h : List FineStep) → Along Goes s h m → Runs s (shown h) m
along-runs s m _ nothing = refl
along-runs s m2 _ (then {h} {e} {m} a g) =
    subst (λ (l : List Event). Runs s l m2) (sym (shown-append h (e ∷ []))) (one-shown s m m2 h e.act (along-runs s m h a) g)

module _ (image : Image) (cpus : ℕ) where
  -- processors and sites as a fine run has them
  abbrev pub fine : (ℕ → Processor) → (Site → SiteState) → Fine
  fine ps ss = record { image = image; cpus = cpus; processors = ps; sites = ss }

  -- and after one more step
  abbrev pub stepped : (ℕ → Processor) → (Site → SiteState) → FineStep → Fine
  stepped ps ss e = fine (changed same_cpu cpu_of (p_next image) ps e) (changed same_site site_of (s_next image) ss e)

  -- a run of the access-matrix machine reaches this state
  abbrev pub IsReachable : State → Type 0
  IsReachable m = (events : List Event) × Runs (opening image) events m

  pub reach-on : (m m2 : State) (act : FineAct) → IsReachable m → GoesBy m act m2 → IsReachable m2
  reach-on m m2 (FineAct.Shown event more) r q = (r.0 ++ event ∷ [], runs-append (opening image) m m2 r.0 (event ∷ []) r.1 (m2, q, refl))
  reach-on m m2 (FineAct.Unseen unseen) r q = subst IsReachable (sym q) r

  -- each lawful step keeps the relation with a state that a run reaches
  abbrev pub Keeps : Type 0
  Keeps =
      (ps : ℕ → Processor) (ss : Site → SiteState) (m : State) (e : FineStep) → Rel (fine ps ss) m → IsReachable m
      → ByOneOf image cpus (ps (cpu_of e)) e → SiteMay image (ss (site_of e)) e → (m2 : State) × Goes m e m2 × Rel (stepped ps ss e) m2

  pub erased : Rel (fine p_start (s_start image)) (opening image) → Keeps → (h : List FineStep) → IsFineRun image cpus h
      → (m : State) × Runs (opening image) (shown h) m
      × Rel (fine (state_at same_cpu cpu_of (p_next image) p_start h) (state_at same_site site_of (s_next image) (s_start image) h)) m
  erased opens keeps h run =
      let a = along same_cpu (λ k. eq-eqb k k refl) (λ j k q. eqb-true j k q) same_site same-itself same-sound cpu_of site_of
      (ByOneOf image cpus) (p_next image) p_start (SiteMay image) (s_next image) (s_start image)
      Goes (opening image) (λ ps ss m. Rel (fine ps ss) m × IsReachable m) (opens, ([], refl))
      (λ ps ss m e related by may. let next = keeps ps ss m e related.0 related.1 by may in (next.0, next.1, (next.2, reach-on m next.0 e.act related.1 next.1)))
      h run.processors run.sites in
      (a.0, along-runs (opening image) a.0 h a.1, a.2.0)

-- what there is after a step
abbrev pub later : Fine → FineStep → Fine
later f e = stepped f.image f.cpus f.processors f.sites e

-- a step: what there is after it, and the processor that makes it, before it and now
pub record Around : Type 0 where
  pub later : Fine
  pub processor : Processor
  pub now : Processor

abbrev pub around : Fine → FineStep → Around
around f e = record { later = stepped f.image f.cpus f.processors f.sites e; processor = f.processors e.cpu; now = p_next f.image (f.processors e.cpu) e }
