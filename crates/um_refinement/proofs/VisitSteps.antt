-- What a processor's visit of a row makes is that step of the machine, where the relation holds: an inherited permission, and a
-- permission that a thread's end drops.
use Rattle.um_refinement.proofs.Words.{runs, true, waits, ◌≡◌, ℕ, ◌<◌, Bool, false, List, ◌∷◌, refl, sym, ap, ◌∙◌, subst, not, if◌then◌else◌, IsTrue, slice_index_or, and_parts, Act, Image, ROWS, own_row, Pending, Thread, Steps, to_thread, goes, State, pair_at, FineAct, Unseen, has, address_of, is_visit, FineStep, Site, SiteMay, SiteState, site_takes, Todo, Todos, CpuMay, by_me, says, site_at, Fine, row, Fits, Passes, IsRun, Rel}
use Rattle.um_machine.specs.Table as T
use Rattle.um_refinement.proofs.StepsLeft.{passes-on}
use Rattle.um_refinement.proofs.Erased.{Goes, GoesBy}
use Rattle.um_fine.specs.Asks.{site_by}
use Rattle.um_refinement.specs.Timing.{IsHand}
use Rattle.um_refinement.proofs.Offered.{own-unless, runs-first}
use Rattle.um_refinement.proofs.RowSteps.{row-stands}

-- a permission that the word has is one of the machine's pairs
pub pair-is : (f : Fine) (m : State) → Rel f m → (x t : ℕ) → x < ROWS → has (row f x) t ≡ pair_at m t x
pair-is f m rel x t few = ap (λ (l : List Bool). slice_index_or l t false) (rel.rows x few).pairs.pairs

-- A processor's visit of a row that makes an event: what is known of it, where the relation holds.
pub record Visits (f : Fine) (m : State) (k : ℕ) (e : FineStep) (x : ℕ) (step : Todo) (todo : Todos) : Type 0 where
  pub rel : Rel f m
  pub there : k < f.cpus
  pub at : (f.processors k).todo ≡ step ∷ todo
  pub few : x < ROWS
  pub may : CpuMay f.image (f.processors k) e
  pub taken : SiteMay f.image (f.sites e.site) e
  pub shown : is_visit e.act ≡ false

module _ {f : Fine} {m : State} {k : ℕ} {e : FineStep} {x : ℕ} {step : Todo} {todo : Todos} (h : Visits f m k e x step todo) where
  pub visit-site : e.site ≡ site_at f.image (f.processors k) (step ∷ todo)
  visit-site = sym (ap (λ (s : FineStep). s.site) h.may.makes) ∙ ap (λ (z : Todos). site_by f.image (f.processors k) z e.act) h.at

  pub visit-act : e.act ≡ says f.image (f.processors k) (step ∷ todo) e.act e.moved
  visit-act = sym (ap (λ (s : FineStep). s.act) h.may.makes) ∙ ap (λ (z : Todos). says f.image (f.processors k) z e.act e.moved) h.at

  -- the event, and not a look
  pub visit-shows : (act : Act) → e.act ≡ (if is_visit e.act then FineAct.Unseen Unseen.Visit else by_me f.image (f.processors k) act)
      → e.act ≡ by_me f.image (f.processors k) act
  visit-shows act said = said ∙ ap (λ b. if b then FineAct.Unseen Unseen.Visit else by_me f.image (f.processors k) act) h.shown

  visit-takes : (act : FineAct) → e.site ≡ Site.row x → e.act ≡ act → IsTrue (site_takes (SiteState.row (row f x)) act)
  visit-takes act site said =
      subst (λ (s : SiteState). IsTrue (site_takes s act)) (row-stands f m h.rel x)
      (subst (λ (z : Site × FineAct). IsTrue (site_takes (f.sites z.0) z.1)) (λ j. (site j, said j)) h.taken.takes)

  pub visit-runs : (IsHand (step ∷ todo) → ⊥) → runs (f.processors k) ≡ true
  visit-runs apart = runs-first h.rel h.there step todo h.at apart

  pub visit-part : (IsHand (step ∷ todo) → ⊥) → IsRun f m (f.processors k).context
  visit-part apart = h.rel.contexts.running k h.there (visit-runs apart)

module _ {f : Fine} {m : State} {k : ℕ} {e : FineStep} {x : ℕ} {todo : Todos} where
  -- a permission is passed on
  pub pass-step : (who : ℕ) → Visits f m k e x (Todo.pass who x) todo
      → (rest : Steps) × ((f.processors k).context.pending ≡ Pending.Inherit (to_thread who) ∷ rest) × Goes m e (T.after m (f.processors k).context.thread x (Pending.Inherit (to_thread who)) rest)
  pass-step who h =
      let t = (f.processors k).context.thread in
      let act = Act.Inherit (to_thread who) (address_of f.image x) in
      let said = visit-shows h act (visit-act h) in
      let takes = and_parts _ _ (and_parts _ _ (visit-takes h (by_me f.image (f.processors k) act) (visit-site h) said)).1 in
      let fits : Passes f.image (f.processors k).context who todo = (subst (Fits f.image (f.processors k).context) h.at (h.rel.processors k h.there).list.fits).0 in
      let own = own-unless ((visit-part h (λ hand. hand)).of (passes-on f.image (f.processors k).context who todo fits)) (ap waits fits.pending) in
      let child : Pending.Inherit fits.child ≡ Pending.Inherit (to_thread who) = ap (λ n. Pending.Inherit (to_thread n)) fits.same in (
        fits.step ∷ fits.rest,
        fits.pending ∙ ap (λ q. q ∷ fits.step ∷ fits.rest) child,
        subst (λ a. GoesBy m a (T.after m t x (Pending.Inherit (to_thread who)) (fits.step ∷ fits.rest))) (sym said)
            (record {
              step = Pending.Inherit (to_thread who);
              rest = fits.step ∷ fits.rest;
              row = x;
              offered = goes (sym (ap (λ (z : Thread). z.pending) own) ∙ (fits.pending ∙ ap (λ q. q ∷ fits.step ∷ fits.rest) child));
              chosen = (
                sym (pair-is f m h.rel x t h.few) ∙ takes.0,
                subst (λ b. IsTrue (not b)) (pair-is f m h.rel x who h.few) takes.1,
                λ same. (subst (Fits f.image (f.processors k).context) h.at (h.rel.processors k h.there).list.fits).1 (same ∙ ap (λ (i : Image). own_row i t) h.rel.image),
              );
              says = ap (λ (i : Image). Act.Inherit (to_thread who) (address_of i x)) (sym h.rel.image);
              leaves = refl;
            }),
      )
