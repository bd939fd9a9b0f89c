-- The permissions in the words of rows are the machine's pairs after each event that writes none, where the relation holds before it.
use Rattle.um_refinement.proofs.Words.{◌≡◌, ℕ, ◌<◌, Bool, true, false, cond, List, [], Option, Some, None, refl, sym, ap, ◌∙◌, ◌&&◌, not, if◌then◌else◌, nat_le, slice_index_or, Act, Event, Image, ROWS, STATIC_ROWS, Errno, Pending, Steps, State, FineAct, More, RowWord, after_verdict, is_free, row_after_act, act_in, verdict_in, FineStep, Site, SiteState, s_next, same_site, site_after, Todos, Processor, allows, more_of, says_step, shows, Fine, row, row_state, PairsAre, Rel}
use Rattle.um_base.specs.declared.names.Access.TheVariants as Access
use Rattle.um_machine.specs.Table as T
use Rattle.um_refinement.proofs.Erased.{stepped}
use Rattle.um_refinement.proofs.Offered.{Shows}
use Rattle.um_refinement.proofs.RowSteps.{row-stands}
use Rattle.um_refinement.proofs.WordsKept.{IsShown}
use Rattle.um_refinement.proofs.Writes.{Makes, Part, pairs, read-same, reads-keeping}

-- all that a step may write but permissions
abbrev pub NoPairs : Part → Bool
NoPairs pairs = false
NoPairs part = true

pub pairs-same : (m : State) (t x : ℕ) (q : Pending) (rest : Steps) → Makes NoPairs q → (T.after m t x q rest).pairs ≡ m.pairs
pairs-same m = read-same NoPairs (λ s. s.pairs) m (reads-keeping NoPairs (λ s. s.pairs) m.pairs (λ s threads. refl) (λ s objects. refl) (λ s bytes. (refl, refl)) (λ may s u x there. absurd may) (λ may s left. refl) (λ may s d ps. refl) (λ may s joins futexes. refl) (λ may s now armed. refl))

-- The fine machine.

-- a word with the same permissions and stage
pub record HasSame (v w : RowWord) : Type 0 where
  pub permissions : v.permissions ≡ w.permissions
  pub dynamic : v.dynamic ≡ w.dynamic
  pub stage : v.stage ≡ w.stage

same-row : (w : RowWord) → HasSame w w
same-row w = record { permissions = refl; dynamic = refl; stage = refl }

row-checked : (w : RowWord) (v : Option Errno) → HasSame (after_verdict w v) w
row-checked w None = record { permissions = refl; dynamic = refl; stage = refl }
row-checked w (Some e) = same-row w

either-row : (w : RowWord) (t : ℕ) (b : Bool) (good bad : Act) → HasSame (row_after_act w t good) w → HasSame (row_after_act w t bad) w
    → HasSame (row_after_act w t (if b then good else bad)) w
either-row w t true good bad h k = h
either-row w t false good bad h k = k

pub row-untouched : (image : Image) (p : Processor) (w : RowWord) (t : ℕ) (q : Pending) (act : Act) → IsShown q → Makes NoPairs q → HasSame (row_after_act w t (says_step image p q act)) w
row-untouched image p w t (Pending.Check a kind want refusal) act shown makes = row-checked w (verdict_in act)
row-untouched image p w t (Pending.Load to a n) act shown makes = either-row w t (allows image p Access.Read a.0 n) _ _ (same-row w) (same-row w)
row-untouched image p w t (Pending.Store a n value) act shown makes = either-row w t (allows image p Access.Write a.0 n) _ _ (same-row w) (same-row w)
row-untouched image p w t (Pending.Fetch a) act shown makes = either-row w t (allows image p Access.Exec a.0 4) _ _ (same-row w) (same-row w)
row-untouched image p w t (Pending.Grant who a) act shown makes = absurd makes
row-untouched image p w t (Pending.Own who) act shown makes = absurd makes
row-untouched image p w t (Pending.DropPair who a) act shown makes = absurd makes
row-untouched image p w t (Pending.Born a) act shown makes = absurd makes
row-untouched image p w t q act shown makes = record { permissions = refl; dynamic = refl; stage = refl }

module _ (f : Fine) (m : State) (rel : Rel f m) (e : FineStep) (event : Event) (more : More) (said : e.act ≡ FineAct.Shown event more) where
  row-is : (x : ℕ) → HasSame (row_after_act (row f x) event.thread.0 event.act) (row f x) → HasSame (row_state (s_next f.image (f.sites (Site.row x)) e)) (row f x)
  row-is x h =
      let at = ap (λ (s : SiteState). row_state (site_after f.image s e.act e.moved)) (row-stands f m rel x)
      ∙ ap (λ act. row_state (site_after f.image (SiteState.row (row f x)) act e.moved)) said in
      record {
        permissions = ap (λ (w : RowWord). w.permissions) at ∙ h.permissions;
        dynamic = ap (λ (w : RowWord). w.dynamic) at ∙ h.dynamic;
        stage = ap (λ (w : RowWord). w.stage) at ∙ h.stage;
      }

  -- an event that leaves the permissions and the stage of each row
  pub row-still : (x : ℕ) → HasSame (row_after_act (row f x) event.thread.0 event.act) (row f x) → HasSame (row (stepped f.image f.cpus f.processors f.sites e) x) (row f x)
  row-still x h =
      elim (same_site e.site (Site.row x)) as (λ b. HasSame (row_state (cond b (s_next f.image (f.sites (Site.row x)) e) (f.sites (Site.row x)))) (row f x)) [
        | true ↦ row-is x h
        | false ↦ same-row (row f x)
      ]

  pub pairs-beside : (q : Pending) (rest : Steps) (t y x : ℕ) → x < ROWS → HasSame (row_after_act (row f x) event.thread.0 event.act) (row f x) → Makes NoPairs q
      → PairsAre (stepped f.image f.cpus f.processors f.sites e) (T.after m t y q rest) x
  pairs-beside q rest t y x few same makes =
      let was = (rel.rows x few).pairs in
      let now = row-still x same in
      record {
        pairs = now.permissions ∙ (was.pairs ∙ ap (λ (all : List (List Bool)). slice_index_or all x []) (sym (pairs-same m t y q rest makes)));
        dynamic = now.dynamic ∙ (was.dynamic ∙ ap (λ s. nat_le STATIC_ROWS x && not (is_free s)) (sym now.stage));
      }

pub pairs-kept : {f : Fine} {m : State} {k : ℕ} {e : FineStep} {q : Pending} {rest : Steps} {todo : Todos} → Shows f m k e q rest todo → (y x : ℕ) → x < ROWS
    → e.act ≡ shows f.image (f.processors k) q e.act → IsShown q → Makes NoPairs q
    → PairsAre (stepped f.image f.cpus f.processors f.sites e) (T.after m (f.processors k).context.thread y q rest) x
pairs-kept {f} {m} {k} {e} {q} {rest} h y x few said shown makes =
    pairs-beside f m h.rel e _ (more_of f.image (f.processors k) q) said q rest (f.processors k).context.thread y x few
    (row-untouched f.image (f.processors k) (row f x) (f.processors k).context.thread q (act_in e.act) shown makes) makes
