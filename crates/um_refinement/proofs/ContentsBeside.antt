-- The cell of an object after a step beside the instructions: a search takes a thread out of it, or its timer runs out.
use Rattle.um_refinement.proofs.Words.{Act, Row, act_in, address_of, in_order, with_object, if◌then◌else◌, woken-by, ◌||◌, ◌≡◌, ℕ, ◌+◌, ◌<◌, Bool, true, false, [], ◌∷◌, refl, sym, ap, ◌∙◌, arith, ◌==◌, slice_index_or, slice_set, eqb-false, eqb-true, false≢true, get_or-set_other, get_or-set_same, ROWS, Object, Pending, to_thread, State, object_at, thread_at, vacant, FineAct, begins_cleaning, ObjectCell, Todo, Todos, same_site, FineStep, Site, Fine, object, one_if, is_recycle, is_wipe, cell_of, empty_cell}
use Rattle.um_machine.specs.Objects as Plain
use Rattle.um_machine.specs.Table as T
use Rattle.um_base.specs.declared.limits.TheConstants.{FUTEX_CELL, JOIN_CELL}
use Rattle.um_machine.specs.Services.{runs_out, without}
use Rattle.um_machine.specs.State.{waiters_in, with_waiters}
use Rattle.um_machine.specs.Time.{has_run_out, told_late}
use Rattle.um_words.specs.declared.fine.Mark.{Mark}
use Rattle.um_fine.specs.Asks.{by_actor, site_by}
use Rattle.um_fine.specs.Answers.{woken_in}
use Rattle.um_fine.specs.Objects.{object_after, run_out}
use Rattle.um_fine.specs.Sites.{site_numbered}
use Rattle.um_refinement.specs.Stops.{cell_site}
use Rattle.um_refinement.proofs.CellSites.{site-of-cell, waiting_cell}
use Rattle.um_refinement.proofs.CellSteps.{cell-else, cell-here, wipe-sum}
use Rattle.um_refinement.proofs.CleanersSteps.{rec-sum}
use Rattle.um_refinement.proofs.ContentsKept.{beside-kept, cell-beside}
use Rattle.um_refinement.proofs.Erased.{around}
use Rattle.um_refinement.proofs.LawfulSteps.{Suits}
use Rattle.um_refinement.proofs.Leaves.{Beside, Lawful, acting, cuts, expires, leaves as leaves_it, mine, ticks, times_out}
use Rattle.um_refinement.proofs.ListGrowth.{ReadsLast}
use Rattle.um_refinement.proofs.ObjectsKept.{status-kept}
use Rattle.um_refinement.proofs.SchedulerSteps.{made-at}
use Rattle.um_refinement.proofs.SearchSteps.{runs-there}
use Rattle.um_refinement.proofs.ContentsLeft.{AreStripped, beside, idle, in-objects, strip, was}

module _ (f : Fine) (m : State) (e : FineStep) (law : Lawful f m e) (suits : Suits f m) (x : ℕ) (few : x < ROWS) where
  open around f e use {later, processor as p}

  abbrev Result : State → Type 0
  Result s = AreStripped later s x

  abbrev Free : State → Bool
  Free s = Plain.is_free (object_at s x).status

  abbrev Cell : State → ObjectCell
  Cell s = cell_of [] (object_at s x)

  -- A step beside f m e law x few the instructions.

  -- a step that changes the cell and the object alike, and leaves an empty one
  changed : (s : State) (q : Todo) (todo : Todos) → p.todo ≡ q ∷ todo → ReadsLast e q todo → is_wipe x q ≡ false → is_recycle x q ≡ false → (g : ObjectCell → ObjectCell)
      → strip (object later x) ≡ g (strip (object f x)) → Cell s ≡ g (Cell m) → g (empty_cell []) ≡ empty_cell [] → Free s ≡ Free m → Result s
  changed s q todo at last wipe rec g cell contents empty free =
      let wipes = wipe-sum f m e law x few q todo at last in
      let recs = rec-sum f m e law x few q todo at last in
      let one = ap one_if wipe in
      let two = ap one_if rec in
      record {
        whole = λ h. cell ∙ (ap g ((was f m e law x few).whole (omega (arith, h, wipes, recs, one, two))) ∙ sym contents);
        cleared = λ h. cell ∙ (ap g ((was f m e law x few).cleared (omega (arith, h, wipes, recs, one, two))) ∙ empty);
        vacant = λ h. cell ∙ (ap g ((was f m e law x few).vacant (sym free ∙ h)) ∙ empty);
      }

  -- the cell without one of those who wait in it
  abbrev left_by : ℕ → ObjectCell → ObjectCell
  left_by who o = record o { waiters = without who o.waiters }

  -- a search takes a thread out of the cell where it waits
  takes-out : (q : Todo) (todo : Todos) (site y who : ℕ) (act : FineAct) (s : State) → p.todo ≡ q ∷ todo → ReadsLast e q todo → is_wipe x q ≡ false → is_recycle x q ≡ false
      → site_by f.image p (q ∷ todo) e.act ≡ site_numbered site → site ≡ cell_site y → y < ROWS + 2 → e.act ≡ act → ((o : ObjectCell) → object_after o act e.moved ≡ left_by who o)
      → object_at s x ≡ object_at (with_waiters m y (without who (waiters_in m y))) x → Result s
  takes-out q todo site y who act s at last wipe rec there place inside said takes same = by (y == JOIN_CELL) refl (y == FUTEX_CELL) refl (y == x) refl
    where
      left : State
      left = with_waiters m y (without who (waiters_in m y))

      made : same_site e.site (Site.object x) ≡ same_site (waiting_cell y) (Site.object x)
      made = ap (λ i. same_site i (Site.object x)) (made-at f m e law (q ∷ todo) at ∙ (there ∙ (ap site_numbered place ∙ site-of-cell y inside)))

      at-cell : (a b : Bool) → (y == JOIN_CELL) ≡ a → (y == FUTEX_CELL) ≡ b → same_site e.site (Site.object x) ≡ same_site (if a then Site.joins else if b then Site.memory else Site.object y) (Site.object x)
      at-cell a b j u = made ∙ λ i. same_site (if j i then Site.joins else if u i then Site.memory else Site.object y) (Site.object x)

      objects : (a b : Bool) → (y == JOIN_CELL) ≡ a → (y == FUTEX_CELL) ≡ b
          → object_at left x ≡ slice_index_or (if a || b then m.objects else slice_set m.objects y (record (object_at m y) { waiters = without who (if a then m.joins else if b then m.futexes else (object_at m y).waiters) })) x vacant
      objects a b j u = λ i. slice_index_or (if j i || u i then m.objects else slice_set m.objects y (record (object_at m y) { waiters = without who (if j i then m.joins else if u i then m.futexes else (object_at m y).waiters) })) x vacant

      elsewhere : same_site e.site (Site.object x) ≡ false → object_at left x ≡ object_at m x → Result s
      elsewhere off kept =
          beside f m e law x few s q todo at last wipe rec (cell-else f m e law x few off) (ap (cell_of []) (same ∙ kept)) (λ z. sym (ap (λ (o : Object). Plain.is_free o.status) (same ∙ kept)) ∙ z)

      by : (a : Bool) → (y == JOIN_CELL) ≡ a → (b : Bool) → (y == FUTEX_CELL) ≡ b → (c : Bool) → (y == x) ≡ c → Result s
      by true j b u c k = elsewhere (at-cell true b j u) (objects true b j u)
      by false j true u c k = elsewhere (at-cell false true j u) (objects false true j u)
      by false j false u false k = elsewhere (at-cell false false j u ∙ k) (objects false false j u ∙ get_or-set_other m.objects y x _ vacant (λ z. eqb-false y x k (sym z)))
      by false j false u true k =
          let here = eqb-true y x k in
          let now : object_at left x ≡ record (object_at m y) { waiters = without who (object_at m y).waiters } =
          objects false false j u ∙ (ap (λ r. slice_index_or (slice_set m.objects r (record (object_at m y) { waiters = without who (object_at m y).waiters })) x vacant) here ∙ get_or-set_same m.objects x _ vacant (in-objects f m e law x few few)) in
          changed s q todo at last wipe rec (left_by who) (ap strip (cell-here f m e law x few (at-cell false false j u ∙ k) act said ∙ takes (object f x)))
          (ap (cell_of []) (same ∙ now) ∙ ap (λ r. left_by who (Cell-at r)) here) refl (ap (λ (o : Object). Plain.is_free o.status) (same ∙ now) ∙ ap (λ r. Plain.is_free (object_at m r).status) here)
        where
          Cell-at : ℕ → ObjectCell
          Cell-at r = cell_of [] (object_at m r)

  -- the cell whose timer has run out
  abbrev run_by : ObjectCell → ObjectCell
  run_by o = record o { contents = (run_out o).0; waiters = (run_out o).1 }

  -- a timer runs out in the cell where its mark has it
  runs-out : (deadline : ℕ) (y : Row) (todo : Todos) → p.todo ≡ Todo.handle deadline (Mark.Timer y) ∷ todo → e.act ≡ by_actor f.image p (Act.Expire (address_of f.image y.0) (woken_in (act_in e.act)))
      → Result (T.after m (acting f m e) y.0 Pending.Expire (thread_at m (acting f m e)).pending)
  runs-out deadline y todo at said = by (y.0 == x) refl
    where
      s : State
      s = T.after m (acting f m e) y.0 Pending.Expire (thread_at m (acting f m e)).pending

      o : Object
      o = object_at m y.0

      after : Object
      after = record o { contents = (runs_out o.waiters (in_order o.waiters)).0; waiters = (runs_out o.waiters (in_order o.waiters)).1 }

      objects : object_at s x ≡ slice_index_or (slice_set m.objects y.0 after) x vacant
      objects = woken-by (λ (z : State). object_at z x ≡ slice_index_or (slice_set m.objects y.0 after) x vacant) (λ z u told k. k) (runs_out o.waiters (in_order o.waiters)).2 (with_object m y.0 after) refl

      site : same_site e.site (Site.object x) ≡ (y.0 == x)
      site = ap (λ i. same_site i (Site.object x)) (made-at f m e law (Todo.handle deadline (Mark.Timer y) ∷ todo) at)

      by : (b : Bool) → (y.0 == x) ≡ b → Result s
      by false k =
          let kept = objects ∙ get_or-set_other m.objects y.0 x _ vacant (λ z. eqb-false y.0 x k (sym z)) in
          beside f m e law x few s (Todo.handle deadline (Mark.Timer y)) todo at tt refl refl (cell-else f m e law x few (site ∙ k)) (ap (cell_of []) kept) (λ z. sym (ap (λ (o : Object). Plain.is_free o.status) kept) ∙ z)
      by true k =
          let here = eqb-true y.0 x k in
          let runs = runs-there f m law.rel suits.waits law.sound.wide.threads e.cpu law.by.named e law.by.may law.taken deadline y todo at said in
          let none : strip (object f x) ≡ empty_cell [] → ⊥ = λ h. false≢true (sym (ap (λ (o : ObjectCell). has_run_out deadline o.contents) h) ∙ (ap (λ r. has_run_out deadline (object f r).contents) (sym here) ∙ runs)) in
          let now : object_at s x ≡ after = objects ∙ (ap (λ r. slice_index_or (slice_set m.objects r after) x vacant) here ∙ get_or-set_same m.objects x _ vacant (in-objects f m e law x few few)) in
          let free : Free s ≡ Free m = ap (λ (w : Object). Plain.is_free w.status) now ∙ ap (λ r. Plain.is_free (object_at m r).status) here in
          let wipes = wipe-sum f m e law x few (Todo.handle deadline (Mark.Timer y)) todo at tt in
          let recs = rec-sum f m e law x few (Todo.handle deadline (Mark.Timer y)) todo at tt in
          let cell : object later x ≡ run_by (object f x) = cell-here f m e law x few (site ∙ k) _ said in
          record {
            whole = λ h. ap strip cell ∙ (ap run_by ((was f m e law x few).whole (omega (arith, h, wipes, recs))) ∙ sym (ap (cell_of []) now ∙ ap (λ r. run_by (cell_of [] (object_at m r))) here));
            cleared = λ h. absurd (none ((was f m e law x few).cleared (omega (arith, h, wipes, recs))));
            vacant = λ h. absurd (none ((was f m e law x few).vacant (sym free ∙ h)));
          }

  pub on-beside : (t y : ℕ) (q : Pending) → Beside f m e t y q → Result (T.after m t y q (thread_at m t).pending)
  on-beside _ _ _ (cuts who site before y todo at place inside said) =
      takes-out (Todo.look who site before) todo site y (to_thread who).0 _ _ at tt refl refl refl place inside said (λ o. refl) refl
  on-beside _ _ _ (times_out deadline site y who todo at place inside said) =
      let s = with_waiters m y (without who.0 (waiters_in m y)) in
      takes-out (Todo.handle deadline (Mark.Thread who site)) todo site y who.0 _ (T.after m (acting f m e) y (Pending.TimeOut who) (thread_at m (acting f m e)).pending) at tt refl refl refl place inside said (λ o. refl)
      (woken-by (λ (z : State). object_at z x ≡ object_at s x) (λ z u told k. k) (told_late who y) s refl)
  on-beside _ _ _ (expires deadline y todo at inside said) = runs-out deadline y todo at said
  on-beside _ _ _ (ticks at said) =
      idle f m e law x few _ at (ap (λ a. begins_cleaning (record e { act = a })) said) (beside-kept (cell_of []) (cell-beside []) m x (acting f m e) 0 Pending.Tick (thread_at m (acting f m e)).pending refl)
      (λ z. sym (ap Plain.is_free (status-kept m x (acting f m e) 0 Pending.Tick (thread_at m (acting f m e)).pending tt)) ∙ z)
  on-beside _ _ _ (leaves_it todo at said) =
      beside f m e law x few _ Todo.leave todo at tt refl refl (cell-else f m e law x few (ap (λ i. same_site i (Site.object x)) (made-at f m e law (Todo.leave ∷ todo) at)))
      (beside-kept (cell_of []) (cell-beside []) m x (mine f m e) 0 Pending.Left (thread_at m (mine f m e)).pending refl) (λ z. sym (ap Plain.is_free (status-kept m x (mine f m e) 0 Pending.Left (thread_at m (mine f m e)).pending tt)) ∙ z)
