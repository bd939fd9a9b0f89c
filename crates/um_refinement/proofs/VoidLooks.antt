-- A look that finds nobody says so of the machine's thread too: the cell in which a thread waits has those who wait there in the machine, since
-- who waits on an object holds it.
use Rattle.um_refinement.proofs.Words.{◌≡◌, ℕ, ◌+◌, ◌<◌, Bool, true, false, List, length, Some, refl, sym, ap, ◌∙◌, subst, arith, ◌==◌, if◌then◌else◌, slice_index_or, eqb-false, eqb-true, and_parts, ROWS, THREADS, Row, State, Waiter, object_at, thread_at, Context, FineAct, Unseen, Exchange, Site, SiteState, site_answers, Fine, bytes, object, row, scheduler, parked_at, runs, recyclers, wipers, Rel, occurs}
use Rattle.um_base.specs.declared.limits.TheConstants.{FUTEX_CELL, JOIN_CELL}
use Rattle.um_machine.specs.declared.contents.Contents.TheVariants as Contents
use Rattle.um_machine.specs.State.{is_waiting, waiters_in}
use Rattle.um_machine.specs.Time.{has_run_out}
use Rattle.um_words.specs.declared.fine.Mark.{Mark}
use Rattle.um_fine.specs.Joins.{join_finds}
use Rattle.um_fine.specs.Objects.{object_finds}
use Rattle.um_fine.specs.Seeking.{finds, looked_for, stands_in}
use Rattle.um_refinement.specs.Claims.{context_claims}
use Rattle.um_refinement.specs.Fine.{joins}
use Rattle.um_refinement.specs.Stops.{LiesAt, asleep, notes_in, parked, runs_it}
use Rattle.um_refinement.proofs.CellSites.{waiting_cell}
use Rattle.um_refinement.proofs.HeldRows.{checked-claimed, claimed-whole, flagged-occurs}
use Rattle.um_refinement.proofs.Kept.{joins-sort}
use Rattle.um_refinement.proofs.MemorySteps.{memory-sort, part-total}
use Rattle.um_refinement.proofs.WaitersFound.{WaitersWait, waiter-below, waiter-lies}
use Rattle.um_refinement.proofs.WaitersKnown.{WaitersHold}
use Rattle.um_refinement.proofs.WorkSteps.{object-sort}

-- who is looked for: a thread that waits, or a timer that runs
abbrev pub IsLookedFor : Exchange → Type 0
IsLookedFor (Exchange.sought who before) = Unit {0}
IsLookedFor (Exchange.mark deadline mark) = Unit {0}
IsLookedFor moved = ⊥

abbrev void : FineAct
void = FineAct.Unseen Unseen.Void

-- a look that says so has found nobody
looked-void : (b : Bool) → looked_for b void ≡ void → b ≡ false
looked-void true h = absurd (subst IsHold h tt)
  where
    IsHold : FineAct → Type 0
    IsHold (FineAct.Unseen Unseen.Hold) = Unit {0}
    IsHold a = ⊥
looked-void false h = refl

module _ (f : Fine) (m : State) (rel : Rel f m) where
  abbrev Says : Site → Exchange → Type 0
  Says i moved = site_answers f.image (f.sites i) moved void ≡ void

  -- the claims of an own part that is parked are in the word
  parked-claimed : (t x : ℕ) (c : Context) → t < THREADS → x < ROWS → parked_at (scheduler f) t ≡ Some c → 0 < occurs x c.claims → 0 < (row f x).claims
  parked-claimed t x c few inside there some =
      let part = part-total (λ u. context_claims x (parked_at (scheduler f) u)) THREADS t few in
      let here : context_claims x (parked_at (scheduler f) t) ≡ occurs x c.claims = ap (context_claims x) there in
      let all = (rel.rows x inside).claims.claimed in
      omega (arith, some, part, here, all)

  module _ (long : length m.threads ≡ THREADS) (waits : WaitersWait m) (holds : WaitersHold m) where
    -- so the cell of an object on which a thread waits isn't cleared
    pub waited-whole : (x t : ℕ) → x < ROWS → stands_in t (waiters_in m x) ≡ true → wipers f x ≡ recyclers f x
    waited-whole x t few stands = claimed-whole f m rel x few (claimed lies.1)
      where
        waiting : is_waiting (thread_at m t) ≡ true
        waiting = waits x t stands

        lies : (c : Context) × LiesAt f t c
        lies = waiter-lies f m rel long t waiting

        held : slice_index_or (thread_at m t).checked x false ≡ true
        held = holds x t few stands

        claimed : {c : Context} → LiesAt f t c → 0 < (row f x).claims
        claimed (runs_it k l on over) =
            let parts = and_parts (runs (f.processors k)) ((f.processors k).context.thread == t) on in
            let same = eqb-true (f.processors k).context.thread t parts.1 in
            checked-claimed f m rel k x l few parts.0 over (subst (λ n. slice_index_or (thread_at m n).checked x false ≡ true) (sym same) held)
        claimed (parked c there) =
            let (of, same, ended, back) = rel.contexts.parked t c there in
            let flags = ap (λ n. (thread_at m n).checked) (sym same) ∙ of.claims in
            parked-claimed t x c (waiter-below f m rel long t waiting) few there (flagged-occurs x c.claims (ap (λ (held : List Bool). slice_index_or held x false) (sym flags) ∙ held))
        claimed (asleep c there) =
            let (of, same, ended, rests, none) = rel.contexts.asleep t c there in
            let flags = ap (λ n. (thread_at m n).checked) (sym same) ∙ of.claims in
            let some = flagged-occurs x c.claims (ap (λ (held : List Bool). slice_index_or held x false) (sym flags) ∙ held) in
            absurd (let no = ap (occurs x) none in omega (arith, some, no))

    object-void : (x : ℕ) (moved : Exchange) → x < ROWS → Says (Site.object x) moved → object_finds (object f x) moved ≡ false
    object-void x moved few says =
        let cell = object-sort x (f.sites (Site.object x)) (rel.sorts (Site.object x)) in
        looked-void _ (subst (λ (s : SiteState). site_answers f.image s moved void ≡ void) cell.1 says)

    memory-void : (moved : Exchange) → Says Site.memory moved → finds (bytes f).futexes (bytes f).noted moved ≡ false
    memory-void moved says = looked-void _ (subst (λ (s : SiteState). site_answers f.image s moved void ≡ void) (memory-sort (f.sites Site.memory) (rel.sorts Site.memory)).1 says)

    joins-void : (moved : Exchange) → Says Site.joins moved → join_finds (joins f) moved ≡ false
    joins-void moved says = looked-void _ (subst (λ (s : SiteState). site_answers f.image s moved void ≡ void) (joins-sort (f.sites Site.joins) (rel.sorts Site.joins)).1 says)

    -- a look in the cell in which a thread waits is answered by those who wait there in the machine
    pub cell-void : (x t : ℕ) → x < ROWS + 2 → (moved : Exchange) → stands_in t (waiters_in m x) ≡ true → ((ws : List Waiter) (noted : List ℕ) → object_finds (record (object f x) { waiters = ws; noted = noted }) moved ≡ finds ws noted moved)
        → (join_finds (joins f) moved ≡ finds (joins f).waiters (joins f).noted moved) → Says (waiting_cell x) moved → finds (waiters_in m x) (notes_in f x) moved ≡ false
    cell-void x t inside moved stands by_waiters by_joins says = by (x == JOIN_CELL) refl (x == FUTEX_CELL) refl
      where
        Cell : Bool → Bool → Type 0
        Cell a b =
            finds (if a then m.joins else if b then m.futexes else (object_at m x).waiters) (if a then (joins f).noted else if b then (bytes f).noted else (object f x).noted) moved
            ≡ false

        At : Bool → Bool → Type 0
        At a b = Says (if a then Site.joins else if b then Site.memory else Site.object x) moved

        says-at : (a b : Bool) → (x == JOIN_CELL) ≡ a → (x == FUTEX_CELL) ≡ b → At a b
        says-at a b p q = subst (λ (z : Bool × Bool). Says (if z.0 then Site.joins else if z.1 then Site.memory else Site.object x) moved) (λ i. (p i, q i)) says

        back : (a b : Bool) → (x == JOIN_CELL) ≡ a → (x == FUTEX_CELL) ≡ b → Cell a b → finds (waiters_in m x) (notes_in f x) moved ≡ false
        back a b p q found =
            subst (λ (z : Bool × Bool). finds (if z.0 then m.joins else if z.1 then m.futexes else (object_at m x).waiters) (if z.0 then (joins f).noted else if z.1 then (bytes f).noted else (object f x).noted) moved ≡ false)
            (λ i. (sym p i, sym q i)) found

        by : (a : Bool) → (x == JOIN_CELL) ≡ a → (b : Bool) → (x == FUTEX_CELL) ≡ b → finds (waiters_in m x) (notes_in f x) moved ≡ false
        by true p b q = back true b p q (ap (λ ws. finds ws (joins f).noted moved) (sym rel.joins.waiters) ∙ (sym by_joins ∙ joins-void moved (says-at true b p q)))
        by false p true q = back false true p q (ap (λ ws. finds ws (bytes f).noted moved) (sym rel.memory.futexes) ∙ memory-void moved (says-at false true p q))
        by false p false q =
            let one = eqb-false x JOIN_CELL p in
            let two = eqb-false x FUTEX_CELL q in
            let few : x < ROWS = omega (arith, inside, one, two) in
            let whole = (rel.rows x few).contents.whole (waited-whole x t few stands) in
            back false false p q
            (ap (λ ws. finds ws (object f x).noted moved) (sym (ap (λ o. o.waiters) whole))
            ∙ (sym (by_waiters (object f x).waiters (object f x).noted) ∙ object-void x moved few (says-at false false p q)))

  -- a timer that runs is found by a mark of its deadline, unless its cell is cleared
  pub timer-found : (x d : ℕ) (row : Row) → x < ROWS → wipers f x ≡ recyclers f x → (object_at m x).contents ≡ Contents.Running d → object_finds (object f x) (Exchange.mark d (Mark.Timer row)) ≡ has_run_out d (Contents.Running d)
  timer-found x d row few whole runs = ap (has_run_out d) (ap (λ o. o.contents) ((rel.rows x few).contents.whole whole) ∙ runs)

  pub timer-void : (x d : ℕ) (row : Row) → x < ROWS → Says (Site.object x) (Exchange.mark d (Mark.Timer row)) → object_finds (object f x) (Exchange.mark d (Mark.Timer row)) ≡ false
  timer-void x d row few says =
      let cell = object-sort x (f.sites (Site.object x)) (rel.sorts (Site.object x)) in
      looked-void _ (subst (λ (s : SiteState). site_answers f.image s (Exchange.mark d (Mark.Timer row)) void ≡ void) cell.1 says)
