-- A processor's cleaning of an object is that of the machine, where the relation holds: nobody claims the object, so nobody holds it.
use Rattle.um_refinement.proofs.Words.{waits, ◌≡◌, ◌≢◌, ◌⊎◌, inl, inr, ℕ, zero, suc, ◌+◌, ◌<◌, ◌≤◌, Bool, true, false, List, [], ◌∷◌, ◌++◌, length, Option, Some, None, refl, sym, ap, ◌∙◌, subst, arith, eq-eqb, ◌==◌, ◌&&◌, ◌||◌, not, if◌then◌else◌, is_some, slice_index_or, list_all, and_from, and_parts, eqb-true, false≢true, not-true, not_from_false, true≢false, Act, Image, ROWS, THREADS, ThreadIx, own_row, thread_of_row, Pending, Life, Thread, to_thread, MayChoose, State, nobody, object_at, pair_at, thread_at, Stage, has, is_dying, is_free, is_last, address_of, act_in, leftover_in, row_in, Context, parked_at, FineStep, Todo, Todos, emptying, CpuMay, by_me, fits, is_dropped, says, Fine, one_if, row, scheduler, Adds, adders, cleaned_pairs, counted, is_recycle, of_thread, runs, runs_thread, call_claims, context_claims, AreBlocks, Cleans, is_over, is_reserved, status_of, IsOf, flags_of, occurs, places, runs_on, Rel, MayClean, NoPairsOf, tends}
use Rattle.um_machine.specs.Objects as Plain
use Rattle.um_machine.specs.Table as T
use Rattle.um_fine.specs.Joins.{asleep_at}
use Rattle.um_refinement.specs.Claims.{claims}
use Rattle.um_refinement.specs.Fine.{joins}
use Rattle.um_refinement.proofs.Offered.{own-unless, runs-first}
use Rattle.um_refinement.proofs.Erased.{Goes, GoesBy}
use Rattle.um_refinement.proofs.DropSteps.{Held, dropped-has, left-here, left-there}
use Rattle.um_refinement.proofs.FirstThreads.{one-most}
use Rattle.um_refinement.proofs.HeldRows.{flagged-occurs, some-part}
use Rattle.um_refinement.proofs.MemorySteps.{part-total}
use Rattle.um_refinement.proofs.ResumeSteps.{some-is}
use Rattle.um_refinement.proofs.RowSteps.{settled}
use Rattle.um_refinement.proofs.VisitSteps.{Visits, pair-is, visit-act, visit-part, visit-shows, visit-site}
use Rattle.um_refinement.proofs.Sums.{one-none, one-true}

-- What is known of the machine: it has no more threads and rows than the bounds say, and a thread that is in no call holds nothing by one.
pub record Calls (m : State) : Type 0 where
  pub threads : length m.threads ≤ THREADS
  pub rows : length m.pairs ≤ ROWS
  pub rests : (u x : ℕ) → ((thread_at m u).life ≢ Life.Living) ⊎ ((thread_at m u).pending ≡ []) → slice_index_or (thread_at m u).checked x false ≡ false

-- each thread object of an image has a thread of its own
abbrev pub OwnRows : Image → Type 0
OwnRows image = (x who : ℕ) → thread_of_row image x ≡ Some who → (own_row image who ≡ x) × (x < ROWS)

-- a step that adds a thread has its own part
pub adds-one : (u : ℕ) (todo : Todos) → 0 < of_thread u (adders todo) → (d : Context) × Adds d todo × (d.thread ≡ u)
adds-one u [] h = absurd (omega (arith, h))
adds-one u (Todo.show q rest ∷ todo) h = absurd (omega (arith, h))
adds-one u (Todo.add d ∷ todo) h = by (d.thread == u) refl (adds-one u todo)
  where
    by : (b : Bool) → (d.thread == u) ≡ b → (0 < of_thread u (adders todo) → (c : Context) × Adds c todo × (c.thread ≡ u))
        → (c : Context) × Adds c (Todo.add d ∷ todo) × (c.thread ≡ u)
    by true e more = (d, inl refl, eqb-true d.thread u e)
    by false e more = let r = more (subst (λ b. 0 < (if b then of_thread u (adders todo) + 1 else of_thread u (adders todo))) e h) in (r.0, inr r.1, r.2)
adds-one u (q ∷ todo) h = adds-one u todo h

-- none of these threads holds a row of which each is known not to
none-holds : (image : Image) (x i : ℕ) (threads : List Thread)
    → ((j : ℕ) → j < length threads → Plain.thread_holds image x (i + j) (slice_index_or threads j nobody) ≡ false) → Plain.any_holds image x i threads ≡ false
none-holds image x i [] h = refl
none-holds image x i (th ∷ threads) h =
    let here : i + 0 ≡ i = omega arith in
    let first : Plain.thread_holds image x i th ≡ false = subst (λ n. Plain.thread_holds image x n th ≡ false) here (h 0 (omega arith)) in
    ap (λ b. b || Plain.any_holds image x (i + 1) threads) first
    ∙ none-holds image x (i + 1) threads
    (λ j l.
    let there : i + suc j ≡ i + 1 + j = omega arith in
    subst (λ n. Plain.thread_holds image x n (slice_index_or threads j nobody) ≡ false) there (h (suc j) (omega (arith, l))))

neither : (a b : Bool) → a ≡ false → b ≡ false → (a || b) ≡ false
neither a b p q = ap (λ z. z || b) p ∙ q

module _ (f : Fine) (m : State) (rel : Rel f m) (calls : Calls m) where
  module _ (x : ℕ) (few : x < ROWS) (none : (row f x).claims ≡ 0) where
    no-claims : claims f m x ≡ 0
    no-claims = sym (rel.rows x few).claims.claimed ∙ none

    unflagged : (u : ℕ) (c : Context) → IsOf f m c → c.thread ≡ u → occurs x c.claims ≡ 0 → slice_index_or (thread_at m u).checked x false ≡ false
    unflagged u c of at free = by (slice_index_or (thread_at m u).checked x false) refl
      where
        by : (b : Bool) → slice_index_or (thread_at m u).checked x false ≡ b → b ≡ false
        by false e = refl
        by true e =
            let flag : slice_index_or (flags_of c.claims) x false ≡ true =
            ap (λ (flags : List Bool). slice_index_or flags x false) (sym of.claims ∙ ap (λ n. (thread_at m n).checked) at) ∙ e in
            let some = flagged-occurs x c.claims flag in absurd (omega (arith, some, free))

    running-free : (u k : ℕ) → k < f.cpus → runs (f.processors k) ≡ true → is_over (f.processors k).context ≡ false → (f.processors k).context.thread ≡ u
        → slice_index_or (thread_at m u).checked x false ≡ false
    running-free u k l running on at =
        let part = part-total (λ j. call_claims x (f.processors j)) f.cpus k l in
        let sum = no-claims in
        unflagged u (f.processors k).context ((rel.contexts.running k l running).of on) at (omega (arith, part, sum))

    parked-free : (u : ℕ) → u < THREADS → (c : Context) → parked_at (scheduler f) u ≡ Some c → slice_index_or (thread_at m u).checked x false ≡ false
    parked-free u l c at =
        let is = rel.contexts.parked u c at in
        let part = part-total (λ t. context_claims x (parked_at (scheduler f) t)) THREADS u l in
        let here : context_claims x (parked_at (scheduler f) u) ≡ occurs x c.claims = ap (context_claims x) at in
        let sum = no-claims in
        unflagged u c is.0 is.1 (omega (arith, part, here, sum))

    added-free : (u k : ℕ) → k < f.cpus → 0 < of_thread u (adders (f.processors k).todo) → slice_index_or (thread_at m u).checked x false ≡ false
    added-free u k l some =
        let c = adds-one u (f.processors k).todo some in
        let is = rel.contexts.added k c.0 l c.1 in
        let rest : (thread_at m u).pending ≡ [] =
        ap (λ n. (thread_at m n).pending) (sym c.2) ∙ (sym (ap (λ (z : Thread). z.pending) (own-unless is.0 (ap waits is.2))) ∙ is.2) in
        calls.rests u x (inr rest)

    asleep-free : (u : ℕ) (c : Context) → asleep_at (joins f) u ≡ Some c → slice_index_or (thread_at m u).checked x false ≡ false
    asleep-free u c at =
        let is = rel.contexts.asleep u c at in
        let rest : (thread_at m u).pending ≡ [] =
        ap (λ n. (thread_at m n).pending) (sym is.1) ∙ (sym (ap (λ (z : Thread). z.pending) (own-unless is.0 (ap waits is.3))) ∙ is.3) in
        calls.rests u x (inr rest)

    -- wherever its own part lies, a thread's call doesn't hold the object
    call-free : (u : ℕ) → u < THREADS → slice_index_or (thread_at m u).checked x false ≡ false
    call-free u l = by (places f u) refl
      where
        with-processor : (k : ℕ) → k < f.cpus → 0 < one_if (runs_on u (f.processors k)) + of_thread u (adders (f.processors k).todo)
            → slice_index_or (thread_at m u).checked x false ≡ false
        with-processor k there some = choose (runs_on u (f.processors k)) refl
          where
            choose : (b : Bool) → runs_on u (f.processors k) ≡ b → slice_index_or (thread_at m u).checked x false ≡ false
            choose true e =
                let all = and_parts (runs_thread u (f.processors k)) _ e in
                let parts = and_parts _ _ all.0 in running-free u k there parts.0 (not-true _ all.1) (eqb-true (f.processors k).context.thread u parts.1)
            choose false e = let lacks : one_if (runs_on u (f.processors k)) ≡ 0 = ap one_if e in added-free u k there (omega (arith, some, lacks))

        by-asleep : (b : Bool) → is_some (asleep_at (joins f) u) ≡ b → is_some (parked_at (scheduler f) u) ≡ false → 0 < places f u → slice_index_or (thread_at m u).checked x false ≡ false
        by-asleep true e none some = let c = some-is (asleep_at (joins f) u) e in asleep-free u c.0 c.1
        by-asleep false e none some =
            let parked : one_if (is_some (parked_at (scheduler f) u)) ≡ 0 = ap one_if none in
            let sleeps : one_if (is_some (asleep_at (joins f) u)) ≡ 0 = ap one_if e in
            let k = some-part (λ j. one_if (runs_on u (f.processors j)) + of_thread u (adders (f.processors j).todo)) f.cpus (omega (arith, some, parked, sleeps)) in
            with-processor k.0 k.1 k.2

        by-parked : (b : Bool) → is_some (parked_at (scheduler f) u) ≡ b → 0 < places f u → slice_index_or (thread_at m u).checked x false ≡ false
        by-parked true e some = let c = some-is (parked_at (scheduler f) u) e in parked-free u l c.0 c.1
        by-parked false e some = by-asleep (is_some (asleep_at (joins f) u)) refl e some

        by : (n : ℕ) → places f u ≡ n → slice_index_or (thread_at m u).checked x false ≡ false
        by zero e = calls.rests u x (inr ((rel.threads u l).away.away e).1)
        by (suc n) e = by-parked (is_some (parked_at (scheduler f) u)) refl (omega (arith, e))

    own-free : (u : ℕ) → u < THREADS → ((thread_at m u).keeps_own && (own_row m.image u == x)) ≡ false
    own-free u l =
        let part = part-total (λ t. one_if ((thread_at m t).keeps_own && (own_row f.image t == x))) THREADS u l in
        let sum = no-claims in
        ap (λ (i : Image). (thread_at m u).keeps_own && (own_row i u == x)) rel.image
        ∙ one-none ((thread_at m u).keeps_own && (own_row f.image u == x)) (omega (arith, part, sum))

    -- an object without a claim is held by nobody
    pub unheld : Plain.is_held m x ≡ false
    unheld =
        none-holds m.image x 0 m.threads
        (λ j l.
        let at : 0 + j ≡ j = omega arith in
        let few-threads = calls.threads in
        let less : j < THREADS = omega (arith, l, few-threads) in
        subst (λ n. Plain.thread_holds m.image x n (thread_at m j) ≡ false) (sym at) (neither _ _ (call-free j less) (own-free j less)))

  -- an object that a processor cleans is gone and unclaimed, so its thread may clean it
  pub cleans-may : (k x : ℕ) → k < f.cpus → x < ROWS → Cleans f k x → MayClean m (f.processors k).context.thread x
  cleans-may k x there few cleans =
      (gone, not_from_false (Plain.is_held m x) (unheld x few (unclaimed (row f x).stage refl)), by-thread (object_at m x).cleaner refl)
    where
      recycled : (Plain.is_gone (object_at m x).status && not (is_dying (row f x).stage)) ≡ true
      recycled =
          let part = part-total (λ j. counted (is_recycle x) (f.processors j).todo) f.cpus k there in
          let one = (rel.rows x few).cleaners.cleaner in
          one-true (Plain.is_gone (object_at m x).status && not (is_dying (row f x).stage)) (omega (arith, cleans, part, one))

      gone : Plain.is_gone (object_at m x).status ≡ true
      gone = (and_parts _ _ recycled).0

      unclaimed : (s : Stage) → (row f x).stage ≡ s → (row f x).claims ≡ 0
      unclaimed Stage.Free e = (rel.rows x few).claims.free e
      unclaimed Stage.Cleaning e = (rel.rows x few).cleaners.unclaimed e
      unclaimed Stage.Dying e = absurd (true≢false (sym (ap is_dying e) ∙ not-true _ (and_parts _ _ recycled).1))
      unclaimed Stage.Live e =
          let at = settled f m rel x few (ap is_free e) in
          absurd (false≢true (sym (ap Plain.is_gone ((rel.rows x few).status.status at ∙ ap (λ s. status_of s (is_reserved (object_at m x).status)) e)) ∙ gone))

      by-thread : (o : Option ThreadIx) → (object_at m x).cleaner ≡ o
          → ((object_at m x).cleaner ≡ None) ⊎ ((object_at m x).cleaner ≡ Some (to_thread (f.processors k).context.thread))
      by-thread None e = inl e
      by-thread (Some t) e =
          inr (e ∙ ap (λ n. Some (to_thread n)) (sym (((rel.processors k there).cleaning x few).begun t e cleans)))

-- The visits and the end of a cleaning.

-- behind the recycling of a thread object no visit of its thread's permissions is left
pub visits-over : (image : Image) (x who : ℕ) (todo : Todos) → OwnRows image → thread_of_row image x ≡ Some who → AreBlocks image todo
    → counted (is_recycle x) todo ≡ 0 → cleaned_pairs who todo ≡ ROWS
visits-over image x who [] own at h none = refl
visits-over image x who (Todo.clean_pair u y ∷ todo) own at h none = by (u == who) refl (visits-over image x who todo own at h.1 none)
  where
    by : (b : Bool) → (u == who) ≡ b → cleaned_pairs who todo ≡ ROWS → (if u == who then y else cleaned_pairs who todo) ≡ ROWS
    by true e more =
        let same : x ≡ h.0.0 = sym (own x who at).0 ∙ (ap (own_row image) (sym (eqb-true u who e)) ∙ (own h.0.0 u h.0.1).0) in
        let behind : counted (is_recycle x) todo ≡ counted (is_recycle x) (emptying x ++ h.0.2.0) =
        ap (counted (is_recycle x)) h.0.2.1 ∙ ap (λ z. counted (is_recycle x) (emptying z ++ h.0.2.0)) (sym same) in
        let some : counted (is_recycle x) (emptying x ++ h.0.2.0) ≡ counted (is_recycle x) h.0.2.0 + 1 =
        ap (λ b. if b then counted (is_recycle x) h.0.2.0 + 1 else counted (is_recycle x) h.0.2.0) (eq-eqb x x refl) in
        absurd (omega (arith, behind, some, none))
    by false e more = ap (λ b. if b then y else cleaned_pairs who todo) e ∙ more
visits-over image x who (Todo.wipe z ∷ todo) own at h none = visits-over image x who todo own at h.1 none
visits-over image x who (Todo.vacate z ∷ todo) own at h none = visits-over image x who todo own at h.1 none
visits-over image x who (Todo.recycle z ∷ todo) own at h none = by (x == z) none (visits-over image x who todo own at h)
  where
    by : (b : Bool) → (if b then counted (is_recycle x) todo + 1 else counted (is_recycle x) todo) ≡ 0
        → (counted (is_recycle x) todo ≡ 0 → cleaned_pairs who todo ≡ ROWS) → cleaned_pairs who todo ≡ ROWS
    by true e more = absurd (omega (arith, e))
    by false e more = more e
visits-over image x who (q ∷ todo) own at h none = visits-over image x who todo own at h none

all-free : (who : ℕ) (rows : List (List Bool)) → ((y : ℕ) → y < length rows → slice_index_or (slice_index_or rows y []) who false ≡ false)
    → list_all (λ (flags : List Bool). not (slice_index_or flags who false)) rows ≡ true
all-free who [] h = refl
all-free who (flags ∷ rows) h = and_from _ _ (not_from_false (slice_index_or flags who false) (h 0 (omega arith))) (all-free who rows (λ y l. h (suc y) (omega (arith, l))))

module _ {f : Fine} {m : State} {k : ℕ} {e : FineStep} {y who : ℕ} {todo : Todos} (h : Visits f m k e y (Todo.clean_pair who y) todo)
    (calls : Calls m) (own : OwnRows f.image) (held : Held m y who) where
  pub blocks : AreBlocks f.image (Todo.clean_pair who y ∷ todo)
  blocks = subst (AreBlocks f.image) h.at (h.rel.processors k h.there).blocks

  -- the object whose cleaning the visit belongs to
  pub object-at : (own_row f.image who ≡ blocks.0.0) × (blocks.0.0 < ROWS)
  object-at = own blocks.0.0 who blocks.0.1

  pub cleans-own : Cleans f k (own_row f.image who)
  cleans-own =
      let x = blocks.0.0 in
      let count : counted (is_recycle x) (f.processors k).todo ≡ counted (is_recycle x) blocks.0.2.0 + 1 =
      ap (counted (is_recycle x)) h.at
      ∙ (ap (counted (is_recycle x)) blocks.0.2.1
      ∙ ap (λ b. if b then counted (is_recycle x) blocks.0.2.0 + 1 else counted (is_recycle x) blocks.0.2.0) (eq-eqb x x refl)) in
      subst (Cleans f k) (sym object-at.0) (omega (arith, count))

  -- a permission of a thread that is gone is dropped
  pub clean-pair-step : Goes m e (T.after m (f.processors k).context.thread y (Pending.CleanPair (to_thread who)) (thread_at m (f.processors k).context.thread).pending)
  clean-pair-step =
      let t = (f.processors k).context.thread in
      let act = Act.DropPair (to_thread who) (address_of f.image y) (leftover_in (act_in e.act)) in
      let said = visit-shows h act (visit-act h) in
      let left = left-there h who (visit-site h) said in
      let there : has (row f y) who ≡ true = dropped-has (has (row f y) who) (is_last (row f y) who) (ap is_dropped left ∙ drop-found) in
      let few : own_row f.image who < ROWS = subst (λ n. n < ROWS) (sym object-at.0) object-at.1 in
      let may = cleans-may f m h.rel calls k (own_row f.image who) h.there few cleans-own in
      subst (λ a. GoesBy m a (T.after m t y (Pending.CleanPair (to_thread who)) (thread_at m t).pending)) (sym said)
      (record {
        step = Pending.CleanPair (to_thread who);
        rest = (thread_at m t).pending;
        row = y;
        offered = tends refl (visit-part h (λ hand. hand)).started;
        chosen = (subst (MayClean m t) (ap (λ (i : Image). own_row i who) (sym h.rel.image)) may, sym (pair-is f m h.rel y who h.few) ∙ there);
        says = λ i. Act.DropPair (to_thread who) (address_of (sym h.rel.image i) y) ((sym left ∙ left-here f m h.rel y who h.few held) i);
        leaves = refl;
      })
    where
      drop-found : is_dropped (leftover_in (act_in e.act)) ≡ true
      drop-found =
          sym (ap (λ b. if b then not (has (row_in e.word) who) else is_dropped (leftover_in (act_in e.act))) h.shown)
          ∙ (and_parts _ _ (subst (λ (l : Todos). fits f.image (f.processors k) l e ≡ true) h.at h.may.fit)).0

module _ (f : Fine) (m : State) (rel : Rel f m) (calls : Calls m) (own : OwnRows f.image) where
  -- the object that a processor recycles next has no permission of its thread left
  recycled-bare : (k x : ℕ) (todo : Todos) → k < f.cpus → x < ROWS → (f.processors k).todo ≡ Todo.recycle x ∷ todo → (o : Option ℕ) → thread_of_row f.image x ≡ o → NoPairsOf m o
  recycled-bare k x todo there few at None e = tt
  recycled-bare k x todo there few at (Some who) e = all-free who m.pairs none
    where
      mine : counted (is_recycle x) (f.processors k).todo ≡ counted (is_recycle x) todo + 1
      mine = ap (counted (is_recycle x)) at ∙ ap (λ b. if b then counted (is_recycle x) todo + 1 else counted (is_recycle x) todo) (eq-eqb x x refl)

      last : counted (is_recycle x) todo ≡ 0
      last =
          let part = part-total (λ j. counted (is_recycle x) (f.processors j).todo) f.cpus k there in
          let one = (rel.rows x few).cleaners.cleaner in
          let most = one-most (Plain.is_gone (object_at m x).status && not (is_dying (row f x).stage)) in
          let here = mine in
          omega (arith, part, one, most, here)

      over : cleaned_pairs who (f.processors k).todo ≡ ROWS
      over = ap (cleaned_pairs who) at ∙ visits-over f.image x who todo own e (subst (AreBlocks f.image) at (rel.processors k there).blocks) last

      none : (y : ℕ) → y < length m.pairs → pair_at m who y ≡ false
      none y l =
          let rows = calls.rows in
          let all = over in
          let here = mine in
          ((rel.processors k there).cleaning x few).emptied who e (omega (arith, here)) y (omega (arith, l, rows, all))

  -- it may recycle it
  pub recycle-chosen : {k : ℕ} (x : ℕ) (todo : Todos) → k < f.cpus → x < ROWS → (f.processors k).todo ≡ Todo.recycle x ∷ todo
      → MayChoose m (f.processors k).context.thread x Pending.Recycle
  recycle-chosen {k} x todo there few at =
      let cleans : Cleans f k x =
      (let here : counted (is_recycle x) (f.processors k).todo ≡ counted (is_recycle x) todo + 1 =
      ap (counted (is_recycle x)) at ∙ ap (λ b. if b then counted (is_recycle x) todo + 1 else counted (is_recycle x) todo) (eq-eqb x x refl) in
      omega (arith, here)) in
      let bare = recycled-bare k x todo there few at (thread_of_row f.image x) refl in
      (cleans-may f m rel calls k x there few cleans, subst (λ (i : Image). NoPairsOf m (thread_of_row i x)) (sym rel.image) bare)

  pub recycle-step : {k : ℕ} {e : FineStep} (x : ℕ) (todo : Todos) → k < f.cpus → x < ROWS → (f.processors k).todo ≡ Todo.recycle x ∷ todo → CpuMay f.image (f.processors k) e
      → Goes m e (T.after m (f.processors k).context.thread x Pending.Recycle (thread_at m (f.processors k).context.thread).pending)
  recycle-step {k} {e} x todo there few at may =
      let t = (f.processors k).context.thread in
      let said : e.act ≡ by_me f.image (f.processors k) (Act.Recycle (address_of f.image x)) =
      sym (ap (λ (s : FineStep). s.act) may.makes) ∙ ap (λ (z : Todos). says f.image (f.processors k) z e.act e.moved) at in
      subst (λ a. GoesBy m a (T.after m t x Pending.Recycle (thread_at m t).pending)) (sym said)
      (record {
        step = Pending.Recycle;
        rest = (thread_at m t).pending;
        row = x;
        offered = tends refl (rel.contexts.running k there (runs-first rel there (Todo.recycle x) todo at (λ hand. hand))).started;
        chosen = recycle-chosen x todo there few at;
        says = ap (λ (i : Image). Act.Recycle (address_of i x)) (sym rel.image);
        leaves = refl;
      })
