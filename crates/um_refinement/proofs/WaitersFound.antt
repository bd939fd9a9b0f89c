-- Who is found in a cell waits there in the machine, where the relation holds; and a thread that waits has an own part, with the number of its note.
use Rattle.um_refinement.proofs.Words.{◌≡◌, inl, inr, ℕ, zero, suc, ◌+◌, ◌<◌, ◌≤◌, Bool, true, false, List, [], ◌∷◌, length, Some, refl, sym, ap, ◌∙◌, subst, arith, ◌==◌, ◌||◌, is_some, if◌then◌else◌, nat_lt, and_parts, eq-or-lt_of_le, eqb-false, false≢true, not-true, ltb-false, ltb-true, ◌⊎◌, ROWS, THREADS, Act, Context, Event, Waiter, ThreadIx, Thread, State, nobody, object_at, thread_at, FineAct, More, Site, SiteState, site_answers, Exchange, ObjectCell, Fine, object, bytes, scheduler, parked_at, adders, of_thread, counted, is_recycle, is_wipe, one_if, runs_thread, runs_on, places, is_over, Rel, recyclers, wipers, cell_of, empty_cell, total, waits}
use Rattle.um_base.specs.declared.limits.TheConstants.{FUTEX_CELL, JOIN_CELL}
use Rattle.um_machine.specs.State.{is_to_resume, is_waiting, waiters_in}
use Rattle.um_words.specs.CellActs.{stops_waiting}
use Rattle.um_words.specs.declared.fine.Mark.{Mark}
use Rattle.um_fine.specs.Joins.{asleep_at, join_finds}
use Rattle.um_fine.specs.Objects.{object_finds}
use Rattle.um_fine.specs.Seeking.{deadline_of, finds, looked_for, stands_in}
use Rattle.um_refinement.specs.Fine.{joins}
use Rattle.um_refinement.specs.Stops.{LiesAt, asleep, notes_in, parked, runs_it}
use Rattle.um_refinement.proofs.CellSites.{waiting_cell}
use Rattle.um_refinement.proofs.CleanSteps.{adds-one}
use Rattle.um_refinement.proofs.HeldRows.{some-part}
use Rattle.um_refinement.proofs.JoinSteps.{beyond}
use Rattle.um_refinement.proofs.Kept.{joins-sort}
use Rattle.um_refinement.proofs.MemorySteps.{memory-sort}
use Rattle.um_refinement.proofs.Offered.{own-unless}
use Rattle.um_refinement.proofs.ResumeSteps.{some-is}
use Rattle.um_refinement.proofs.WorkSteps.{object-sort}

-- the machine's waiters go on once they are woken
abbrev pub WaitersWait : State → Type 0
WaitersWait m = (c t : ℕ) → stands_in t (waiters_in m c) ≡ true → is_waiting (thread_at m t) ≡ true

total-below : (a b : ℕ → ℕ) (n : ℕ) → ((k : ℕ) → k < n → a k ≤ b k) → total a n ≤ total b n
total-below a b zero h = omega arith
total-below a b (suc n) h =
    let before = total-below a b n (λ k l. h k (omega (arith, l))) in
    let last = h n (omega arith) in
    omega (arith, before, last)

-- who is looked for by an event: a thread that waits
abbrev pub IsSought : Exchange → Type 0
IsSought (Exchange.sought who (Some before)) = Unit {0}
IsSought (Exchange.mark deadline (Mark.Thread who site)) = Unit {0}
IsSought moved = ⊥

none-found : (noted : List ℕ) (moved : Exchange) → IsSought moved → finds [] noted moved ≡ true → ⊥
none-found noted (Exchange.sought who (Some before)) is h = false≢true h
none-found noted (Exchange.mark deadline (Mark.Thread who site)) is h = false≢true h
none-found noted moved is h = absurd is

-- a look that an event shows has found
pub looked-found : (b : Bool) (act : FineAct) (event : Event) (more : More) → looked_for b act ≡ FineAct.Shown event more → b ≡ true
looked-found true act event more h = refl
looked-found false act event more h = absurd (subst (λ (z : FineAct). elim z as (λ _. Type 0) [ FineAct.Unseen u ↦ Unit {0} | FineAct.Shown a b ↦ ⊥ ]) h tt)

pub found-stands : (t deadline : ℕ) (ws : List Waiter) → deadline_of t ws ≡ Some deadline → stands_in t ws ≡ true
found-stands t deadline [] h = absurd (false≢true (ap is_some h))
found-stands t deadline (w ∷ ws) h = by (w.thread.0 == t) h (found-stands t deadline ws)
  where
    by : (b : Bool) → (if b then w.until else deadline_of t ws) ≡ Some deadline → (deadline_of t ws ≡ Some deadline → stands_in t ws ≡ true) → (b || stands_in t ws) ≡ true
    by true h more = refl
    by false h more = more h

module _ (f : Fine) (m : State) (rel : Rel f m) where
  -- no more cells are cleared than objects are recycled
  wipes-few : (x : ℕ) → x < ROWS → wipers f x ≤ recyclers f x
  wipes-few x few =
      total-below (λ k. counted (is_wipe x) (f.processors k).todo) (λ k. counted (is_recycle x) (f.processors k).todo) f.cpus
      (λ k l. let order = ((rel.processors k l).cleaning x few).order in omega (arith, order))

  -- the cell of an object has what the machine's object has, or is empty
  pub object-cell : {A : Type 0} (P : ObjectCell → Type 0) (x : ℕ) → x < ROWS → (P (empty_cell (object f x).noted) → A) → (P (cell_of (object f x).noted (object_at m x)) → A) → P (object f x) → A
  object-cell {A} P x few empty whole h = by (eq-or-lt_of_le (wipes-few x few))
    where
      by : (wipers f x ≡ recyclers f x) ⊎ (wipers f x < recyclers f x) → A
      by (inl same) = whole (subst P ((rel.rows x few).contents.whole same) h)
      by (inr less) = empty (subst P ((rel.rows x few).contents.cleared less) h)

  object-found : (x : ℕ) (moved : Exchange) → x < ROWS → IsSought moved → finds (object f x).waiters (object f x).noted moved ≡ true → finds (object_at m x).waiters (object f x).noted moved ≡ true
  object-found x moved few is h =
      object-cell (λ (o : ObjectCell). finds o.waiters o.noted moved ≡ true) x few (λ none. absurd (none-found (object f x).noted moved is none)) (λ found. found) h

  -- Who is found where the site of a cell says so waits there in the machine.
  module _ (moved : Exchange) (is : IsSought moved) (t : ThreadIx) (more : More) where
    abbrev shows : Act → FineAct
    shows act = FineAct.Shown (record { thread = t; act = act }) more

    abbrev Says : Site → Act → Type 0
    Says i act = site_answers f.image (f.sites i) moved (shows act) ≡ shows act

    object-finds : (moved : Exchange) → IsSought moved → (o : ObjectCell) → object_finds o moved ≡ finds o.waiters o.noted moved
    object-finds (Exchange.sought who (Some before)) is o = refl
    object-finds (Exchange.mark deadline (Mark.Thread who site)) is o = refl
    object-finds moved is o = absurd is

    joins-find : (moved : Exchange) → IsSought moved → join_finds (joins f) moved ≡ finds (joins f).waiters (joins f).noted moved
    joins-find (Exchange.sought who (Some before)) is = refl
    joins-find (Exchange.mark deadline (Mark.Thread who site)) is = refl
    joins-find moved is = absurd is

    object-looked : (x : ℕ) (act : Act) → stops_waiting act ≡ true → Says (Site.object x) act → object_finds (object f x) moved ≡ true
    object-looked x (Act.TimedOut who) h says =
        let cell = object-sort x (f.sites (Site.object x)) (rel.sorts (Site.object x)) in
        looked-found _ _ _ _ (subst (λ (s : SiteState). site_answers f.image s moved (shows (Act.TimedOut who)) ≡ shows (Act.TimedOut who)) cell.1 says)
    object-looked x (Act.Cut who) h says =
        let cell = object-sort x (f.sites (Site.object x)) (rel.sorts (Site.object x)) in
        looked-found _ _ _ _ (subst (λ (s : SiteState). site_answers f.image s moved (shows (Act.Cut who)) ≡ shows (Act.Cut who)) cell.1 says)
    object-looked x act h says = absurd (false≢true h)

    memory-looked : (act : Act) → stops_waiting act ≡ true → Says Site.memory act → finds (bytes f).futexes (bytes f).noted moved ≡ true
    memory-looked (Act.TimedOut who) h says =
        looked-found _ _ _ _ (subst (λ (s : SiteState). site_answers f.image s moved (shows (Act.TimedOut who)) ≡ shows (Act.TimedOut who)) (memory-sort (f.sites Site.memory) (rel.sorts Site.memory)).1 says)
    memory-looked (Act.Cut who) h says =
        looked-found _ _ _ _ (subst (λ (s : SiteState). site_answers f.image s moved (shows (Act.Cut who)) ≡ shows (Act.Cut who)) (memory-sort (f.sites Site.memory) (rel.sorts Site.memory)).1 says)
    memory-looked act h says = absurd (false≢true h)

    joins-looked : (act : Act) → stops_waiting act ≡ true → Says Site.joins act → join_finds (joins f) moved ≡ true
    joins-looked (Act.TimedOut who) h says =
        looked-found _ _ _ _ (subst (λ (s : SiteState). site_answers f.image s moved (shows (Act.TimedOut who)) ≡ shows (Act.TimedOut who)) (joins-sort (f.sites Site.joins) (rel.sorts Site.joins)).1 says)
    joins-looked (Act.Cut who) h says =
        looked-found _ _ _ _ (subst (λ (s : SiteState). site_answers f.image s moved (shows (Act.Cut who)) ≡ shows (Act.Cut who)) (joins-sort (f.sites Site.joins) (rel.sorts Site.joins)).1 says)
    joins-looked act h says = absurd (false≢true h)

    pub cell-found : (x : ℕ) → x < ROWS + 2 → (act : Act) → stops_waiting act ≡ true → Says (waiting_cell x) act → finds (waiters_in m x) (notes_in f x) moved ≡ true
    cell-found x inside act h says = by (x == JOIN_CELL) refl (x == FUTEX_CELL) refl
      where
        Cell : Bool → Bool → Type 0
        Cell a b =
            finds (if a then m.joins else if b then m.futexes else (object_at m x).waiters) (if a then (joins f).noted else if b then (bytes f).noted else (object f x).noted) moved
            ≡ true

        At : Bool → Bool → Type 0
        At a b = Says (if a then Site.joins else if b then Site.memory else Site.object x) act

        says-at : (a b : Bool) → (x == JOIN_CELL) ≡ a → (x == FUTEX_CELL) ≡ b → At a b
        says-at a b p q = subst (λ (z : Bool × Bool). Says (if z.0 then Site.joins else if z.1 then Site.memory else Site.object x) act) (λ i. (p i, q i)) says

        back : (a b : Bool) → (x == JOIN_CELL) ≡ a → (x == FUTEX_CELL) ≡ b → Cell a b → finds (waiters_in m x) (notes_in f x) moved ≡ true
        back a b p q found =
            subst (λ (z : Bool × Bool). finds (if z.0 then m.joins else if z.1 then m.futexes else (object_at m x).waiters) (if z.0 then (joins f).noted else if z.1 then (bytes f).noted else (object f x).noted) moved ≡ true)
            (λ i. (sym p i, sym q i)) found

        by : (a : Bool) → (x == JOIN_CELL) ≡ a → (b : Bool) → (x == FUTEX_CELL) ≡ b → finds (waiters_in m x) (notes_in f x) moved ≡ true
        by true p b q =
            back true b p q (ap (λ ws. finds ws (joins f).noted moved) (sym rel.joins.waiters) ∙ (sym (joins-find moved is) ∙ joins-looked act h (says-at true b p q)))
        by false p true q =
            back false true p q (ap (λ ws. finds ws (bytes f).noted moved) (sym rel.memory.futexes) ∙ memory-looked act h (says-at false true p q))
        by false p false q =
            let one = eqb-false x JOIN_CELL p in
            let two = eqb-false x FUTEX_CELL q in
            let few : x < ROWS = omega (arith, inside, one, two) in
            back false false p q (object-found x moved few is (sym (object-finds moved is (object f x)) ∙ object-looked x act h (says-at false false p q)))

  -- A thread that waits has an own part somewhere.
  module _ (long : length m.threads ≡ THREADS) (t : ℕ) (waiting : is_waiting (thread_at m t) ≡ true) where
    resumes : is_to_resume (thread_at m t).pending ≡ true
    resumes = (and_parts (is_to_resume (thread_at m t).pending) _ waiting).0

    pub waiter-below : t < THREADS
    waiter-below = by (nat_lt t THREADS) refl
      where
        by : (b : Bool) → nat_lt t THREADS ≡ b → t < THREADS
        by true e = ltb-true t THREADS e
        by false e = let past = ltb-false t THREADS e in absurd (false≢true (sym (ap (λ (me : Thread). is_to_resume me.pending) (beyond m.threads t nobody (omega (arith, past, long)))) ∙ resumes))

    at-rest : (thread_at m t).pending ≡ [] → ⊥
    at-rest none = false≢true (sym (ap is_to_resume none) ∙ resumes)

    pub waiter-lies : (c : Context) × LiesAt f t c
    waiter-lies = by-parked (is_some (parked_at (scheduler f) t)) refl
      where
        with-processor : (k : ℕ) → k < f.cpus → 0 < one_if (runs_on t (f.processors k)) + of_thread t (adders (f.processors k).todo) → (c : Context) × LiesAt f t c
        with-processor k there some = choose (runs_on t (f.processors k)) refl
          where
            added : 0 < of_thread t (adders (f.processors k).todo) → ⊥
            added more =
                let c = adds-one t (f.processors k).todo more in
                let of = rel.contexts.added k c.0 there c.1 in
                at-rest (ap (λ n. (thread_at m n).pending) (sym c.2) ∙ (sym (ap (λ (z : Thread). z.pending) (own-unless of.0 (ap waits of.2))) ∙ of.2))

            choose : (b : Bool) → runs_on t (f.processors k) ≡ b → (c : Context) × LiesAt f t c
            choose true e =
                let all = and_parts (runs_thread t (f.processors k)) _ e in ((f.processors k).context, runs_it k there all.0 (not-true (is_over (f.processors k).context) all.1))
            choose false e = let lacks : one_if (runs_on t (f.processors k)) ≡ 0 = ap one_if e in absurd (added (omega (arith, some, lacks)))

        somewhere : is_some (parked_at (scheduler f) t) ≡ false → is_some (asleep_at (joins f) t) ≡ false → (c : Context) × LiesAt f t c
        somewhere up awake = by (places f t) refl
          where
            by : (n : ℕ) → places f t ≡ n → (c : Context) × LiesAt f t c
            by zero none = absurd (at-rest ((rel.threads t waiter-below).away.away none).1)
            by (suc n) some =
                let one : one_if (is_some (parked_at (scheduler f) t)) ≡ 0 = ap one_if up in
                let two : one_if (is_some (asleep_at (joins f) t)) ≡ 0 = ap one_if awake in
                let k = some-part (λ j. one_if (runs_on t (f.processors j)) + of_thread t (adders (f.processors j).todo)) f.cpus (omega (arith, some, one, two)) in
                with-processor k.0 k.1 k.2

        by-asleep : (b : Bool) → is_some (asleep_at (joins f) t) ≡ b → is_some (parked_at (scheduler f) t) ≡ false → (c : Context) × LiesAt f t c
        by-asleep true e up = let c = some-is (asleep_at (joins f) t) e in (c.0, asleep c.0 c.1)
        by-asleep false e up = somewhere up e

        by-parked : (b : Bool) → is_some (parked_at (scheduler f) t) ≡ b → (c : Context) × LiesAt f t c
        by-parked true e = let c = some-is (parked_at (scheduler f) t) e in (c.0, parked c.0 c.1)
        by-parked false e = by-asleep (is_some (asleep_at (joins f) t)) refl e
