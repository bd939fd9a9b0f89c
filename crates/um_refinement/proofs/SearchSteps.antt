-- That a look cuts an aborted thread, that a mark in a hand ends a wait or a timer, are those steps of the machine, where the relation holds: who is
-- found waits there, whoever a look for an abort finds is aborted, and the deadline of a mark in a hand has come.
use Rattle.um_refinement.proofs.Words.{◌≡◌, ℕ, ◌+◌, ◌-◌, ◌<◌, ◌≤◌, Bool, true, false, ◌∷◌, length, Option, Some, None, refl, sym, ap, ◌∙◌, subst, arith, ◌==◌, ◌&&◌, ◌||◌, IsTrue, inl, if◌then◌else◌, nat_le, nat_lt, list_all, and_from, and_parts, eqb-true, false≢true, leb-true, le-leb, ltb-true, ROWS, THREADS, Act, Row, ThreadIx, MayChoose, Pending, to_thread, tends, is_started, State, object_at, thread_at, FineAct, SiteMay, Site, SiteState, site_answers, site_at, Exchange, FineStep, Todo, Todos, CpuMay, Processor, by_me, moves, address_of, act_in, woken_in, ObjectCell, Fine, object, in_order, Rel}
use Rattle.um_base.specs.declared.limits.TheConstants.{FUTEX_CELL, JOIN_CELL}
use Rattle.um_machine.specs.declared.contents.Contents.{Contents}
use Rattle.um_machine.specs.Services.{runs_out}
use Rattle.um_machine.specs.State.{is_waiting, waiters_in}
use Rattle.um_machine.specs.Table as T
use Rattle.um_machine.specs.Time.{has_come, has_run_out}
use Rattle.um_words.specs.declared.fine.Mark.{Mark}
use Rattle.um_fine.specs.Asks.{by_actor, site_by}
use Rattle.um_fine.specs.Objects.{run_out}
use Rattle.um_fine.specs.Processor.{actor_or}
use Rattle.um_fine.specs.Seeking.{deadline_of, finds, is_number, looked_for, stands_in}
use Rattle.um_fine.specs.Sites.{site_numbered}
use Rattle.um_refinement.specs.Fine.{clock}
use Rattle.um_refinement.specs.Stops.{Looking, cell_site, is_waiting_site, looks_well, noted_at, notes_in}
use Rattle.um_refinement.specs.Timing.{is_placed}
use Rattle.um_refinement.proofs.CellSites.{site-of-cell, waiting_cell}
use Rattle.um_refinement.proofs.Erased.{Goes, GoesBy}
use Rattle.um_refinement.proofs.Offered.{runs-first}
use Rattle.um_refinement.proofs.TimeSteps.{acts-started}
use Rattle.um_refinement.proofs.WaitersFound.{WaitersWait, cell-found, found-stands, looked-found, object-cell, waiter-below, waiter-lies}
use Rattle.um_refinement.proofs.WorkSteps.{object-sort}

-- the cell of a site in which threads wait
pub cell-there : (site : ℕ) → is_waiting_site site ≡ true → (x : ℕ) × (site ≡ cell_site x) × (x < ROWS + 2)
cell-there site h = by (site == 308) refl (site == 304) refl h
  where
    object : nat_le 168 site ≡ true → nat_lt site 296 ≡ true → (x : ℕ) × (site ≡ cell_site x) × (x < ROWS + 2)
    object p q =
        let low = leb-true 168 site p in
        let high = ltb-true site 296 q in
        let x = site - 168 in
        let few : x < ROWS = omega (arith, low, high) in
        (x, numbered x few (x == JOIN_CELL) refl (x == FUTEX_CELL) refl (omega (arith, low)), omega (arith, few))
      where
        numbered : (x : ℕ) → x < ROWS → (a : Bool) → (x == JOIN_CELL) ≡ a → (b : Bool) → (x == FUTEX_CELL) ≡ b → site ≡ 168 + x → site ≡ (if x == JOIN_CELL then 308 else if x == FUTEX_CELL then 304 else 168 + x)
        numbered x few true e b g same = let at = eqb-true x JOIN_CELL e in absurd (omega (arith, few, at))
        numbered x few false e true g same = let at = eqb-true x FUTEX_CELL g in absurd (omega (arith, few, at))
        numbered x few false e false g same = same ∙ λ i. if sym e i then 308 else if sym g i then 304 else 168 + x

    by : (a : Bool) → (site == 308) ≡ a → (b : Bool) → (site == 304) ≡ b → (a || b || (nat_le 168 site && nat_lt site 296)) ≡ true → (x : ℕ) × (site ≡ cell_site x) × (x < ROWS + 2)
    by true e b g h = (JOIN_CELL, eqb-true site 308 e, omega arith)
    by false e true g h = (FUTEX_CELL, eqb-true site 304 g, omega arith)
    by false e false g h = let parts = and_parts (nat_le 168 site) (nat_lt site 296) h in object parts.0 parts.1

number-is : (d : ℕ) (o : Option ℕ) → is_number d o ≡ true → o ≡ Some d
number-is d None h = absurd (false≢true h)
number-is d (Some n) h = ap Some (sym (eqb-true d n h))

module _ (f : Fine) (m : State) (rel : Rel f m) (waiting : WaitersWait m) (long : length m.threads ≡ THREADS) (k : ℕ) (l : k < f.cpus) (e : FineStep)
    (may : CpuMay f.image (f.processors k) e) (taken : SiteMay f.image (f.sites e.site) e) where
  p : Processor
  p = f.processors k

  module _ (q : Todo) (todo : Todos) (at : (f.processors k).todo ≡ q ∷ todo) where
    made-there : e.site ≡ site_at f.image (f.processors k) (q ∷ todo)
    made-there = sym (ap (λ (s : FineStep). s.site) may.makes) ∙ ap (λ (z : Todos). site_by f.image (f.processors k) z e.act) at

    made-moves : e.moved ≡ moves f.image (f.processors k) (q ∷ todo) e.act e.moved
    made-moves = sym (ap (λ (s : FineStep). s.moved) may.makes) ∙ ap (λ (z : Todos). moves f.image (f.processors k) z e.act e.moved) at

  says-there : (i : Site) (act : FineAct) (moved : Exchange) → e.site ≡ i → e.act ≡ act → e.moved ≡ moved → site_answers f.image (f.sites i) moved act ≡ act
  says-there i act moved site said same =
      subst (λ (z : Site × FineAct × Exchange). site_answers f.image (f.sites z.0) z.2 z.1 ≡ z.1) (λ j. (site j, said j, same j)) (ap (λ (s : FineStep). s.act) taken.filled_in)

  -- An aborted thread is cut.
  module _ (who site before : ℕ) (todo : Todos) (at : (f.processors k).todo ≡ Todo.look who site before ∷ todo) (said : e.act ≡ by_me f.image (f.processors k) (Act.Cut (to_thread who))) where
    there : is_waiting_site site ≡ true
    there = (and_parts _ _ (subst (λ (z : Todos). list_all looks_well z ≡ true) at (rel.processors k l).look)).0

    pub cut-cell : (x : ℕ) × (site ≡ cell_site x) × (x < ROWS + 2)
    cut-cell = cell-there site there

    cut-found : finds (waiters_in m cut-cell.0) (notes_in f cut-cell.0) (Exchange.sought (to_thread who) (Some before)) ≡ true
    cut-found =
        let x = cut-cell in
        let place : e.site ≡ waiting_cell x.0 = made-there (Todo.look who site before) todo at ∙ (ap site_numbered x.1 ∙ site-of-cell x.0 x.2) in
        cell-found f m rel (Exchange.sought (to_thread who) (Some before)) tt _ _ x.0 x.2 (Act.Cut (to_thread who)) refl
        (says-there (waiting_cell x.0) _ (Exchange.sought (to_thread who) (Some before)) place said (made-moves (Todo.look who site before) todo at))

    stands : stands_in who (waiters_in m cut-cell.0) ≡ true
    stands = (and_parts (stands_in who (waiters_in m cut-cell.0)) _ cut-found).0

    waits : is_waiting (thread_at m who) ≡ true
    waits = waiting cut-cell.0 who stands

    aborted : (thread_at m who).aborted ≡ true
    aborted =
        let x = cut-cell in
        let few = waiter-below f m rel long who waits in
        let lies = waiter-lies f m rel long who waits in
        let thread = rel.threads who few in
        let older = ltb-true (noted_at f x.0 who) before (and_parts (stands_in who (waiters_in m x.0)) _ cut-found).1 in
        sym thread.word.aborted
        ∙ thread.looks.aborted k site before (noted_at f x.0 who) lies.0 l (subst (λ (z : Todos). Looking z who site before) (sym at) (inl (refl, refl, refl))) lies.1
        (thread.note.kept x.0 lies.0 x.2 stands lies.1) older

    pub cut-chosen : MayChoose m (f.processors k).context.thread cut-cell.0 (Pending.Cut (to_thread who))
    cut-chosen = and_from _ _ aborted (and_from _ _ waits stands)

    pub cut-started : IsTrue (is_started (thread_at m (f.processors k).context.thread).life)
    cut-started = (rel.contexts.running k l (runs-first rel l (Todo.look who site before) todo at (λ hand. hand))).started

    pub cut-step : let t = (f.processors k).context.thread in Goes m e (T.after m t cut-cell.0 (Pending.Cut (to_thread who)) (thread_at m t).pending)
    cut-step =
        let t = (f.processors k).context.thread in
        subst (λ a. GoesBy m a (T.after m t cut-cell.0 (Pending.Cut (to_thread who)) (thread_at m t).pending)) (sym said)
        (record { step = Pending.Cut (to_thread who); rest = (thread_at m t).pending; row = cut-cell.0; offered = tends refl cut-started; chosen = cut-chosen; says = refl; leaves = refl })

  -- A wait ends when its deadline has come.
  module _ (deadline : ℕ) (who : ThreadIx) (site : ℕ) (todo : Todos) (at : (f.processors k).todo ≡ Todo.handle deadline (Mark.Thread who site) ∷ todo)
      (said : e.act ≡ by_actor f.image (f.processors k) (Act.TimedOut who)) where
    come : (deadline ≤ (clock f).now) × (is_placed (Mark.Thread who site) ≡ true)
    come = rel.marks.hands k deadline (Mark.Thread who site) todo l at

    pub timeout-cell : (x : ℕ) × (site ≡ cell_site x) × (x < ROWS + 2)
    timeout-cell = cell-there site come.1

    late : deadline_of who.0 (waiters_in m timeout-cell.0) ≡ Some deadline
    late =
        let x = timeout-cell in
        let mark = Mark.Thread who site in
        let place : e.site ≡ waiting_cell x.0 = made-there (Todo.handle deadline mark) todo at ∙ (ap site_numbered x.1 ∙ site-of-cell x.0 x.2) in
        number-is deadline (deadline_of who.0 (waiters_in m x.0))
        (cell-found f m rel (Exchange.mark deadline mark) tt _ _ x.0 x.2 (Act.TimedOut who) refl
        (says-there (waiting_cell x.0) _ (Exchange.mark deadline mark) place said (made-moves (Todo.handle deadline mark) todo at)))

    late-stands : stands_in who.0 (waiters_in m timeout-cell.0) ≡ true
    late-stands = found-stands who.0 deadline (waiters_in m timeout-cell.0) late

    late-waits : is_waiting (thread_at m who.0) ≡ true
    late-waits = waiting timeout-cell.0 who.0 late-stands

    until : (thread_at m who.0).until ≡ Some deadline
    until = let x = timeout-cell in sym ((rel.threads who.0 (waiter-below f m rel long who.0 late-waits)).timeout.until x.0 x.2 late-stands) ∙ late

    pub timeout-chosen : (t : ℕ) → MayChoose m t timeout-cell.0 (Pending.TimeOut who)
    timeout-chosen t =
        let now = come.0 in
        and_from _ _ (ap (has_come m.now) until ∙ le-leb deadline m.now (subst (λ n. deadline ≤ n) rel.clock.now now)) (and_from _ _ late-waits late-stands)

    pub timeout-step : 0 < length f.image.boots → let t = actor_or f.image (f.processors k).actor in Goes m e (T.after m t timeout-cell.0 (Pending.TimeOut who) (thread_at m t).pending)
    timeout-step boots =
        let t = actor_or f.image (f.processors k).actor in
        subst (λ a. GoesBy m a (T.after m t timeout-cell.0 (Pending.TimeOut who) (thread_at m t).pending)) (sym said)
        (record {
          step = Pending.TimeOut who;
          rest = (thread_at m t).pending;
          row = timeout-cell.0;
          offered = tends refl (acts-started f m rel k l boots);
          chosen = timeout-chosen t;
          says = refl;
          leaves = refl;
        })

  -- A timer runs out.
  module _ (deadline : ℕ) (x : Row) (todo : Todos) (at : (f.processors k).todo ≡ Todo.handle deadline (Mark.Timer x) ∷ todo)
      (said : e.act ≡ by_actor f.image (f.processors k) (Act.Expire (address_of f.image x.0) (woken_in (act_in e.act)))) where
    due : (deadline ≤ (clock f).now) × (is_placed (Mark.Timer x) ≡ true)
    due = rel.marks.hands k deadline (Mark.Timer x) todo l at

    pub timer-below : x.0 < ROWS
    timer-below = ltb-true x.0 ROWS due.1

    -- what is so of the cell, and of the machine's object
    Out : ObjectCell → Type 0
    Out o = (has_run_out deadline o.contents ≡ true) × (T.replies_of (run_out o).2 ≡ woken_in (act_in e.act))

    out-there : Out (object f x.0)
    unfolding Out
    out-there =
        let mark = Mark.Timer x in
        let act = by_actor f.image (f.processors k) (Act.Expire (address_of f.image x.0) (woken_in (act_in e.act))) in
        let cell = object-sort x.0 (f.sites (Site.object x.0)) (rel.sorts (Site.object x.0)) in
        let here = subst (λ (s : SiteState). site_answers f.image s (Exchange.mark deadline mark) act ≡ act) cell.1
        (says-there (Site.object x.0) act (Exchange.mark deadline mark) (made-there (Todo.handle deadline mark) todo at) said (made-moves (Todo.handle deadline mark) todo at)) in
        let found : has_run_out deadline (object f x.0).contents ≡ true = looked-found _ _ _ _ here in (
          found,
          ap (λ z. woken_in (act_in z))
              (ap (λ b. looked_for b (by_actor f.image (f.processors k) (Act.Expire (address_of f.image x.0) (T.replies_of (run_out (object f x.0)).2)))) (sym found) ∙ here),
        )

    -- a timer runs in the cell
    pub runs-there : has_run_out deadline (object f x.0).contents ≡ true
    unfolding Out
    runs-there = out-there.0

    out-here : (has_run_out deadline (object_at m x.0).contents ≡ true)
        × (T.replies_of (runs_out (object_at m x.0).waiters (in_order (object_at m x.0).waiters)).2 ≡ woken_in (act_in e.act))
    unfolding Out
    out-here = object-cell f m rel Out x.0 timer-below (λ empty. absurd (false≢true empty.0)) (λ whole. whole) out-there

    -- its mark tells whom the timer serves
    pub expire-says : T.replies_of (runs_out (object_at m x.0).waiters (in_order (object_at m x.0).waiters)).2 ≡ woken_in (act_in e.act)
    expire-says = out-here.1

    later-out : (now : ℕ) (c : Contents) → has_run_out deadline c ≡ true → deadline ≤ now → has_run_out now c ≡ true
    later-out now (Contents.Running d) h l = let less = leb-true d deadline h in le-leb d now (omega (arith, less, l))
    later-out now c h l = absurd (false≢true h)

    pub expire-chosen : (t : ℕ) → MayChoose m t x.0 Pending.Expire
    expire-chosen t = later-out m.now (object_at m x.0).contents out-here.0 (subst (λ n. deadline ≤ n) rel.clock.now due.0)

    pub expire-step : 0 < length f.image.boots → let t = actor_or f.image (f.processors k).actor in Goes m e (T.after m t x.0 Pending.Expire (thread_at m t).pending)
    expire-step boots =
        let t = actor_or f.image (f.processors k).actor in
        subst (λ a. GoesBy m a (T.after m t x.0 Pending.Expire (thread_at m t).pending)) (sym said)
        (record {
          step = Pending.Expire;
          rest = (thread_at m t).pending;
          row = x.0;
          offered = tends refl (acts-started f m rel k l boots);
          chosen = expire-chosen t;
          says = λ i. Act.Expire (address_of (sym rel.image i) x.0) (sym out-here.1 i);
          leaves = refl;
        })
