-- What a step leaves of the own parts of threads that it isn't of, wherever they lie.
use Rattle.um_refinement.proofs.Words.{◌≡◌, ◌⊎◌, inl, inr, ℕ, zero, suc, ◌<◌, Bool, true, false, cond, [], ◌∷◌, Option, Some, None, refl, sym, ap, ◌∙◌, subst, arith, ◌==◌, eq-eqb, ne_eqb, eqb-true, eqb-false, ◌&&◌, IsTrue, if◌then◌else◌, is_some, not, unwrap_or, false≢true, true≢false, Act, Leftover, Told, THREADS, ThreadIx, own_row, Pending, Life, Thread, Steps, to_thread, is_empty, MayChoose, State, is_living, is_started, thread_at, FineAct, Unseen, ThreadWord, thread_after, thread_after_act, by_me, Context, as_thread, Todo, Todos, SiteState, s_next, same_site, site_after, Exchange, FineStep, Site, Fine, one_if, scheduler, thread_state, word, runs, Fits, is_over, IsOf, is_ended, own_part, runs_on}
use Rattle.um_machine.specs.Table as T
use Rattle.um_fine.specs.Answers.{is_void}
use Rattle.um_fine.specs.Scheduler.{is_cut, to_kill}
use Rattle.um_refinement.specs.Threads.{as_cut, cutters}
use Rattle.um_refinement.proofs.CallsKnown.{starts-known}
use Rattle.um_refinement.proofs.CuttersKept.{cutters-idle, cutters-on, cutters-other, cutters-told}
use Rattle.um_refinement.proofs.EachUncut.{NotCut}
use Rattle.um_refinement.proofs.Erased.{around}
use Rattle.um_refinement.proofs.Leaves.{Beside, Lawful, Leaves, beside, cleans, cuts, drops, event, expires, leaves, mine, nothing, passes, recycles, resumes, ticks, times_out}
use Rattle.um_refinement.proofs.ListCuts.{found}
use Rattle.um_refinement.proofs.Offered.{Shows, shown-offers, shown-on, shows-runs}
use Rattle.um_refinement.proofs.Others.{NoTurn, all-others, doing, others, starts_other}
use Rattle.um_refinement.proofs.RowSteps.{thread-sort}
use Rattle.um_refinement.proofs.SchedulerSteps.{made-says}
use Rattle.um_refinement.proofs.StepsLeft.{drops-on, passes-on}
use Rattle.um_refinement.proofs.ThreadLists.{paired-same}
use Rattle.um_refinement.proofs.VisitSteps.{visit-runs}
use Rattle.um_refinement.proofs.WordsKept.{IsShown}
use Rattle.um_refinement.proofs.WordsPart.{words-part}
use Rattle.um_refinement.proofs.Writes.{with_dropped, with_cleaner, with_left}
use Rattle.um_refinement.proofs.Taking.{CutNow, Idles, idles, kill-thread, of-cut, takes, tends}

-- a thread that was started stays so
life-started : (w : ThreadWord) (act : FineAct) → is_started w.life ≡ true → is_started (thread_after w act).life ≡ true
life-started w (FineAct.Shown said more) h = by said.act
  where
    flag : (b : Bool) (z : ThreadWord) → is_started z.life ≡ true → is_started (if b then z else w).life ≡ true
    flag true z k = k
    flag false z k = h

    by : (act : Act) → is_started (thread_after_act w more act).life ≡ true
    by Act.Exit = refl
    by Act.Killed = refl
    by (Act.Fatal reason cause) = refl
    by (Act.Start who) = refl
    by (Act.Abort who done) = flag (is_living w.life) (record w { aborted = true }) h
    by (Act.Suspend who done) = flag (is_living w.life) (record w { suspended = true }) h
    by (Act.Continue who done) = flag (is_living w.life) (record w { suspended = false }) h
    by act = h
life-started w (FineAct.Unseen Unseen.Hold) h = h
life-started w (FineAct.Unseen Unseen.LetGo) h = h
life-started w (FineAct.Unseen u) h = h

-- the cleaning of an object changes nothing of what threads do
clean-doing : (m : State) (t x : ℕ) (who : ThreadIx) (u : ℕ) → doing (thread_at (with_dropped (with_cleaner m t (own_row m.image who.0)) who.0 x) u) ≡ doing (thread_at m u)
clean-doing m t x who u =
    let s = with_cleaner m t (own_row m.image who.0) in
    let paired = paired-same doing (λ me due. refl) s who.0 x false u in
    elim (T.dropped s who.0 x) as (λ l. doing (thread_at (with_left l s who.0 x) u) ≡ doing (thread_at m u)) [
      | Leftover.NoPair ↦ refl
      | Leftover.Kept ↦ paired
      | Leftover.Gone ↦ paired
    ]

-- the row of a look, where one comes first
abbrev looks_at : Todos → Option ℕ
looks_at (Todo.look who site before ∷ todo) = Some who
looks_at todo = None

abbrev is_event : FineAct → Bool
is_event (FineAct.Shown said more) = true
is_event (FineAct.Unseen u) = false

module _ (f : Fine) (m : State) (e : FineStep) (law : Lawful f m e) where
  open around f e use {later, processor as p}

  -- one that has no step left as the machine has it, has none
  rests-alike : (c : Context) → IsOf f m c → (thread_at m c.thread).pending ≡ [] → c.pending ≡ []
  rests-alike c of none = by (cutters f c.thread) (ap (λ (th : Thread). th.pending) of.own ∙ none)
    where
      by : (n : ℕ) → (as_cut n c).pending ≡ [] → c.pending ≡ []
      by zero h = h
      by (suc n) h = absurd (false≢true (ap is_empty h))

  -- who is started next lies nowhere
  pub starts-apart : (c : Context) → IsOf f m c → is_over c ≡ false → (q : Pending) (rest : Steps) (todo : Todos) → Shows f m e.cpu e q rest todo → NotCut q → starts_other c.thread q
  starts-apart c of on (Pending.Start who script stack priority mode) rest todo h uncut = λ same.
      let new = starts-known m law.sound p.context.thread who script stack priority mode rest (shown-offers h) in
      by (thread_at m c.thread).life refl (ap (λ n. is_living (thread_at m n).life) (sym same) ∙ new.0) (ap (λ n. (thread_at m n).pending) (sym same) ∙ new.1)
    where
      by : (life : Life) → (thread_at m c.thread).life ≡ life → is_living (thread_at m c.thread).life ≡ false → (thread_at m c.thread).pending ≡ [] → ⊥
      by Life.Unborn q dead none = false≢true (sym (ap is_started q) ∙ of.started)
      by Life.Living q dead none = true≢false (sym (ap is_living q) ∙ dead)
      by Life.Ended q dead none =
          let pending = rests-alike c of none in
          true≢false (sym (λ i. ((of.ended ∙ ap is_ended q) i) && is_empty (pending i)) ∙ on)
  starts-apart c of on (Pending.Cut who) rest todo h uncut = absurd uncut
  starts-apart c of on q rest todo h uncut = tt

  uncut-shown : (q : Pending) → IsShown q → NotCut q
  uncut-shown (Pending.Cut who) h = absurd h
  uncut-shown q h = tt

  module _ (s : State) (left : Leaves f m e s) where
    -- whether a step cuts this thread
    abbrev pub CutsNot : (z : State) → Leaves f m e z → ℕ → Type 0
    CutsNot _ (beside t x q how chosen started) v = starts_other v q
    CutsNot _ l v = Unit {0}

    -- whether a step is of another thread
    abbrev pub Apart : (z : State) → Leaves f m e z → ℕ → Type 0
    Apart _ (nothing u said) v = Unit {0}
    Apart _ (event q rest todo x h shown is) v = (mine f m e ≡ v → ⊥) × starts_other v q
    Apart _ (resumes c told rest idle moved said) v = c.thread ≡ v → ⊥
    Apart _ (passes who x rest todo h said) v = mine f m e ≡ v → ⊥
    Apart _ (drops from x rest todo h said) v = mine f m e ≡ v → ⊥
    Apart _ (cleans who x rest todo h said) v = Unit {0}
    Apart _ (recycles x rest todo at l said chosen) v = Unit {0}
    Apart _ (beside t x q how chosen started) v = starts_other v q

    no-turn : (t x : ℕ) (q : Pending) → Beside f m e t x q → NoTurn m t x q
    no-turn _ _ _ (cuts who site before x todo at place inside said) = tt
    no-turn _ _ _ (times_out deadline site x who todo at place inside said) = tt
    no-turn _ _ _ (expires deadline x todo at inside said) = tt
    no-turn _ _ _ (ticks at said) = tt
    no-turn _ _ _ (leaves todo at said) = tt

    pub stays : (v : ℕ) → Apart s left v → doing (thread_at s v) ≡ doing (thread_at m v)
    stays v apart = by s left apart
      where
        by : (z : State) (l : Leaves f m e z) → Apart z l v → doing (thread_at z v) ≡ doing (thread_at m v)
        by _ (nothing u said) a = refl
        by _ (event q rest todo x h shown is) a = others m (mine f m e) v a.0 x q rest a.1
        by _ (resumes c told rest idle moved said) a = others m c.thread v a 0 Pending.Resume rest tt
        by _ (passes who x rest todo h said) a = others m (mine f m e) v a x (Pending.Inherit (to_thread who)) rest tt
        by _ (drops from x rest todo h said) a = others m (mine f m e) v a x (Pending.Drops from) rest tt
        by _ (cleans who x rest todo h said) a = clean-doing m (mine f m e) x (to_thread who) v
        by _ (recycles x rest todo at l said chosen) a = refl
        by _ (beside t x q how chosen started) a = all-others m t v x q (thread_at m t).pending (no-turn t x q how) a

    pub of-stays : (c : Context) → IsOf f m c → Apart s left c.thread → cutters later c.thread ≡ cutters f c.thread → IsOf later s c
    of-stays c of apart cuts-same =
        let same = stays c.thread apart in
        record {
          index = of.index;
          own = ap (λ n. as_thread (as_cut n c)) cuts-same ∙ (of.own ∙ ap own_part (sym same));
          waiting = λ some. of.waiting (subst (λ n. 0 < n) cuts-same some);
          claims = ap (λ (th : Thread). th.checked) same ∙ of.claims;
          ended = of.ended ∙ ap (λ (th : Thread). is_ended th.life) (sym same);
          started = subst (λ (th : Thread). IsTrue (is_started th.life)) (sym same) of.started;
          below = of.below;
        }

    -- A step that cuts another thread, or none, leaves in how many places it stands that this one was cut, unless it is taken.

    cuts-other : (v who : ℕ) (todo : Todos) (site before : ℕ) → CutsNot s left v → p.todo ≡ Todo.look who site before ∷ todo → is_void e.act ≡ false → who ≡ v → ⊥
    cuts-other v who todo site before free at finds same = by s left free
      where
        event-made : is_event e.act ≡ true
        event-made = ap is_event (made-says f m e law (Todo.look who site before ∷ todo) at ∙ ap (λ b. if b then FineAct.Unseen Unseen.Void else by_me f.image p (Act.Cut (to_thread who))) finds)

        another : (list : Todos) → p.todo ≡ list → looks_at list ≡ None → ⊥
        another list there none = false≢true (ap is_some (sym none ∙ ap looks_at (sym there ∙ at)))

        by-beside : (t x : ℕ) (q : Pending) → Beside f m e t x q → starts_other v q → ⊥
        by-beside _ _ _ (cuts w there older x list here place inside said) a =
            a (ap (λ (o : Option ℕ). unwrap_or o w) (ap looks_at (sym here ∙ at)) ∙ same)
        by-beside _ _ _ (times_out deadline there x w list here place inside said) a = another _ here refl
        by-beside _ _ _ (expires deadline x list here inside said) a = another _ here refl
        by-beside _ _ _ (ticks here said) a = another _ here refl
        by-beside _ _ _ (leaves list here said) a = another _ here refl

        by : (z : State) (l : Leaves f m e z) → CutsNot z l v → ⊥
        by _ (nothing u said) a = false≢true (sym (ap is_event said) ∙ event-made)
        by _ (event q rest list x h shown is) a = another _ h.at refl
        by _ (resumes c told rest idle moved said) a = another _ idle refl
        by _ (passes w x rest list h said) a = another _ h.at refl
        by _ (drops from x rest list h said) a = another _ h.at refl
        by _ (cleans w x rest list h said) a = another _ h.at refl
        by _ (recycles x rest list here l said chosen) a = another _ here refl
        by _ (beside t x q how chosen started) a = by-beside t x q how a

    found-none : (v : ℕ) → CutsNot s left v → (q : Todo) (todo : Todos) → p.todo ≡ q ∷ todo → found f.image v e q ≡ 0
    found-none v free (Todo.look who site before) todo at = by (is_void e.act) refl
      where
        by : (b : Bool) → is_void e.act ≡ b → (if is_void e.act then 0 else one_if (who == v)) ≡ 0
        by true k = ap (λ b. if b then 0 else one_if (who == v)) k
        by false k = ap (λ b. if b then 0 else one_if (who == v)) k ∙ ap one_if (ne_eqb who v (cuts-other v who todo site before free at k))
    found-none v free q todo at = refl

    pub cutters-same : (v : ℕ) → v < THREADS → CutsNot s left v → ((c : Context) (told : Option Told) → p.todo ≡ [] → e.moved ≡ Exchange.thread c told → c.thread ≡ v → ⊥)
        → cutters later v ≡ cutters f v
    cutters-same v few free untaken = by p.todo refl
      where
        resting : p.todo ≡ [] → Idles f e → cutters later v ≡ cutters f v
        resting at (takes first) =
            cutters-other f m e law at first.site first.said first.thread first.list first.ready v
            (λ same. untaken (to_kill (is_cut (scheduler f) first.thread) first.parked) first.told at first.moved (kill-thread (is_cut (scheduler f) first.thread) first.parked ∙ (first.same ∙ same)))
        resting at (tends is) = cutters-idle f m e law v at is.site

        by : (todo : Todos) → p.todo ≡ todo → cutters later v ≡ cutters f v
        by [] at = resting at (idles f m e law at)
        by (Todo.tell_cut who ∷ todo) at = cutters-told f m e law who todo at v few
        by (q ∷ todo) at =
            let all = cutters-on f m e law v q todo at refl in
            let none = found-none v free q todo at in omega (arith, all, none)

    -- where a step cuts it, or not
    pub cuts-or-not : (v : ℕ) → CutsNot s left v ⊎ CutNow f m e v s
    cuts-or-not v = by s left
      where
        by-beside : (t x : ℕ) (q : Pending) (how : Beside f m e t x q) → MayChoose m t x q → starts_other v q ⊎ CutNow f m e v (T.after m t x q (thread_at m t).pending)
        by-beside t x _ (cuts who site before _ todo at place inside said) chosen = which (who == v) refl
          where
            which : (b : Bool) → (who == v) ≡ b → starts_other v (Pending.Cut (to_thread who)) ⊎ CutNow f m e v (T.after m t x (Pending.Cut (to_thread who)) (thread_at m t).pending)
            which true k =
                inr (record {
                  maker = t;
                  cell = x;
                  who = who;
                  same = eqb-true who v k;
                  chosen = chosen;
                  leaves = refl;
                  site = site;
                  before = before;
                  todo = todo;
                  at = at;
                  found = ap is_void said;
                })
            which false k = inl (eqb-false who v k)
        by-beside _ _ _ (times_out deadline site x who todo at place inside said) chosen = inl tt
        by-beside _ _ _ (expires deadline x todo at inside said) chosen = inl tt
        by-beside _ _ _ (ticks at said) chosen = inl tt
        by-beside _ _ _ (leaves todo at said) chosen = inl tt

        by : (z : State) (l : Leaves f m e z) → CutsNot z l v ⊎ CutNow f m e v z
        by _ (nothing u said) = inl tt
        by _ (event q rest list x h shown is) = inl tt
        by _ (resumes c told rest idle moved said) = inl tt
        by _ (passes w x rest list h said) = inl tt
        by _ (drops from x rest list h said) = inl tt
        by _ (cleans w x rest list h said) = inl tt
        by _ (recycles x rest list here l said chosen) = inl tt
        by _ (beside t x q how chosen started) = by-beside t x q how chosen

    pub started-kept : (v : ℕ) → v < THREADS → IsTrue (is_started (thread_at m v).life) → IsTrue (is_started (thread_at s v).life)
    started-kept v few h =
        let before = (law.rel.threads v few).word.life in
        let after = (words-part f m e law v few s left).life in
        ap is_started (sym after) ∙ by (same_site e.site (Site.thread v)) refl (ap is_started before ∙ h)
      where
        by : (b : Bool) → same_site e.site (Site.thread v) ≡ b → is_started (word f v).life ≡ true → is_started (word later v).life ≡ true
        by true q k =
            ap is_started (ap (λ b. (thread_state (cond b (s_next f.image (f.sites (Site.thread v)) e) (f.sites (Site.thread v)))).life) q
            ∙ ap (λ (z : SiteState). (thread_state (site_after f.image z e.act e.moved)).life) (thread-sort v (f.sites (Site.thread v)) (law.rel.sorts (Site.thread v))))
            ∙ life-started (word f v) e.act k
        by false q k = ap is_started (ap (λ b. (thread_state (cond b (s_next f.image (f.sites (Site.thread v)) e) (f.sites (Site.thread v)))).life) q) ∙ k

    -- An own part that lies elsewhere.

    on-here : runs p ≡ true → is_over p.context ≡ false → runs_on p.context.thread p ≡ true
    on-here steps on = λ i. (steps i && eq-eqb p.context.thread p.context.thread refl i) && not (on i)

    -- the maker of an event of its thread runs that one
    mine-lies : (v : ℕ) → p.context.thread ≡ v → runs p ≡ true → is_over p.context ≡ false → runs_on v p ≡ true
    mine-lies v same steps on = subst (λ n. runs_on n p ≡ true) same (on-here steps on)

    module _ (v : ℕ) (few : v < THREADS) (c : Context) (of : IsOf f m c) (at : c.thread ≡ v) (on : is_over c ≡ false)
        (alone : runs_on v p ≡ true → ⊥) (untaken : (d : Context) (told : Option Told) → p.todo ≡ [] → e.moved ≡ Exchange.thread d told → d.thread ≡ v → ⊥) where
      pub apart-from : CutsNot s left v → Apart s left v
      apart-from free = by s left free
        where
          by : (z : State) (l : Leaves f m e z) → CutsNot z l v → Apart z l v
          by _ (nothing u said) free = tt
          by _ (event q rest todo x h shown is) free =
              (λ same. alone (mine-lies v same (shows-runs h) (shown-on h)), subst (λ n. starts_other n q) at (starts-apart c of on q rest todo h (uncut-shown q shown)))
          by _ (resumes d told rest idle moved said) free = λ same. untaken d (Some told) idle moved same
          by _ (passes who x rest todo h said) free = λ same.
              let fits = (subst (Fits f.image p.context) h.at (law.rel.processors e.cpu law.by.named).list.fits).0 in
              alone (mine-lies v same (visit-runs h (λ hand. hand)) (passes-on f.image p.context who todo fits))
          by _ (drops from x rest todo h said) free = λ same.
              let fits = subst (Fits f.image p.context) h.at (law.rel.processors e.cpu law.by.named).list.fits in
              alone (mine-lies v same (visit-runs h (λ hand. hand)) (drops-on f.image p.context todo fits))
          by _ (cleans who x rest todo h said) free = tt
          by _ (recycles x rest todo at l said chosen) free = tt
          by _ (beside t x q how chosen started) free = free

      -- it stays that of the machine's thread, also where a step cuts that one
      pub elsewhere-of : IsOf later s c
      elsewhere-of = by (cuts-or-not v)
        where
          by : CutsNot s left v ⊎ CutNow f m e v s → IsOf later s c
          by (inl free) =
              of-stays c of (subst (λ n. Apart s left n) (sym at) (apart-from free)) (subst (λ n. cutters later n ≡ cutters f n) (sym at) (cutters-same v few free untaken))
          by (inr is) = of-cut f m e law c of s (subst (λ n. CutNow f m e n s) (sym at) is)
