-- Own parts that are to be added, of new threads and of those that are roused, are as the machine's threads say, after every lawful step.
use Rattle.um_refinement.proofs.Words.{waits, begins_cleaning, context_in, ◌≡◌, inl, inr, ℕ, zero, suc, ◌<◌, Bool, true, false, cond, [], ◌∷◌, Option, Some, None, refl, sym, ap, ◌∙◌, subst, arith, ℤ, ◌==◌, IsTrue, if◌then◌else◌, is_some, eqb-false, eqb-true, true≢false, Told, THREADS, Mode, Row, ThreadIx, IsLawful, Pending, Thread, Steps, to_thread, is_empty, State, is_started, thread_at, with_thread, FineAct, Unseen, is_word_read, Context, as_thread, newborn, goes_on_by, p_next, Todo, Todos, Processor, parked_at, Exchange, FineStep, Fine, one_if, scheduler, AreFramed, Adds, Fits, behind_shown, IsOf, is_ended, own_part, runs_on}
use Rattle.um_machine.specs.Table as T
use Rattle.um_fine.specs.Answers.{is_void}
use Rattle.um_fine.specs.Follows.{filled_up}
use Rattle.um_fine.specs.Joins.{asleep_at}
use Rattle.um_fine.specs.Places.{armed_for, settling}
use Rattle.um_refinement.specs.Fine.{joins}
use Rattle.um_refinement.specs.Stops.{LiesAt, asleep}
use Rattle.um_refinement.specs.Threads.{as_cut, cutters}
use Rattle.um_refinement.proofs.CallsKnown.{starts-below, starts-known}
use Rattle.um_refinement.proofs.ContextsPart.{is_shown, makes-part, not-idle, read-only, taken-lies}
use Rattle.um_refinement.proofs.Erased.{around}
use Rattle.um_refinement.proofs.Kept.{rouses-sleeper}
use Rattle.um_refinement.proofs.LawfulSteps.{Suits}
use Rattle.um_refinement.proofs.Leaves.{Beside, Lawful, Leaves, beside, cleans, cuts, drops, event, expires, leaves, nothing, passes, recycles, resumes, ticks, times_out}
use Rattle.um_refinement.proofs.ListAdders.{filled-adds, is_rouse_step, next-adds, takes-none}
use Rattle.um_refinement.proofs.ListGrips.{read-rests}
use Rattle.um_refinement.proofs.ListGrowth.{ReadsLast}
use Rattle.um_refinement.proofs.ListTails.{quiet-next}
use Rattle.um_refinement.proofs.MemoryPart.{InDomains}
use Rattle.um_refinement.proofs.NoteFacts.{rests-unnoted}
use Rattle.um_refinement.proofs.Offered.{own-unless, IsStep, Shows, behind-is, own-same, shown-offers}
use Rattle.um_refinement.proofs.OwnKept.{starts-another}
use Rattle.um_refinement.proofs.PartsElsewhere.{cutters-same, elsewhere-of}
use Rattle.um_refinement.proofs.PlacesFacts.{adds-count, lies-here, lies-once, lies-unparked, lies-unslept}
use Rattle.um_refinement.proofs.SchedulerSteps.{made-says}
use Rattle.um_refinement.proofs.StepReads.{behind_first, shows_first}
use Rattle.um_refinement.proofs.StepsLeft.{rests-on}
use Rattle.um_refinement.proofs.ThreadLists.{at-here, set-else}

module _ (f : Fine) (m : State) (e : FineStep) (law : Lawful f m e) where
  open around f e use {later, processor as p, now}

  -- New threads that are still to be added.

  abbrev IsAdded : State → Context → Type 0
  IsAdded s c = IsOf later s c × (c.ended ≡ false) × (c.pending ≡ []) × (c.noted ≡ None)

  module _ (lawful : IsLawful m.image) (suits : Suits f m) (all : InDomains f m) where
    -- nobody has cut a thread that is started
    started-uncut : (x : ℕ) (who : ThreadIx) (script : ℕ) (stack : Row) (priority : ℤ) (mode : Mode) (rest : Steps) (todo : Todos)
        → Shows f m e.cpu e (Pending.Start who script stack priority mode) rest todo → IsStep f m e.cpu e x (Pending.Start who script stack priority mode) → who.0 < THREADS → cutters later who.0 ≡ 0
    started-uncut x who script stack priority mode rest todo h is few =
        cutters-same f m e law _ (event (Pending.Start who script stack priority mode) rest todo x h tt is) who.0 few tt (λ d told idle. absurd (not-idle f m e law (Todo.show h.listed rest) todo h.at idle))
        ∙ none (cutters f who.0) refl
      where
        none : (n : ℕ) → cutters f who.0 ≡ n → n ≡ 0
        none zero k = refl
        none (suc n) k =
            let killed = (law.rel.threads who.0 few).cut.left (omega (arith, k)) in
            let rests = (starts-known m law.sound p.context.thread who script stack priority mode rest (shown-offers h)).1 in
            absurd (true≢false (ap is_empty (sym rests ∙ killed)))

    new-part : (x : ℕ) (who : ThreadIx) (script : ℕ) (stack : Row) (priority : ℤ) (mode : Mode) (rest : Steps) (todo : Todos)
        → Shows f m e.cpu e (Pending.Start who script stack priority mode) rest todo → IsStep f m e.cpu e x (Pending.Start who script stack priority mode)
        → IsAdded (T.after m p.context.thread x (Pending.Start who script stack priority mode) rest) (newborn f.image p.context (Pending.Start who script stack priority mode))
    new-part x who script stack priority mode rest todo h is =
        let q = Pending.Start who script stack priority mode in
        let t = p.context.thread in
        let me = thread_at m t in
        let child = T.newborn m me who.0 script q in
        let s = with_thread m who.0 child in
        let few = starts-below m law.sound lawful t who script stack priority mode rest (shown-offers h) in
        let many = law.sound.wide.threads in
        let other = starts-another f m e law suits all rest todo who script stack priority mode h in
        let now : thread_at (T.after m t x q rest) who.0 ≡ child =
        set-else s.threads t who.0 (T.at_steps s.image (record (thread_at s t) { child = None }) rest) (λ same. other (sym same)) ∙ at-here m.threads who.0 child (omega (arith, few, many)) in
        let uncut = started-uncut x who script stack priority mode rest todo h is few in
        let pool : p.context.pool ≡ me.pool = ap (λ (th : Thread). th.pool) (own-same h) in (
          record {
            index = few;
            own = ap (λ n. as_thread (as_cut n (newborn f.image p.context q))) uncut ∙ (λ i. as_thread (newborn (sym law.rel.image i) (record p.context { pool = pool i }) q)) ∙ ap own_part (sym now);
            waiting = λ some. absurd (omega (arith, some, uncut));
            claims = ap (λ (th : Thread). th.checked) now;
            ended = ap (λ (th : Thread). is_ended th.life) (sym now);
            started = subst (λ (th : Thread). IsTrue (is_started th.life)) (sym now) refl;
            below = refl;
          },
          refl,
          refl,
          refl,
        )

    added-stays : (s : State) (how : Leaves f m e s) (c : Context) → (is : IsOf f m c × (c.ended ≡ false) × (c.pending ≡ []) × (c.noted ≡ None)) → (runs_on c.thread p ≡ true → ⊥)
        → ((d : Context) (told : Option Told) → p.todo ≡ [] → e.moved ≡ Exchange.thread d told → d.thread ≡ c.thread → ⊥) → IsAdded s c
    added-stays s how c is alone untaken = (elsewhere-of f m e law s how c.thread is.0.index c is.0 refl (rests-on c is.1) alone untaken, is.1, is.2, is.3)

    -- on the maker's list
    mine-stays : (s : State) (how : Leaves f m e s) (q : Todo) (todo : Todos) → p.todo ≡ q ∷ todo → (c : Context) → Adds c (q ∷ todo) → IsAdded s c
    mine-stays s how q todo at c adds =
        let here = subst (Adds c) (sym at) adds in
        let is = law.rel.contexts.added e.cpu c law.by.named here in
        added-stays s how c is
        (λ mine-on.
        let count = adds-count c p.todo here in
        let one = ap one_if mine-on in
        let most = lies-here f m law.rel c.thread is.0.index e.cpu law.by.named in
        omega (arith, count, one, most))
        (λ d told idle. absurd (not-idle f m e law q todo at idle))

    abbrev starts-none : Pending → Type 0
    starts-none (Pending.Start who script stack priority mode) = ⊥
    starts-none q = Unit {0}

    bare-adds : (c : Context) (q : Pending) (todo : Todos) → todo ≡ behind_shown f.image p.context q → starts-none q → Adds c todo → ⊥
    bare-adds c q todo behind none adds = by q none (subst (Adds c) behind adds)
      where
        settled : (o : Option ℕ) (q : Pending) → Adds c (settling f.image p.context o q) → ⊥
        settled None q h = h
        settled (Some deadline) q h = h

        by : (q : Pending) → starts-none q → Adds c (behind_shown f.image p.context q) → ⊥
        by (Pending.Start who script stack priority mode) none h = none
        by (Pending.Work a ask) none h = settled (armed_for f.image p.context (Pending.Work a ask)) (Pending.Work a ask) h
        by (Pending.Join who timeout) none h = settled (armed_for f.image p.context (Pending.Join who timeout)) (Pending.Join who timeout) h
        by (Pending.FutexWait a value timeout) none h = settled (armed_for f.image p.context (Pending.FutexWait a value timeout)) (Pending.FutexWait a value timeout) h
        by q none h = h

    shown-adds : (x : ℕ) (q : Pending) (rest : Steps) (todo : Todos) → Shows f m e.cpu e q rest todo → IsStep f m e.cpu e x q → (c : Context) → Adds c todo → IsAdded (T.after m p.context.thread x q rest) c
    shown-adds x (Pending.Start who script stack priority mode) rest todo h is c adds = by (subst (Adds c) (behind-is h) adds)
      where
        by : Adds c (behind_shown f.image p.context (Pending.Start who script stack priority mode)) → IsAdded (T.after m p.context.thread x (Pending.Start who script stack priority mode) rest) c
        by (inl same) = subst (IsAdded (T.after m p.context.thread x (Pending.Start who script stack priority mode) rest)) (sym same) (new-part x who script stack priority mode rest todo h is)
        by (inr none) = absurd none
    shown-adds x q rest todo h is c adds = absurd (bare-adds c q todo (behind-is h) tt adds)

    mine-added : (s : State) (how : Leaves f m e s) (c : Context) → Adds c now.todo → IsAdded s c
    mine-added s how c adds = by p.todo refl
      where
        behind : (q : Todo) (todo : Todos) → p.todo ≡ q ∷ todo → is_rouse_step q ≡ false → ReadsLast e q todo → Adds c todo
        behind q todo at other last = next-adds f.image p e q todo c at other ((subst (AreFramed f.image) at (law.rel.processors e.cpu law.by.named).frames).0) last adds

        shows-last : (q : Pending) (rest : Steps) (todo : Todos) → p.todo ≡ Todo.show q rest ∷ todo → is_word_read e.act ≡ true → todo ≡ []
        shows-last q rest todo at read =
            (subst (Fits f.image p.context) at (law.rel.processors e.cpu law.by.named).list.fits).1 ∙ read-rests f.image p p.context q e.act (made-says f m e law (Todo.show q rest ∷ todo) at) read

        shown : (q : Pending) (rest : Steps) (todo : Todos) → p.todo ≡ Todo.show q rest ∷ todo → IsAdded s c
        shown q rest todo at = by-leaves s how
          where
            list : Adds c todo
            list = behind (Todo.show q rest) todo at refl (shows-last q rest todo at)

            by-leaves : (z : State) → Leaves f m e z → IsAdded z c
            by-leaves _ (nothing u said) = absurd (subst (Adds c) (shows-last q rest todo at (read-only f m e law q (made-says f m e law (Todo.show q rest ∷ todo) at) (ap is_shown said))) list)
            by-leaves _ (event r more later-todo x h shown is) = shown-adds x r more later-todo h is c (subst (Adds c) (ap behind_first (sym at ∙ h.at)) list)
            by-leaves _ (resumes d told more idle moved said) = absurd (not-idle f m e law (Todo.show q rest) todo at idle)
            by-leaves _ (passes who x more l h said) = absurd (true≢false (ap shows_first (sym at ∙ h.at)))
            by-leaves _ (drops from x more l h said) = absurd (true≢false (ap shows_first (sym at ∙ h.at)))
            by-leaves _ (cleans who x more l h said) = absurd (true≢false (ap shows_first (sym at ∙ h.at)))
            by-leaves _ (recycles x more l there few said chosen) = absurd (true≢false (ap shows_first (sym at ∙ there)))
            by-leaves _ (beside t x r made chosen started) = by-beside t x r made
              where
                by-beside : (t x : ℕ) (r : Pending) → Beside f m e t x r → IsAdded (T.after m t x r (thread_at m t).pending) c
                by-beside _ _ _ (cuts who site before x l there inside few said) = absurd (true≢false (ap shows_first (sym at ∙ there)))
                by-beside _ _ _ (times_out deadline site x who l there inside few said) = absurd (true≢false (ap shows_first (sym at ∙ there)))
                by-beside _ _ _ (expires deadline x l there inside said) = absurd (true≢false (ap shows_first (sym at ∙ there)))
                by-beside _ _ _ (ticks idle said) = absurd (not-idle f m e law (Todo.show q rest) todo at idle)
                by-beside _ _ _ (leaves l there said) = absurd (true≢false (ap shows_first (sym at ∙ there)))

        -- one that slept is to be added
        roused : (who : ℕ) (todo : Todos) → p.todo ≡ Todo.rouse who ∷ todo → (b : Bool) → is_void e.act ≡ b → IsAdded s c
        roused who todo at void found = one-or (subst (Adds c) (ap (λ (z : Processor). z.todo) exact ∙ ap (λ b. filled_up f.image p.context (if b then todo else Todo.add (context_in e.moved) ∷ todo)) found) adds)
          where
            unseen : (b : Bool) → (u : Unseen) × ((if b then FineAct.Unseen Unseen.Void else FineAct.Unseen (Unseen.Rouse (to_thread who))) ≡ FineAct.Unseen u)
                × (begins_cleaning (record e { act = FineAct.Unseen u }) ≡ false)
            unseen true = (Unseen.Void, refl, refl)
            unseen false = (Unseen.Rouse (to_thread who), refl, refl)

            exact : now ≡ goes_on_by f.image p e (Todo.rouse who ∷ todo)
            exact = let u = unseen (is_void e.act) in quiet-next f.image p e (Todo.rouse who ∷ todo) u.0 at (made-says f m e law (Todo.rouse who ∷ todo) at ∙ u.1) u.2

            left : Adds c todo → IsAdded s c
            left there = mine-stays s how (Todo.rouse who) todo at c there

            -- one that slept was at rest, so it has no note
            unnoted : (d : Context) → asleep_at (joins f) who ≡ Some d → d.noted ≡ None
            unnoted d here =
                let is = law.rel.contexts.asleep who d here in
                let rests = sym (ap (λ (z : Thread). z.pending) (own-unless is.0 (ap waits is.3))) ∙ is.3 in
                let note = (law.rel.threads d.thread is.0.index).note in
                let lies : LiesAt f d.thread d = asleep d (ap (asleep_at (joins f)) is.1 ∙ here) in
                none-left d.noted (sym (note.there d lies) ∙ ap is_some (rests-unnoted f m d.thread note rests))
              where
                none-left : (o : Option ℕ) → is_some o ≡ false → o ≡ None
                none-left None h = refl
                none-left (Some n) h = absurd (true≢false h)

            sleeper : is_void e.act ≡ false → c ≡ context_in e.moved → IsAdded s c
            sleeper finds same =
                let (d, here, moved) = rouses-sleeper f m law.rel p e law.by.may law.taken who todo at finds in
                let is = law.rel.contexts.asleep who d here in
                let slept : is_some (asleep_at (joins f) d.thread) ≡ true = ap (λ n. is_some (asleep_at (joins f) n)) is.1 ∙ ap is_some here in
                subst (IsAdded s) (sym (same ∙ ap context_in moved))
                (added-stays s how d (is.0, is.2, is.3, unnoted d here)
                (λ mine-on. let one = ap one_if mine-on in true≢false (sym slept ∙ lies-unslept f m law.rel d.thread is.0.index e.cpu law.by.named (omega (arith, one))))
                (λ z told idle. absurd (not-idle f m e law (Todo.rouse who) todo at idle)))

            one-or : Adds c (filled_up f.image p.context (if void then todo else Todo.add (context_in e.moved) ∷ todo)) → IsAdded s c
            one-or there = by-void void found there
              where
                by-void : (b : Bool) → is_void e.act ≡ b → Adds c (filled_up f.image p.context (if b then todo else Todo.add (context_in e.moved) ∷ todo)) → IsAdded s c
                by-void true k h = left (filled-adds f.image p.context todo c h)
                by-void false k (inl same) = sleeper k same
                by-void false k (inr h) = left h

        by : (todo : Todos) → p.todo ≡ todo → IsAdded s c
        by [] at = absurd (takes-none f.image p e c at adds)
        by (Todo.show q rest ∷ todo) at = shown q rest todo at
        by (Todo.rouse who ∷ todo) at = roused who todo at (is_void e.act) refl
        by (Todo.add d ∷ todo) at = mine-stays s how (Todo.add d) todo at c (inr (behind (Todo.add d) todo at refl tt))
        by (q ∷ todo) at = mine-stays s how q todo at c (behind q todo at refl tt)

    pub added-field : (s : State) (how : Leaves f m e s) (k : ℕ) (c : Context) → k < f.cpus → Adds c (later.processors k).todo → IsAdded s c
    added-field s how k c l = by (e.cpu == k) refl
      where
        by : (b : Bool) → (e.cpu == k) ≡ b → Adds c (cond b (p_next f.image (f.processors k) e) (f.processors k)).todo → IsAdded s c
        by true q h = subst (λ n. Adds c (p_next f.image (f.processors n) e).todo → IsAdded s c) (eqb-true e.cpu k q) (mine-added s how c) h
        by false q h =
            let is = law.rel.contexts.added k c l h in
            let few = is.0.index in
            let count = adds-count c (f.processors k).todo h in
            added-stays s how c is
            (λ mine-on. lies-once f m law.rel c.thread few e.cpu k law.by.named l (eqb-false e.cpu k q) (makes-part f m e law c.thread mine-on) (omega (arith, count)))
            (λ d told idle moved same.
            let there : is_some (parked_at (scheduler f) c.thread) ≡ true = ap (λ n. is_some (parked_at (scheduler f) n)) (sym same) ∙ taken-lies f m e law idle d told moved in
            true≢false (sym there ∙ lies-unparked f m law.rel c.thread few k l (omega (arith, count))))
