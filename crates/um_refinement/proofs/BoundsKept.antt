-- The bounds are kept by every lawful step.
use Rattle.um_refinement.proofs.Words.{FineAct, Unseen, IsOffered, context_in, goes_on_by, not, scheduler, is_some, thread_in, unwrap_or, waits, at_set, slice_set, ◌&&◌, is_empty, ◌≡◌, inl, inr, ℕ, ◌<◌, ◌≤◌, Bool, true, false, cond, List, [], ◌∷◌, length, Option, Some, None, refl, sym, ap, ◌∙◌, subst, arith, eq-eqb, ◌==◌, ◌||◌, if◌then◌else◌, slice_index_or, list_all, and_parts, eqb-true, false≢true, true≢false, Told, Image, IsLawful, row_at, Pending, Thread, has_kind, verdict, Steps, to_thread, is_empty, State, object_at, IsSited, row_kind, passed, AreKept, are_orderly, act_in, is_visit, verdict_in, begins_cleaning, says, Context, after_show, after_take, p_next, Todo, Todos, Processor, Exchange, FineStep, Fine, AreFramed, Adds, counted, has_steps, is_end_call, runs, Fits, behind_shown, is_over, Rel, IsOf, kind_is, row_has}
use Rattle.um_machine.specs.Services.{told}
use Rattle.um_words.specs.declared.fine.Mark.{Mark}
use Rattle.um_fine.specs.Answers.{is_tick, is_void}
use Rattle.um_fine.specs.Asks.{says_turn}
use Rattle.um_fine.specs.Follows.{filled_up, shown_step}
use Rattle.um_fine.specs.Joins.{Joins, asleep_at, join_after}
use Rattle.um_fine.specs.Places.{armed_for, put_away, settling}
use Rattle.um_fine.specs.Scheduler.{is_cut, to_kill}
use Rattle.um_refinement.specs.Fine.{joins}
use Rattle.um_refinement.specs.Lists.{times}
use Rattle.um_refinement.specs.Offers as O
use Rattle.um_refinement.specs.Timing.{IsHand, IsPaying}
use Rattle.um_refinement.proofs.Kept.{rouses-sleeper}
use Rattle.um_refinement.proofs.ListCuts.{found}
use Rattle.um_refinement.proofs.ListRuns as R
use Rattle.um_refinement.proofs.ListTails.{quiet-next}
use Rattle.um_refinement.proofs.ParkedPart.{asleep-same, awake-act, idle-awake, is_sleeping, joins-later}
use Rattle.um_refinement.proofs.Rousing.{sleepers}
use Rattle.um_refinement.proofs.Bounds.{AreBounded, AreThreads}
use Rattle.um_refinement.proofs.BoundsWoken.{uncut-kept, wakes-mine}
use Rattle.um_refinement.proofs.CallBounds.{Bounded, bounded-few}
use Rattle.um_refinement.proofs.CallBoundsKept.{IsBounded, Makes, Passes, continues-bounded, drops-bounded, newborn-bounded, offered-makes, resumes-bounded}
use Rattle.um_refinement.proofs.CallsKnown.{RestsHoldNothing}
use Rattle.um_refinement.proofs.ContextsPart.{flags-none, is_shown, now-context, quiet-context, ran, take-context}
use Rattle.um_refinement.proofs.Erased.{around}
use Rattle.um_refinement.proofs.LawfulSteps.{Suits}
use Rattle.um_refinement.proofs.Leaves.{Beside, Lawful, Leaves, beside, cleans, cuts, drops, event, expires, leaves as tells_left, nothing, passes, recycles, resumes, ticks as time_passes, times_out}
use Rattle.um_refinement.proofs.ListAdders.{filled-adds, is_rouse_step, next-adds, takes-none}
use Rattle.um_refinement.proofs.ListEnds.{IsShown, next-ends}
use Rattle.um_refinement.proofs.ListGrips.{read-rests}
use Rattle.um_refinement.proofs.ListRuns.{ends-rests}
use Rattle.um_refinement.proofs.ListSingles.{AreSingle, are_in_order, next-are-single, shows_single}
use Rattle.um_refinement.proofs.ListGrowth.{ReadsLast, is_end}
use Rattle.um_refinement.proofs.ListWakes.{wakers}
use Rattle.um_refinement.proofs.MemoryPart.{InDomains}
use Rattle.um_refinement.proofs.Offered.{IsStep, IsStopping, Shows, by-made, own-unless, runs-first}
use Rattle.um_refinement.proofs.OwnKept.{acts}
use Rattle.um_refinement.proofs.Taking.{Idles, IsTaken, idles, taken-parked, takes, tends}
use Rattle.um_refinement.proofs.SchedulerBounds.{inside-kept, parked-kept, ready-kept}
use Rattle.um_refinement.proofs.SchedulerSteps.{made-at, made-moves, made-says}
use Rattle.um_refinement.proofs.StepsLeft.{rests-on}

some-context : {c d : Context} → Some c ≡ Some d → c ≡ d
some-context {c} h = ap (λ (o : Option Context). unwrap_or o c) h

module _ (f : Fine) (m : State) (e : FineStep) (law : Lawful f m e) (was : AreBounded f) where
  open around f e use {later, processor as p, now}

  fits-at : (todo : Todos) → p.todo ≡ todo → Fits f.image p.context todo
  fits-at todo at = subst (Fits f.image p.context) at (law.rel.processors e.cpu law.by.named).list.fits

  frame : (q : Todo) (todo : Todos) → p.todo ≡ q ∷ todo → AreFramed f.image (q ∷ todo)
  frame q todo at = subst (AreFramed f.image) at (law.rel.processors e.cpu law.by.named).frames

  bounded-mine : runs p ≡ true → IsBounded f.image p.context
  bounded-mine run = was.running e.cpu law.by.named run

  -- a processor with this first on its list runs its thread
  run-at : (q : Todo) (todo : Todos) → p.todo ≡ q ∷ todo → (IsHand (q ∷ todo) → ⊥) → runs p ≡ true
  run-at q todo at other = runs-first law.rel law.by.named q todo at other

  shows-run : (q : Pending) (rest : Steps) (todo : Todos) → p.todo ≡ Todo.show q rest ∷ todo → runs p ≡ true
  shows-run q rest todo at = run-at (Todo.show q rest) todo at (λ hand. hand)

  -- what is so of each processor
  of-each : (P : Processor → Type 0) → P now → ((k : ℕ) → k < f.cpus → P (f.processors k)) → (k : ℕ) → k < f.cpus → P (later.processors k)
  of-each P mine other k l = by (e.cpu == k) refl
    where
      by : (b : Bool) → (e.cpu == k) ≡ b → P (cond b (p_next f.image (f.processors k) e) (f.processors k))
      by true q = subst (λ n. P (p_next f.image (f.processors n) e)) (eqb-true e.cpu k q) mine
      by false q = other k l

  -- The ends of claims.

  shown-is : (x : ℕ) (todo : Todos) → p.todo ≡ todo → IsShown f.image x p.context todo
  shown-is x (Todo.show q rest ∷ todo) at =
      (bounded-few f.image (length p.context.claims) p.context.pending (bounded-mine (shows-run q rest todo at)).steps, (fits-at (Todo.show q rest ∷ todo) at).1)
  shown-is x todo at = tt

  ends-kept : (k x : ℕ) → k < f.cpus → counted (is_end_call x) (later.processors k).todo ≤ 2
  ends-kept k x l =
      of-each (λ z. counted (is_end_call x) z.todo ≤ 2) (next-ends f.image x p e (shown-is x p.todo refl) (was.ends e.cpu x law.by.named)) (λ j few. was.ends j x few) k l

  module _ (rests : RestsHoldNothing m) (lawful : IsLawful f.image) (sited : IsSited f.image) where
    -- Own parts.

    holds-none : runs p ≡ true → p.context.ended ≡ false → p.context.pending ≡ [] → p.context.claims ≡ []
    holds-none run on none =
        let of = (law.rel.contexts.running e.cpu law.by.named run).of (rests-on p.context on) in
        let own = own-unless of (ap waits none) in
        flags-none p.context.claims of.below
        (λ x. ap (λ (flags : List Bool). slice_index_or flags x false) (sym of.claims) ∙ rests p.context.thread x (inr (sym (ap (λ (th : Thread). th.pending) own) ∙ none)))

    makes-listed : (q : Pending) (rest : Steps) (todo : Todos) → p.todo ≡ Todo.show q rest ∷ todo → Makes f.image p.context q rest
    makes-listed q rest todo at =
        let run = shows-run q rest todo at in offered-makes f.image p.context q rest (bounded-mine run).steps (holds-none run) (fits-at (Todo.show q rest ∷ todo) at).0

    -- one that is killed in place of its begin has nothing left
    killed-makes : (q : Pending) (rest : Steps) (todo : Todos) → p.todo ≡ Todo.show q rest ∷ todo → IsStopping q → Makes f.image p.context Pending.Killed rest
    killed-makes q rest todo at stops = by q at stops (fits-at (Todo.show q rest ∷ todo) at).0
      where
        few : runs p ≡ true → length p.context.claims ≤ 2
        few run = bounded-few f.image (length p.context.claims) p.context.pending (bounded-mine run).steps

        steps-are : (q : Pending) → p.todo ≡ Todo.show q rest ∷ todo → (steps : Steps) → p.context.pending ≡ steps → Bounded f.image (length p.context.claims) steps
        steps-are q at steps e = subst (Bounded f.image (length p.context.claims)) e (bounded-mine (shows-run q rest todo at)).steps

        begins : (rest : Steps) → p.todo ≡ Todo.show Pending.Begin rest ∷ todo → IsOffered f.image p.context Pending.Begin rest → Bounded f.image (length p.context.claims) rest
        begins rest at (O.goes e) = absurd (subst (Bounded f.image (length p.context.claims)) e (bounded-mine (shows-run Pending.Begin rest todo at)).steps)
        begins rest at (O.passed e) = absurd (subst (Bounded f.image (length p.context.claims)) e (bounded-mine (shows-run Pending.Begin rest todo at)).steps)
        begins rest at (O.dropped e) = absurd (subst (Bounded f.image (length p.context.claims)) e (bounded-mine (shows-run Pending.Begin rest todo at)).steps)
        begins _ at (O.begins e on i) = few (shows-run Pending.Begin [] todo at)

        exits : (rest : Steps) → p.todo ≡ Todo.show Pending.Exit rest ∷ todo → IsOffered f.image p.context Pending.Exit rest → Bounded f.image (length p.context.claims) rest
        exits rest at (O.goes e) = subst (Bounded f.image (length p.context.claims)) e (bounded-mine (shows-run Pending.Exit rest todo at)).steps
        exits rest at (O.passed e) = subst (Bounded f.image (length p.context.claims)) e (bounded-mine (shows-run Pending.Exit rest todo at)).steps
        exits rest at (O.dropped e) = subst (Bounded f.image (length p.context.claims)) e (bounded-mine (shows-run Pending.Exit rest todo at)).steps
        exits _ at (O.exits e on i) = few (shows-run Pending.Exit [] todo at)

        by : (q : Pending) → p.todo ≡ Todo.show q rest ∷ todo → IsStopping q → IsOffered f.image p.context q rest → Makes f.image p.context Pending.Killed rest
        by Pending.Begin at stops offered = begins rest at offered
        by Pending.Exit at stops offered = exits rest at offered
        by Pending.Killed at stops offered = makes-listed Pending.Killed rest todo at
        by q at stops offered = absurd stops

    makes-it : (q : Pending) (rest : Steps) (todo : Todos) → Shows f m e.cpu e q rest todo → Makes f.image p.context q rest
    makes-it q rest todo h = by-made h (λ z. Makes f.image p.context z rest) (λ goes. makes-listed h.listed rest todo h.at) (λ killed stops. killed-makes h.listed rest todo h.at stops)

    passes-found : (q : Pending) (x : ℕ) → IsStep f m e.cpu e x q → Passes f.image q (act_in e.act)
    passes-found (Pending.Check a kind want refusal) x is = λ said.
        let ok : verdict m p.context.thread a.0 kind want ≡ None = sym (ap verdict_in (acts is)) ∙ said in
        let one = passed m p.context.thread kind want (row_at m.image a.0) ok in
        let known = law.sound.known.claimed in
        let has = row_has kind (object_at m one.0).kind (row_kind m.image one.0) one.3 (λ h e. known.kinds one.0 h (kind_is m one.0 ∙ e)) in
        (one.0, ap (λ (i : Image). row_at i a.0) (sym law.rel.image) ∙ one.1, subst (λ (i : Image). has_kind kind (Some (row_kind i one.0)) ≡ true) law.rel.image has)
    passes-found q x is = tt

    -- who is taken keeps within the bounds, cut or not
    kill-bounded : (b : Bool) (c : Context) → IsBounded f.image c → IsBounded f.image (to_kill b c)
    kill-bounded true c h = record { stack = h.stack; steps = bounded-few f.image (length c.claims) c.pending h.steps }
    kill-bounded false c h = h

    taken : p.todo ≡ [] → runs now ≡ true → is_shown e.act ≡ false → IsBounded f.image now.context
    taken at run quiet = by (idles f m e law at)
      where
        told-none : (first : IsTaken f e) → (told : Option Told) → e.moved ≡ Exchange.thread (to_kill (is_cut (scheduler f) first.thread) first.parked) told → IsBounded f.image now.context
        told-none first None moved =
            let c = to_kill (is_cut (scheduler f) first.thread) first.parked in
            subst (IsBounded f.image) (sym (now-context f m e law [] at ∙ (ap (λ (mv : Exchange). (after_take f.image p mv).context) moved ∙ take-context f.image p c)))
            (kill-bounded (is_cut (scheduler f) first.thread) first.parked (was.parked first.thread first.parked first.there))
        told-none first (Some w) moved = absurd (false≢true (sym quiet ∙ ap is_shown (first.said ∙ ap (says_turn f.image p) moved)))

        by : Idles f e → IsBounded f.image now.context
        by (takes first) = told-none first first.told first.moved
        by (tends is) = absurd (false≢true (sym (R.takes-none f.image p e at is.other is.quiet) ∙ run))

    noted-bounded : (c : Context) (n : Option ℕ) → IsBounded f.image c → IsBounded f.image (record c { noted = n })
    noted-bounded c n h = record { stack = h.stack; steps = h.steps }

    same-mine : runs now ≡ true → (q : Todo) (todo : Todos) → p.todo ≡ q ∷ todo → is_end q ≡ false → (goes_on_by f.image p e (q ∷ todo)).context ≡ p.context → IsBounded f.image now.context
    same-mine run q todo at goes same = subst (IsBounded f.image) (sym (now-context f m e law (q ∷ todo) at ∙ same)) (bounded-mine (ran f m e law q todo at goes run))

    quiet-mine : runs now ≡ true → is_shown e.act ≡ false → (todo : Todos) → p.todo ≡ todo → IsBounded f.image now.context
    quiet-mine run quiet [] at = taken at run quiet
    quiet-mine run quiet (Todo.sleep ∷ todo) at =
        let b = bounded-mine (ran f m e law Todo.sleep todo at refl run) in
        subst (IsBounded f.image) (sym (now-context f m e law (Todo.sleep ∷ todo) at)) (record { stack = let l = b.stack in omega (arith, l); steps = omega arith })
    quiet-mine run quiet (q ∷ todo) at = by (is_end q) refl
      where
        none : (q : Todo) → is_end q ≡ true → e.act ≡ says f.image p (q ∷ todo) e.act e.moved → begins_cleaning e ≡ false
        none Todo.park h said = ap (λ a. begins_cleaning (record e { act = a })) said
        none Todo.done h said = ap (λ a. begins_cleaning (record e { act = a })) said
        none Todo.paid h said = ap (λ a. begins_cleaning (record e { act = a })) said
        none r h said = absurd (false≢true h)

        by : (b : Bool) → is_end q ≡ b → IsBounded f.image now.context
        by false goes =
            let r = quiet-context f m e law q todo at goes refl quiet in
            subst (IsBounded f.image) (sym r.1) (noted-bounded p.context r.0 (bounded-mine (ran f m e law q todo at goes run)))
        by true over =
            absurd
            (false≢true
            (sym (ap (λ (z : Todos). has_steps z && not (times z)) (ends-rests f.image p e q todo at over (none q over (made-says f m e law (q ∷ todo) at)))) ∙ run))

    beside-mine : (t x : ℕ) (q : Pending) → Beside f m e t x q → runs now ≡ true → IsBounded f.image now.context
    beside-mine t x _ (cuts who site before _ todo at place inside said) run = same-mine run (Todo.look who site before) todo at refl refl
    beside-mine t x _ (times_out deadline site _ who todo at place inside said) run = same-mine run (Todo.handle deadline (Mark.Thread who site)) todo at refl refl
    beside-mine t x _ (expires deadline y todo at inside said) run = same-mine run (Todo.handle deadline (Mark.Timer y)) todo at refl refl
    beside-mine t x _ (time_passes at said) run = by (idles f m e law at)
      where
        turns : (c : Context) (told : Option Told) → e.act ≡ says_turn f.image p (Exchange.thread c told) → ⊥
        turns c None k = false≢true (ap is_tick (sym k ∙ said))
        turns c (Some w) k = false≢true (ap is_tick (sym k ∙ said))

        by : Idles f e → IsBounded f.image now.context
        by (takes first) = absurd (turns (to_kill (is_cut (scheduler f) first.thread) first.parked) first.told (first.said ∙ ap (says_turn f.image p) first.moved))
        by (tends is) = absurd (false≢true (sym (R.takes-none f.image p e at is.other is.quiet) ∙ run))
    beside-mine t x _ (tells_left todo at said) run = same-mine run Todo.leave todo at refl refl

    running-mine : (s : State) (how : Leaves f m e s) → runs now ≡ true → IsBounded f.image now.context
    running-mine _ (nothing u said) run = quiet-mine run (ap is_shown said) p.todo refl
    running-mine _ (event q rest todo x h shown is) run =
        subst (IsBounded f.image)
        (sym (now-context f m e law (Todo.show h.listed rest ∷ todo) h.at
        ∙ (ap (λ b. (if b then record p { todo = put_away (thread_in e.word).doomed } else after_show f.image p e (shown_step f.image h.listed e.act) rest todo).context) h.shown
        ∙ ap (λ r. (after_show f.image p e r rest todo).context) h.made)))
        (continues-bounded f.image sited lawful p.context 0 q rest (act_in e.act) e.moved (bounded-mine (shows-run h.listed rest todo h.at)) (makes-it q rest todo h) (passes-found q x is))
    running-mine _ (resumes c told rest idle moved said) run =
        subst (IsBounded f.image) (sym (now-context f m e law [] idle ∙ ap (λ (mv : Exchange). (after_take f.image p mv).context) moved))
        (resumes-bounded f.image c told (was.parked c.thread c (taken-parked f m e law idle c told moved)))
    running-mine _ (passes who x rest todo v said) run = same-mine run (Todo.pass who x) todo v.at refl refl
    running-mine _ (drops from x rest todo v said) run =
        subst (IsBounded f.image) (sym (now-context f m e law (Todo.drop x ∷ todo) v.at))
        (drops-bounded f.image p.context x (is_visit e.act) todo (fits-at (Todo.drop x ∷ todo) v.at) (bounded-mine (ran f m e law (Todo.drop x) todo v.at refl run)))
    running-mine _ (cleans who x rest todo v said) run = same-mine run (Todo.clean_pair who x) todo v.at refl refl
    running-mine _ (recycles x rest todo at few said chosen) run = same-mine run (Todo.recycle x) todo at refl refl
    running-mine _ (beside t x q how chosen started) run = beside-mine t x q how run

    -- New threads.

    settled-adds : (c : Context) (until : Option ℕ) (q : Pending) → Adds c (settling f.image p.context until q) → ⊥
    settled-adds c None q h = h
    settled-adds c (Some deadline) q h = h

    new-bounded : (q : Pending) (rest : Steps) (todo : Todos) → p.todo ≡ Todo.show q rest ∷ todo → (c : Context) → Adds c (behind_shown f.image p.context q) → IsBounded f.image c
    new-bounded (Pending.Start who script stack priority mode) rest todo at c (inl same) =
        subst (IsBounded f.image) (sym same) (newborn-bounded f.image p.context who script stack priority mode rest (makes-listed (Pending.Start who script stack priority mode) rest todo at))
    new-bounded (Pending.Start who script stack priority mode) rest todo at c (inr h) = absurd h
    new-bounded (Pending.Load to a n) rest todo at c h = absurd h
    new-bounded (Pending.Store a n value) rest todo at c h = absurd h
    new-bounded (Pending.Fetch a) rest todo at c h = absurd h
    new-bounded (Pending.Probe a amount) rest todo at c h = absurd h
    new-bounded (Pending.CopyIn a amount) rest todo at c h = absurd h
    new-bounded (Pending.CopyOut a) rest todo at c h = absurd h
    new-bounded (Pending.CopyStr a) rest todo at c h = absurd h
    new-bounded (Pending.Work a ask) rest todo at c h = absurd (settled-adds c (armed_for f.image p.context (Pending.Work a ask)) (Pending.Work a ask) h)
    new-bounded (Pending.Join who timeout) rest todo at c h = absurd (settled-adds c p.context.until (Pending.Join who timeout) h)
    new-bounded (Pending.FutexWait a value timeout) rest todo at c h = absurd (settled-adds c p.context.until (Pending.FutexWait a value timeout) h)
    new-bounded (Pending.FutexWake a every) rest todo at c h = absurd h
    new-bounded q rest todo at c h = absurd h

    added-mine : (c : Context) → Adds c now.todo → IsBounded f.image c
    added-mine c adds = by p.todo refl
      where
        tail : (q : Todo) (todo : Todos) → p.todo ≡ q ∷ todo → is_rouse_step q ≡ false → ReadsLast e q todo → Adds c todo
        tail q todo at other last = next-adds f.image p e q todo c at other (frame q todo at).0 last adds

        before : (q : Todo) (todo : Todos) → p.todo ≡ q ∷ todo → Adds c (q ∷ todo) → IsBounded f.image c
        before q todo at h = was.added e.cpu c law.by.named (subst (Adds c) (sym at) h)

        -- one that slept is to be added
        roused : (who : ℕ) (todo : Todos) → p.todo ≡ Todo.rouse who ∷ todo → (b : Bool) → is_void e.act ≡ b → IsBounded f.image c
        roused who todo at void found =
            by void found (subst (Adds c) (ap (λ (z : Processor). z.todo) exact ∙ ap (λ b. filled_up f.image p.context (if b then todo else Todo.add (context_in e.moved) ∷ todo)) found) adds)
          where
            unseen : (b : Bool) → (u : Unseen) × ((if b then FineAct.Unseen Unseen.Void else FineAct.Unseen (Unseen.Rouse (to_thread who))) ≡ FineAct.Unseen u)
                × (begins_cleaning (record e { act = FineAct.Unseen u }) ≡ false)
            unseen true = (Unseen.Void, refl, refl)
            unseen false = (Unseen.Rouse (to_thread who), refl, refl)

            exact : now ≡ goes_on_by f.image p e (Todo.rouse who ∷ todo)
            exact = let u = unseen (is_void e.act) in quiet-next f.image p e (Todo.rouse who ∷ todo) u.0 at (made-says f m e law (Todo.rouse who ∷ todo) at ∙ u.1) u.2

            sleeper : is_void e.act ≡ false → c ≡ context_in e.moved → IsBounded f.image c
            sleeper finds same =
                let (d, here, moved) = rouses-sleeper f m law.rel p e law.by.may law.taken who todo at finds in subst (IsBounded f.image) (sym (same ∙ ap context_in moved)) (was.asleep who d here)

            by : (b : Bool) → is_void e.act ≡ b → Adds c (filled_up f.image p.context (if b then todo else Todo.add (context_in e.moved) ∷ todo)) → IsBounded f.image c
            by true k h = before (Todo.rouse who) todo at (filled-adds f.image p.context todo c h)
            by false k (inl same) = sleeper k same
            by false k (inr h) = before (Todo.rouse who) todo at h

        by : (todo : Todos) → p.todo ≡ todo → IsBounded f.image c
        by [] at = absurd (takes-none f.image p e c at adds)
        by (Todo.show q rest ∷ todo) at =
            let behind = (fits-at (Todo.show q rest ∷ todo) at).1 in
            new-bounded q rest todo at c
            (subst (Adds c) behind (tail (Todo.show q rest) todo at refl (λ read. behind ∙ read-rests f.image p p.context q e.act (made-says f m e law (Todo.show q rest ∷ todo) at) read)))
        by (Todo.rouse who ∷ todo) at = roused who todo at (is_void e.act) refl
        by (Todo.add d ∷ todo) at = before (Todo.add d) todo at (inr (tail (Todo.add d) todo at refl tt))
        by (q ∷ todo) at = before q todo at (tail q todo at refl tt)

    -- Threads that sleep.

    asleep-kept : (t : ℕ) (c : Context) → asleep_at (joins later) t ≡ Some c → IsBounded f.image c
    asleep-kept t c there = by p.todo refl
      where
        same : is_sleeping e.act ≡ false → IsBounded f.image c
        same awake = was.asleep t c (ap (λ (xs : List (Option Context)). slice_index_or xs t None) (sym (asleep-same f m e law awake)) ∙ there)

        set : (who : ℕ) (o : Option Context) → (o ≡ Some c → IsBounded f.image c) → (joins later).asleep ≡ slice_set (joins f).asleep who o → IsBounded f.image c
        set who o new e =
            at_set (λ n (o : Option Context). o ≡ Some c → IsBounded f.image c) (joins f).asleep who t o None new (was.asleep t c)
            (ap (λ (xs : List (Option Context)). slice_index_or xs t None) (sym e) ∙ there)

        roused : (who : ℕ) (todo : Todos) → p.todo ≡ Todo.rouse who ∷ todo → (b : Bool) → is_void e.act ≡ b → IsBounded f.image c
        roused who todo at true k = same (ap is_sleeping (made-says f m e law (Todo.rouse who ∷ todo) at ∙ ap (λ b. if b then FineAct.Unseen Unseen.Void else FineAct.Unseen (Unseen.Rouse (to_thread who))) k))
        roused who todo at false k = set who None (λ e. absurd (false≢true (ap is_some e))) (sleepers f m e law who todo at k)

        by : (todo : Todos) → p.todo ≡ todo → IsBounded f.image c
        by [] at = same (idle-awake f m e law at)
        by (Todo.sleep ∷ todo) at =
            set p.context.thread (Some p.context) (λ e. subst (IsBounded f.image) (some-context e) (bounded-mine (run-at Todo.sleep todo at (λ hand. hand))))
            (ap (λ (j : Joins). j.asleep) (joins-later f m e law (made-at f m e law (Todo.sleep ∷ todo) at) _ (made-says f m e law (Todo.sleep ∷ todo) at))
            ∙ ap (λ (mv : Exchange). (join_after (joins f) (FineAct.Unseen Unseen.Sleep) mv).asleep) (made-moves f m e law (Todo.sleep ∷ todo) at))
        by (Todo.rouse who ∷ todo) at = roused who todo at (is_void e.act) refl
        by (q ∷ todo) at = same (awake-act f m e law q todo at refl)

    -- The list.

    orderly-mine : (s : State) → Rel later s → AreKept s → runs now ≡ true → are_in_order now.context.pending ≡ true
    orderly-mine s after kept run = by (is_over now.context) refl
      where
        of : is_over now.context ≡ false → IsOf later s now.context
        of = subst (λ (z : Processor). runs z ≡ true → is_over z.context ≡ false → IsOf later s z.context) (ap (λ b. cond b (p_next f.image p e) p) (eq-eqb e.cpu e.cpu refl)) (λ r. (after.contexts.running e.cpu law.by.named r).of) run

        over : (c : Context) → is_over c ≡ true → c.pending ≡ []
        over c h = by c.pending (and_parts c.ended _ h).1
          where
            by : (steps : Steps) → is_empty steps ≡ true → steps ≡ []
            by [] h = refl
            by (q ∷ rest) h = absurd (false≢true h)

        own-orderly : IsOf later s now.context → (b : Bool) → waits now.context.pending ≡ b → (b || are_orderly now.context.pending) ≡ true
        own-orderly is true w = refl
        own-orderly is false awake = ap (λ (th : Thread). are_orderly th.pending) (own-unless is awake) ∙ (kept.orderly now.context.thread).steps

        by : (b : Bool) → is_over now.context ≡ b → are_in_order now.context.pending ≡ true
        by true h = ap are_in_order (over now.context h)
        by false h = own-orderly (of h) (waits now.context.pending) refl

    -- the list of a processor with a mark in its hand shows nothing
    paying-single : (todo : Todos) → IsPaying todo → AreSingle todo
    paying-single [] h = absurd h
    paying-single (Todo.wake who told ∷ todo) h = paying-single todo h
    paying-single (Todo.paid ∷ todo) h = ap (list_all shows_single) h
    paying-single (q ∷ todo) h = absurd h

    hand-single : (todo : Todos) → IsHand todo → AreSingle todo
    hand-single [] h = absurd h
    hand-single (Todo.handle deadline mark ∷ todo) h = ap (list_all shows_single) h
    hand-single (q ∷ todo) h = paying-single (q ∷ todo) h

    single-mine : (s : State) → Rel later s → AreKept s → AreSingle now.todo
    single-mine s after kept = by (times now.todo) refl
      where
        hand : times now.todo ≡ true → IsHand now.todo
        hand =
            subst (λ (z : Processor). times z.todo ≡ true → IsHand z.todo) (ap (λ b. cond b (p_next f.image p e) p) (eq-eqb e.cpu e.cpu refl)) (after.processors e.cpu law.by.named).timer.hand

        idle : (todo : Todos) → has_steps todo ≡ false → AreSingle todo
        idle [] h = refl
        idle (q ∷ todo) h = absurd (true≢false h)

        steps : times now.todo ≡ false → (b : Bool) → has_steps now.todo ≡ b → AreSingle now.todo
        steps none true h =
            next-are-single f.image p e (law.rel.processors e.cpu law.by.named).frames (orderly-mine s after kept (λ i. h i && not (none i))) (was.single e.cpu law.by.named)
        steps none false h = idle now.todo h

        by : (b : Bool) → times now.todo ≡ b → AreSingle now.todo
        by true h = hand-single now.todo (hand h)
        by false h = steps h (has_steps now.todo) refl

    module _ (suits : Suits f m) (all : InDomains f m) (kept : AreKept m) where
      -- so all bounds are kept
      pub bounds-kept : (s : State) (leaves : Leaves f m e s) → Rel later s → AreKept s → AreBounded later
      bounds-kept s leaves after kept-then =
          record {
            single = of-each (λ z. AreSingle z.todo) (single-mine s after kept-then) was.single;
            ends = ends-kept;
            wakes = of-each (λ z. AreThreads (wakers z.todo)) (wakes-mine f m e law was suits all kept s leaves) was.wakes;
            running = of-each (λ z. runs z ≡ true → IsBounded f.image z.context) (running-mine s leaves) was.running;
            parked = parked-kept f m e law was;
            asleep = asleep-kept;
            uncut = uncut-kept f m e law was suits all kept s leaves;
            added = λ k c l. of-each (λ z. Adds c z.todo → IsBounded f.image c) (added-mine c) (λ j few. was.added j c few) k l;
            inside = inside-kept f m e law was;
            ready = ready-kept f m e law was;
          }
