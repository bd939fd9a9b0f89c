-- Every lawful step of the one processor keeps `IsFull`: what its thread has still to pass on or to drop is due.
use Rattle.std.proofs.Common.{Bool, None, Option, Some, [], ap, arith, false, length, refl, subst, sym, true, ℕ, ◌+◌, ◌<◌, ◌∙◌, ◌∷◌, ◌≡◌, ◌≢◌, inl, inr}
use Rattle.std.proofs.lemmas.Bool.{false≢true, true≢false, not-true}
use Rattle.std.specs.Prelude.{if◌then◌else◌, not, slice_index_or, ◌&&◌, ◌==◌, ◌||◌}
use Rattle.um_base.specs.Lawful.{IsLawful}
use Rattle.um_base.specs.Places.{own_row}
use Rattle.um_base.specs.declared.ask.Told.{Told}
use Rattle.um_base.specs.declared.names.ThreadIx.{ThreadIx}
use Rattle.um_machine.specs.Order.{Steps, end_steps, fatal_steps, to_thread}
use Rattle.um_machine.specs.Run.{MayChoose, MayClean, Offers}
use Rattle.um_machine.specs.State.{State, thread_at}
use Rattle.um_machine.specs.Writes.{Edit, Effect, effect}
use Rattle.um_machine.specs.declared.pending.Pending.{Pending}
use Rattle.um_machine.specs.declared.thread.Thread.{Thread}
use Rattle.um_invariants.proofs.Claims.{claims as claims_child}
use Rattle.um_invariants.proofs.Cores.{Call, call_is}
use Rattle.um_invariants.proofs.ThreadWords.{AreKept, are_plain}
use Rattle.um_invariants.specs.InOrder.{Point}
use Rattle.um_words.specs.declared.fine.FineAct.{FineAct}
use Rattle.um_fine.specs.Answers.{act_in, thread_in}
use Rattle.um_fine.specs.Asks.{begins_cleaning, says_turn}
use Rattle.um_fine.specs.Context.{Context}
use Rattle.um_fine.specs.Continues.{continues, resumed, resumed_at}
use Rattle.um_fine.specs.Follows.{after_show, after_take, dropped_at, shown_step}
use Rattle.um_fine.specs.Places.{Todo, Todos, put_away}
use Rattle.um_fine.specs.Scheduler.{is_cut, takes_turn, to_kill, waits}
use Rattle.um_fine.specs.Steps.{Exchange, FineStep}
use Rattle.um_refinement.proofs.ChildSteps.{Creates, InOrder}
use Rattle.um_refinement.proofs.ChildrenKnown.{AllCreate, offered-stands}
use Rattle.um_refinement.proofs.ClaimRoom.{child-claims}
use Rattle.um_refinement.proofs.CleanSteps.{Calls, OwnRows}
use Rattle.um_refinement.proofs.ContextsPart.{is_shown, now-context, quiet-context, ran, take-context}
use Rattle.um_refinement.proofs.Continued.{continues-thread}
use Rattle.um_refinement.proofs.DuesFilled.{child-below, created, offers-plain, resumes-plain}
use Rattle.um_refinement.proofs.Erased.{around}
use Rattle.um_refinement.proofs.IdleComplete.{one-holds}
use Rattle.um_refinement.proofs.Leaves.{Beside, HasStep, Lawful, Leaves, beside, cleans, drops, event, nothing, passes, recycles, resumes}
use Rattle.um_refinement.proofs.ListGrowth.{is_end}
use Rattle.um_refinement.proofs.ListRuns.{ends-rests, takes-none}
use Rattle.um_refinement.proofs.Offered.{Shows, by-made, own-unless, runs-first, shown-offers, shows-runs}
use Rattle.um_refinement.proofs.Taking.{Idles as Takes, IsTaken, idles as idles-by, taken-parked, taken-uncut, takes, tends}
use Rattle.um_refinement.proofs.Reachable.{sound-held}
use Rattle.um_refinement.proofs.SchedulerSteps.{made-says}
use Rattle.um_refinement.proofs.StepsLeft.{is_first, steps-on}
use Rattle.um_refinement.proofs.VisitSteps.{Visits, visit-part, visit-runs}
use Rattle.um_refinement.proofs.WordsKept.{IsShown}
use Rattle.um_refinement.specs.Dues.{is_visiting}
use Rattle.um_refinement.specs.Fine.{Fine, scheduler}
use Rattle.um_refinement.specs.Lists.{has_steps, runs, times, visited}
use Rattle.um_refinement.specs.Offers.{IsPutBack, is_over}
use Rattle.um_refinement.specs.Threads.{IsOf, IsRun}
use Rattle.um_order.proofs.EventLines.{own-is}
use Rattle.um_order.proofs.ParkedThreads.{over-rests}
use Rattle.um_order.proofs.Standing.{IsFull}
use Rattle.um_machine.specs.Table as T
use Rattle.um_machine.specs.Objects as Plain
use Rattle.um_order.proofs.CleanOrder.{may-clean}
use Rattle.um_order.proofs.FullFacts.{Quiet, still-full, waits-quiet, is_begin, opens_visits, continued-quiet, order-of, stands-creates, ended-full, fatal-full, given-full, same-full, drops-full, passes-full, cleans-full, resumed-quiet}

module _ (f : Fine) (at : Point) (e : FineStep) (law : Lawful f at.state e) (one : f.cpus ≡ 1) (kept : AreKept at.state) (orderly : AllCreate at.state) (lawful : IsLawful at.state.image)
    (calls : Calls at.state) (own : OwnRows f.image)
    (besides : (t x : ℕ) (q : Pending) → Beside f at.state e t x q → MayChoose at.state t x q → runs (around f e).now ≡ true → IsFull (T.after at.state t x q (thread_at at.state t).pending) (around f e).now.context.thread (around f e).now.context.pending)
    (was : runs (f.processors e.cpu) ≡ true → IsFull at.state (f.processors e.cpu).context.thread (f.processors e.cpu).context.pending) where
  open around f e use {later, processor as p, now}

  abbrev m : State
  m = at.state

  abbrev t : ℕ
  t = p.context.thread

  abbrev Full : State → Type 0
  Full s = IsFull s now.context.thread now.context.pending

  carry : (s : State) (c : Context) → now.context ≡ c → IsFull s c.thread c.pending → Full s
  carry s c same h = subst (λ (z : Context). IsFull s z.thread z.pending) (sym same) h

  quiet-full : is_shown e.act ≡ false → runs now ≡ true → Full m
  quiet-full quiet on = by p.todo refl
    where
      over : (q : Todo) (todo : Todos) → p.todo ≡ q ∷ todo → is_end q ≡ true → begins_cleaning e ≡ false → ⊥
      over q todo list ends none = false≢true (sym (ap (λ (z : Todos). has_steps z && not (times z)) (ends-rests f.image p e q todo list ends none)) ∙ on)

      put-back : (c : Context) → IsPutBack c → is_visiting c.pending ≡ false
      put-back c (inl none) = ap is_visiting none
      put-back c (inr waiting) = waits-quiet c.pending waiting

      killed-quiet : (b : Bool) (c : Context) → IsPutBack c → is_visiting (to_kill b c).pending ≡ false
      killed-quiet true c put = refl
      killed-quiet false c put = put-back c put

      untold : (first : IsTaken f e) → (o : Option Told) → first.told ≡ o → o ≡ None
      untold first None h = refl
      untold first (Some w) h =
          absurd (true≢false (ap (λ o. is_shown (takes_turn (to_kill (is_cut (scheduler f) first.thread) first.parked) o)) (sym h)
          ∙ (ap is_shown (sym (first.said ∙ ap (says_turn f.image p) first.moved)) ∙ quiet)))

      taken : p.todo ≡ [] → Takes f e → Full m
      taken list (takes first) =
          let c = to_kill (is_cut (scheduler f) first.thread) first.parked in
          let moved = first.moved ∙ ap (Exchange.thread c) (untold first first.told refl) in
          carry m c (now-context f m e law [] list ∙ (ap (λ (mv : Exchange). (after_take f.image p mv).context) moved ∙ take-context f.image p c))
          (still-full m c.thread c.pending (killed-quiet (is_cut (scheduler f) first.thread) first.parked (law.rel.contexts.parked first.thread first.parked first.there).3))
      taken list (tends is) = absurd (false≢true (sym (takes-none f.image p e list is.other is.quiet) ∙ on))

      by : (todo : Todos) → p.todo ≡ todo → Full m
      by [] list = taken list (idles-by f m e law list)
      by (Todo.park ∷ todo) list = absurd (over Todo.park todo list refl (ap (λ (a : FineAct). begins_cleaning (record e { act = a })) (made-says f m e law (Todo.park ∷ todo) list)))
      by (Todo.done ∷ todo) list = absurd (over Todo.done todo list refl (ap (λ (a : FineAct). begins_cleaning (record e { act = a })) (made-says f m e law (Todo.done ∷ todo) list)))
      by (Todo.paid ∷ todo) list = absurd (over Todo.paid todo list refl (ap (λ (a : FineAct). begins_cleaning (record e { act = a })) (made-says f m e law (Todo.paid ∷ todo) list)))
      by (Todo.sleep ∷ todo) list = subst (λ (z : Context). IsFull m z.thread z.pending) (sym (now-context f m e law (Todo.sleep ∷ todo) list)) tt
      by (q ∷ todo) list =
          let kept = quiet-context f m e law q todo list refl refl quiet in
          subst (λ (z : Context). IsFull m z.thread z.pending) (sym kept.1) (was (ran f m e law q todo list refl on))

  room : runs p ≡ true → t < length m.threads
  room on = let many = law.sound.wide.threads in let index = (law.rel.contexts.running e.cpu law.by.named on).index in omega (arith, index, many)

  -- an event of a pending step
  module _ (q : Pending) (rest : Steps) (todo : Todos) (x : ℕ) (h : Shows f m e.cpu e q rest todo) (shown : IsShown q) (chosen : MayChoose m t x q) where
    context : now.context ≡ continues f.image p.context 0 q rest (act_in e.act) e.moved
    context =
        now-context f m e law (Todo.show h.listed rest ∷ todo) h.at
        ∙ (ap (λ b. (if b then record p { todo = put_away (thread_in e.word).doomed } else after_show f.image p e (shown_step f.image h.listed e.act) rest todo).context) h.shown
        ∙ ap (λ r. (after_show f.image p e r rest todo).context) h.made)

    plain-full : opens_visits q ≡ false → IsFull (T.after m t x q rest) now.context.thread now.context.pending
    plain-full plain =
        let steps = offers-plain m kept t q rest shown (shown-offers h) in
        let order = order-of (thread_at m t).child q rest shown plain (stands-creates m t x orderly q rest shown (offered-stands m t x orderly q rest chosen (shown-offers h))) in
        still-full (T.after m t x q rest) now.context.thread now.context.pending
        (ap (λ (c : Context). is_visiting c.pending) context
        ∙ continued-quiet f.image p.context q rest (act_in e.act) e.moved shown plain begin steps order)
      where
        -- a thread that begins a line has no step left
        begin : q ≡ Pending.Begin → Quiet p.context.pending
        begin b =
            ap is_visiting
            (by-made h (λ z. is_begin z ≡ true → p.context.pending ≡ []) (λ killed k. h.at_rest (begin-first h.listed k)) (λ killed stopping k. absurd (false≢true k)) (ap is_begin b))
          where
            begin-first : (z : Pending) → is_begin z ≡ true → is_first z ≡ true
            begin-first Pending.Begin k = refl
            begin-first z k = absurd (false≢true k)

    event-full : IsFull (T.after m t x q rest) now.context.thread now.context.pending
    event-full = by q refl
      where
        thread : now.context.thread ≡ t
        thread = ap (λ (c : Context). c.thread) context ∙ continues-thread f.image p.context 0 q rest (act_in e.act) e.moved

        there : (r : Pending) → q ≡ r → IsFull (T.after m t x r rest) t (continues f.image p.context 0 r rest (act_in e.act) e.moved).pending → IsFull (T.after m t x q rest) now.context.thread now.context.pending
        there r w is =
            subst (λ (z : Context). IsFull (T.after m t x q rest) now.context.thread z.pending) (sym context)
            (subst (λ n. IsFull (T.after m t x q rest) n (continues f.image p.context 0 q rest (act_in e.act) e.moved).pending) (sym thread)
            (subst (λ z. IsFull (T.after m t x z rest) t (continues f.image p.context 0 z rest (act_in e.act) e.moved).pending) (sym w) is))

        by : (r : Pending) → q ≡ r → IsFull (T.after m t x q rest) now.context.thread now.context.pending
        by (Pending.Own who) w =
            there (Pending.Own who) w
            (given-full m t (room (shows-runs h)) who rest
            (stands-creates m t x orderly (Pending.Own who) rest tt (offered-stands m t x orderly (Pending.Own who) rest (subst (MayChoose m t x) w chosen) (subst (λ z. Offers m t z rest) w (shown-offers h)))).1)
        by Pending.Killed w = there Pending.Killed w (ended-full m t (room (shows-runs h)) (end_steps m.image t (thread_at m t)) [])
        by Pending.Exit w = there Pending.Exit w (ended-full m t (room (shows-runs h)) (end_steps m.image t (thread_at m t)) [])
        by (Pending.Fatal reason cause) w = there (Pending.Fatal reason cause) w (fatal-full m t (room (shows-runs h)) f.image p.context reason f.image.policy (fatal_steps m.image t (thread_at m t) reason m.image.policy))
        by r w = plain-full (ap opens_visits w)

  -- A permission of a thread is dropped, whose object is cleaned. No thread passes permissions on to that one: its object would be held.
  module _ (who x : ℕ) (rest : Steps) (todo : Todos) (h : Visits f m e.cpu e x (Todo.clean_pair who x) todo) where
    may : MayClean m t (own_row m.image who)
    may = may-clean f m e who x todo h calls own (sound-held m law.sound x who h.few)

    abbrev s2 : State
    s2 = T.after m t x (Pending.CleanPair (to_thread who)) rest

    child-apart : (w : ThreadIx) (more : Steps) → (thread_at m t).pending ≡ Pending.Inherit w ∷ more → w.0 ≢ who
    child-apart w more e same = true≢false (sym held ∙ not-true (Plain.is_held m (own_row m.image who)) may.1)
      where
        child : (thread_at m t).child ≡ Some w
        child = created (thread_at m t).child w more (subst (Creates (thread_at m t).child) e (orderly t))

        claimed : claims_child m.image w.0 (thread_at m t).pending ≡ true
        claimed = child-claims m.image (thread_at m t).child (thread_at m t).pending w (orderly t) child

        checked : slice_index_or (thread_at m t).checked (own_row m.image w.0) false ≡ true
        checked =
            sym (ap (λ (c : Call). slice_index_or c.checked (own_row m.image w.0) false) (call_is m t))
            ∙ law.sound.known.claimed.held t w.0 (ap (λ (c : Call). claims_child m.image w.0 c.pending) (call_is m t) ∙ claimed)

        held : Plain.is_held m (own_row m.image who) ≡ true
        held =
            let few = room (visit-runs h (λ hand. hand)) in
            let at : 0 + t ≡ t = omega arith in
            one-holds m.image (own_row m.image who) 0 m.threads t few
            (subst (λ n. Plain.thread_holds m.image (own_row m.image who) n (thread_at m t) ≡ true) (sym at)
            (ap (λ b. b || ((thread_at m t).keeps_own && (own_row m.image t == own_row m.image who))) (ap (λ n. slice_index_or (thread_at m t).checked (own_row m.image n) false) (sym same) ∙ checked)))

    clean-full : Full (T.after m t x (Pending.CleanPair (to_thread who)) rest)
    clean-full = carry s2 p.context (now-context f m e law (Todo.clean_pair who x ∷ todo) h.at) (by (is_over p.context) refl)
      where
        run : IsRun f m p.context
        run = visit-part h (λ hand. hand)

        wide : x < length m.pairs
        wide = let rows = law.sound.wide.rows in let few = h.few in omega (arith, rows, few)

        by : (b : Bool) → is_over p.context ≡ b → IsFull s2 t p.context.pending
        by true o = still-full s2 t p.context.pending (ap is_visiting (over-rests p.context o))
        by false o = which (waits p.context.pending) refl
          where
            which : (w : Bool) → waits p.context.pending ≡ w → IsFull s2 t p.context.pending
            which true waiting = still-full s2 t p.context.pending (waits-quiet p.context.pending waiting)
            which false awake =
                let pending : p.context.pending ≡ (thread_at m t).pending = ap (λ (z : Thread). z.pending) (own-unless (run.of o) awake) in
                let m2 = effect (Effect.object (own_row m.image who) (Edit.cleaned (to_thread t))) m in
                cleans-full m2 who x wide t p.context.pending (T.dropped m who x) (subst (Creates (thread_at m t).child) (sym pending) (orderly t))
                (λ w more e. child-apart w more (sym pending ∙ e)) (same-full m m2 t p.context.pending refl refl refl (was (visit-runs h (λ hand. hand))))

  pub full-kept : (s : State) (leaves : Leaves f m e s) → HasStep f m e s leaves → runs now ≡ true → Full s
  full-kept _ (nothing u said) has on = quiet-full (ap is_shown said) on
  full-kept _ (event q rest todo x h shown is) has on = event-full q rest todo x h shown is.chosen
  full-kept _ (resumes c told rest list moved said) has on =
      carry (T.after m c.thread 0 Pending.Resume rest) (resumed f.image c told) context
      (still-full (T.after m c.thread 0 Pending.Resume rest) (resumed f.image c told).thread (resumed f.image c told).pending
      (ap (λ steps. is_visiting (resumed_at f.image c told steps).pending) has ∙ resumed-quiet f.image c told rest plain order))
    where
      context : now.context ≡ resumed f.image c told
      context = now-context f m e law [] list ∙ ap (λ z. (after_take f.image p z).context) moved

      of : IsOf f m c
      of = (law.rel.contexts.parked c.thread c (taken-parked f m e law list c told moved)).0

      pending : (thread_at m c.thread).pending ≡ Pending.Resume ∷ rest
      pending = sym (ap (λ (z : Thread). z.pending) (own-is f m c of (taken-uncut f m e law list c told moved of.index))) ∙ has

      plain : are_plain rest ≡ true
      plain = resumes-plain m kept c.thread rest pending

      order : InOrder rest
      order = (subst (Creates (thread_at m c.thread).child) pending (orderly c.thread)).1
  full-kept _ (passes who x rest todo h said) has on =
      let own = subst (λ steps. IsFull m t steps) has (was (visit-runs h (λ hand. hand))) in
      let of = (visit-part h (λ hand. hand)).of (steps-on p.context _ _ has) in
      let machine = sym (ap (λ (z : Thread). z.pending) (own-unless of (ap waits has))) ∙ has in
      let low = child-below m law.sound lawful orderly t (to_thread who) rest machine in
      let rows = law.sound.wide.rows in
      let few = h.few in
      let flags = law.sound.wide.flags x h.few in
      carry (T.after m t x (Pending.Inherit (to_thread who)) rest) p.context (now-context f m e law (Todo.pass who x ∷ todo) h.at)
      (subst (λ steps. IsFull (T.after m t x (Pending.Inherit (to_thread who)) rest) t steps) (sym has)
      (passes-full m t (room (visit-runs h (λ hand. hand))) (to_thread who) x rest rest (omega (arith, rows, few)) (omega (arith, flags, low)) own))
  full-kept _ (drops from x rest todo h said) has on =
      let own = subst (λ steps. IsFull m t steps) has (was (visit-runs h (λ hand. hand))) in
      let least = (law.rel.processors e.cpu law.by.named).dues.drops from rest (visit-runs h (λ hand. hand)) has in
      let is : visited p.todo ≡ x = ap visited h.at in
      carry (T.after m t x (Pending.Drops from) rest) (dropped_at f.image p.context x false) (now-context f m e law (Todo.drop x ∷ todo) h.at ∙ ap (dropped_at f.image p.context x) h.shown)
      (drops-full m t (room (visit-runs h (λ hand. hand))) x from rest [] own (omega (arith, least, is)))
  full-kept _ (cleans who x rest todo h said) has on = clean-full who x rest todo h
  full-kept _ (recycles x rest todo list few said chosen) has on =
      carry (T.after m t x Pending.Recycle rest) p.context (now-context f m e law (Todo.recycle x ∷ todo) list)
      (same-full m (T.after m t x Pending.Recycle rest) t p.context.pending refl refl refl (was (runs-first law.rel law.by.named (Todo.recycle x) todo list (λ hand. hand))))
  full-kept _ (beside t x q how chosen started) has on = besides t x q how chosen on
