-- A thread is taken from the ready list: the first behind those that stand still. If it stands still itself, it is given up, or goes to sleep. Where none
-- is ready, a mark that is due is given.
use Rattle.std.proofs.Common.{◌≡◌, ◌⊎◌, inl, inr, ◌<◌, Bool, true, false, [], ◌∷◌, ◌++◌, length, Option, Some, None, refl, sym, ap, ◌∙◌, subst, arith, append-nil, append_assoc}
use Rattle.std.specs.Prelude.{◌==◌, ◌&&◌, ◌||◌, not, if◌then◌else◌}
use Rattle.std.proofs.lemmas.Bool.{and_parts, false≢true, true≢false}
use Rattle.um_base.specs.declared.act.Act.{Act}
use Rattle.um_base.specs.declared.ask.Told.{Told}
use Rattle.um_base.specs.declared.image.Image.{Image}
use Rattle.um_base.specs.declared.instr.Instr.{Instr}
use Rattle.um_base.specs.declared.limits.TheConstants.{THREADS}
use Rattle.um_machine.specs.declared.pending.Pending.{Pending}
use Rattle.um_machine.specs.declared.thread.Thread.{Thread}
use Rattle.um_machine.specs.Order.{Steps, to_thread}
use Rattle.um_machine.specs.Services.{is_empty}
use Rattle.um_machine.specs.State.{State, instruction_at, thread_at}
use Rattle.um_invariants.specs.InOrder.{Point}
use Rattle.um_invariants.specs.Ready.{is_still}
use Rattle.um_words.specs.Threads.{counted_thread, thread_after}
use Rattle.um_words.specs.declared.fine.FineAct.{FineAct}
use Rattle.um_words.specs.declared.fine.Unseen.{Unseen}
use Rattle.um_words.specs.declared.thread_word.ThreadWord.{ThreadWord}
use Rattle.um_fine.specs.Answers.{is_due_act, is_killed, is_word_read, thread_in}
use Rattle.um_fine.specs.Asks.{begins_cleaning, by_me, fits, fits_show, says_show, says_turn, shows, site_of_step}
use Rattle.um_fine.specs.Clock.{Clock, Marked, first_due, give_first}
use Rattle.um_fine.specs.Context.{Context}
use Rattle.um_fine.specs.Follows.{after_show, after_take, goes_on_by, refilled_by, shown_step, with_actor}
use Rattle.um_fine.specs.Places.{Todo, Todos, put_away, turn, turn_of}
use Rattle.um_fine.specs.Processor.{Processor}
use Rattle.um_fine.specs.Scheduler.{Scheduler, is_cut, takes_turn, to_kill, waits}
use Rattle.um_fine.specs.Sites.{SiteState, s_next, same_site, site_after, word_of}
use Rattle.um_fine.specs.Steps.{Exchange, FineStep, Site}
use Rattle.um_refinement.specs.Choice.{IsChosen}
use Rattle.um_refinement.specs.Fine.{Fine, clock, one_if, scheduler, word}
use Rattle.um_refinement.specs.Lists.{is_done}
use Rattle.um_refinement.specs.Offers as O
use Rattle.um_refinement.specs.Offers.{Fits, IsOffered, is_over}
use Rattle.um_refinement.specs.Threads.{IsOf, IsRun, is_ready_there, occurs}
use Rattle.um_refinement.specs.Timing.{IsHand}
use Rattle.um_refinement.proofs.ClockSteps.{clock-else, clock-later, is_timing}
use Rattle.um_refinement.proofs.ContextsPart.{is_shown, read-only}
use Rattle.um_refinement.proofs.Erased.{around}
use Rattle.um_refinement.proofs.Kept.{IdleStep, gives, idle-step, ticks, turns}
use Rattle.um_refinement.proofs.Leaves.{Lawful}
use Rattle.um_refinement.proofs.ListRuns.{ends-rests}
use Rattle.um_refinement.proofs.ListTails.{exact-next}
use Rattle.um_refinement.proofs.MarksPart.{clock-same}
use Rattle.um_refinement.proofs.Offered.{own-unless, runs-first}
use Rattle.um_refinement.proofs.RowSteps.{thread-sort}
use Rattle.um_refinement.proofs.RunningPart.{is_scheduling, todo-elsewhere}
use Rattle.um_refinement.proofs.SchedulerSteps.{made-at, made-says, sched-else, sched-later, word-left}
use Rattle.um_refinement.proofs.StepReads.{is-placed}
use Rattle.um_refinement.proofs.Taking.{Idles as Takes, IsTaken, idles as idles-by, takes, tends}
use Rattle.um_order.proofs.ArmingOrder.{AreSettled, Held, Passed, Plain, fresh, give-passed}
use Rattle.um_order.proofs.ParkedThreads.{is_rest}
use Rattle.um_order.proofs.ReadyLines.{occurs-first, still-push}
use Rattle.um_order.proofs.Standing.{AllStill, Holds, Idles, IsAway, Opens, PutsAway, gives_up, is_show, looks_again, puts_to_sleep}

-- a thread at rest begins a line, or exits
turn-opens : (image : Image) (o : Option Instr) → (first : Todo) × (turn_of image o ≡ first ∷ []) × (is_show first ≡ true)
turn-opens image None = (Todo.show Pending.Exit [], refl, refl)
turn-opens image (Some instr) = (Todo.show Pending.Begin [], refl, refl)

abbrev kills : Steps → Bool
kills (Pending.Killed ∷ rest) = true
kills steps = false

-- whose word shows it so stands still at rest
stops : (me : Thread) → me.pending ≡ [] → (me.doomed || (me.suspended && not me.aborted)) ≡ true → ((me.doomed || me.suspended && not me.aborted) && length me.pending == 0) ≡ true
stops me rests stop = λ i. stop i && length (rests i) == 0

module _ (f : Fine) (at : Point) (e : FineStep) (law : Lawful f at.state e) where
  open around f e use {later, processor as p, now}

  abbrev m : State
  m = at.state

  abbrev s : Scheduler
  s = scheduler f

  -- A thread at rest, or one that was cut, is taken.

  module _ (was : Idles p s (clock f).marks at) (quiet : is_shown e.act ≡ false) where
    -- it is the thread that was parked
    module _ (first : IsTaken f e) where
      act-is : e.act ≡ takes_turn (to_kill (is_cut s first.thread) first.parked) first.told
      act-is = first.said ∙ ap (says_turn f.image p) first.moved

      parked : IsOf f m first.parked × (first.parked.thread ≡ first.thread) × (first.parked.ended ≡ false) × O.IsPutBack first.parked
      parked = law.rel.contexts.parked first.thread first.parked first.there

      few : first.thread < THREADS
      few = subst (λ n. n < THREADS) first.same parked.0.index

      untold : first.told ≡ None
      untold = by first.told refl
        where
          by : (o : Option Told) → first.told ≡ o → o ≡ None
          by None h = refl
          by (Some w) h = absurd (true≢false (ap (λ o. is_shown (takes_turn (to_kill (is_cut s first.thread) first.parked) o)) (sym h) ∙ (ap is_shown (sym act-is) ∙ quiet)))

      moved : e.moved ≡ Exchange.thread (to_kill (is_cut s first.thread) first.parked) None
      moved = first.moved ∙ ap (Exchange.thread (to_kill (is_cut s first.thread) first.parked)) untold

      unseen : e.act ≡ FineAct.Unseen (Unseen.Next (to_thread (to_kill (is_cut s first.thread) first.parked).thread))
      unseen = act-is ∙ ap (takes_turn (to_kill (is_cut s first.thread) first.parked)) untold

      next : now ≡ after_take f.image p (Exchange.thread (to_kill (is_cut s first.thread) first.parked) None)
      next =
          exact-next f.image p e [] was.list (ap (λ (a : FineAct). begins_cleaning (record e { act = a })) unseen)
          ∙ (ap (λ (a : FineAct). with_actor f.image (goes_on_by f.image p e []) a) unseen ∙ ap (after_take f.image p) moved)

      stands : occurs first.thread s.ready ≡ one_if (is_ready_there (Some first.parked) None (is_cut s first.thread))
      stands = (law.rel.threads first.thread few).ready.ready ∙ λ i. one_if (is_ready_there (first.there i) ((sym first.tells ∙ untold) i) (is_cut s first.thread))

      ready-one : 0 < occurs first.thread s.ready
      ready-one =
          let more = occurs-first first.thread first.list in
          let is : occurs first.thread s.ready ≡ occurs first.thread (first.thread ∷ first.list) = ap (occurs first.thread) first.ready in
          omega (arith, more, is)

      -- if it wasn't cut, it is at rest
      rests : is_cut s first.thread ≡ false → O.IsPutBack first.parked → first.parked.pending ≡ []
      rests whole (inl none) = none
      rests whole (inr waiting) =
          absurd (let none = stands ∙ (λ i. one_if (not (waiting i) || false || whole i)) in let some = ready-one in omega (arith, none, some))

      some-ready : s.ready ≡ [] → ⊥
      some-ready none = true≢false (ap is_empty (sym none ∙ first.ready))

      plain : Plain (clock f).marks at.armings ⊎ (Passed m (clock f).marks at.armings × (s.ready ≡ [])) → Plain (clock f).marks at.armings
      plain (inl is) = is
      plain (inr passed) = absurd (some-ready passed.1)

      armings : Plain (clock later).marks at.armings
      armings = subst (λ (c : Clock). Plain c.marks at.armings) (sym (clock-else f m e law (ap (λ i. same_site i Site.clock) first.site))) (plain was.armings)

      -- what it begins with
      abbrev Begins : Processor → Type 0
      Begins z = (q : Todo) × (z.todo ≡ q ∷ []) × (is_show q ≡ true) × ((z.context.pending ≡ []) ⊎ (z.context.pending ≡ Pending.Killed ∷ [])) × (z.context.ended ≡ false) × (z.context.thread ≡ first.thread)

      begins : Begins (after_take f.image p (Exchange.thread (to_kill (is_cut s first.thread) first.parked) None))
      begins = by (is_cut s first.thread) refl
        where
          by : (b : Bool) → is_cut s first.thread ≡ b → Begins (after_take f.image p (Exchange.thread (to_kill b first.parked) None))
          by true k = (Todo.show Pending.Killed [], refl, refl, inr refl, parked.2, first.same)
          by false k =
              let c = first.parked in
              let none = rests k parked.3 in
              let opening = turn-opens f.image (instruction_at f.image c.place) in
              subst (λ b. Begins (if b then record p { context = c; todo = turn f.image c } else refilled_by f.image (record p { context = c }) [])) (sym (ap is_empty none))
              (opening.0, opening.1, opening.2, inl none, parked.2, first.same)

      opens : Opens now (scheduler later) (clock later).marks at
      opens =
          let is = begins in
          record {
            first = is.0;
            list = ap (λ (z : Processor). z.todo) next ∙ is.1;
            is = is.2;
            rests = subst (λ (z : Processor). (z.context.pending ≡ []) ⊎ (z.context.pending ≡ Pending.Killed ∷ [])) (sym next) is.3;
            on = ap (λ (z : Processor). z.context.ended) next ∙ is.4;
            skipped = was.skipped;
            still = was.still;
            ready = was.ready ∙ ap (λ z. was.skipped ++ z) (first.ready ∙ λ i. (sym is.5 ∙ ap (λ (z : Processor). z.context.thread) (sym next)) i ∷ sym (ap (λ (z : Scheduler). z.ready) first.after) i);
            inside = was.inside;
            cut = was.cut;
            armings = armings;
          }

    -- A mark is given: no thread is ready.
    module _ (x : Marked) (site : e.site ≡ Site.clock) (said : e.act ≡ FineAct.Unseen Unseen.Due) (due : first_due (clock f).now (clock f).marks ≡ Some x) (moved : e.moved ≡ Exchange.mark x.deadline x.mark)
        (none : s.ready ≡ []) (settled : AreSettled (clock f).marks) where
      passed : Plain (clock f).marks at.armings ⊎ (Passed m (clock f).marks at.armings × (s.ready ≡ [])) → Passed m (clock f).marks at.armings
      passed (inl plain) = fresh plain
      passed (inr is) = is.0

      time : (clock f).now ≡ m.now
      time = law.rel.clock.now

      holds : Holds now (scheduler later) (clock later).marks at
      holds =
          record {
            deadline = x.deadline;
            mark = x.mark;
            list = ap (λ (z : Processor). z.todo)
                (exact-next f.image p e [] was.list (ap (λ (a : FineAct). begins_cleaning (record e { act = a })) said)
                ∙ (ap (λ (a : FineAct). with_actor f.image (goes_on_by f.image p e []) a) said ∙ ap (after_take f.image p) moved));
            still = subst (AllStill m) (sym (was.ready ∙ (ap (λ l. was.skipped ++ l) none ∙ append-nil was.skipped))) was.still;
            none = ap (λ (z : Scheduler). z.ready) (sched-else f m e law (ap (λ i. same_site i Site.scheduler) site)) ∙ none;
            inside = was.inside;
            cut = was.cut;
            armings = subst (λ (c : Clock). Held m x.deadline x.mark c.marks at.armings) (sym (clock-later f m e law site (FineAct.Unseen Unseen.Due) said))
                (subst (λ n. Held m x.deadline x.mark (give_first n (clock f).marks) at.armings) (sym time)
                (give-passed m (clock f).marks at.armings (passed was.armings) settled x (ap (λ n. first_due n (clock f).marks) (sym time) ∙ due)));
          }

    pub idle-on : IsChosen f e → AreSettled (clock f).marks → Opens now (scheduler later) (clock later).marks at ⊎ Holds now (scheduler later) (clock later).marks at
    idle-on chosen settled = by (idle-step f m law.rel p e law.by.may law.taken was.list)
      where
        by : IdleStep f p e → Opens now (scheduler later) (clock later).marks at ⊎ Holds now (scheduler later) (clock later).marks at
        by (gives x site said due move) = inr (holds x site said due move (chosen.due (ap is_due_act said)) settled)
        by (ticks n site said due move) = absurd (true≢false (ap is_shown (sym said) ∙ quiet))
        by (turns site said ready front) = inl (which (idles-by f m e law was.list))
          where
            which : Takes f e → Opens now (scheduler later) (clock later).marks at
            which (takes first) = opens first
            which (tends is) = absurd (true≢false (ap (λ i. same_site i Site.clock) (sym is.site ∙ site)))

  -- A thread that was taken at rest is found still.

  elsewhere : (q : Todo) (todo : Todos) → p.todo ≡ q ∷ todo → is_scheduling q ≡ false → scheduler later ≡ s
  elsewhere q todo list off =
      sched-else f m e law (ap (λ i. same_site i Site.scheduler) (made-at f m e law (q ∷ todo) list) ∙ todo-elsewhere f.image p q todo off (is-placed f m e law q todo list))

  timeless : (q : Todo) (todo : Todos) → p.todo ≡ q ∷ todo → is_timing q ≡ false → Plain (clock f).marks at.armings → Plain (clock later).marks at.armings
  timeless q todo list off plain = subst (λ (c : Clock). Plain c.marks at.armings) (sym (clock-same f m e law q todo list off)) plain

  -- what the word of its thread shows where it is read
  read-word : e.site ≡ Site.thread p.context.thread → e.act ≡ FineAct.Unseen Unseen.WordRead → p.context.thread < THREADS
      → ((thread_in e.word).doomed ≡ (thread_at m p.context.thread).doomed) × ((thread_in e.word).aborted ≡ (thread_at m p.context.thread).aborted) × ((thread_in e.word).suspended ≡ (thread_at m p.context.thread).suspended)
  read-word site said few = (
    ap (λ (w : ThreadWord). w.doomed) here ∙ (law.rel.threads p.context.thread few).word.doomed,
    ap (λ (w : ThreadWord). w.aborted) here ∙ (law.rel.threads p.context.thread few).word.aborted,
    ap (λ (w : ThreadWord). w.suspended) here ∙ (law.rel.threads p.context.thread few).word.suspended,
  )
    where
      counted : thread_in (word_of (s_next f.image (f.sites e.site) e)) ≡ counted_thread (word f p.context.thread)
      counted =
          ap (λ (i : Site). thread_in (word_of (site_after f.image (f.sites i) e.act e.moved))) site
          ∙ (ap (λ (z : SiteState). thread_in (word_of (site_after f.image z e.act e.moved))) (thread-sort p.context.thread (f.sites (Site.thread p.context.thread)) (law.rel.sorts (Site.thread p.context.thread)))
          ∙ ap (λ (act : FineAct). counted_thread (thread_after (word f p.context.thread) act)) said)

      here : thread_in e.word ≡ counted_thread (word f p.context.thread)
      here = ap thread_in (word-left f m e law) ∙ counted

  module _ (was : Opens p s (clock f).marks at) (quiet : is_shown e.act ≡ false) where
    run : IsRun f m p.context
    run = law.rel.contexts.running e.cpu law.by.named (runs-first law.rel law.by.named was.first [] was.list (no-hand was.first was.is))
      where
        no-hand : (q : Todo) → is_show q ≡ true → IsHand (q ∷ []) → ⊥
        no-hand (Todo.show q rest) h hand = hand
        no-hand q h hand = false≢true h

    of : IsOf f m p.context
    of = run.of (ap (λ b. b && is_empty p.context.pending) was.on)

    -- a step by which the word is read, and that it stops there
    module _ (q : Pending) (rest : Steps) (list : p.todo ≡ Todo.show q rest ∷ []) where
      said : e.act ≡ says_show f.image p q e.act
      said = made-says f m e law (Todo.show q rest ∷ []) list

      read : is_word_read e.act ≡ true
      read = read-only f m e law q said quiet

      is-first : (q : Pending) → e.act ≡ says_show f.image p q e.act → is_rest q ≡ true
      is-first Pending.Begin k = refl
      is-first Pending.Exit k = refl
      is-first q k = absurd (true≢false (sym read ∙ ap is_word_read k))

      word-act : (q : Pending) → e.act ≡ says_show f.image p q e.act → e.site ≡ site_of_step f.image p q → (e.act ≡ FineAct.Unseen Unseen.WordRead) × (e.site ≡ Site.thread p.context.thread)
      word-act Pending.Begin k site = (k ∙ ap (λ b. if b then FineAct.Unseen Unseen.WordRead else if is_killed e.act then by_me f.image p Act.Killed else shows f.image p Pending.Begin e.act) read, site)
      word-act Pending.Exit k site = (k ∙ ap (λ b. if b then FineAct.Unseen Unseen.WordRead else if is_killed e.act then by_me f.image p Act.Killed else shows f.image p Pending.Exit e.act) read, site)
      word-act q k site = absurd (true≢false (sym read ∙ ap is_word_read k))

      is : (e.act ≡ FineAct.Unseen Unseen.WordRead) × (e.site ≡ Site.thread p.context.thread)
      is = word-act q said (made-at f m e law (Todo.show q rest ∷ []) list)

      fits-there : IsOffered f.image p.context q rest
      fits-there = (subst (Fits f.image p.context) list (law.rel.processors e.cpu law.by.named).list.fits).0

      at-rest : p.context.pending ≡ []
      at-rest = by was.rests
        where
          not-kill : (q : Pending) → is_rest q ≡ true → kills (q ∷ rest) ≡ false
          not-kill Pending.Killed h = absurd (false≢true h)
          not-kill q h = refl

          no-kill : (c : Context) (r : Pending) (more : Steps) → IsOffered f.image c r more → (kills (r ∷ more) ≡ false) → kills c.pending ≡ false
          no-kill c r more (O.goes h) none = ap kills h ∙ none
          no-kill c r more (O.passed h) none = ap kills h
          no-kill c r more (O.dropped h) none = ap kills h
          no-kill c _ _ (O.begins h on i) none = ap kills h
          no-kill c _ _ (O.exits h on i) none = ap kills h

          by : (p.context.pending ≡ []) ⊎ (p.context.pending ≡ Pending.Killed ∷ []) → p.context.pending ≡ []
          by (inl none) = none
          by (inr killed) = absurd (false≢true (sym (no-kill p.context q rest fits-there (not-kill q (is-first q said))) ∙ ap kills killed))

      machine : (thread_at m p.context.thread).pending ≡ []
      machine = sym (ap (λ (th : Thread). th.pending) (own-unless of (ap waits at-rest))) ∙ at-rest

      stop : ((thread_in e.word).doomed || ((thread_in e.word).suspended && not (thread_in e.word).aborted)) ≡ true
      stop = by q (is-first q said) (and_parts _ _ (and_parts _ _ (subst (λ (l : Todos). fits f.image p l e ≡ true) list law.by.may.fit)).0).0
        where
          by : (q : Pending) → is_rest q ≡ true → fits_show f.image p q e ≡ true → ((thread_in e.word).doomed || ((thread_in e.word).suspended && not (thread_in e.word).aborted)) ≡ true
          by Pending.Begin h fit = ap (λ b. if b then (thread_in e.word).doomed || ((thread_in e.word).suspended && not (thread_in e.word).aborted) else not (is_killed e.act) || not (thread_in e.word).doomed) (sym read) ∙ fit
          by Pending.Exit h fit = ap (λ b. if b then (thread_in e.word).doomed || ((thread_in e.word).suspended && not (thread_in e.word).aborted) else not (is_killed e.act) || not (thread_in e.word).doomed) (sym read) ∙ fit
          by q h fit = absurd (false≢true h)

      flags : ((thread_in e.word).doomed ≡ (thread_at m p.context.thread).doomed) × ((thread_in e.word).aborted ≡ (thread_at m p.context.thread).aborted) × ((thread_in e.word).suspended ≡ (thread_at m p.context.thread).suspended)
      flags = read-word is.1 is.0 of.index

      still : is_still m p.context.thread ≡ true
      still = stops (thread_at m p.context.thread) machine ((λ i. sym flags.0 i || (sym flags.2 i && not (sym flags.1 i))) ∙ stop)

      left-by : now ≡ record p { todo = put_away (thread_in e.word).doomed }
      left-by =
          exact-next f.image p e (Todo.show q rest ∷ []) list (ap (λ (a : FineAct). begins_cleaning (record e { act = a })) is.0)
          ∙ (ap (λ (a : FineAct). with_actor f.image (goes_on_by f.image p e (Todo.show q rest ∷ [])) a) is.0
          ∙ ap (λ b. if b then record p { todo = put_away (thread_in e.word).doomed } else after_show f.image p e (shown_step f.image q e.act) rest []) read)

      -- it is done with, or goes to sleep
      puts : IsAway now.todo × ((now.todo ≡ Todo.done ∷ []) ⊎ (((thread_at m now.context.thread).suspended && not (thread_at m now.context.thread).aborted) ≡ true))
      puts =
          subst (λ (z : Processor). IsAway z.todo × ((z.todo ≡ Todo.done ∷ []) ⊎ (((thread_at m z.context.thread).suspended && not (thread_at m z.context.thread).aborted) ≡ true))) (sym left-by)
          (by (thread_in e.word).doomed stop)
        where
          by : (b : Bool) → (b || ((thread_in e.word).suspended && not (thread_in e.word).aborted)) ≡ true
              → IsAway (put_away b) × ((put_away b ≡ Todo.done ∷ []) ⊎ (((thread_at m p.context.thread).suspended && not (thread_at m p.context.thread).aborted) ≡ true))
          by true h = (gives_up, inl refl)
          by false h = (puts_to_sleep, inr ((λ i. sym flags.2 i && not (sym flags.1 i)) ∙ h))

      reads : PutsAway now (scheduler later) (clock later).marks at
      reads =
          record {
            list = puts.0;
            skipped = was.skipped ++ p.context.thread ∷ [];
            still = still-push m was.skipped p.context.thread was.still still;
            own = ap (λ (z : Processor). is_still m z.context.thread) left-by ∙ still;
            sleeps = puts.1;
            ready = was.ready ∙ (sym (append_assoc was.skipped (p.context.thread ∷ []) s.ready) ∙ ap (λ (z : Scheduler). (was.skipped ++ p.context.thread ∷ []) ++ z.ready) (sym (elsewhere (Todo.show q rest) [] list refl)));
            inside = was.inside;
            cut = was.cut;
            armings = subst (λ (c : Clock). Plain c.marks at.armings) (sym (clock-else f m e law (ap (λ i. same_site i Site.clock) is.1))) was.armings;
          }

    pub opens-on : PutsAway now (scheduler later) (clock later).marks at
    opens-on = by was.first was.list was.is
      where
        by : (first : Todo) → p.todo ≡ first ∷ [] → is_show first ≡ true → PutsAway now (scheduler later) (clock later).marks at
        by (Todo.show q rest) list shown = reads q rest list
        by first list shown = absurd (false≢true shown)

  -- It is given up, or goes to sleep; then its word is read once more.

  pub away-on : PutsAway p s (clock f).marks at → PutsAway now (scheduler later) (clock later).marks at ⊎ Idles now (scheduler later) (clock later).marks at
  away-on was = by p.todo refl was.list
    where
      gives : p.todo ≡ Todo.done ∷ [] → Idles now (scheduler later) (clock later).marks at
      gives list =
          record {
            list = ends-rests f.image p e Todo.done [] list refl (ap (λ (a : FineAct). begins_cleaning (record e { act = a })) said);
            skipped = was.skipped;
            still = was.still;
            ready = was.ready ∙ ap (λ l. was.skipped ++ l) (sym same);
            inside = was.inside;
            cut = was.cut;
            armings = inl (timeless Todo.done [] list refl was.armings);
          }
        where
          said : e.act ≡ FineAct.Unseen Unseen.Done
          said = made-says f m e law (Todo.done ∷ []) list

          same : (scheduler later).ready ≡ s.ready
          same = ap (λ (z : Scheduler). z.ready) (sched-later f m e law (made-at f m e law (Todo.done ∷ []) list) (FineAct.Unseen Unseen.Done) said)

      suspended : (q : Todo) (todo : Todos) → p.todo ≡ q ∷ todo → is_done q ≡ false → ((thread_at m p.context.thread).suspended && not (thread_at m p.context.thread).aborted) ≡ true
      suspended q todo list other = which was.sleeps
        where
          first_done : Todos → Bool
          first_done [] = false
          first_done (r ∷ rest) = is_done r

          which : (p.todo ≡ Todo.done ∷ []) ⊎ (((thread_at m p.context.thread).suspended && not (thread_at m p.context.thread).aborted) ≡ true) → ((thread_at m p.context.thread).suspended && not (thread_at m p.context.thread).aborted) ≡ true
          which (inl done) = absurd (true≢false (ap first_done (sym done ∙ list) ∙ other))
          which (inr is) = is

      -- a step that leaves this list
      stays : (q : Todo) (rest left : Todos) → p.todo ≡ q ∷ rest → is_done q ≡ false → is_scheduling q ≡ false → is_timing q ≡ false → IsAway left → now.todo ≡ left → now.context.thread ≡ p.context.thread
          → PutsAway now (scheduler later) (clock later).marks at
      stays q rest left list other off timing away is thread =
          record {
            list = subst IsAway (sym is) away;
            skipped = was.skipped;
            still = was.still;
            own = ap (is_still m) thread ∙ was.own;
            sleeps = inr (ap (λ n. (thread_at m n).suspended && not (thread_at m n).aborted) thread ∙ suspended q rest list other);
            ready = was.ready ∙ ap (λ (z : Scheduler). was.skipped ++ z.ready) (sym (elsewhere q rest list off));
            inside = was.inside;
            cut = was.cut;
            armings = timeless q rest list timing was.armings;
          }

      sleeps-on : p.todo ≡ Todo.sleep ∷ Todo.reread_asleep ∷ Todo.done ∷ [] → PutsAway now (scheduler later) (clock later).marks at
      sleeps-on list =
          let rest = Todo.reread_asleep ∷ Todo.done ∷ [] in
          let said = made-says f m e law (Todo.sleep ∷ rest) list in
          let next = exact-next f.image p e (Todo.sleep ∷ rest) list (ap (λ (a : FineAct). begins_cleaning (record e { act = a })) said) ∙ ap (λ (a : FineAct). with_actor f.image (goes_on_by f.image p e (Todo.sleep ∷ rest)) a) said in
          stays Todo.sleep rest rest list refl refl refl looks_again (ap (λ (z : Processor). z.todo) next) (ap (λ (z : Processor). z.context.thread) next)

      looks : p.todo ≡ Todo.reread_asleep ∷ Todo.done ∷ [] → PutsAway now (scheduler later) (clock later).marks at
      looks list =
          let rest = Todo.done ∷ [] in
          let said = made-says f m e law (Todo.reread_asleep ∷ rest) list in
          let index = (law.rel.contexts.running e.cpu law.by.named (runs-first law.rel law.by.named Todo.reread_asleep rest list (λ hand. hand))).index in
          let flags = read-word (made-at f m e law (Todo.reread_asleep ∷ rest) list) said index in
          let next = exact-next f.image p e (Todo.reread_asleep ∷ rest) list (ap (λ (a : FineAct). begins_cleaning (record e { act = a })) said) ∙ ap (λ (a : FineAct). with_actor f.image (goes_on_by f.image p e (Todo.reread_asleep ∷ rest)) a) said in
          let asleep = awake-not (thread_in e.word).aborted (thread_in e.word).suspended ((λ i. flags.2 i && not (flags.1 i)) ∙ suspended Todo.reread_asleep rest list refl) in
          stays Todo.reread_asleep rest rest list refl refl refl gives_up
          (ap (λ (z : Processor). z.todo) next ∙ ap (λ b. if b then Todo.rouse p.context.thread ∷ Todo.done ∷ [] else Todo.done ∷ []) asleep) (ap (λ (z : Processor). z.context.thread) next)
        where
          awake-not : (a s : Bool) → (s && not a) ≡ true → (a || not s) ≡ false
          awake-not true true h = absurd (false≢true h)
          awake-not true false h = absurd (false≢true h)
          awake-not false true h = refl
          awake-not false false h = absurd (false≢true h)

      by : (todo : Todos) → p.todo ≡ todo → IsAway todo → PutsAway now (scheduler later) (clock later).marks at ⊎ Idles now (scheduler later) (clock later).marks at
      by _ list gives_up = inr (gives list)
      by _ list puts_to_sleep = inl (sleeps-on list)
      by _ list looks_again = inl (looks list)
