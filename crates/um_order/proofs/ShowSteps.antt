-- The event of a pending step follows: a thread goes on with its instruction, or begins a line or ends after it was taken from the ready list. This is
-- of those that neither stop another thread nor go on with one.
use Rattle.std.proofs.Common.{◌≡◌, ◌⊎◌, inl, inr, ℕ, ◌<◌, Bool, true, false, [], ◌∷◌, ◌++◌, map, length, Some, None, refl, sym, ap, ◌∙◌, subst, arith, append-nil}
use Rattle.std.specs.Prelude.{◌&&◌, not, if◌then◌else◌, is_some}
use Rattle.std.specs.List.{list_all, list_any}
use Rattle.std.proofs.lemmas.Bool.{false≢true, true≢false}
use Rattle.um_base.specs.declared.act.Act.{Act}
use Rattle.um_base.specs.declared.names.Access.{Access}
use Rattle.um_base.specs.declared.ask.Ask.{Ask}
use Rattle.um_base.specs.declared.limits.TheConstants.{THREADS}
use Rattle.um_base.specs.declared.names.Addr.{Addr}
use Rattle.um_base.specs.declared.names.Reply.{Reply}
use Rattle.um_base.specs.declared.names.ThreadIx.{ThreadIx}
use Rattle.um_base.specs.Lawful.{IsLawful}
use Rattle.um_machine.specs.declared.pending.Pending.{Pending}
use Rattle.um_machine.specs.declared.thread.Thread.{Thread}
use Rattle.um_machine.specs.Order.{Steps, to_thread}
use Rattle.um_machine.specs.Services.{is_empty}
use Rattle.um_machine.specs.State.{State, thread_at}
use Rattle.um_machine.specs.Table as T
use Rattle.um_invariants.specs.Armings.{armings_after}
use Rattle.um_invariants.specs.InOrder.{Point, to_cut, waiting}
use Rattle.um_invariants.specs.Lines.{stands}
use Rattle.um_invariants.specs.Ready.{behind_next, is_still, next_ready, readied, roused, running_or}
use Rattle.um_invariants.proofs.ThreadOffers.{made, offered}
use Rattle.um_invariants.proofs.ThreadWords.{AreKept, IsOffered as IsTurn, is_resume}
use Rattle.um_fine.specs.Answers.{act_in, answer_in, outcome_in, thread_in, woken_in}
use Rattle.um_fine.specs.Asks.{allows, more_of, says_step}
use Rattle.um_fine.specs.Context.{Context}
use Rattle.um_fine.specs.Continues.{continues}
use Rattle.um_fine.specs.Follows.{after_show, behind_step, goes_on_by, shown_step, told_all}
use Rattle.um_fine.specs.Places.{Todo, Todos, armed_for, put_away, settling}
use Rattle.um_fine.specs.Processor.{Processor}
use Rattle.um_fine.specs.Scheduler.{told_at}
use Rattle.um_fine.specs.Sites.{same_site}
use Rattle.um_fine.specs.Steps.{FineStep, Site}
use Rattle.um_refinement.specs.Cleaning.{AreBlocks}
use Rattle.um_refinement.specs.Fine.{Fine, clock, one_if, scheduler}
use Rattle.um_refinement.specs.Frames.{Behind}
use Rattle.um_refinement.specs.Lists.{adders, counted, has_steps, is_wake, runs}
use Rattle.um_refinement.specs.Offers.{Fits, behind_shown}
use Rattle.um_refinement.specs.Relation.{Rel}
use Rattle.um_refinement.specs.Threads.{IsOf, cutters as cuts, tellers}
use Rattle.um_refinement.proofs.AwayPart.{none-left}
use Rattle.um_refinement.proofs.Bounds.{AreBounded}
use Rattle.um_refinement.proofs.ChildrenKnown.{AllCreate}
use Rattle.um_refinement.proofs.Continued.{continues-thread}
use Rattle.um_refinement.proofs.ContextsPart.{event-uncut, now-context}
use Rattle.um_refinement.proofs.Erased.{around}
use Rattle.um_refinement.proofs.LawfulSteps.{Suits}
use Rattle.um_refinement.proofs.Leaves.{Lawful, Leaves, event}
use Rattle.um_refinement.proofs.ListAdders.{next-adders}
use Rattle.um_refinement.proofs.ListDone.{says_done}
use Rattle.um_refinement.proofs.ListGrowth.{ReadsLast, show-kept}
use Rattle.um_refinement.proofs.ListRuns.{goes-on, goes-runs}
use Rattle.um_refinement.proofs.ListWakes.{LastRead, named, next-wakers, wake-times, wakers, woken_by}
use Rattle.um_refinement.proofs.MemoryPart.{InDomains}
use Rattle.um_refinement.proofs.OfKept.{of-kept}
use Rattle.um_refinement.proofs.Offered.{IsStep, IsStopping, Shows, behind-is, by-made, own-part, own-same, shown-offers, shows-runs}
use Rattle.um_refinement.proofs.OwnKept.{carries}
use Rattle.um_refinement.proofs.ResumeSteps.{TellsWaiters}
use Rattle.um_refinement.proofs.RunningPart.{todo-elsewhere}
use Rattle.um_refinement.proofs.SchedulerSteps.{made-at, sched-else}
use Rattle.um_refinement.proofs.StepReads.{is-behind, last-read, reads-last}
use Rattle.um_refinement.proofs.ToldFacts.{none-told, untold}
use Rattle.um_refinement.proofs.WordsKept.{IsShown}
use Rattle.um_order.proofs.ArmingOrder.{Plain}
use Rattle.um_order.proofs.EventLines.{occurs-woken}
use Rattle.um_order.proofs.Follow.{Followed, IsEvent, follow, here}
use Rattle.um_order.proofs.ListCalm.{Calm, calm-expands, cuts-expands, next-calm, next-cutters}
use Rattle.um_order.proofs.ListShapes.{is_own, next-ends, next-shows}
use Rattle.um_order.proofs.NextSteps.{ChoosesLeast, leads, next-is}
use Rattle.um_order.proofs.ParkedThreads.{one-part}
use Rattle.um_order.proofs.ReadyLines.{behind-skips, next-skips, occurs-append}
use Rattle.um_order.proofs.Standing.{Begun, ComeAlone, IsFull, Opens, back, comers, cutters, goes, is_calm, is_show, woken_of}
use Rattle.um_order.proofs.ShownLists.{goes-offered, goes-some, in-turn, offers-unstill, resumes-none, settling-plain, shown-plain, starts-alone, named-numbers, replies-numbers, told-numbers, stands-occurs, stirs, behind-so, looks-so, calm-reread, cuts-reread}

module _ (f : Fine) (at : Point) (e : FineStep) (law : Lawful f at.state e) (one : f.cpus ≡ 1) (orderly : AllCreate at.state) (kept : AreKept at.state) (lawful : IsLawful at.state.image) (suits : Suits f at.state)
    (all : InDomains f at.state) (q : Pending) (rest : Steps) (todo : Todos) (x : ℕ) (h : Shows f at.state e.cpu e q rest todo) (shown : IsShown q) (is : IsStep f at.state e.cpu e x q)
    (calm : stirs q (act_in e.act) ≡ false) where
  open around f e use {later, processor as p, now}

  abbrev m : State
  m = at.state

  abbrev t : ℕ
  t = p.context.thread

  abbrev s2 : State
  s2 = T.after m t x q rest

  listed : Todo
  listed = Todo.show h.listed rest

  goes-context : (goes_on_by f.image p e (Todo.show h.listed rest ∷ todo)).context ≡ continues f.image p.context 0 q rest (act_in e.act) e.moved
  goes-context =
      ap (λ b. (if b then record p { todo = put_away (thread_in e.word).doomed } else after_show f.image p e (shown_step f.image h.listed e.act) rest todo).context) h.shown
      ∙ ap (λ r. (after_show f.image p e r rest todo).context) h.made

  pub context : now.context ≡ continues f.image p.context 0 q rest (act_in e.act) e.moved
  context = now-context f m e law (Todo.show h.listed rest ∷ todo) h.at ∙ goes-context

  pub thread : now.context.thread ≡ t
  thread = ap (λ (c : Context). c.thread) context ∙ continues-thread f.image p.context 0 q rest (act_in e.act) e.moved

  how : Leaves f m e s2
  how = event q rest todo x h shown is

  pub uncut : cuts later t ≡ 0
  uncut = event-uncut f m e law suits all s2 (event q rest todo x h shown is) (Todo.show h.listed rest) todo h.at tt (own-part h) h.awake

  pub of : IsOf later s2 now.context
  of = subst (IsOf later s2) (sym context) (of-kept f m e law suits all rest todo x q h shown is uncut)

  frame : Behind f.image (Todo.show h.listed rest) todo
  frame = (is-behind f m e law).frame (Todo.show h.listed rest) todo h.at

  fits : Fits f.image p.context (Todo.show h.listed rest ∷ todo)
  fits = subst (Fits f.image p.context) h.at (law.rel.processors e.cpu law.by.named).list.fits

  blocks : AreBlocks f.image (Todo.show h.listed rest ∷ todo)
  blocks = subst (AreBlocks f.image) h.at (law.rel.processors e.cpu law.by.named).blocks

  last : LastRead f.image e (Todo.show h.listed rest) todo
  last = last-read f m e law (Todo.show h.listed rest) todo h.at

  reads : ReadsLast e (Todo.show h.listed rest) todo
  reads = reads-last f m e law (Todo.show h.listed rest) todo h.at

  plain : (wakers todo ≡ []) × (cutters todo ≡ []) × (list_any is_show todo ≡ false) × (says_done todo ≡ false) × (list_all is_calm todo ≡ true)
  plain =
      subst (λ (z : Todos). (wakers z ≡ []) × (cutters z ≡ []) × (list_any is_show z ≡ false) × (says_done z ≡ false) × (list_all is_calm z ≡ true)) (sym (behind-is h)) (shown-plain f.image p.context q)

  same : scheduler later ≡ scheduler f
  same =
      sched-else f m e law
      (ap (λ i. same_site i Site.scheduler) (made-at f m e law (Todo.show h.listed rest ∷ todo) h.at) ∙ todo-elsewhere f.image p (Todo.show h.listed rest) todo refl tt)

  woken-made : woken_by e (Todo.show h.listed rest) ≡ woken_by e (Todo.show q rest)
  woken-made = by-made h (λ z. woken_by e (Todo.show h.listed rest) ≡ woken_by e (Todo.show z rest)) (λ killed. refl) (λ killed stopping. last.1 killed)

  now-wakers : wakers now.todo ≡ woken_by e (Todo.show q rest)
  now-wakers =
      next-wakers f.image p e (Todo.show h.listed rest) todo h.at frame last
      ∙ ((λ i. woken-made i ++ plain.0 i) ∙ append-nil (woken_by e (Todo.show q rest)))

  now-adders : adders now.todo ≡ adders (behind_shown f.image p.context q)
  now-adders = next-adders f.image p e (Todo.show h.listed rest) todo h.at refl frame reads ∙ ap adders (behind-is h)

  -- the made step
  made-calm : stirs (shown_step f.image h.listed e.act) (act_in e.act) ≡ false
  made-calm = ap (λ r. stirs r (act_in e.act)) h.made ∙ calm

  now-cutters : cutters now.todo ≡ []
  now-cutters =
      next-cutters f.image p e (Todo.show h.listed rest) todo h.at []
      (show-kept f.image (λ z. cutters z ≡ []) (λ c. Unit {0}) (cuts-expands f.image []) p e h.listed rest todo (λ z. cutters z ≡ []) tt (λ site z over k. cuts-reread site z k) frame
      (λ z k.
      let made = shown_step f.image h.listed e.act in
      looks-so f.image (λ y. cutters y ≡ []) (λ who told y j. j) (λ n y j. j) p.context made e (behind_step f.image p.context made e.moved z) made-calm
      (behind-so f.image (λ y. cutters y ≡ []) (λ who told y j. j) (λ n y j. j) p.context made e.moved z k))
      (λ read. absurd (true≢false (sym read ∙ h.shown))) plain.1)

  now-calm : list_all is_calm now.todo ≡ true
  now-calm =
      next-calm f.image p e (Todo.show h.listed rest) todo h.at
      (show-kept f.image (Calm f.image) (λ c. Unit {0}) (calm-expands f.image) p e h.listed rest todo (Calm f.image) tt (λ site z over k. calm-reread site z k) frame
      (λ z k.
      let made = shown_step f.image h.listed e.act in
      looks-so f.image (Calm f.image) (λ who told y j. j) (λ n y j. j) p.context made e (behind_step f.image p.context made e.moved z) made-calm
      (behind-so f.image (Calm f.image) (λ who told y j. j) (λ n y j. j) p.context made e.moved z k))
      (λ read. absurd (true≢false (sym read ∙ h.shown))) plain.4)

  now-comers : comers now.todo ≡ woken_of (woken_by e (Todo.show q rest)) ++ map (λ (c : Context). c.thread) (adders (behind_shown f.image p.context q))
  now-comers = λ i. woken_of (now-wakers i) ++ (now-cutters i ++ map (λ (c : Context). c.thread) (now-adders i))

  room : t < length m.threads
  room = let many = law.sound.wide.threads in let index = (own-part h).index in omega (arith, index, many)

  -- it wakes those whom the machine wakes
  outcome : (a : Addr) (ask : Ask) → q ≡ Pending.Work a ask → (outcome_in e.moved).woken ≡ (T.work_of m t a ask).woken
  outcome a ask w =
      subst
      (λ (r : Pending). (h : Shows f m e.cpu e r rest todo) → IsStep f m e.cpu e x r → r ≡ Pending.Work a ask → (outcome_in e.moved).woken ≡ (T.work_of m t a ask).woken)
      (sym w) (λ h is same. ap (λ o. o.woken) (carries f m e law suits all rest todo x (Pending.Work a ask) h room tt is)) h is w

  act : Act
  act = says_step f.image p q (act_in e.act)

  -- those whom the act starts or wakes are those whom the list adds or wakes
  comes : readied (says_step f.image p q (act_in e.act)) ≡ comers now.todo
  comes = by q refl is.says ∙ sym now-comers
    where
      quiet : (b : Bool) (a c : Act) → readied a ≡ [] → readied c ≡ [] → readied (if b then a else c) ≡ []
      quiet true a c ha hc = ha
      quiet false a c ha hc = hc

      -- that a mark is to be settled adds nobody
      bare : (r : Pending) → [] ≡ map (λ (c : Context). c.thread) (adders (settling f.image p.context (armed_for f.image p.context r) r))
      bare r = ap (λ l. map (λ (c : Context). c.thread) l) (sym (settling-plain f.image p.context (armed_for f.image p.context r) r).5)

      work : (a : Addr) (ask : Ask) → q ≡ Pending.Work a ask → Act.Work a (answer_in (act_in e.act)) (woken_in (act_in e.act)) ≡ T.act_of m t x (Pending.Work a ask)
          → map (λ (w : ThreadIx × Reply). w.0.0) (woken_in (act_in e.act)) ≡ woken_of (named (outcome_in e.moved).woken) ++ []
      work a ask w said =
          ap (λ act. map (λ (z : ThreadIx × Reply). z.0.0) (woken_in act)) said
          ∙ (replies-numbers (T.work_of m t a ask).woken
          ∙ (sym (named-numbers (T.work_of m t a ask).woken) ∙ (ap (λ ws. woken_of (named ws)) (sym (outcome a ask w)) ∙ sym (append-nil (woken_of (named (outcome_in e.moved).woken))))))

      by : (r : Pending) → q ≡ r → says_step f.image p r (act_in e.act) ≡ T.act_of m t x r
          → readied (says_step f.image p r (act_in e.act)) ≡ woken_of (woken_by e (Todo.show r rest)) ++ map (λ (c : Context). c.thread) (adders (behind_shown f.image p.context r))
      by (Pending.Work a ask) w said = work a ask w said ∙ ap (λ l. woken_of (named (outcome_in e.moved).woken) ++ l) (bare (Pending.Work a ask))
      by (Pending.Join who timeout) w said = bare (Pending.Join who timeout)
      by (Pending.FutexWait a value timeout) w said = bare (Pending.FutexWait a value timeout)
      by (Pending.Load to a n) w said = quiet (allows f.image p Access.Read a.0 n) _ _ refl refl
      by (Pending.Store a n value) w said = quiet (allows f.image p Access.Write a.0 n) _ _ refl refl
      by (Pending.Fetch a) w said = quiet (allows f.image p Access.Exec a.0 4) _ _ refl refl
      by (Pending.FutexWake a every) w said = told-numbers (woken_in (act_in e.act)) ∙ sym (append-nil (woken_of (named (told_all (woken_in (act_in e.act))))))
      by r w said = refl

  -- it rouses nobody, and leaves nobody to be cut
  rouses-none : roused s2 (says_step f.image p q (act_in e.act)) ≡ []
  rouses-none = by q calm
    where
      quiet : (b : Bool) (a c : Act) → roused s2 a ≡ [] → roused s2 c ≡ [] → roused s2 (if b then a else c) ≡ []
      quiet true a c ha hc = ha
      quiet false a c ha hc = hc

      by : (r : Pending) → stirs r (act_in e.act) ≡ false → roused s2 (says_step f.image p r (act_in e.act)) ≡ []
      by (Pending.Abort who) calm = ap (λ b. roused s2 (Act.Abort who b)) calm
      by (Pending.Continue who) calm = ap (λ b. roused s2 (Act.Continue who b)) calm
      by (Pending.Load to a n) calm = quiet (allows f.image p Access.Read a.0 n) _ _ refl refl
      by (Pending.Store a n value) calm = quiet (allows f.image p Access.Write a.0 n) _ _ refl refl
      by (Pending.Fetch a) calm = quiet (allows f.image p Access.Exec a.0 4) _ _ refl refl
      by r calm = refl

  cuts-none : to_cut (says_step f.image p q (act_in e.act)) s2 ≡ None
  cuts-none = by q calm
    where
      quiet : (b : Bool) (a c : Act) → to_cut a s2 ≡ None → to_cut c s2 ≡ None → to_cut (if b then a else c) s2 ≡ None
      quiet true a c ha hc = ha
      quiet false a c ha hc = hc

      by : (r : Pending) → stirs r (act_in e.act) ≡ false → to_cut (says_step f.image p r (act_in e.act)) s2 ≡ None
      by (Pending.Abort who) calm = ap (λ b. to_cut (Act.Abort who b) s2) calm
      by (Pending.Load to a n) calm = quiet (allows f.image p Access.Read a.0 n) _ _ refl refl
      by (Pending.Store a n value) calm = quiet (allows f.image p Access.Write a.0 n) _ _ refl refl
      by (Pending.Fetch a) calm = quiet (allows f.image p Access.Exec a.0 4) _ _ refl refl
      by r calm = refl

  shows-then : is_empty now.context.pending ≡ true → list_any is_show now.todo ≡ false
  shows-then rests =
      next-shows f.image p e (Todo.show h.listed rest) todo h.at
      (ap (λ (c : Context). c.pending) (goes-context ∙ sym context) ∙ none-left now.context.pending rests) frame plain.2

  ends-then : says_done now.todo ≡ true → now.context.ended ≡ true
  ends-then done =
      ap (λ (c : Context). c.ended) (context ∙ sym goes-context)
      ∙ next-ends f.image p e (Todo.show h.listed rest) todo h.at fits (λ k. h.shown) refl (λ k. absurd (false≢true (sym plain.3 ∙ k))) done

  runs-then : runs now ≡ true
  runs-then = goes-runs f.image p e (Todo.show h.listed rest) todo h.at refl frame reads blocks ∙ shows-runs h

  steps-then : has_steps now.todo ≡ true
  steps-then = (goes-on f.image p e (Todo.show h.listed rest) todo h.at refl frame reads blocks).0

  alone-then : ComeAlone now.todo
  alone-then = (
    λ some. absurd (true≢false (ap is_empty (sym now-cutters) ∙ some)),
    λ some. (now-wakers ∙ starts-alone f.image p.context e q rest (ap is_empty (sym now-adders) ∙ some), now-cutters),
  )

  -- its thread was told nothing: only a waiting thread is told something, and no thread wakes itself
  module _ (related : Rel later s2) where
    told-then : (thread_at s2 now.context.thread).told ≡ None
    told-then = ap (λ n. (thread_at s2 n).told) thread ∙ ((related.threads t few).told.told ∙ none-told later t nobody)
      where
        few : t < THREADS
        few = (own-part h).index

        resumes : is_resume (thread_at m t).pending ≡ false
        resumes = resumes-none m t shown (shown-offers h)

        before : tellers f t ≡ 0
        before = untold f m law.rel t few ((kept.orderly t).told resumes)

        first : e.cpu ≡ 0
        first = let l = law.by.named in omega (arith, l, one)

        part : ℕ → ℕ
        part k = counted (is_wake t) (later.processors k).todo

        offer : IsTurn m t q rest
        offer = offered m t x kept q rest (shown-offers h) (in-turn q shown) is.chosen

        apart : stands (readied (T.act_of m t x q)) t ≡ false
        apart = (made m t x q rest kept law.sound.known lawful (in-turn q shown) is.chosen offer).apart

        woken : counted (is_wake t) now.todo ≡ 0
        woken =
            let none = stands-occurs t (comers now.todo) (ap (λ l. stands l t) (sym (sym (ap readied is.says) ∙ comes)) ∙ apart) in
            let first = occurs-append t (woken_of (wakers now.todo)) (cutters now.todo ++ map (λ (d : Context). d.thread) (adders now.todo)) in
            let second = occurs-woken t (wakers now.todo) ∙ sym (wake-times t now.todo) in
            omega (arith, none, first, second)

        nobody : tellers later t ≡ 0
        nobody =
            let sum = one-part part f.cpus one in
            let mine : part 0 ≡ 0 = ap part (sym first) ∙ (ap (λ (z : Processor). counted (is_wake t) z.todo) (here f at e law one orderly) ∙ woken) in
            let there : one_if (is_some (told_at (scheduler later) t)) ≡ one_if (is_some (told_at (scheduler f) t)) = ap (λ z. one_if (is_some (told_at z t))) same in
            let none = before in
            omega (arith, sum, mine, there, none)

    -- The event follows if its thread is the one to go on, and the threads behind it are those of the scheduler's ready list.
    module _ (tells : TellsWaiters s2) (bounds : AreBounded later) (full : IsFull m t p.context.pending) (least : ChoosesLeast m t x q)
        (arms : Plain (clock f).marks at.armings → Plain (clock later).marks (armings_after at.armings (to_thread t) (says_step f.image p q (act_in e.act)) s2)) where
      full-there : IsFull m t (thread_at m t).pending
      full-there = subst (IsFull m t) (ap (λ (z : Thread). z.pending) (own-same h)) full

      is-event : at.cut ≡ None → Plain (clock f).marks at.armings → running_or at.inside (next_ready m at.ready) ≡ Some (to_thread t) → waiting at ≡ (scheduler f).ready
          → IsEvent f at e law one orderly s2 t (says_step f.image p q (act_in e.act)) (more_of f.image p q)
      is-event uncut-so armings first base =
          record {
            said = is.said;
            own = ap (is_own f.image) h.at;
            uncut = uncut-so;
            first = first;
            next = next-is m t x q rest (says_step f.image p q (act_in e.act)) shown (leads m t q rest shown (shown-offers h) full-there) least is.chosen is.says;
            base = base ∙ ap (λ z. z.ready) (sym same);
            comes = comes;
            nobody = rouses-none;
            cuts_none = cuts-none;
            thread = thread;
            of = of;
            whole = ap (cuts later) thread ∙ uncut;
            runs = runs-then;
            steps = steps-then;
            calm = now-calm;
            shows = shows-then;
            ends = ends-then;
            told = λ k. told-then;
            alone = alone-then;
            armings = arms armings;
          }

      pub shown-begun : Begun p (scheduler f) (clock f).marks at → Followed f at e law one orderly s2
      shown-begun was = by
          (by-made h (λ z. IsShown z → (p.context.pending ≡ []) ⊎ (goes p.context.pending ≡ true)) (λ killed some. goes-offered f.image p.context some fits.0)
          (λ killed stopping some. goes-offered f.image p.context (stopping-shown h.listed stopping) fits.0) shown)
        where
          stopping-shown : (z : Pending) → IsStopping z → IsShown z
          stopping-shown Pending.Begin s = tt
          stopping-shown Pending.Exit s = tt
          stopping-shown Pending.Killed s = tt
          stopping-shown z s = absurd s

          by : (p.context.pending ≡ []) ⊎ (goes p.context.pending ≡ true) → Followed f at e law one orderly s2
          by (inl none) = absurd (true≢false (sym (ap (list_any is_show) h.at) ∙ was.0.shows (ap is_empty none)))
          by (inr on) =
              let some = goes-some p.context on in
              let inside : at.inside ≡ Some (to_thread t) = was.0.inside ∙ some.1 in
              let list : comers p.todo ≡ [] = ap comers h.at ∙ λ i. woken_of (plain.0 i) ++ (plain.1 i ++ []) in
              let mine : back p.context ≡ [] = ap (λ b. if b && not p.context.ended then t ∷ [] else []) some.0 in
              follow f at e law one orderly s2 related tells bounds t (says_step f.image p q (act_in e.act)) (more_of f.image p q)
              (is-event was.1 was.0.armings (ap (λ o. running_or o (next_ready m at.ready)) inside)
              (ap (λ o. if is_some o then at.ready else behind_next m at.ready) inside ∙ (was.0.ready ∙ ((λ i. (scheduler f).ready ++ (list i ++ mine i)) ∙ append-nil (scheduler f).ready))))

      pub shown-opens : Opens p (scheduler f) (clock f).marks at → Followed f at e law one orderly s2
      shown-opens was =
          let still : is_still m t ≡ false = offers-unstill m t shown (shown-offers h) in
          let next-first : next_ready m at.ready ≡ Some (to_thread t) =
          ap (next_ready m) was.ready
          ∙ (next-skips m was.skipped (t ∷ (scheduler f).ready) was.still ∙ ap (λ b. if b then next_ready m (scheduler f).ready else Some (to_thread t)) still) in
          let behind-first : behind_next m at.ready ≡ (scheduler f).ready =
          ap (behind_next m) was.ready
          ∙ (behind-skips m was.skipped (t ∷ (scheduler f).ready) was.still ∙ ap (λ b. if b then behind_next m (scheduler f).ready else (scheduler f).ready) still) in
          follow f at e law one orderly s2 related tells bounds t (says_step f.image p q (act_in e.act)) (more_of f.image p q)
          (is-event was.cut was.armings (ap (λ o. running_or o (next_ready m at.ready)) was.inside ∙ next-first)
          (ap (λ o. if is_some o then at.ready else behind_next m at.ready) was.inside ∙ behind-first))
