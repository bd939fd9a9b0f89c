-- What a woken thread is told stands with the scheduler, or on the list of the processor that wakes it, after every lawful step.
use Rattle.um_refinement.proofs.Words.{Outcome, Waiter, act_in, behind_shown, filter, in_order, ◌≡◌, ℕ, suc, ◌+◌, ◌<◌, ◌≤◌, Bool, true, false, List, [], ◌∷◌, ◌++◌, length, Option, Some, None, refl, sym, ap, ◌∙◌, subst, arith, eq-eqb, ◌==◌, if◌then◌else◌, is_some, slice_index_or, slice_set, eqb-false, eqb-true, false≢true, true≢false, get_or-set_at, get_or-set_other, Told, THREADS, Errno, Pending, Thread, verdict, Steps, to_thread, Offers, exits, goes, skips_drops, skips_inherit, State, object_at, thread_at, with_object, with_thread, AreKept, is_resume, Todo, Todos, Exchange, FineStep, Site, Fine, Addr, Ask, Object, Acted, ready_in, Scheduler, told_at, same_site, one_if, scheduler, counted, is_wake, wake_of, FineAct, Unseen, Context, IsOf, Next, gone, went, work_change, served, IsServed, times, wakings, wake_in, ToldIs, tellers, changed-same, held-same, tends, tends}
use Rattle.um_invariants.proofs.ThreadCells.{cell}
use Rattle.um_invariants.proofs.ThreadWaits.{some-order, told-wakings}
use Rattle.um_machine.specs.Run.{stops}
use Rattle.um_machine.specs.Services.{still_waiting}
use Rattle.um_machine.specs.Futexes.{futex_refusal, futex_woken, is_on, roused, some_of}
use Rattle.um_machine.specs.State.{with_waiters}
use Rattle.um_base.specs.declared.limits.TheConstants.{FUTEX_CELL}
use Rattle.um_base.specs.declared.names.Reply.{Reply}
use Rattle.um_fine.specs.Answers.{answer_in, is_void, woken_in}
use Rattle.um_fine.specs.Asks.{by_actor, marks_end, says_turn}
use Rattle.um_fine.specs.Follows.{told_all, told_marked}
use Rattle.um_fine.specs.Places.{armed_for, settling}
use Rattle.um_fine.specs.Scheduler.{is_cut, to_kill}
use Rattle.um_refinement.proofs.ToldBeside.{told-back, told-beside}
use Rattle.um_refinement.proofs.WordsKept.{IsShown}
use Rattle.um_refinement.proofs.ToldSteps.{count, elsewhere, same-tellers, set-told, sums, told_of, wakers-now, wakes-same, wakes-some}
use Rattle.um_machine.specs.Table as T
use Rattle.um_refinement.proofs.CallsKnown.{starts-known}
use Rattle.um_refinement.proofs.Leaves.{Lawful, Leaves, beside, cleans, drops, event, nothing, passes, recycles, resumes}
use Rattle.um_refinement.proofs.Offered.{IsStopping, NotKilled, at-made, by-made, Shows, shown-offers, IsStep, behind-is, own-part}
use Rattle.um_refinement.proofs.RestKept.{beside-kept, beside-same}
use Rattle.std.proofs.lemmas.List.{append-nil}
use Rattle.um_refinement.proofs.Erased.{around}
use Rattle.um_refinement.proofs.LawfulSteps.{Suits}
use Rattle.um_refinement.proofs.ListWakes.{named, takes-wakers, told_first, told_times, wake-first, wake-times, wakers, woken_by}
use Rattle.um_refinement.proofs.MemoryPart.{InDomains}
use Rattle.um_refinement.proofs.OwnKept.{carries}
use Rattle.um_refinement.proofs.SchedulerSteps.{made-at, made-moves, made-says, sched-else, sched-later}
use Rattle.um_refinement.proofs.StepReads.{last-read}
use Rattle.um_refinement.proofs.ToldFacts.{none-told, scheduler-told, told_last, wake-is-told, woken-told}
use Rattle.um_refinement.proofs.ContextsPart.{is_shown, read-only}
use Rattle.um_refinement.proofs.MemorySteps.{part-total}
use Rattle.um_refinement.proofs.OfVisits.{scheduler-tells}
use Rattle.um_refinement.proofs.Taking.{Idles, IsTaken, idles, kill-thread, taken-parked, taken-told, takes, takes-first, tends}
use Rattle.um_refinement.proofs.PlacesFacts.{set-none}
use Rattle.um_refinement.proofs.ThreadLists.{at-here, set-else}

-- a thread that ends isn't one that is to resume
exit-quiet : (m : State) (t : ℕ) (rest : Steps) → Offers m t Pending.Exit rest → is_resume (thread_at m t).pending ≡ false
exit-quiet m t rest (goes e) = ap is_resume e
exit-quiet m t rest (skips_inherit e due) = ap is_resume e
exit-quiet m t rest (skips_drops e due) = ap is_resume e
exit-quiet m t rest (exits e lives doomed there) = ap is_resume e
exit-quiet m t _ (tends is started) = absurd (false≢true is)

fatal-quiet : (m : State) (t reason : ℕ) (cause : _) (rest : Steps) → Offers m t (Pending.Fatal reason cause) rest → is_resume (thread_at m t).pending ≡ false
fatal-quiet m t reason cause rest (goes e) = ap is_resume e
fatal-quiet m t reason cause rest (skips_inherit e due) = ap is_resume e
fatal-quiet m t reason cause rest (skips_drops e due) = ap is_resume e
fatal-quiet m t reason cause _ (tends is started) = absurd (false≢true is)

killed-quiet : (m : State) (t : ℕ) (rest : Steps) → Offers m t Pending.Killed rest → is_resume (thread_at m t).pending ≡ false
killed-quiet m t rest (goes e) = ap is_resume e
killed-quiet m t rest (skips_inherit e due) = ap is_resume e
killed-quiet m t rest (skips_drops e due) = ap is_resume e
killed-quiet m t _ (stops rests lives must) = ap is_resume rests
killed-quiet m t _ (tends is started) = absurd (false≢true is)

-- a wake on a futex tells as many as it rouses
pub few-of : (every : Bool) (ws : List Waiter) (u : ℕ) → times u (some_of every ws) ≤ times u ws
few-of true ws u = omega arith
few-of false [] u = omega arith
few-of false (w ∷ ws) u = omega arith

-- the steps that wake nobody, and aren't those of one that is woken
abbrev pub WakesNone : Pending → Type 0
WakesNone (Pending.Work a ask) = ⊥
WakesNone (Pending.FutexWake a every) = ⊥
WakesNone (Pending.TimeOut who) = ⊥
WakesNone Pending.Expire = ⊥
WakesNone Pending.Left = ⊥
WakesNone (Pending.Cut who) = ⊥
WakesNone Pending.Resume = ⊥
WakesNone q = Unit {0}

module _ (f : Fine) (m : State) (e : FineStep) (law : Lawful f m e) (kept : AreKept m) (x t : ℕ) where
  abbrev mine : ℕ
  mine = (f.processors e.cpu).context.thread

  -- an event that wakes nobody tells nobody anything
  pub event-tells-none : (q : Pending) (rest : Steps) (todo : Todos) → Shows f m e.cpu e q rest todo → WakesNone q → (thread_at (T.after m mine x q rest) t).told ≡ (thread_at m t).told
  event-tells-none Pending.Exit rest todo h none =
      set-told m mine _ t (sym ((kept.orderly mine).told (exit-quiet m mine rest (shown-offers h))))
  event-tells-none (Pending.Fatal reason cause) rest todo h none =
      set-told m mine _ t (sym ((kept.orderly mine).told (fatal-quiet m mine reason cause rest (shown-offers h))))
  event-tells-none (Pending.Check a kind want refusal) rest todo h none =
      set-told m mine _ t (held-same (λ me. me.told) (λ me checked. refl) (T.row_of m a) (verdict m mine a.0 kind want) (thread_at m mine))
  event-tells-none (Pending.Answer reply to) rest todo h none = set-told m mine _ t refl
  event-tells-none (Pending.Start who script stack priority mode) rest todo h none =
      let new = (starts-known m law.sound mine who script stack priority mode rest (shown-offers h)).1 in
      let child = T.newborn m (thread_at m mine) who.0 script (Pending.Start who script stack priority mode) in
      set-told (with_thread m who.0 child) mine _ t refl ∙ set-told m who.0 child t (sym ((kept.orderly who.0).told (ap is_resume new)))
  event-tells-none Pending.Killed rest todo h none =
      set-told m mine _ t (sym ((kept.orderly mine).told (killed-quiet m mine rest (shown-offers h))))
  event-tells-none (Pending.Work a ask) rest todo h none = absurd none
  event-tells-none (Pending.FutexWake a every) rest todo h none = absurd none
  event-tells-none (Pending.TimeOut who) rest todo h none = absurd none
  event-tells-none Pending.Expire rest todo h none = absurd none
  event-tells-none Pending.Left rest todo h none = absurd none
  event-tells-none (Pending.Cut who) rest todo h none = absurd none
  event-tells-none Pending.Resume rest todo h none = absurd none
  event-tells-none q rest todo h none = ap (λ z. z.told) (beside-same m mine (T.after m mine x q rest) (beside-kept m mine x q rest tt) t)

module _ (f : Fine) (m : State) (e : FineStep) (law : Lawful f m e) (suits : Suits f m) (all : InDomains f m) (kept : AreKept m) (t : ℕ) (few : t < THREADS) where
  open around f e use {later, processor as p, now}

  room : t < length m.threads
  room = let many = law.sound.wide.threads in omega (arith, few, many)

  nothing-behind : {q : Pending} {rest : Steps} {todo : Todos} → Shows f m e.cpu e q rest todo → wakers (behind_shown f.image p.context q) ≡ [] → wakers p.todo ≡ []
  nothing-behind h none = ap wakers h.at ∙ (ap wakers (behind-is h) ∙ none)

  -- whom a shown step wakes
  lists-shown : {q : Pending} {rest : Steps} {todo : Todos} → (h : Shows f m e.cpu e q rest todo) → NotKilled q → wakers (behind_shown f.image p.context q) ≡ [] → wakers now.todo ≡ woken_by e (Todo.show q rest)
  lists-shown {q} {rest} {todo} h other none =
      wakers-now f m e law kept t few (Todo.show q rest) todo (at-made h other)
      ∙ ((λ i. woken_by e (Todo.show q rest) ++ (ap wakers (behind-is h) ∙ none) i) ∙ append-nil (woken_by e (Todo.show q rest)))

  settled-none : (o : Option ℕ) (q : Pending) → wakers (settling f.image p.context o q) ≡ []
  settled-none None q = refl
  settled-none (Some deadline) q = refl

  -- work that wakes
  works : (a : Addr) (ask : Ask) (rest : Steps) (todo : Todos) (x : ℕ) → (h : Shows f m e.cpu e (Pending.Work a ask) rest todo) → IsStep f m e.cpu e x (Pending.Work a ask)
      → ToldIs later (T.after m p.context.thread x (Pending.Work a ask) rest) t
  works a ask rest todo x h is = wakes-some f m e law kept t few (T.after m p.context.thread x q rest) w.woken (suc (suc (T.row_of m a))) (serves.often t) machine lists (nothing-behind h none) (elsewhere f m e law kept t few (Todo.show h.listed rest) todo h.at refl)
    where
      q : Pending
      q = Pending.Work a ask

      v : ℕ
      v = p.context.thread

      w : Acted
      w = T.work_of m p.context.thread a ask

      o : Object
      o = record (object_at m (T.row_of m a)) { contents = w.contents; waiters = w.waiters; buffer = T.buffer_cost ask w.answer (object_at m (T.row_of m a)).buffer }

      mine-room : p.context.thread < length m.threads
      mine-room = let many = law.sound.wide.threads in let index = (own-part h).index in omega (arith, index, many)

      none : wakers (behind_shown f.image p.context (Pending.Work a ask)) ≡ []
      none = settled-none (armed_for f.image p.context (Pending.Work a ask)) (Pending.Work a ask)

      lists : wakers now.todo ≡ named (T.work_of m p.context.thread a ask).woken
      lists = lists-shown h tt none ∙ ap (λ (z : Outcome). named z.woken) (carries f m e law suits all rest todo x (Pending.Work a ask) h mine-room tt is)

      machine : (thread_at (T.after m p.context.thread x (Pending.Work a ask) rest) t).told ≡ told_last t (T.work_of m p.context.thread a ask).woken (thread_at m t).told
      machine =
          let told = T.all_woken w.woken (with_object m (T.row_of m a) o) in
          set-told told v _ t (changed-same (λ me. me.told) (λ me registers reply buffer until. refl) (work_change w.answer w.taken) (thread_at told v)) ∙ woken-told (T.work_of m p.context.thread a ask).woken (with_object m (T.row_of m a) o) t room

      serves : IsServed (object_at m (T.row_of m a)).waiters p.context.thread (T.work_of m p.context.thread a ask)
      serves =
          served (object_at m (T.row_of m a)).waiters
          (record {
            thread = to_thread p.context.thread;
            priority = (thread_at m p.context.thread).priority;
            ask = ask;
            bytes = T.bytes_given (thread_at m p.context.thread).buffer ask;
            until = (thread_at m p.context.thread).until;
          }) (kept.once (suc (suc (T.row_of m a)))) (object_at m (T.row_of m a)).contents ask

  -- a wake on a futex
  wakes-futex : (a : Addr) (every : Bool) (rest : Steps) (todo : Todos) (x : ℕ) → (h : Shows f m e.cpu e (Pending.FutexWake a every) rest todo) → IsStep f m e.cpu e x (Pending.FutexWake a every)
      → ToldIs later (T.after m p.context.thread x (Pending.FutexWake a every) rest) t
  wakes-futex a every rest todo x h is =
      wakes-some f m e law kept t few (T.after m p.context.thread x q rest) (futex_woken m v a.0 every) 1 fewer machine lists (nothing-behind h refl) (elsewhere f m e law kept t few (Todo.show h.listed rest) todo h.at refl)
    where
      q : Pending
      q = Pending.FutexWake a every

      v : ℕ
      v = p.context.thread

      rousing : (o : Option Errno) → times t (roused m a.0 every o) ≤ times t m.futexes
      rousing (Some error) = omega arith
      rousing None =
          let some = few-of every (in_order (filter (is_on a.0) m.futexes)) t in
          let among = some-order (is_on a.0) m.futexes t in
          omega (arith, some, among)

      fewer : wakings t (futex_woken m p.context.thread a.0 every) ≤ times t (cell m 1)
      fewer =
          let same = told-wakings (Reply.Num 0) (roused m a.0 every (futex_refusal m p.context.thread a.0)) t in
          let less = rousing (futex_refusal m p.context.thread a.0) in
          omega (arith, same, less)

      machine : (thread_at (T.after m p.context.thread x (Pending.FutexWake a every) rest) t).told ≡ told_last t (futex_woken m p.context.thread a.0 every) (thread_at m t).told
      machine =
          let put = with_waiters m FUTEX_CELL (still_waiting (futex_woken m v a.0 every) m.futexes) in
          let told = T.all_woken (futex_woken m v a.0 every) put in
          set-told told v _ t (changed-same (λ me. me.told) (λ me registers reply buffer until. refl) (work_change (answer_in (T.act_of m v x q)) []) (thread_at told v)) ∙ woken-told (futex_woken m p.context.thread a.0 every) put t room

      lists : wakers now.todo ≡ named (futex_woken m p.context.thread a.0 every)
      lists =
          lists-shown h tt refl
          ∙ (ap (λ act. named (told_all (woken_in act))) (ap act_in is.said ∙ is.says)
          ∙ ap named (told-back (Reply.Num 0) (roused m a.0 every (futex_refusal m p.context.thread a.0))))

  -- A thread is taken.

  took-none : (s : State) → (thread_at s t).told ≡ (thread_at m t).told → p.todo ≡ [] → is_shown e.act ≡ false → ToldIs later s t
  took-none s machine at quiet = wakes-same f m e law kept t few s machine (takes-wakers f.image p e at ∙ sym (ap wakers at)) (by (idles f m e law at))
    where
      untold-it : (first : IsTaken f e) (o : Option Told) → first.told ≡ o → o ≡ None
      untold-it first None q = refl
      untold-it first (Some w) q =
          absurd (false≢true (sym quiet ∙ ap is_shown (first.said ∙ ap (says_turn f.image p) (first.moved ∙ ap (Exchange.thread (to_kill (is_cut (scheduler f) first.thread) first.parked)) q))))

      taken : (first : IsTaken f e) → told_at (scheduler later) t ≡ told_at (scheduler f) t
      taken first = ap (λ (z : Scheduler). told_at z t) first.after ∙ which (t == first.thread) refl
        where
          which : (b : Bool) → (t == first.thread) ≡ b → slice_index_or (slice_set (scheduler f).told first.thread None) t None ≡ told_at (scheduler f) t
          which true same =
              subst (λ n. slice_index_or (slice_set (scheduler f).told first.thread None) n None ≡ told_at (scheduler f) n) (sym (eqb-true t first.thread same))
              (set-none (scheduler f).told first.thread ∙ sym (sym first.tells ∙ untold-it first first.told refl))
          which false other = get_or-set_other (scheduler f).told first.thread t None None (eqb-false t first.thread other)

      by : Idles f e → told_at (scheduler later) t ≡ told_at (scheduler f) t
      by (takes first) = taken first
      by (tends is) = ap (λ (z : Scheduler). told_at z t) (sched-else f m e law (ap (λ i. same_site i Site.scheduler) is.site))

  took-told : (c : Context) (told : Told) (rest : Steps) → p.todo ≡ [] → e.moved ≡ Exchange.thread c (Some told) → ToldIs later (T.after m c.thread 0 Pending.Resume rest) t
  took-told c told rest at moved = which (t == c.thread) refl
    where
      v : ℕ
      v = c.thread

      is : IsOf f m c
      is = (law.rel.contexts.parked c.thread c (taken-parked f m e law at c told moved)).0

      room : c.thread < length m.threads
      room = let index = is.index in let many = law.sound.wide.threads in omega (arith, index, many)

      stands : told_at (scheduler f) c.thread ≡ Some told
      stands = taken-told f m e law at c told moved

      th : Thread
      th = gone rest m c.thread (Next.resumes (Some told)) (thread_at m c.thread)

      written : (n : ℕ) → thread_at (T.after m c.thread 0 Pending.Resume rest) n ≡ thread_at (with_thread m c.thread th) n
      written n = ap (λ (o : Option Told). thread_at (went rest m c.thread (Next.resumes o)) n) (scheduler-tells f m law.rel c.thread is.index told stands)

      found : (first : IsTaken f e) × (c ≡ to_kill (is_cut (scheduler f) first.thread) first.parked) × (Some told ≡ first.told)
      found = takes-first f m e law at c (Some told) moved

      index : found.0.thread ≡ c.thread
      index = sym found.0.same ∙ (sym (kill-thread (is_cut (scheduler f) found.0.thread) found.0.parked) ∙ ap (λ (z : Context). z.thread) (sym found.1))

      here : told_at (scheduler later) t ≡ slice_index_or (slice_set (scheduler f).told c.thread None) t None
      here = ap (λ (z : Scheduler). told_at z t) found.0.after ∙ ap (λ n. slice_index_or (slice_set (scheduler f).told n None) t None) index

      lists : wakers now.todo ≡ wakers p.todo
      lists = takes-wakers f.image p e at ∙ sym (ap wakers at)

      which : (b : Bool) → (t == c.thread) ≡ b → ToldIs later (T.after m c.thread 0 Pending.Resume rest) t
      which true same =
          let equal = eqb-true t c.thread same in
          let gone : told_at (scheduler later) t ≡ None = here ∙ subst (λ n. slice_index_or (slice_set (scheduler f).told c.thread None) n None ≡ None) (sym equal) (set-none (scheduler f).told c.thread) in
          let none = ap (λ (o : Option Told). one_if (is_some o)) gone in
          let sum = sums f m e law kept t few in
          let before = (law.rel.threads t few).told.once in
          let one : one_if (is_some (told_at (scheduler f) t)) ≡ 1 = ap (λ n. one_if (is_some (told_at (scheduler f) n))) equal ∙ ap (λ (o : Option Told). one_if (is_some o)) stands in
          let times : count f m e law kept t few now ≡ count f m e law kept t few p = wake-times t now.todo ∙ (ap (told_times t) lists ∙ sym (wake-times t p.todo)) in
          let silent : tellers later t ≡ 0 = omega (arith, none, sum, before, one, times) in
          record {
            told = ap told_of (written t) ∙ (ap (λ n. told_of (thread_at (with_thread m c.thread th) n)) equal ∙ (ap told_of (at-here m.threads c.thread th room) ∙ sym (none-told later t silent)));
            once = omega (arith, silent);
          }
      which false other =
          let apart = eqb-false t c.thread other in
          wakes-same f m e law kept t few (T.after m c.thread 0 Pending.Resume rest) (ap told_of (written t) ∙ ap told_of (set-else m.threads c.thread t th (λ same. apart (sym same)))) lists
          (here ∙ get_or-set_other (scheduler f).told c.thread t None None apart)

  -- A thread is woken.
  woke : (s : State) → (thread_at s t).told ≡ (thread_at m t).told → (who : ℕ) (told : Told) (todo : Todos) → p.todo ≡ Todo.wake who told ∷ todo → ToldIs later s t
  woke s machine who told todo at = which (who == t) refl
    where
      act : FineAct
      act = FineAct.Unseen (Unseen.Wake (to_thread who) (ready_in e.act))

      here : told_at (scheduler later) t ≡ slice_index_or (slice_set (scheduler f).told who (Some told)) t None
      here =
          ap (λ (z : Scheduler). told_at z t) (sched-later f m e law (made-at f m e law (Todo.wake who told ∷ todo) at) act (made-says f m e law (Todo.wake who told ∷ todo) at))
          ∙ ap (λ (mv : Exchange). slice_index_or (slice_set (scheduler f).told who (Some (wake_in mv))) t None) (made-moves f m e law (Todo.wake who told ∷ todo) at)

      lists : wakers now.todo ≡ wakers todo
      lists = wakers-now f m e law kept t few (Todo.wake who told) todo at

      was : wakers p.todo ≡ (who, told) ∷ wakers todo
      was = ap wakers at

      which : (b : Bool) → (who == t) ≡ b → ToldIs later s t
      which true same =
          let equal : t ≡ who = sym (eqb-true who t same) in
          let long = law.rel.scheduler.told in
          let now-told = here ∙ get_or-set_at (scheduler f).told who t (Some told) None equal (omega (arith, few, long, equal)) in
          let one = ap (λ (o : Option Told). one_if (is_some o)) now-told in
          let sum = sums f m e law kept t few in
          let before = (law.rel.threads t few).told.once in
          let times-now = wake-times t now.todo ∙ ap (told_times t) lists in
          let times-was : count f m e law kept t few p ≡ told_times t (wakers todo) + 1 = wake-times t p.todo ∙ (ap (told_times t) was ∙ ap (λ b. if b then told_times t (wakers todo) + 1 else told_times t (wakers todo)) same) in
          let part = part-total (λ j. counted (is_wake t) (f.processors j).todo) f.cpus e.cpu law.by.named in
          let single : tellers later t ≤ 1 = omega (arith, one, sum, before, times-now, times-was, part) in
          let first : wake_of t p.todo ≡ Some told = wake-first t p.todo ∙ (ap (told_first t) was ∙ ap (λ b. if b then Some told else told_first t (wakers todo)) same) in
          record {
            told = machine ∙ ((law.rel.threads t few).told.told ∙ (wake-is-told f t told e.cpu law.by.named first (omega (arith, times-was)) before ∙ sym (scheduler-told later t told now-told single)));
            once = single;
          }
      which false other =
          same-tellers f m e law kept t few s machine
          (wake-first t now.todo ∙ (ap (told_first t) lists ∙ sym (wake-first t p.todo ∙ (ap (told_first t) was ∙ ap (λ b. if b then Some told else told_first t (wakers todo)) other))))
          (wake-times t now.todo ∙ (ap (told_times t) lists ∙ sym (wake-times t p.todo ∙ (ap (told_times t) was ∙ ap (λ b. if b then told_times t (wakers todo) + 1 else told_times t (wakers todo)) other))))
          (here ∙ get_or-set_other (scheduler f).told who t (Some told) None (λ same. true≢false (sym (eq-eqb who t (sym same)) ∙ other)))

  quiet-told : (s : State) → (thread_at s t).told ≡ (thread_at m t).told → is_shown e.act ≡ false → (todo : Todos) → p.todo ≡ todo → ToldIs later s t
  quiet-told s machine quiet [] at = took-none s machine at quiet
  quiet-told s machine quiet (Todo.wake who told ∷ todo) at = woke s machine who told todo at
  quiet-told s machine quiet (Todo.add d ∷ todo) at =
      wakes-same f m e law kept t few s machine (wakers-now f m e law kept t few (Todo.add d) todo at ∙ sym (ap wakers at))
      (ap (λ (z : Scheduler). told_at z t) (sched-later f m e law (made-at f m e law (Todo.add d ∷ todo) at) _ (made-says f m e law (Todo.add d ∷ todo) at)))
  quiet-told s machine quiet (Todo.park ∷ todo) at =
      wakes-same f m e law kept t few s machine (wakers-now f m e law kept t few Todo.park todo at ∙ sym (ap wakers at))
      (ap (λ (z : Scheduler). told_at z t) (sched-later f m e law (made-at f m e law (Todo.park ∷ todo) at) _ (made-says f m e law (Todo.park ∷ todo) at)))
  quiet-told s machine quiet (Todo.done ∷ todo) at =
      wakes-same f m e law kept t few s machine (wakers-now f m e law kept t few Todo.done todo at ∙ sym (ap wakers at))
      (ap (λ (z : Scheduler). told_at z t) (sched-later f m e law (made-at f m e law (Todo.done ∷ todo) at) _ (made-says f m e law (Todo.done ∷ todo) at)))
  quiet-told s machine quiet (Todo.tell_cut who ∷ todo) at =
      wakes-same f m e law kept t few s machine (wakers-now f m e law kept t few (Todo.tell_cut who) todo at ∙ sym (ap wakers at))
      (ap (λ (z : Scheduler). told_at z t) (sched-later f m e law (made-at f m e law (Todo.tell_cut who ∷ todo) at) _ (made-says f m e law (Todo.tell_cut who ∷ todo) at)))
  quiet-told s machine quiet (Todo.owe ∷ todo) at =
      wakes-same f m e law kept t few s machine (wakers-now f m e law kept t few Todo.owe todo at ∙ sym (ap wakers at))
      (ap (λ (z : Scheduler). told_at z t) (sched-later f m e law (made-at f m e law (Todo.owe ∷ todo) at) _ (made-says f m e law (Todo.owe ∷ todo) at)))
  quiet-told s machine quiet (Todo.paid ∷ todo) at =
      wakes-same f m e law kept t few s machine (wakers-now f m e law kept t few Todo.paid todo at ∙ sym (ap wakers at))
      (ap (λ (z : Scheduler). told_at z t) (sched-later f m e law (made-at f m e law (Todo.paid ∷ todo) at) _ (made-says f m e law (Todo.paid ∷ todo) at)))
  quiet-told s machine quiet (Todo.leave ∷ todo) at =
      wakes-same f m e law kept t few s machine (wakers-now f m e law kept t few Todo.leave todo at ∙ ((λ i. left-none i ++ wakers todo) ∙ sym (ap wakers at))) (elsewhere f m e law kept t few Todo.leave todo at refl)
    where
      -- one that only shuts wakes nobody
      left-none : woken_by e Todo.leave ≡ []
      left-none = unseen-wakes e.act quiet
        where
          unseen-wakes : (act : FineAct) → is_shown act ≡ false → named (told_all (woken_in (act_in act))) ≡ []
          unseen-wakes (FineAct.Unseen u) k = refl
          unseen-wakes (FineAct.Shown said more) k = absurd (true≢false k)
  quiet-told s machine quiet (Todo.handle deadline mark ∷ todo) at =
      wakes-same f m e law kept t few s machine (wakers-now f m e law kept t few (Todo.handle deadline mark) todo at ∙ ((λ i. void-none i ++ wakers todo) ∙ sym (ap wakers at))) (elsewhere f m e law kept t few (Todo.handle deadline mark) todo at refl)
    where
      -- a mark of one who doesn't wait any more wakes nobody
      void-none : woken_by e (Todo.handle deadline mark) ≡ []
      void-none = by (is_void e.act) refl
        where
          by : (b : Bool) → is_void e.act ≡ b → (if is_void e.act then [] else named (told_marked mark (woken_in (act_in e.act)))) ≡ []
          by true k = ap (λ b. if b then [] else named (told_marked mark (woken_in (act_in e.act)))) k
          by false k =
              absurd (false≢true (sym quiet ∙ ap is_shown (made-says f m e law (Todo.handle deadline mark ∷ todo) at ∙ ap (λ b. if b then FineAct.Unseen Unseen.Void else by_actor f.image p (marks_end f.image p mark e.act)) k)))
  quiet-told s machine quiet (Todo.show q rest ∷ todo) at =
      wakes-same f m e law kept t few s machine (wakers-now f m e law kept t few (Todo.show q rest) todo at ∙ ((λ i. ((last-read f m e law (Todo.show q rest) todo at).0 (read-only f m e law q (made-says f m e law (Todo.show q rest ∷ todo) at) quiet)).1 i ++ wakers todo) ∙ sym (ap wakers at)))
      (elsewhere f m e law kept t few (Todo.show q rest) todo at refl)
  quiet-told s machine quiet (q ∷ todo) at = wakes-same f m e law kept t few s machine (wakers-now f m e law kept t few q todo at ∙ sym (ap wakers at)) (elsewhere f m e law kept t few q todo at refl)

  event-told : (q : Pending) (rest : Steps) (todo : Todos) (x : ℕ) → Shows f m e.cpu e q rest todo → IsShown q → IsStep f m e.cpu e x q → ToldIs later (T.after m p.context.thread x q rest) t
  event-told (Pending.Work a ask) rest todo x h shown is = works a ask rest todo x h is
  event-told (Pending.FutexWake a every) rest todo x h shown is = wakes-futex a every rest todo x h is
  event-told Pending.Killed rest todo x h shown is =
      wakes-same f m e law kept t few (T.after m p.context.thread x Pending.Killed rest) (event-tells-none f m e law kept x t Pending.Killed rest todo h tt) (lists-killed h) (elsewhere f m e law kept t few (Todo.show h.listed rest) todo h.at refl)
    where
      killed-wakes : (z : Pending) → IsStopping z → woken_by e (Todo.show z rest) ≡ []
      killed-wakes Pending.Begin s = refl
      killed-wakes Pending.Exit s = refl
      killed-wakes Pending.Killed s = refl
      killed-wakes z s = absurd s

      lists-killed : (h : Shows f m e.cpu e Pending.Killed rest todo) → wakers now.todo ≡ wakers p.todo
      lists-killed h =
          wakers-now f m e law kept t few (Todo.show h.listed rest) todo h.at
          ∙ ((λ i. by-made h (λ z. woken_by e (Todo.show z rest) ≡ [] → woken_by e (Todo.show h.listed rest) ≡ []) (λ killed k. k) (λ killed stopping k. killed-wakes h.listed stopping) refl i ++ wakers todo) ∙ sym (ap wakers h.at))
  event-told Pending.Resume rest todo x h shown is = absurd shown
  event-told (Pending.Cut who) rest todo x h shown is = absurd shown
  event-told (Pending.TimeOut who) rest todo x h shown is = absurd shown
  event-told Pending.Expire rest todo x h shown is = absurd shown
  event-told Pending.Tick rest todo x h shown is = absurd shown
  event-told Pending.Left rest todo x h shown is = absurd shown
  event-told q rest todo x h shown is =
      wakes-same f m e law kept t few (T.after m p.context.thread x q rest) (event-tells-none f m e law kept x t q rest todo h tt) (wakers-now f m e law kept t few (Todo.show q rest) todo (at-made h tt) ∙ sym (ap wakers (at-made h tt))) (elsewhere f m e law kept t few (Todo.show h.listed rest) todo h.at refl)

  pub told-part : (s : State) → Leaves f m e s → ToldIs later s t
  told-part _ (nothing u said) = quiet-told m refl (ap is_shown said) p.todo refl
  told-part _ (event q rest todo x h shown is) = event-told q rest todo x h shown is
  told-part _ (resumes c told rest idle moved said) = took-told c told rest idle moved
  told-part s (passes who x rest todo h said) =
      wakes-same f m e law kept t few s (ap (λ z. z.told) (beside-same m p.context.thread s (beside-kept m p.context.thread x (Pending.Inherit (to_thread who)) rest tt) t)) (wakers-now f m e law kept t few (Todo.pass who x) todo h.at ∙ sym (ap wakers h.at)) (elsewhere f m e law kept t few (Todo.pass who x) todo h.at refl)
  told-part s (drops from x rest todo h said) =
      wakes-same f m e law kept t few s (ap (λ z. z.told) (beside-same m p.context.thread s (beside-kept m p.context.thread x (Pending.Drops from) rest tt) t)) (wakers-now f m e law kept t few (Todo.drop x) todo h.at ∙ sym (ap wakers h.at)) (elsewhere f m e law kept t few (Todo.drop x) todo h.at refl)
  told-part s (cleans who x rest todo h said) =
      wakes-same f m e law kept t few s (ap (λ z. z.told) (beside-same m p.context.thread s (beside-kept m p.context.thread x (Pending.CleanPair (to_thread who)) rest tt) t)) (wakers-now f m e law kept t few (Todo.clean_pair who x) todo h.at ∙ sym (ap wakers h.at)) (elsewhere f m e law kept t few (Todo.clean_pair who x) todo h.at refl)
  told-part s (recycles x rest todo at l said chosen) =
      wakes-same f m e law kept t few s (ap (λ z. z.told) (beside-same m p.context.thread s (beside-kept m p.context.thread x Pending.Recycle rest tt) t)) (wakers-now f m e law kept t few (Todo.recycle x) todo at ∙ sym (ap wakers at)) (elsewhere f m e law kept t few (Todo.recycle x) todo at refl)
  told-part _ (beside u x q how chosen started) = told-beside f m e law suits kept t few u x q how chosen
