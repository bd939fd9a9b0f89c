-- Who is ready is parked, stands in the ready list once, and waits for nothing, after every lawful step.
use Rattle.um_refinement.proofs.Words.{◌≡◌, inl, ℕ, ◌+◌, ◌-◌, ◌<◌, Bool, true, false, List, [], ◌∷◌, ◌++◌, Option, Some, None, refl, sym, ap, ◌∙◌, subst, arith, eq-eqb, ◌==◌, ◌&&◌, ◌||◌, not, if◌then◌else◌, is_some, slice_index_or, slice_set, eqb-false, eqb-true, false≢true, true≢false, get_or-set_at, get_or-set_other, Told, THREADS, Thread, to_thread, State, thread_at, FineAct, Unseen, context_in, ready_in, Context, as_thread, Todo, Todos, Scheduler, first_taken, one_less, parked_at, put_back, told_at, waits, same_site, Exchange, FineStep, Site, Fine, one_if, scheduler, Adds, adders, counted, is_wake, of_thread, wake_of, Fits, is_over, is_ready_there, occurs, wake_in, behind, is_ready, ReadyIs, told_by}
use Rattle.um_fine.specs.Scheduler.{is_cut}
use Rattle.um_refinement.specs.Lists.{is_cut_told}
use Rattle.um_refinement.specs.Threads.{as_cut, cutters}
use Rattle.um_refinement.proofs.Erased.{around}
use Rattle.um_refinement.proofs.FirstThreads.{one-most}
use Rattle.um_refinement.proofs.Leaves.{Lawful}
use Rattle.um_refinement.proofs.MemorySteps.{part-total}
use Rattle.um_refinement.proofs.Offered.{runs-first}
use Rattle.um_refinement.proofs.PlacesFacts.{added-unparked, running-unparked, set-none, wake-told, wake-untold}
use Rattle.um_refinement.proofs.ResumeSteps.{TellsWaiters, nobody-cut, some-is, told-some}
use Rattle.um_refinement.proofs.RunningPart.{todo-elsewhere}
use Rattle.um_refinement.proofs.SchedulerSteps.{made-at, made-moves, made-says, sched-else, sched-later, sched-said}
use Rattle.um_refinement.proofs.StepReads.{is-placed}
use Rattle.um_refinement.proofs.Sums.{one-none}
use Rattle.um_refinement.proofs.Taking.{Idles, idles, takes, tends}

occurs-behind : (t u : ℕ) (xs : List ℕ) → occurs t (xs ++ u ∷ []) ≡ occurs t xs + one_if (t == u)
occurs-behind t u [] = elim (t == u) as (λ b. (if b then 0 + 1 else 0) ≡ 0 + one_if b) [ true ↦ omega arith | false ↦ omega arith ]
occurs-behind t u (x ∷ xs) =
    let more = occurs-behind t u xs in
    elim (t == x) as (λ b. (if b then occurs t (xs ++ u ∷ []) + 1 else occurs t (xs ++ u ∷ [])) ≡ (if b then occurs t xs + 1 else occurs t xs) + one_if (t == u)) [
      | true ↦ omega (arith, more)
      | false ↦ more
    ]

-- who goes behind the ready list, or doesn't, changes nothing of another one
behind-other : (t u : ℕ) (b : Bool) (xs : List ℕ) → (t == u) ≡ false → occurs t (behind b u xs) ≡ occurs t xs
behind-other t u true xs e = let more = occurs-behind t u xs in let none = ap one_if e in omega (arith, more, none)
behind-other t u false xs e = refl

behind-same : (t u : ℕ) (b : Bool) (xs : List ℕ) → (t == u) ≡ true → occurs t (behind b u xs) ≡ occurs t xs + one_if b
behind-same t u true xs e = let more = occurs-behind t u xs in let one = ap one_if e in omega (arith, more, one)
behind-same t u false xs e = omega arith

-- who isn't parked isn't ready
unparked : (o : Option Context) (told : Option Told) (cut : Bool) → is_some o ≡ false → is_ready_there o told cut ≡ false
unparked None told cut h = refl
unparked (Some c) told cut h = absurd (false≢true (sym h))

told-ready : (b : Bool) (o : Option Told) (cut : Bool) → is_some o ≡ true → (not b || is_some o || cut) ≡ true
told-ready b None cut h = absurd (false≢true h)
told-ready true (Some w) cut h = refl
told-ready false (Some w) cut h = refl

cut-ready : (b told : Bool) → (b || told || true) ≡ true
cut-ready true told = refl
cut-ready false true = refl
cut-ready false false = refl

module _ (f : Fine) (m : State) (e : FineStep) (law : Lawful f m e) (waiters : TellsWaiters m) (t : ℕ) (few : t < THREADS) where
  open around f e use {later, processor as p}

  abbrev s : Scheduler
  s = scheduler f

  was : occurs t s.ready ≡ one_if (is_ready_there (parked_at s t) (told_at s t) (is_cut s t))
  was = (law.rel.threads t few).ready.ready

  abbrev IsReadyIn : Scheduler → Type 0
  IsReadyIn z = occurs t z.ready ≡ one_if (is_ready_there (parked_at z t) (told_at z t) (is_cut z t))

  is : (z : Scheduler) → scheduler later ≡ z → IsReadyIn z → ReadyIs later t
  is z now h = record { ready = subst IsReadyIn (sym now) h }

  unready : is_some (parked_at s t) ≡ false → occurs t s.ready ≡ 0
  unready none = was ∙ ap one_if (unparked (parked_at s t) (told_at s t) (is_cut s t) none)

  -- a thread is taken
  takes-one : (u : ℕ) (list : List ℕ) → s.ready ≡ u ∷ list → IsReadyIn (first_taken s (u ∷ list))
  takes-one u list q = which (t == u) refl
    where
      which : (b : Bool) → (t == u) ≡ b → IsReadyIn (first_taken s (u ∷ list))
      which true same =
          let first = sym (ap (occurs t) q) ∙ was in
          let one = ap (λ b. if b then occurs t list + 1 else occurs t list) same in
          let most = one-most (is_ready_there (parked_at s t) (told_at s t) (is_cut s t)) in
          let gone : slice_index_or (slice_set s.parked u None) t None ≡ None =
          subst (λ n. slice_index_or (slice_set s.parked u None) n None ≡ None) (sym (eqb-true t u same)) (set-none s.parked u) in
          let none = ap (λ (o : Option Context). one_if (is_ready_there o (slice_index_or (slice_set s.told u None) t None) (slice_index_or (slice_set s.cuts u false) t false))) gone in
          omega (arith, first, one, most, none)
      which false other =
          let first = sym (ap (occurs t) q) ∙ was in
          let same = ap (λ b. if b then occurs t list + 1 else occurs t list) other in
          let apart = eqb-false t u other in
          sym same
          ∙ (first
          ∙ sym (λ i. one_if (is_ready_there (get_or-set_other s.parked u t None None apart i) (get_or-set_other s.told u t None None apart i) (get_or-set_other s.cuts u t false false apart i))))

  rests : p.todo ≡ [] → ReadyIs later t
  rests at = by (idles f m e law at)
    where
      by : Idles f e → ReadyIs later t
      by (takes first) = is (first_taken s (first.thread ∷ first.list)) first.after (takes-one first.thread first.list first.ready)
      by (tends here) = is s (sched-else f m e law (ap (λ i. same_site i Site.scheduler) here.site)) was

  -- a thread is woken
  wakes : (who : ℕ) (told : Told) (todo : Todos) → p.todo ≡ Todo.wake who told ∷ todo → ReadyIs later t
  wakes who told todo at = is z after (which (t == who) refl)
    where
      act : FineAct
      act = FineAct.Unseen (Unseen.Wake (to_thread who) (ready_in e.act))

      said : e.act ≡ act
      said = made-says f m e law (Todo.wake who told ∷ todo) at

      site : e.site ≡ Site.scheduler
      site = made-at f m e law (Todo.wake who told ∷ todo) at

      answer : is_some (parked_at s who) ≡ ready_in e.act
      answer = ap ready_in (sched-said f m e law site act said)

      z : Scheduler
      z = record s { ready = behind (is_some (parked_at s who)) who s.ready; told = slice_set s.told who (Some (wake_in e.moved)) }

      after : scheduler later ≡ z
      after =
          sched-later f m e law site act said
          ∙ ap (λ b. record s { ready = behind b who s.ready; told = slice_set s.told who (Some (wake_in e.moved)) }) (sym answer)

      -- one that is parked waits, wasn't told before, and wasn't cut
      waited : (c : Context) → (t == who) ≡ true → parked_at s t ≡ Some c → is_ready_there (Some c) (told_at s t) (is_cut s t) ≡ false
      waited c same there =
          let here : (who == t) ≡ true = eq-eqb who t (sym (eqb-true t who same)) in
          let wake : is_some (wake_of t p.todo) ≡ true = ap (λ (l : Todos). is_some (wake_of t l)) at ∙ ap (λ b. is_some (if b then Some told else wake_of t todo)) here in
          let count : counted (is_wake t) p.todo ≡ counted (is_wake t) todo + 1 =
          ap (counted (is_wake t)) at ∙ ap (λ b. if b then counted (is_wake t) todo + 1 else counted (is_wake t) todo) here in
          let w = some-is (thread_at m t).told (wake-told f m law.rel t few e.cpu law.by.named wake) in
          let uncut = nobody-cut f m law.rel t few (w.0, sym (law.rel.threads t few).told.told ∙ w.1) in
          let parked = law.rel.contexts.parked t c there in
          let own = ap (λ n. as_thread (as_cut n c)) (sym (ap (cutters f) parked.1 ∙ uncut.0)) ∙ parked.0.own in
          let waits-it : waits c.pending ≡ true =
          ap waits (ap (λ (th : Thread). th.pending) own ∙ ap (λ n. (thread_at m n).pending) parked.1) ∙ waiters t w.0 w.1 in
          let untold = wake-untold f m law.rel t few e.cpu law.by.named (omega (arith, count)) in
          λ i. not (waits-it i) || untold i || uncut.1 i

      which : (b : Bool) → (t == who) ≡ b → IsReadyIn z
      which false other =
          behind-other t who (is_some (parked_at s who)) s.ready other
          ∙ (was ∙ sym (ap (λ (o : Option Told). one_if (is_ready_there (parked_at s t) o (is_cut s t))) (get_or-set_other s.told who t (Some (wake_in e.moved)) None (eqb-false t who other))))
      which true same = by (parked_at s t) refl
        where
          at-who : is_some (parked_at s who) ≡ is_some (parked_at s t)
          at-who = ap (λ n. is_some (parked_at s n)) (sym (eqb-true t who same))

          many : occurs t (behind (is_some (parked_at s who)) who s.ready) ≡ occurs t s.ready + one_if (is_some (parked_at s who))
          many = behind-same t who (is_some (parked_at s who)) s.ready same

          now : slice_index_or (slice_set s.told who (Some (wake_in e.moved))) t None ≡ Some (wake_in e.moved)
          now = let long = law.rel.scheduler.told in let equal = eqb-true t who same in get_or-set_at s.told who t (Some (wake_in e.moved)) None equal (omega (arith, few, long, equal))

          by : (o : Option Context) → parked_at s t ≡ o → IsReadyIn z
          by None q =
              let lacks = ap one_if (at-who ∙ ap is_some q) in
              let before = was ∙ ap (λ (o : Option Context). one_if (is_ready_there o (told_at s t) (is_cut s t))) q in
              let left = ap (λ (o : Option Context). one_if (is_ready_there o (slice_index_or (slice_set s.told who (Some (wake_in e.moved))) t None) (is_cut s t))) q in
              omega (arith, many, lacks, before, left)
          by (Some c) q =
              let one = ap one_if (at-who ∙ ap is_some q) in
              let before = was ∙ (ap (λ (o : Option Context). one_if (is_ready_there o (told_at s t) (is_cut s t))) q ∙ ap one_if (waited c same q)) in
              let left : one_if (is_ready_there (parked_at s t) (slice_index_or (slice_set s.told who (Some (wake_in e.moved))) t None) (is_cut s t)) ≡ 1 =
              ap (λ (o : Option Context). one_if (is_ready_there o (slice_index_or (slice_set s.told who (Some (wake_in e.moved))) t None) (is_cut s t))) q
              ∙ ap one_if (told-ready (waits c.pending) (slice_index_or (slice_set s.told who (Some (wake_in e.moved))) t None) (is_cut s t) (ap is_some now)) in
              omega (arith, many, one, before, left)

  -- an own part is put back: it is ready as said
  puts : (c : Context) (b : Bool) → b ≡ is_ready s c → is_some (parked_at s c.thread) ≡ false → IsReadyIn (put_back s b c)
  puts c b ready none = which (t == c.thread) refl
    where
      which : (v : Bool) → (t == c.thread) ≡ v → IsReadyIn (put_back s b c)
      which false other =
          behind-other t c.thread b s.ready other
          ∙ (was ∙ sym (ap (λ (o : Option Context). one_if (is_ready_there o (told_at s t) (is_cut s t))) (get_or-set_other s.parked c.thread t (Some c) None (eqb-false t c.thread other))))
      which true same =
          let equal = eqb-true t c.thread same in
          let many = behind-same t c.thread b s.ready same in
          let before = unready (ap (λ n. is_some (parked_at s n)) equal ∙ none) in
          let long = law.rel.scheduler.parked in
          let now = get_or-set_at s.parked c.thread t (Some c) None equal (omega (arith, few, long, equal)) in
          let left : one_if (is_ready_there (slice_index_or (slice_set s.parked c.thread (Some c)) t None) (told_at s t) (is_cut s t)) ≡ one_if b =
          ap (λ (o : Option Context). one_if (is_ready_there o (told_at s t) (is_cut s t))) now
          ∙ (ap (λ n. one_if (not (waits c.pending) || is_some (told_at s n) || is_cut s n)) equal ∙ ap one_if (sym ready)) in
          omega (arith, many, before, left)

  parks : (todo : Todos) → p.todo ≡ Todo.park ∷ todo → ReadyIs later t
  parks todo at =
      is (one_less (put_back s (ready_in e.act) p.context)) (sched-later f m e law site act said ∙ ap (λ (c : Context). one_less (put_back s (ready_in e.act) c)) (ap context_in moved))
      (puts p.context (ready_in e.act) (sym (ap ready_in (sched-said f m e law site act said)) ∙ ap (is_ready s) (ap context_in moved)) alone)
    where
      act : FineAct
      act = FineAct.Unseen (Unseen.Park (to_thread p.context.thread) (ready_in e.act))

      said : e.act ≡ act
      said = made-says f m e law (Todo.park ∷ todo) at

      site : e.site ≡ Site.scheduler
      site = made-at f m e law (Todo.park ∷ todo) at

      moved : e.moved ≡ Exchange.thread p.context None
      moved = made-moves f m e law (Todo.park ∷ todo) at

      on : is_over p.context ≡ false
      on = (subst (Fits f.image p.context) at (law.rel.processors e.cpu law.by.named).list.fits).1

      alone : is_some (parked_at s p.context.thread) ≡ false
      alone =
          let steps = runs-first law.rel law.by.named Todo.park todo at (λ hand. hand) in
          let run = law.rel.contexts.running e.cpu law.by.named steps in
          running-unparked f m law.rel p.context.thread run.index e.cpu law.by.named
          (λ i. (steps i && eq-eqb p.context.thread p.context.thread refl i) && not (on i))

  adds : (c : Context) (todo : Todos) → p.todo ≡ Todo.add c ∷ todo → ReadyIs later t
  adds c todo at =
      is (put_back s true c) (sched-later f m e law site act said ∙ ap (λ (d : Context). put_back s true d) (ap context_in moved))
      (puts c true (sym (ap (λ steps. not (waits steps) || is_some (told_at s c.thread) || is_cut s c.thread) (subst (Fits f.image p.context) at (law.rel.processors e.cpu law.by.named).list.fits).0)) alone)
    where
      act : FineAct
      act = FineAct.Unseen (Unseen.Add (to_thread c.thread))

      said : e.act ≡ act
      said = made-says f m e law (Todo.add c ∷ todo) at

      site : e.site ≡ Site.scheduler
      site = made-at f m e law (Todo.add c ∷ todo) at

      moved : e.moved ≡ Exchange.thread c None
      moved = made-moves f m e law (Todo.add c ∷ todo) at

      alone : is_some (parked_at s c.thread) ≡ false
      alone =
          let new = law.rel.contexts.added e.cpu c law.by.named (subst (Adds c) (sym at) (inl refl)) in
          let count = ap (λ (l : Todos). of_thread c.thread (adders l)) at
          ∙ ap (λ b. if b then of_thread c.thread (adders todo) + 1 else of_thread c.thread (adders todo)) (eq-eqb c.thread c.thread refl) in
          added-unparked f m law.rel c.thread new.0.index e.cpu law.by.named (omega (arith, count))

  -- one that was cut gets ready, where it is parked
  cuts : (who : ℕ) (todo : Todos) → p.todo ≡ Todo.tell_cut who ∷ todo → ReadyIs later t
  cuts who todo at = is z after (which (t == who) refl)
    where
      act : FineAct
      act = FineAct.Unseen (Unseen.Cut (to_thread who) (ready_in e.act))

      said : e.act ≡ act
      said = made-says f m e law (Todo.tell_cut who ∷ todo) at

      site : e.site ≡ Site.scheduler
      site = made-at f m e law (Todo.tell_cut who ∷ todo) at

      answer : is_some (parked_at s who) ≡ ready_in e.act
      answer = ap ready_in (sched-said f m e law site act said)

      z : Scheduler
      z = record s { ready = behind (is_some (parked_at s who)) who s.ready; cuts = slice_set s.cuts who true }

      after : scheduler later ≡ z
      after = sched-later f m e law site act said ∙ ap (λ b. record s { ready = behind b who s.ready; cuts = slice_set s.cuts who true }) (sym answer)

      -- it waits, was told nothing, and the scheduler didn't know of its cut
      waited : (c : Context) → (t == who) ≡ true → parked_at s t ≡ Some c → is_ready_there (Some c) (told_at s t) (is_cut s t) ≡ false
      waited c same there =
          let here : (who == t) ≡ true = eq-eqb who t (sym (eqb-true t who same)) in
          let count : counted (is_cut_told t) p.todo ≡ counted (is_cut_told t) todo + 1 =
          ap (counted (is_cut_told t)) at ∙ ap (λ b. if b then counted (is_cut_told t) todo + 1 else counted (is_cut_told t) todo) here in
          let part = part-total (λ k. counted (is_cut_told t) (f.processors k).todo) f.cpus e.cpu law.by.named in
          let cut = (law.rel.threads t few).cut in
          let once = cut.once in
          let some : 0 < cutters f t = omega (arith, count, part) in
          let unkept = one-none (is_cut s t) (omega (arith, count, part, once)) in
          let parked = law.rel.contexts.parked t c there in
          let waits-it = parked.0.waiting (subst (λ n. 0 < cutters f n) (sym parked.1) some) in
          let untold = silent (cut.told some) in
          λ i. not (waits-it i) || untold i || unkept i
        where
          silent : told_by f t f.cpus ≡ None → is_some (told_at s t) ≡ false
          silent none = by (is_some (told_at s t)) refl
            where
              by : (b : Bool) → is_some (told_at s t) ≡ b → b ≡ false
              by true h = absurd (true≢false (sym (told-some f m law.rel t f.cpus h) ∙ ap is_some none))
              by false h = refl

      which : (b : Bool) → (t == who) ≡ b → IsReadyIn z
      which false other =
          behind-other t who (is_some (parked_at s who)) s.ready other
          ∙ (was ∙ sym (ap (λ b. one_if (is_ready_there (parked_at s t) (told_at s t) b)) (get_or-set_other s.cuts who t true false (eqb-false t who other))))
      which true same = by (parked_at s t) refl
        where
          at-who : is_some (parked_at s who) ≡ is_some (parked_at s t)
          at-who = ap (λ n. is_some (parked_at s n)) (sym (eqb-true t who same))

          many : occurs t (behind (is_some (parked_at s who)) who s.ready) ≡ occurs t s.ready + one_if (is_some (parked_at s who))
          many = behind-same t who (is_some (parked_at s who)) s.ready same

          now : slice_index_or (slice_set s.cuts who true) t false ≡ true
          now = let long = law.rel.scheduler.cuts in let equal = eqb-true t who same in get_or-set_at s.cuts who t true false equal (omega (arith, few, long, equal))

          by : (o : Option Context) → parked_at s t ≡ o → IsReadyIn z
          by None q =
              let lacks = ap one_if (at-who ∙ ap is_some q) in
              let before = was ∙ ap (λ (o : Option Context). one_if (is_ready_there o (told_at s t) (is_cut s t))) q in
              let left = ap (λ (o : Option Context). one_if (is_ready_there o (told_at s t) (slice_index_or (slice_set s.cuts who true) t false))) q in
              omega (arith, many, lacks, before, left)
          by (Some c) q =
              let one = ap one_if (at-who ∙ ap is_some q) in
              let before = was ∙ (ap (λ (o : Option Context). one_if (is_ready_there o (told_at s t) (is_cut s t))) q ∙ ap one_if (waited c same q)) in
              let left : one_if (is_ready_there (parked_at s t) (told_at s t) (slice_index_or (slice_set s.cuts who true) t false)) ≡ 1 =
              ap (λ (o : Option Context). one_if (is_ready_there o (told_at s t) (slice_index_or (slice_set s.cuts who true) t false))) q
              ∙ (ap (λ b. one_if (not (waits c.pending) || is_some (told_at s t) || b)) now ∙ ap one_if (cut-ready (not (waits c.pending)) (is_some (told_at s t)))) in
              omega (arith, many, one, before, left)

  by-todo : (todo : Todos) → p.todo ≡ todo → ReadyIs later t
  by-todo [] at = rests at
  by-todo (Todo.wake who told ∷ todo) at = wakes who told todo at
  by-todo (Todo.tell_cut who ∷ todo) at = cuts who todo at
  by-todo (Todo.park ∷ todo) at = parks todo at
  by-todo (Todo.add c ∷ todo) at = adds c todo at
  by-todo (Todo.done ∷ todo) at =
      is (one_less s) (sched-later f m e law (made-at f m e law (Todo.done ∷ todo) at) (FineAct.Unseen Unseen.Done) (made-says f m e law (Todo.done ∷ todo) at)) was
  by-todo (Todo.owe ∷ todo) at =
      is (record s { owed = s.owed + 1 }) (sched-later f m e law (made-at f m e law (Todo.owe ∷ todo) at) (FineAct.Unseen Unseen.Owe) (made-says f m e law (Todo.owe ∷ todo) at)) was
  by-todo (Todo.paid ∷ todo) at =
      is (record s { owed = s.owed - 1 }) (sched-later f m e law (made-at f m e law (Todo.paid ∷ todo) at) (FineAct.Unseen Unseen.Paid) (made-says f m e law (Todo.paid ∷ todo) at)) was
  by-todo (q ∷ todo) at =
      is s
      (sched-else f m e law (ap (λ i. same_site i Site.scheduler) (made-at f m e law (q ∷ todo) at) ∙ todo-elsewhere f.image p q todo refl (is-placed f m e law q todo at))) was

  pub ready-part : ReadyIs later t
  ready-part = by-todo p.todo refl
