-- What stands with the scheduler, and which threads are held, keeps within the bounds by every lawful step.
use Rattle.um_refinement.proofs.Words.{◌<◌, THREADS, is_some, false≢true, ready_in, ◌≡◌, inl, ℕ, Bool, true, false, cond, List, [], ◌∷◌, ◌++◌, Option, Some, None, refl, sym, ap, ◌∙◌, subst, nat_lt, slice_index_or, slice_set, unwrap_or, list_all, and_from, and_parts, eqb-true, lt-ltb, true≢false, THREADS, to_thread, State, at_set, FineAct, Unseen, thread_after, context_in, ready_in, Context, Todo, Todos, Scheduler, parked_at, put_back, SiteState, s_next, same_site, site_after, Exchange, FineStep, Site, Fine, scheduler, thread_state, word, Adds, behind}
use Rattle.um_refinement.proofs.Bounds.{AreBounded, AreThreads}
use Rattle.um_refinement.proofs.CallBoundsKept.{IsBounded}
use Rattle.um_refinement.proofs.Erased.{around}
use Rattle.um_refinement.proofs.First.{none-some}
use Rattle.um_refinement.proofs.HeldPart.{grips, held-same, idle-no-grip, says-no-grip}
use Rattle.um_refinement.proofs.Leaves.{Lawful}
use Rattle.um_refinement.proofs.ListWakes.{wakers}
use Rattle.um_refinement.proofs.Offered.{runs-first}
use Rattle.um_refinement.proofs.RowSteps.{thread-sort}
use Rattle.um_refinement.proofs.RunningPart.{is_scheduling, todo-elsewhere}
use Rattle.um_refinement.proofs.SchedulerSteps.{made-at, made-moves, made-says, sched-else, sched-later, sched-said}
use Rattle.um_refinement.proofs.StepReads.{is-placed}
use Rattle.um_refinement.proofs.Taking.{Idles, idles, parks-after, takes, tends}

some-one : {c d : Context} → Some c ≡ Some d → c ≡ d
some-one {c} h = ap (λ (o : Option Context). unwrap_or o c) h

abbrev Below : List ℕ → Type 0
Below ready = list_all (λ t. nat_lt t THREADS) ready ≡ true

below-behind : (b : Bool) (t : ℕ) (ready : List ℕ) → nat_lt t THREADS ≡ true → Below ready → Below (behind b t ready)
below-behind false t ready l h = h
below-behind true t ready l h = by ready h
  where
    by : (ready : List ℕ) → Below ready → Below (ready ++ t ∷ [])
    by [] h = and_from _ _ l refl
    by (u ∷ ready) h = let parts = and_parts (nat_lt u THREADS) _ h in and_from _ _ parts.0 (by ready parts.1)

module _ (f : Fine) (m : State) (e : FineStep) (law : Lawful f m e) (was : AreBounded f) where
  open around f e use {later, processor as p}

  park-index : (todo : Todos) → p.todo ≡ Todo.park ∷ todo → nat_lt p.context.thread THREADS ≡ true
  park-index todo at = lt-ltb p.context.thread THREADS (law.rel.contexts.running e.cpu law.by.named (runs-first law.rel law.by.named Todo.park todo at (λ hand. hand))).index

  adds-index : (d : Context) (todo : Todos) → p.todo ≡ Todo.add d ∷ todo → nat_lt d.thread THREADS ≡ true
  adds-index d todo at = lt-ltb d.thread THREADS (law.rel.contexts.added e.cpu d law.by.named (subst (Adds d) (sym at) (inl refl))).0.index

  adds-it : (d : Context) (todo : Todos) → p.todo ≡ Todo.add d ∷ todo → scheduler later ≡ put_back (scheduler f) true d
  adds-it d todo at =
      sched-later f m e law (made-at f m e law (Todo.add d ∷ todo) at) (FineAct.Unseen (Unseen.Add (to_thread d.thread))) (made-says f m e law (Todo.add d ∷ todo) at)
      ∙ ap (λ (mv : Exchange). put_back (scheduler f) true (context_in mv)) (made-moves f m e law (Todo.add d ∷ todo) at)

  elsewhere : (q : Todo) (todo : Todos) → p.todo ≡ q ∷ todo → is_scheduling q ≡ false → scheduler later ≡ scheduler f
  elsewhere q todo at off = sched-else f m e law (ap (λ i. same_site i Site.scheduler) (made-at f m e law (q ∷ todo) at) ∙ todo-elsewhere f.image p q todo off (is-placed f m e law q todo at))

  pub ready-kept : Below (scheduler later).ready
  ready-kept = by p.todo refl
    where
      on : {z : Scheduler} → scheduler later ≡ z → Below z.ready → Below (scheduler later).ready
      on e h = subst (λ (z : Scheduler). Below z.ready) (sym e) h

      rests : Idles f e → Below (scheduler later).ready
      rests (takes first) = on first.after (and_parts _ _ (subst Below first.ready was.ready)).1
      rests (tends here) = on (sched-else f m e law (ap (λ i. same_site i Site.scheduler) here.site)) was.ready

      -- one that was cut is put there only where it is parked
      cuts : (who : ℕ) (todo : Todos) → p.todo ≡ Todo.tell_cut who ∷ todo → Below (scheduler later).ready
      cuts who todo at = on (sched-later f m e law site _ said) (where-parked (ready_in e.act) refl)
        where
          said : e.act ≡ FineAct.Unseen (Unseen.Cut (to_thread who) (ready_in e.act))
          said = made-says f m e law (Todo.tell_cut who ∷ todo) at

          site : e.site ≡ Site.scheduler
          site = made-at f m e law (Todo.tell_cut who ∷ todo) at

          below : (o : Option Context) → parked_at (scheduler f) who ≡ o → is_some o ≡ true → nat_lt who THREADS ≡ true
          below None k h = absurd (false≢true h)
          below (Some c) k h = let lies = law.rel.contexts.parked who c k in lt-ltb who THREADS (subst (λ n. n < THREADS) lies.1 lies.0.index)

          where-parked : (b : Bool) → ready_in e.act ≡ b → Below (behind b who (scheduler f).ready)
          where-parked false k = was.ready
          where-parked true k = below-behind true who (scheduler f).ready (below (parked_at (scheduler f) who) refl (ap ready_in (sched-said f m e law site _ said) ∙ k)) was.ready

      by : (todo : Todos) → p.todo ≡ todo → Below (scheduler later).ready
      by [] at = rests (idles f m e law at)
      by (Todo.park ∷ todo) at = on (parks-after f m e law todo at) (below-behind (ready_in e.act) p.context.thread (scheduler f).ready (park-index todo at) was.ready)
      by (Todo.add d ∷ todo) at = on (adds-it d todo at) (below-behind true d.thread (scheduler f).ready (adds-index d todo at) was.ready)
      by (Todo.wake who told ∷ todo) at =
          on (sched-later f m e law (made-at f m e law (Todo.wake who told ∷ todo) at) _ (made-says f m e law (Todo.wake who told ∷ todo) at))
          (below-behind (ready_in e.act) who (scheduler f).ready (and_parts _ _ (subst (λ (z : Todos). AreThreads (wakers z)) at (was.wakes e.cpu law.by.named))).0 was.ready)
      by (Todo.done ∷ todo) at = on (sched-later f m e law (made-at f m e law (Todo.done ∷ todo) at) _ (made-says f m e law (Todo.done ∷ todo) at)) was.ready
      by (Todo.tell_cut who ∷ todo) at = cuts who todo at
      by (Todo.owe ∷ todo) at = on (sched-later f m e law (made-at f m e law (Todo.owe ∷ todo) at) _ (made-says f m e law (Todo.owe ∷ todo) at)) was.ready
      by (Todo.paid ∷ todo) at = on (sched-later f m e law (made-at f m e law (Todo.paid ∷ todo) at) _ (made-says f m e law (Todo.paid ∷ todo) at)) was.ready
      by (q ∷ todo) at = on (elsewhere q todo at refl) was.ready

  pub parked-kept : (t : ℕ) (c : Context) → parked_at (scheduler later) t ≡ Some c → IsBounded f.image c
  parked-kept t c there = by p.todo refl
    where
      on : {z : Scheduler} → scheduler later ≡ z → parked_at z t ≡ Some c
      on e = ap (λ (z : Scheduler). parked_at z t) (sym e) ∙ there

      puts : (d : Context) → IsBounded f.image d → slice_index_or (slice_set (scheduler f).parked d.thread (Some d)) t None ≡ Some c → IsBounded f.image c
      puts d h =
          at_set (λ n (o : Option Context). o ≡ Some c → IsBounded f.image c) (scheduler f).parked d.thread t (Some d) None (λ e. subst (IsBounded f.image) (some-one e) h) (was.parked t c)

      rests : Idles f e → IsBounded f.image c
      rests (takes first) =
          at_set (λ n (o : Option Context). o ≡ Some c → IsBounded f.image c) (scheduler f).parked first.thread t None None (λ e. absurd (none-some e)) (was.parked t c) (on first.after)
      rests (tends here) = was.parked t c (on (sched-else f m e law (ap (λ i. same_site i Site.scheduler) here.site)))

      by : (todo : Todos) → p.todo ≡ todo → IsBounded f.image c
      by [] at = rests (idles f m e law at)
      by (Todo.park ∷ todo) at = puts p.context (was.running e.cpu law.by.named (runs-first law.rel law.by.named Todo.park todo at (λ hand. hand))) (on (parks-after f m e law todo at))
      by (Todo.add d ∷ todo) at = puts d (was.added e.cpu d law.by.named (subst (Adds d) (sym at) (inl refl))) (on (adds-it d todo at))
      by (Todo.wake who told ∷ todo) at =
          was.parked t c (on (sched-later f m e law (made-at f m e law (Todo.wake who told ∷ todo) at) _ (made-says f m e law (Todo.wake who told ∷ todo) at)))
      by (Todo.done ∷ todo) at = was.parked t c (on (sched-later f m e law (made-at f m e law (Todo.done ∷ todo) at) _ (made-says f m e law (Todo.done ∷ todo) at)))
      by (Todo.tell_cut who ∷ todo) at = was.parked t c (on (sched-later f m e law (made-at f m e law (Todo.tell_cut who ∷ todo) at) _ (made-says f m e law (Todo.tell_cut who ∷ todo) at)))
      by (Todo.owe ∷ todo) at = was.parked t c (on (sched-later f m e law (made-at f m e law (Todo.owe ∷ todo) at) _ (made-says f m e law (Todo.owe ∷ todo) at)))
      by (Todo.paid ∷ todo) at = was.parked t c (on (sched-later f m e law (made-at f m e law (Todo.paid ∷ todo) at) _ (made-says f m e law (Todo.paid ∷ todo) at)))
      by (q ∷ todo) at = was.parked t c (on (elsewhere q todo at refl))

  -- Threads beyond the last index.
  pub inside-kept : (t : ℕ) → nat_lt t THREADS ≡ false → (word later t).held ≡ false
  inside-kept t past = by p.todo refl
    where
      here : same_site e.site (Site.thread t) ≡ true → (word later t).held ≡ (thread_after (word f t) e.act).held
      here on =
          ap (λ b. (thread_state (cond b (s_next f.image (f.sites (Site.thread t)) e) (f.sites (Site.thread t)))).held) on
          ∙ ap (λ (s : SiteState). (thread_state (site_after f.image s e.act e.moved)).held) (thread-sort t (f.sites (Site.thread t)) (law.rel.sorts (Site.thread t)))

      else-where : same_site e.site (Site.thread t) ≡ false → (word later t).held ≡ false
      else-where off = ap (λ b. (thread_state (cond b (s_next f.image (f.sites (Site.thread t)) e) (f.sites (Site.thread t)))).held) off ∙ was.inside t past

      either : (same_site e.site (Site.thread t) ≡ true → (word later t).held ≡ false) → (word later t).held ≡ false
      either here-held = which (same_site e.site (Site.thread t)) refl
        where
          which : (b : Bool) → same_site e.site (Site.thread t) ≡ b → (word later t).held ≡ false
          which true q = here-held q
          which false q = else-where q

      free : grips e.act ≡ false → (word later t).held ≡ false
      free none = either (λ on. here on ∙ (held-same (word f t) e.act none ∙ was.inside t past))

      by : (todo : Todos) → p.todo ≡ todo → (word later t).held ≡ false
      by [] at = free (ap grips (made-says f m e law [] at) ∙ idle-no-grip f.image p e.act e.moved)
      by (Todo.hold ∷ todo) at =
          either
          (λ on.
          let same = eqb-true p.context.thread t (sym (ap (λ i. same_site i (Site.thread t)) (made-at f m e law (Todo.hold ∷ todo) at)) ∙ on) in
          let index = lt-ltb p.context.thread THREADS (law.rel.contexts.running e.cpu law.by.named (runs-first law.rel law.by.named Todo.hold todo at (λ hand. hand))).index in
          absurd (true≢false (sym index ∙ (ap (λ n. nat_lt n THREADS) same ∙ past))))
      by (Todo.let_go ∷ todo) at = either (λ on. here on ∙ ap (λ a. (thread_after (word f t) a).held) (made-says f m e law (Todo.let_go ∷ todo) at))
      by (q ∷ todo) at = free (ap grips (made-says f m e law (q ∷ todo) at) ∙ says-no-grip f.image p q todo e.act e.moved refl)
