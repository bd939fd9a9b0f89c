-- The claims of parked threads: taking a thread moves its claims to the processor, and putting one back moves them to the scheduler.
use Rattle.um_refinement.proofs.Words.{◌≡◌, inl, ℕ, ◌+◌, ◌<◌, Bool, true, false, [], ◌∷◌, Option, Some, None, refl, sym, ap, ◌∙◌, subst, arith, eq-eqb, ◌&&◌, is_some, not, slice_index_or, slice_set, false≢true, get_or-set_other, get_or-set_same, Told, THREADS, to_thread, State, FineAct, Unseen, context_in, ready_in, Context, Todo, Todos, Scheduler, one_less, parked_at, put_back, same_site, Exchange, FineStep, Site, context_claims, Fine, scheduler, total, AreFramed, Adds, Fits, occurs}
use Rattle.um_fine.specs.Scheduler.{is_cut, to_kill}
use Rattle.um_refinement.proofs.Erased.{around}
use Rattle.um_refinement.proofs.Leaves.{Lawful}
use Rattle.um_refinement.proofs.ListClaims.{IsThread}
use Rattle.um_refinement.proofs.Offered.{runs-first}
use Rattle.um_refinement.proofs.PlacesFacts.{added-unparked, adds-count, running-unparked, set-none}
use Rattle.um_refinement.proofs.RunningPart.{is_scheduling, todo-elsewhere}
use Rattle.um_refinement.proofs.SchedulerSteps.{made-at, made-moves, made-says, sched-else, sched-later}
use Rattle.um_refinement.proofs.StepReads.{is-placed}
use Rattle.um_refinement.proofs.Sums.{total-one}
use Rattle.um_refinement.proofs.Taking.{Idles, idles, taken-index, takes, tends}

-- the claims of a row that parked threads hold
abbrev pub parked_claims : ℕ → Scheduler → ℕ
parked_claims x s = total (λ t. context_claims x (parked_at s t)) THREADS

-- no claims of who isn't parked
none-claimed : (x : ℕ) (o : Option Context) → is_some o ≡ false → context_claims x o ≡ 0
none-claimed x None h = refl
none-claimed x (Some c) h = absurd (false≢true (sym h))

module _ (f : Fine) (m : State) (e : FineStep) (law : Lawful f m e) (x : ℕ) where
  open around f e use {later, processor as p}

  -- a step that is none of the scheduler's, but for a wake
  pub parked-else : (q : Todo) (todo : Todos) → p.todo ≡ q ∷ todo → is_scheduling q ≡ false → parked_claims x (scheduler later) ≡ parked_claims x (scheduler f)
  parked-else q todo at other =
      ap (parked_claims x) (sched-else f m e law (ap (λ i. same_site i Site.scheduler) (made-at f m e law (q ∷ todo) at) ∙ todo-elsewhere f.image p q todo other (is-placed f m e law q todo at)))

  pub parked-wake : (who : ℕ) (told : Told) (todo : Todos) → p.todo ≡ Todo.wake who told ∷ todo → parked_claims x (scheduler later) ≡ parked_claims x (scheduler f)
  parked-wake who told todo at =
      ap (parked_claims x) (sched-later f m e law (made-at f m e law (Todo.wake who told ∷ todo) at) _ (made-says f m e law (Todo.wake who told ∷ todo) at))

  pub parked-done : (todo : Todos) → p.todo ≡ Todo.done ∷ todo → parked_claims x (scheduler later) ≡ parked_claims x (scheduler f)
  parked-done todo at =
      ap (parked_claims x) (sched-later f m e law (made-at f m e law (Todo.done ∷ todo) at) (FineAct.Unseen Unseen.Done) (made-says f m e law (Todo.done ∷ todo) at))

  -- one that was cut gets ready; a mark is owed, or paid
  pub parked-cut : (who : ℕ) (todo : Todos) → p.todo ≡ Todo.tell_cut who ∷ todo → parked_claims x (scheduler later) ≡ parked_claims x (scheduler f)
  parked-cut who todo at =
      ap (parked_claims x) (sched-later f m e law (made-at f m e law (Todo.tell_cut who ∷ todo) at) _ (made-says f m e law (Todo.tell_cut who ∷ todo) at))

  pub parked-owe : (todo : Todos) → p.todo ≡ Todo.owe ∷ todo → parked_claims x (scheduler later) ≡ parked_claims x (scheduler f)
  parked-owe todo at =
      ap (parked_claims x) (sched-later f m e law (made-at f m e law (Todo.owe ∷ todo) at) (FineAct.Unseen Unseen.Owe) (made-says f m e law (Todo.owe ∷ todo) at))

  pub parked-paid : (todo : Todos) → p.todo ≡ Todo.paid ∷ todo → parked_claims x (scheduler later) ≡ parked_claims x (scheduler f)
  parked-paid todo at =
      ap (parked_claims x) (sched-later f m e law (made-at f m e law (Todo.paid ∷ todo) at) (FineAct.Unseen Unseen.Paid) (made-says f m e law (Todo.paid ∷ todo) at))

  -- a thread is taken, or none
  pub parked-taken : p.todo ≡ [] → parked_claims x (scheduler later) + occurs x (context_in e.moved).claims ≡ parked_claims x (scheduler f)
  parked-taken at = by (idles f m e law at)
    where
      none-held : (moved : Exchange) → (IsThread moved → ⊥) → occurs x (context_in moved).claims ≡ 0
      none-held (Exchange.thread c told) h = absurd (h tt)
      none-held moved h = refl

      kill-claims : (b : Bool) (c : Context) → (to_kill b c).claims ≡ c.claims
      kill-claims true c = refl
      kill-claims false c = refl

      by : Idles f e → parked_claims x (scheduler later) + occurs x (context_in e.moved).claims ≡ parked_claims x (scheduler f)
      by (tends here) =
          let none = none-held e.moved here.other in
          let same = ap (parked_claims x) (sched-else f m e law (ap (λ i. same_site i Site.scheduler) here.site)) in omega (arith, none, same)
      by (takes first) =
          let d = first.parked in
          let few = taken-index f m e law first in
          let list : (scheduler later).parked ≡ slice_set (scheduler f).parked first.thread None = ap (λ (s : Scheduler). s.parked) first.after in
          let sum = total-one (λ t. context_claims x (parked_at (scheduler later) t)) (λ t. context_claims x (parked_at (scheduler f) t)) THREADS first.thread few
          (λ k ne. ap (λ ps. context_claims x (slice_index_or ps k None)) list ∙ ap (context_claims x) (get_or-set_other (scheduler f).parked first.thread k None None ne)) in
          let here : context_claims x (parked_at (scheduler later) first.thread) ≡ 0 = ap (λ ps. context_claims x (slice_index_or ps first.thread None)) list ∙ ap (context_claims x) (set-none (scheduler f).parked first.thread) in
          let was : context_claims x (parked_at (scheduler f) first.thread) ≡ occurs x d.claims = ap (context_claims x) first.there in
          let moved : occurs x (context_in e.moved).claims ≡ occurs x d.claims =
          ap (λ (mv : Exchange). occurs x (context_in mv).claims) first.moved ∙ ap (occurs x) (kill-claims (is_cut (scheduler f) first.thread) d) in
          omega (arith, sum, here, was, moved)

  -- one is put back that wasn't parked
  put : (c : Context) → c.thread < THREADS → (scheduler later).parked ≡ slice_set (scheduler f).parked c.thread (Some c) → is_some (parked_at (scheduler f) c.thread) ≡ false
      → parked_claims x (scheduler later) ≡ parked_claims x (scheduler f) + occurs x c.claims
  put c few list none =
      let long = law.rel.scheduler.parked in
      let sum = total-one (λ t. context_claims x (parked_at (scheduler later) t)) (λ t. context_claims x (parked_at (scheduler f) t)) THREADS c.thread few
      (λ k ne. ap (λ ps. context_claims x (slice_index_or ps k None)) list ∙ ap (context_claims x) (get_or-set_other (scheduler f).parked c.thread k (Some c) None ne)) in
      let here : context_claims x (parked_at (scheduler later) c.thread) ≡ occurs x c.claims =
      ap (λ ps. context_claims x (slice_index_or ps c.thread None)) list ∙ ap (context_claims x) (get_or-set_same (scheduler f).parked c.thread (Some c) None (omega (arith, long, few))) in
      let was = none-claimed x (parked_at (scheduler f) c.thread) none in
      omega (arith, sum, here, was)

  pub parked-put : (todo : Todos) → p.todo ≡ Todo.park ∷ todo → parked_claims x (scheduler later) ≡ parked_claims x (scheduler f) + occurs x p.context.claims
  parked-put todo at =
      let act = FineAct.Unseen (Unseen.Park (to_thread p.context.thread) (ready_in e.act)) in
      let after = sched-later f m e law (made-at f m e law (Todo.park ∷ todo) at) act (made-says f m e law (Todo.park ∷ todo) at)
      ∙ ap (λ (mv : Exchange). one_less (put_back (scheduler f) (ready_in e.act) (context_in mv))) (made-moves f m e law (Todo.park ∷ todo) at) in
      let on = (subst (Fits f.image p.context) at (law.rel.processors e.cpu law.by.named).list.fits).1 in
      let steps = runs-first law.rel law.by.named Todo.park todo at (λ hand. hand) in
      let few = (law.rel.contexts.running e.cpu law.by.named steps).index in
      put p.context few (ap (λ (s : Scheduler). s.parked) after)
      (running-unparked f m law.rel p.context.thread few e.cpu law.by.named (λ i. (steps i && eq-eqb p.context.thread p.context.thread refl i) && not (on i)))

  -- a new thread is added, which holds nothing
  pub parked-added : (d : Context) (todo : Todos) → p.todo ≡ Todo.add d ∷ todo → parked_claims x (scheduler later) ≡ parked_claims x (scheduler f)
  parked-added d todo at =
      let act = FineAct.Unseen (Unseen.Add (to_thread d.thread)) in
      let after = sched-later f m e law (made-at f m e law (Todo.add d ∷ todo) at) act (made-says f m e law (Todo.add d ∷ todo) at)
      ∙ ap (λ (mv : Exchange). put_back (scheduler f) true (context_in mv)) (made-moves f m e law (Todo.add d ∷ todo) at) in
      let adds : Adds d p.todo = subst (Adds d) (sym at) (inl refl) in
      let few = (law.rel.contexts.added e.cpu d law.by.named adds).0.index in
      let sum = put d few (ap (λ (s : Scheduler). s.parked) after) (added-unparked f m law.rel d.thread few e.cpu law.by.named (adds-count d p.todo adds)) in
      let none : occurs x d.claims ≡ 0 = ap (occurs x) (subst (AreFramed f.image) at (law.rel.processors e.cpu law.by.named).frames).0 in
      omega (arith, sum, none)
