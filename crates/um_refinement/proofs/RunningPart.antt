-- The scheduler counts the processors that run a thread, after every lawful step.
use Rattle.um_refinement.proofs.Words.{◌≡◌, ℕ, ◌+◌, ◌-◌, Bool, true, false, List, [], ◌∷◌, Some, None, refl, sym, ap, ◌∙◌, subst, arith, IsTrue, nat_lt, and_parts, false≢true, ltb-true, Image, State, to_thread, FineAct, Unseen, ready_in, begins_cleaning, site_at, p_next, Todo, Todos, Processor, Scheduler, first_ready, first_taken, has_ready, has_steps, ◌≤◌, ◌&&◌, not, sched_after, same_site, Exchange, FineStep, Site, AreBlocks, Fine, one_if, over_processors, scheduler, Behind, runs, has_place, RunningIs}
use Rattle.um_words.specs.declared.fine.Mark.{Mark}
use Rattle.um_fine.specs.Asks.{says_turn}
use Rattle.um_refinement.specs.Lists.{times}
use Rattle.um_refinement.proofs.DomainReads.{IsPlaced}
use Rattle.um_refinement.proofs.Erased.{around}
use Rattle.um_refinement.proofs.Kept.{IdleStep, gives, idle-step, ticks, turns}
use Rattle.um_refinement.proofs.Leaves.{Lawful}
use Rattle.um_refinement.proofs.ListClaims.{IsThread}
use Rattle.um_refinement.proofs.ListGrowth.{is_end}
use Rattle.um_refinement.proofs.ListRuns.{ends-rests, goes-runs, takes-none, takes-runs}
use Rattle.um_refinement.proofs.SchedulerSteps.{made-at, made-says, sched-else, sched-later, sched-took, shown-elsewhere}
use Rattle.um_refinement.proofs.StepReads.{is-behind, is-placed, reads-last}
use Rattle.um_refinement.proofs.Sums.{over-changed}
use Rattle.um_refinement.proofs.WaitingSites.{waiting-apart}

-- a thread that is taken leaves the scheduler
pub idle-after : (image : Image) (p : Processor) (s : Scheduler) (moved : Exchange) → sched_after s (says_turn image p moved) moved ≡ first_taken s s.ready
idle-after image p s (Exchange.thread c None) = refl
idle-after image p s (Exchange.thread c (Some told)) = refl
idle-after image p s moved = refl

-- which steps but the first of a turn are made at the scheduler
abbrev pub is_scheduling : Todo → Bool
is_scheduling (Todo.wake who told) = true
is_scheduling (Todo.add c) = true
is_scheduling Todo.park = true
is_scheduling Todo.done = true
is_scheduling (Todo.tell_cut who) = true
is_scheduling Todo.owe = true
is_scheduling Todo.paid = true
is_scheduling q = false

pub todo-elsewhere : (image : Image) (p : Processor) (q : Todo) (todo : Todos) → is_scheduling q ≡ false → IsPlaced q → same_site (site_at image p (q ∷ todo)) Site.scheduler ≡ false
todo-elsewhere image p (Todo.show q rest) todo h at = shown-elsewhere image p q
todo-elsewhere image p (Todo.wake who told) todo h at = absurd (false≢true (sym h))
todo-elsewhere image p (Todo.add c) todo h at = absurd (false≢true (sym h))
todo-elsewhere image p Todo.park todo h at = absurd (false≢true (sym h))
todo-elsewhere image p Todo.done todo h at = absurd (false≢true (sym h))
todo-elsewhere image p (Todo.tell_cut who) todo h at = absurd (false≢true (sym h))
todo-elsewhere image p Todo.owe todo h at = absurd (false≢true (sym h))
todo-elsewhere image p Todo.paid todo h at = absurd (false≢true (sym h))
todo-elsewhere image p (Todo.look who site before) todo h at = waiting-apart site Site.scheduler at (λ x. refl) refl refl
todo-elsewhere image p (Todo.handle deadline (Mark.Thread who site)) todo h at = waiting-apart site Site.scheduler at (λ x. refl) refl refl
todo-elsewhere image p (Todo.handle deadline (Mark.Timer x)) todo h at = refl
todo-elsewhere image p q todo h at = refl

module _ (f : Fine) (m : State) (e : FineStep) (law : Lawful f m e) where
  open around f e use {later}

  -- whether a processor that has steps to make has some left then
  counts : (n k : ℕ) → one_if (runs (f.processors e.cpu)) ≡ n → one_if (runs (p_next f.image (f.processors e.cpu) e)) ≡ k
      → over_processors later (λ z. one_if (runs z)) + n ≡ over_processors f (λ z. one_if (runs z)) + k
  counts n k before after =
      let all = over-changed f e (λ z. one_if (runs z)) law.by.named in omega (arith, all, before, after)

  framed : (q : Todo) (todo : Todos) → (f.processors e.cpu).todo ≡ q ∷ todo → Behind f.image q todo
  framed = (is-behind f m e law).frame

  goes-on : (q : Todo) (todo : Todos) → (f.processors e.cpu).todo ≡ q ∷ todo → is_end q ≡ false → (scheduler later).running ≡ (scheduler f).running → RunningIs later
  goes-on q todo at goes same =
      let k = law.rel.processors e.cpu law.by.named in
      let left = goes-runs f.image (f.processors e.cpu) e q todo at goes (framed q todo at) (reads-last f m e law q todo at) (subst (AreBlocks f.image) at k.blocks) in
      let n = one_if (runs (f.processors e.cpu)) in
      let sums = counts n n refl (ap one_if left) in
      let was = law.rel.running.running in
      record { running = omega (arith, sums, was, same) }

  ends : (q : Todo) (todo : Todos) → (f.processors e.cpu).todo ≡ q ∷ todo → is_end q ≡ true → begins_cleaning e ≡ false → (n : ℕ) → one_if (runs (f.processors e.cpu)) ≡ n
      → n ≤ (scheduler f).running → (scheduler later).running ≡ (scheduler f).running - n → RunningIs later
  ends q todo at over quiet n before some now =
      let none = ends-rests f.image (f.processors e.cpu) e q todo at over quiet in
      let sums = counts n 0 before (ap (λ (z : Todos). one_if (has_steps z && not (times z))) none) in
      let was = law.rel.running.running in
      record { running = omega (arith, sums, was, some, now) }

  -- whether it runs a thread, by its list
  runs-by : (todo : Todos) → (f.processors e.cpu).todo ≡ todo → one_if (runs (f.processors e.cpu)) ≡ one_if (has_steps todo && not (times todo))
  runs-by todo at = ap (λ (z : Todos). one_if (has_steps z && not (times z))) at

  -- nothing is on its list
  takes : (f.processors e.cpu).todo ≡ [] → RunningIs later
  takes at = by (idle-step f m law.rel (f.processors e.cpu) e law.by.may law.taken at)
    where
      rests : e.site ≡ Site.clock → (IsThread e.moved → ⊥) → begins_cleaning e ≡ false → RunningIs later
      rests site other quiet =
          let left = takes-none f.image (f.processors e.cpu) e at other quiet in
          let sums = counts 0 0 (runs-by [] at) (ap one_if left) in
          let same : (scheduler later).running ≡ (scheduler f).running = ap (λ (s : Scheduler). s.running) (sched-else f m e law (ap (λ i. same_site i Site.scheduler) site)) in
          let was = law.rel.running.running in
          record { running = omega (arith, sums, was, same) }

      by : IdleStep f (f.processors e.cpu) e → RunningIs later
      by (turns site said ready moved) = which (scheduler f).ready refl
        where
          after : scheduler later ≡ first_taken (scheduler f) (scheduler f).ready
          after = sched-later f m e law site (says_turn f.image (f.processors e.cpu) e.moved) said ∙ idle-after f.image (f.processors e.cpu) (scheduler f) e.moved

          which : (list : List ℕ) → (scheduler f).ready ≡ list → RunningIs later
          which [] q = absurd (false≢true (subst (λ (l : List ℕ). IsTrue (has_ready (scheduler f) l)) q ready))
          which (t ∷ list) q =
              let left = takes-runs f.image (f.processors e.cpu) e at (subst IsThread (sym (sym moved ∙ ap (first_ready (scheduler f)) q)) tt) in
              let sums = counts 0 1 (runs-by [] at) (ap one_if left) in
              let now : (scheduler later).running ≡ (scheduler f).running + 1 = ap (λ (s : Scheduler). s.running) (after ∙ ap (first_taken (scheduler f)) q) in
              let was = law.rel.running.running in
              record { running = omega (arith, sums, was, now) }
      by (gives x site said due moved) = rests site (λ is. subst IsThread moved is) (ap (λ a. begins_cleaning (record e { act = a })) said)
      by (ticks now site said due moved) = rests site (λ is. subst IsThread moved is) (ap (λ a. begins_cleaning (record e { act = a })) said)

  -- the list of one that ends its turn has nothing else
  alone : (q : Todo) (todo : Todos) → (f.processors e.cpu).todo ≡ q ∷ todo → todo ≡ [] → one_if (runs (f.processors e.cpu)) ≡ one_if (has_steps (q ∷ []) && not (times (q ∷ [])))
  alone q todo at none = runs-by (q ∷ []) (at ∙ ap (λ (z : Todos). q ∷ z) none)

  by-todo : (todo : Todos) → (f.processors e.cpu).todo ≡ todo → RunningIs later
  by-todo [] at = takes at
  by-todo (Todo.park ∷ todo) at =
      let act = FineAct.Unseen (Unseen.Park (to_thread (f.processors e.cpu).context.thread) (ready_in e.act)) in
      let said = made-says f m e law (Todo.park ∷ todo) at in
      let site = made-at f m e law (Todo.park ∷ todo) at in
      let some = ltb-true 0 (scheduler f).running (and_parts (nat_lt 0 (scheduler f).running) (has_place (scheduler f)) (sched-took f m e law site act said)).0 in
      ends Todo.park todo at refl (ap (λ a. begins_cleaning (record e { act = a })) said) 1 (alone Todo.park todo at (framed Todo.park todo at)) some
      (ap (λ (s : Scheduler). s.running) (sched-later f m e law site act said))
  by-todo (Todo.done ∷ todo) at =
      let act = FineAct.Unseen Unseen.Done in
      let said = made-says f m e law (Todo.done ∷ todo) at in
      let site = made-at f m e law (Todo.done ∷ todo) at in
      let some = ltb-true 0 (scheduler f).running (sched-took f m e law site act said) in
      ends Todo.done todo at refl (ap (λ a. begins_cleaning (record e { act = a })) said) 1 (alone Todo.done todo at (framed Todo.done todo at)) some
      (ap (λ (s : Scheduler). s.running) (sched-later f m e law site act said))
  by-todo (Todo.paid ∷ todo) at =
      let act = FineAct.Unseen Unseen.Paid in
      let said = made-says f m e law (Todo.paid ∷ todo) at in
      let site = made-at f m e law (Todo.paid ∷ todo) at in
      ends Todo.paid todo at refl (ap (λ a. begins_cleaning (record e { act = a })) said) 0 (alone Todo.paid todo at (framed Todo.paid todo at)) (omega arith)
      (let same = ap (λ (s : Scheduler). s.running) (sched-later f m e law site act said) in omega (arith, same))
  by-todo (Todo.wake who told ∷ todo) at =
      goes-on (Todo.wake who told) todo at refl
      (ap (λ (s : Scheduler). s.running) (sched-later f m e law (made-at f m e law (Todo.wake who told ∷ todo) at) _ (made-says f m e law (Todo.wake who told ∷ todo) at)))
  by-todo (Todo.add c ∷ todo) at =
      goes-on (Todo.add c) todo at refl
      (ap (λ (s : Scheduler). s.running) (sched-later f m e law (made-at f m e law (Todo.add c ∷ todo) at) _ (made-says f m e law (Todo.add c ∷ todo) at)))
  by-todo (Todo.tell_cut who ∷ todo) at =
      goes-on (Todo.tell_cut who) todo at refl
      (ap (λ (s : Scheduler). s.running) (sched-later f m e law (made-at f m e law (Todo.tell_cut who ∷ todo) at) _ (made-says f m e law (Todo.tell_cut who ∷ todo) at)))
  by-todo (Todo.owe ∷ todo) at =
      goes-on Todo.owe todo at refl
      (ap (λ (s : Scheduler). s.running) (sched-later f m e law (made-at f m e law (Todo.owe ∷ todo) at) _ (made-says f m e law (Todo.owe ∷ todo) at)))
  by-todo (q ∷ todo) at =
      goes-on q todo at refl
      (ap (λ (s : Scheduler). s.running)
      (sched-else f m e law (ap (λ i. same_site i Site.scheduler) (made-at f m e law (q ∷ todo) at) ∙ todo-elsewhere f.image (f.processors e.cpu) q todo refl (is-placed f m e law q todo at))))

  pub running-part : RunningIs later
  running-part = by-todo (f.processors e.cpu).todo refl
