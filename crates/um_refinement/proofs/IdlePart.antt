-- A processor without a thread holds nothing, after every lawful step.
use Rattle.um_refinement.proofs.Words.{◌≡◌, ℕ, ◌<◌, Bool, true, false, cond, List, [], ◌∷◌, refl, sym, ap, ◌∙◌, subst, ◌==◌, ◌&&◌, not, IsTrue, eqb-true, false≢true, true≢false, State, Context, Exchange, after_take, goes_on_by, p_next, Todo, Todos, Processor, first_ready, has_ready, has_steps, FineStep, AreBlocks, Fine, scheduler, runs, IdleIs}
use Rattle.um_refinement.specs.Lists.{times}
use Rattle.um_refinement.specs.Timing.{IsHand, TimerIs}
use Rattle.um_refinement.proofs.Erased.{around, later}
use Rattle.um_refinement.proofs.Kept.{IdleStep, gives, idle-step, ticks, turns}
use Rattle.um_refinement.proofs.Leaves.{Lawful}
use Rattle.um_refinement.proofs.ListClaims.{IsThread}
use Rattle.um_refinement.proofs.ListGrips.{next-context}
use Rattle.um_refinement.proofs.ListGrowth.{is_end}
use Rattle.um_refinement.proofs.ListRuns.{goes-runs, takes-runs}
use Rattle.um_refinement.proofs.StepReads.{is-behind, reads-last}

-- what a processor takes that takes no thread
abbrev IsTended : Exchange → Type 0
IsTended (Exchange.thread c told) = ⊥
IsTended moved = Unit {0}

module _ (f : Fine) (m : State) (e : FineStep) (law : Lawful f m e) where
  open around f e use {processor as p, now}

  was-idle : runs p ≡ false → p.context.claims ≡ []
  was-idle = (law.rel.processors e.cpu law.by.named).idle.idle

  context-is : (todo : Todos) → p.todo ≡ todo → now.context ≡ (goes_on_by f.image p e todo).context
  context-is todo at = next-context f.image p e ∙ ap (λ (z : Todos). (goes_on_by f.image p e z).context) at

  -- one that takes no thread keeps its own part
  takes : p.todo ≡ [] → runs now ≡ false → now.context.claims ≡ []
  takes at idle = by (idle-step f m law.rel p e law.by.may law.taken at)
    where
      stays : (moved : Exchange) → IsTended moved → (after_take f.image p moved).context ≡ p.context
      stays (Exchange.thread c told) h = absurd h
      stays (Exchange.mark deadline mark) h = refl
      stays moved h = refl

      held : IsTended e.moved → now.context.claims ≡ []
      held h = ap (λ (c : Context). c.claims) (context-is [] at ∙ stays e.moved h) ∙ was-idle (ap (λ (z : Todos). has_steps z && not (times z)) at)

      by : IdleStep f p e → now.context.claims ≡ []
      by (turns site said ready moved) = which (scheduler f).ready refl
        where
          which : (list : List ℕ) → (scheduler f).ready ≡ list → now.context.claims ≡ []
          which [] q = absurd (false≢true (subst (λ (l : List ℕ). IsTrue (has_ready (scheduler f) l)) q ready))
          which (t ∷ list) q = absurd (true≢false (sym (takes-runs f.image p e at (subst IsThread (sym (sym moved ∙ ap (first_ready (scheduler f)) q)) tt)) ∙ idle))
      by (gives x site said due moved) = held (subst IsTended (sym moved) tt)
      by (ticks now site said due moved) = held (subst IsTended (sym moved) tt)

  idle-mine : runs now ≡ false → now.context.claims ≡ []
  idle-mine idle = by p.todo refl
    where
      -- with a mark in its hand it keeps its own part
      kept : (q : Todo) (todo : Todos) → p.todo ≡ q ∷ todo → runs p ≡ false → now.context.claims ≡ []
      kept q todo at rests = hand q todo at (subst IsHand at (timer.hand (timed at rests)))
        where
          timer : TimerIs f m e.cpu
          timer = (law.rel.processors e.cpu law.by.named).timer

          timed : p.todo ≡ q ∷ todo → runs p ≡ false → times p.todo ≡ true
          timed at rests = by (times p.todo) refl
            where
              by : (b : Bool) → times p.todo ≡ b → b ≡ true
              by true h = refl
              by false h = absurd (true≢false (sym (λ i. has_steps (at i) && not (h i)) ∙ rests))

          hand : (q : Todo) (todo : Todos) → p.todo ≡ q ∷ todo → IsHand (q ∷ todo) → now.context.claims ≡ []
          hand (Todo.handle deadline mark) todo at h = ap (λ (c : Context). c.claims) (context-is (Todo.handle deadline mark ∷ todo) at) ∙ was-idle rests
          hand (Todo.wake who told) todo at h = ap (λ (c : Context). c.claims) (context-is (Todo.wake who told ∷ todo) at) ∙ was-idle rests
          hand Todo.paid todo at h = ap (λ (c : Context). c.claims) (context-is (Todo.paid ∷ todo) at) ∙ was-idle rests
          hand q todo at h = absurd h

      by : (todo : Todos) → p.todo ≡ todo → now.context.claims ≡ []
      by [] at = takes at idle
      by (Todo.park ∷ todo) at = ap (λ (c : Context). c.claims) (context-is (Todo.park ∷ todo) at)
      by (Todo.done ∷ todo) at = ap (λ (c : Context). c.claims) (context-is (Todo.done ∷ todo) at)
      by (Todo.paid ∷ todo) at = kept Todo.paid todo at (ap (λ (z : Todos). has_steps z && not (times z)) (at ∙ ap (λ (z : Todos). Todo.paid ∷ z) ((is-behind f m e law).frame Todo.paid todo at)))
      by (q ∷ todo) at = kept q todo at (runs-same q todo at refl)
        where
          runs-same : (q : Todo) (todo : Todos) → p.todo ≡ q ∷ todo → is_end q ≡ false → runs p ≡ false
          runs-same q todo at over =
              sym (goes-runs f.image p e q todo at over ((is-behind f m e law).frame q todo at) (reads-last f m e law q todo at) (subst (AreBlocks f.image) at (law.rel.processors e.cpu law.by.named).blocks)) ∙ idle

  pub idle-part : (k : ℕ) → k < f.cpus → IdleIs (later f e) k
  idle-part k l = by (e.cpu == k) refl
    where
      kth : Bool → Processor
      kth b = cond b (p_next f.image (f.processors k) e) (f.processors k)

      Idle : Processor → Type 0
      Idle z = runs z ≡ false → z.context.claims ≡ []

      by : (b : Bool) → (e.cpu == k) ≡ b → IdleIs (later f e) k
      by true q = record { idle = subst Idle (sym (ap kth q ∙ ap (λ (z : Processor). p_next f.image z e) (sym (ap f.processors (eqb-true e.cpu k q))))) idle-mine }
      by false q = record { idle = subst Idle (sym (ap kth q)) (law.rel.processors k l).idle.idle }
