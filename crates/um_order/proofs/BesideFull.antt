-- A step beside the instructions leaves what a thread has still to pass on or to drop.
use Rattle.std.proofs.Common.{◌≡◌, ℕ, true, false, [], ◌∷◌, Option, Some, None, refl, sym, ap, ◌∙◌, subst}
use Rattle.std.specs.Prelude.{◌&&◌, not, slice_index_or}
use Rattle.std.proofs.lemmas.Bool.{false≢true}
use Rattle.um_base.specs.declared.act.Act.{Act}
use Rattle.um_base.specs.declared.ask.Told.{Told}
use Rattle.um_base.specs.declared.limits.TheConstants.{JOIN_CELL}
use Rattle.um_machine.specs.declared.pending.Pending.{Pending}
use Rattle.um_machine.specs.declared.thread.Thread.{Thread}
use Rattle.um_machine.specs.Joins.{all_joined, without_joins}
use Rattle.um_machine.specs.Order.{Steps, to_thread}
use Rattle.um_machine.specs.Services.{without}
use Rattle.um_machine.specs.State.{State, nobody, thread_at, waiters_in, with_thread}
use Rattle.um_machine.specs.Table as T
use Rattle.um_machine.specs.Writes.{Effect, effect}
use Rattle.um_invariants.specs.InOrder.{Point}
use Rattle.um_fine.specs.Answers.{act_in, is_tick, now_in}
use Rattle.um_fine.specs.Asks.{by_actor, says_turn}
use Rattle.um_fine.specs.Places.{Todo, Todos}
use Rattle.um_fine.specs.Processor.{actor_or}
use Rattle.um_fine.specs.Scheduler.{is_cut, to_kill}
use Rattle.um_fine.specs.Context.{Context}
use Rattle.um_fine.specs.Steps.{Exchange, FineStep}
use Rattle.um_words.specs.declared.fine.Mark.{Mark}
use Rattle.um_refinement.specs.Fine.{Fine, scheduler}
use Rattle.um_refinement.specs.Lists.{has_steps, runs, times}
use Rattle.um_refinement.proofs.ContextsPart.{now-context, ran}
use Rattle.um_refinement.proofs.Erased.{around}
use Rattle.um_refinement.proofs.Leaves.{Beside, Lawful, cuts, expires, ticks, times_out}
use Rattle.um_refinement.proofs.Leaves as L
use Rattle.um_refinement.proofs.ListRuns.{takes-none}
use Rattle.um_refinement.proofs.StepReads.{is-behind}
use Rattle.um_refinement.proofs.Taking.{Idles, idles, takes, tends}
use Rattle.um_machine.proofs.EffectLemmas.{woken-by}
use Rattle.um_invariants.proofs.Cores.{at_set}
use Rattle.um_order.proofs.FullFacts.{same-full}
use Rattle.um_order.proofs.Standing.{IsFull}

module _ (t : ℕ) (steps : Steps) where
  Full : State → Type 0
  Full s = IsFull s t steps

  due-same : (s : State) (v : ℕ) (th : Thread) → th.due ≡ (thread_at s v).due → (thread_at (with_thread s v th) t).due ≡ (thread_at s t).due
  due-same s v th same = at_set (λ n (z : Thread). z.due ≡ (thread_at s n).due) s.threads v t th nobody same refl

  thread-full : (s : State) (v : ℕ) (th : Thread) → th.due ≡ (thread_at s v).due → IsFull s t steps → IsFull (with_thread s v th) t steps
  thread-full s v th same h = by steps h
    where
      by : (steps : Steps) → IsFull s t steps → IsFull (with_thread s v th) t steps
      by [] h = tt
      by (Pending.Inherit who ∷ rest) h = λ y has lacks apart. ap (λ due. slice_index_or due y false) (due-same s v th same) ∙ h y has lacks apart
      by (Pending.Drops from ∷ rest) h = λ y low has. ap (λ due. slice_index_or due y false) (due-same s v th same) ∙ h y low has
      by (q ∷ rest) h = tt

  -- a thread is cut
  pub cut-full : (m : State) (u x : ℕ) (who : ℕ) (left : Steps) → IsFull m t steps → IsFull (T.after m u x (Pending.Cut (to_thread who)) left) t steps
  cut-full m u x who left h =
      let s = effect (Effect.waiters x (without who (waiters_in m x))) m in
      thread-full s who _ refl (same-full m s t steps refl refl refl h)

  -- an end is told
  pub left-full : (m : State) (u : ℕ) (left : Steps) → IsFull m t steps → IsFull (T.after m u 0 Pending.Left left) t steps
  left-full m u left h =
      let s = effect (Effect.waiters JOIN_CELL (without_joins m u)) m in
      woken-by (λ z. IsFull z t steps) (λ s u told k. thread-full s u _ refl k) (all_joined m u) s (same-full m s t steps refl refl refl h)

module _ (f : Fine) (at : Point) (e : FineStep) (law : Lawful f at.state e)
    (was : runs (f.processors e.cpu) ≡ true → IsFull at.state (f.processors e.cpu).context.thread (f.processors e.cpu).context.pending) where
  open around f e use {later, processor as p, now}

  abbrev m : State
  m = at.state

  -- a processor with a mark in its hand runs no thread
  hand-none : (deadline : ℕ) (mark : Mark) (todo : Todos) → p.todo ≡ Todo.handle deadline mark ∷ todo → runs p ≡ false
  hand-none deadline mark todo list =
      ap (λ (z : Todos). has_steps z && not (times z)) (list ∙ ap (λ (z : Todos). Todo.handle deadline mark ∷ z) ((is-behind f m e law).frame (Todo.handle deadline mark) todo list))

  pub besides-full : (t x : ℕ) (q : Pending) → Beside f at.state e t x q → runs now ≡ true → IsFull (T.after at.state t x q (thread_at at.state t).pending) now.context.thread now.context.pending
  besides-full t x _ (cuts who site before _ todo list same few said) on =
      subst (λ (c : Context). IsFull (T.after m p.context.thread x (Pending.Cut (to_thread who)) (thread_at m p.context.thread).pending) c.thread c.pending) (sym (now-context f m e law (Todo.look who site before ∷ todo) list))
      (cut-full p.context.thread p.context.pending m p.context.thread x who (thread_at m p.context.thread).pending (was (ran f m e law (Todo.look who site before) todo list refl on)))
  besides-full t x _ (times_out deadline site _ who todo list same few said) on =
      absurd (false≢true (sym (hand-none deadline (Mark.Thread who site) todo list) ∙ ran f m e law (Todo.handle deadline (Mark.Thread who site)) todo list refl on))
  besides-full t x _ (expires deadline y todo list few said) on =
      absurd (false≢true (sym (hand-none deadline (Mark.Timer y) todo list) ∙ ran f m e law (Todo.handle deadline (Mark.Timer y)) todo list refl on))
  besides-full t x _ (ticks list said) on = by (idles f m e law list)
    where
      by : Idles f e → IsFull (T.after m (actor_or f.image p.actor) 0 Pending.Tick (thread_at m (actor_or f.image p.actor)).pending) now.context.thread now.context.pending
      by (takes first) = absurd (turn-tick (to_kill (is_cut (scheduler f) first.thread) first.parked) first.told (sym (first.said ∙ ap (says_turn f.image p) first.moved) ∙ said))
        where
          turn-tick : (c : Context) (told : Option Told) → says_turn f.image p (Exchange.thread c told) ≡ by_actor f.image p (Act.Tick (now_in (act_in e.act))) → ⊥
          turn-tick c None k = false≢true (ap is_tick k)
          turn-tick c (Some w) k = false≢true (ap is_tick k)
      by (tends is) = absurd (false≢true (sym (takes-none f.image p e list is.other is.quiet) ∙ on))
  besides-full t x _ (L.leaves todo list said) on =
      subst (λ (c : Context). IsFull (T.after m p.context.thread 0 Pending.Left (thread_at m p.context.thread).pending) c.thread c.pending) (sym (now-context f m e law (Todo.leave ∷ todo) list))
      (left-full p.context.thread p.context.pending m p.context.thread (thread_at m p.context.thread).pending (was (ran f m e law Todo.leave todo list refl on)))
