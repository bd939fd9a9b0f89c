-- The scheduler's ready list has at most as many threads as there are: it has each once at most. No more threads run than there are processors.
use Rattle.std.proofs.Common.{ℕ, ◌<◌, ◌≤◌, ⊎_elim, List, length, sym, subst, arith}
use Rattle.um_base.specs.declared.image.Image.{Image}
use Rattle.um_base.specs.declared.limits.TheConstants.{THREADS}
use Rattle.um_machine.specs.Run.{opening}
use Rattle.um_machine.specs.State.{State}
use Rattle.um_invariants.specs.Described.{IsDescribed}
use Rattle.um_fine.specs.FineRun.{IsFineRun}
use Rattle.um_fine.specs.Scheduler.{is_cut, parked_at, told_at}
use Rattle.um_fine.specs.Steps.{FineStep}
use Rattle.um_refinement.specs.After.{left_by}
use Rattle.um_refinement.specs.Fine.{Fine, scheduler}
use Rattle.um_refinement.specs.Relation.{Rel}
use Rattle.um_refinement.specs.Room.{CanRun}
use Rattle.um_refinement.specs.Lists.{runs}
use Rattle.um_refinement.specs.Fine.{one_if}
use Rattle.um_refinement.specs.Threads.{is_ready_there, occurs}
use Rattle.um_refinement.proofs.Bounds.{AreBounded}
use Rattle.um_refinement.proofs.First.{first}
use Rattle.um_refinement.proofs.FirstBounds.{bounded-first}
use Rattle.um_refinement.proofs.FirstLawful.{opens-described}
use Rattle.um_refinement.proofs.FirstThreads.{one-most}
use Rattle.um_refinement.proofs.Totals.{occurs-total, total-most}
use Rattle.um_core.proofs.LeftKnown.{left-known}

-- where the relation holds, and the list names threads
ready-few : (f : Fine) (m : State) → Rel f m → AreBounded f → length (scheduler f).ready ≤ THREADS
ready-few f m rel bounds =
    let all = occurs-total THREADS (scheduler f).ready bounds.ready in
    let most = total-most (λ t. occurs t (scheduler f).ready) THREADS once in
    omega (arith, all, most)
  where
    once : (t : ℕ) → t < THREADS → occurs t (scheduler f).ready ≤ 1
    once t few =
        let there = (rel.threads t few).ready.ready in
        let most = one-most (is_ready_there (parked_at (scheduler f) t) (told_at (scheduler f) t) (is_cut (scheduler f) t)) in
        omega (arith, there, most)

-- each processor runs one thread at most
running-few : (f : Fine) (m : State) → Rel f m → (scheduler f).running ≤ f.cpus
running-few f m rel =
    let is = rel.running.running in
    let most = total-most (λ k. one_if (runs (f.processors k))) f.cpus (λ k l. one-most (runs (f.processors k))) in
    omega (arith, is, most)

module _ (image : Image) (cpus : ℕ) (described : IsDescribed image) where
  -- at the opening
  pub few-first : length (scheduler (first image cpus)).ready ≤ THREADS
  few-first = ready-few (first image cpus) (opening image) (opens-described image described cpus) (bounded-first image described cpus)

  -- after a fine run
  pub few-left : CanRun image cpus → (g : List FineStep) → IsFineRun image cpus g → length (scheduler (left_by image cpus g)).ready ≤ THREADS
  few-left can g run = ⊎_elim
      (λ none. subst (λ (h : List FineStep). length (scheduler (left_by image cpus h)).ready ≤ THREADS) (sym none) few-first)
      (λ (m, is). ready-few (left_by image cpus g) m is.rel is.bounds)
      (left-known image cpus described can g run)

  pub running-left : CanRun image cpus → (g : List FineStep) → IsFineRun image cpus g → (scheduler (left_by image cpus g)).running ≤ cpus
  running-left can g run = ⊎_elim
      (λ none. subst (λ (h : List FineStep). (scheduler (left_by image cpus h)).running ≤ cpus) (sym none)
      (running-few (first image cpus) (opening image) (opens-described image described cpus)))
      (λ (m, is). running-few (left_by image cpus g) m is.rel)
      (left-known image cpus described can g run)
