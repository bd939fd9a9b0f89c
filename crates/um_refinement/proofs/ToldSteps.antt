-- What is told after a step that wakes nobody, and after one that wakes some who wait in a cell.
use Rattle.um_refinement.proofs.Words.{◌≡◌, ℕ, zero, suc, ◌+◌, ◌<◌, ◌≤◌, Bool, true, false, cond, List, [], ◌∷◌, ◌++◌, Option, None, refl, sym, ap, ◌∙◌, subst, arith, eq-eqb, ◌==◌, if◌then◌else◌, is_some, slice_index_or, eqb-true, Told, THREADS, Thread, State, nobody, thread_at, with_thread, AreKept, Todo, Todos, Processor, FineStep, Site, Fine, ThreadIx, p_next, Scheduler, told_at, same_site, one_if, over_processors, scheduler, AreFramed, counted, is_wake, wake_of, first_told, map_at, times, wakings, wakings-more, ToldIs, tellers}
use Rattle.um_invariants.proofs.ThreadCells.{cell}
use Rattle.std.proofs.Math.Seq.{map-set_same}
use Rattle.um_refinement.proofs.Leaves.{Lawful}
use Rattle.um_refinement.proofs.Erased.{around}
use Rattle.um_refinement.proofs.ListWakes.{named, next-wakers, told_first, told_times, wake-first, wake-times, wakers, woken_by}
use Rattle.um_refinement.proofs.ResumeSteps.{some-is}
use Rattle.um_refinement.proofs.RunningPart.{is_scheduling, todo-elsewhere}
use Rattle.um_refinement.proofs.SchedulerSteps.{made-at, sched-else}
use Rattle.um_refinement.proofs.StepReads.{is-placed, last-read}
use Rattle.um_refinement.proofs.Sums.{over-changed}
use Rattle.um_refinement.proofs.ToldFacts.{last-first, none-first, some-first, told-alike, told_last, untold, wake-is-told}

-- What the machine tells a thread.

abbrev pub told_of : Thread → Option Told
told_of me = me.told

pub set-told : (z : State) (v : ℕ) (th : Thread) (t : ℕ) → th.told ≡ (thread_at z v).told → (thread_at (with_thread z v th) t).told ≡ (thread_at z t).told
set-told z v th t same =
    sym (map_at told_of (with_thread z v th).threads t nobody)
    ∙ (ap (λ (all : List (Option Told)). slice_index_or all t None) (map-set_same told_of z.threads v th nobody same) ∙ map_at told_of z.threads t nobody)

-- how often a thread is woken, counted in both ways
wakings-named : (t : ℕ) (ws : List (ThreadIx × Told)) → wakings t ws ≡ told_times t (named ws)
wakings-named t [] = refl
wakings-named t (w ∷ ws) = wakings-more t w ws ∙ ap (λ n. if w.0.0 == t then n + 1 else n) (wakings-named t ws)

module _ (f : Fine) (m : State) (e : FineStep) (law : Lawful f m e) (kept : AreKept m) (t : ℕ) (few : t < THREADS) where
  open around f e use {later, processor as p, now}

  abbrev pub count : Processor → ℕ
  count z = counted (is_wake t) z.todo

  pub sums : over_processors later count + count p ≡ over_processors f count + count now
  sums = over-changed f e count law.by.named

  pub at-cpu : later.processors e.cpu ≡ now
  at-cpu = ap (λ b. cond b (p_next f.image (f.processors e.cpu) e) (f.processors e.cpu)) (eq-eqb e.cpu e.cpu refl)

  -- where all stands as before
  pub same-tellers : (s : State) → (thread_at s t).told ≡ (thread_at m t).told → wake_of t now.todo ≡ wake_of t p.todo → count now ≡ count p → told_at (scheduler later) t ≡ told_at (scheduler f) t → ToldIs later s t
  same-tellers s machine wake times here =
      let sum = sums in
      let before = (law.rel.threads t few).told.once in
      let stood = ap (λ (o : Option Told). one_if (is_some o)) here in
      record {
        told = machine ∙ ((law.rel.threads t few).told.told ∙ sym (told-alike later t f refl each here));
        once = omega (arith, sum, before, stood, times);
      }
    where
      each : (k : ℕ) → wake_of t (later.processors k).todo ≡ wake_of t (f.processors k).todo
      each k = by (e.cpu == k) refl
        where
          by : (b : Bool) → (e.cpu == k) ≡ b → wake_of t (cond b (p_next f.image (f.processors k) e) (f.processors k)).todo ≡ wake_of t (f.processors k).todo
          by true q = subst (λ n. wake_of t (p_next f.image (f.processors n) e).todo ≡ wake_of t (f.processors n).todo) (eqb-true e.cpu k q) wake
          by false q = refl

  pub wakers-now : (q : Todo) (todo : Todos) → p.todo ≡ q ∷ todo → wakers now.todo ≡ woken_by e q ++ wakers todo
  wakers-now q todo at = next-wakers f.image p e q todo at (subst (AreFramed f.image) at (law.rel.processors e.cpu law.by.named).frames).0 (last-read f m e law q todo at)

  -- a step that leaves the wakes on the list
  pub wakes-same : (s : State) → (thread_at s t).told ≡ (thread_at m t).told → wakers now.todo ≡ wakers p.todo → told_at (scheduler later) t ≡ told_at (scheduler f) t → ToldIs later s t
  wakes-same s machine lists here =
      same-tellers s machine (wake-first t now.todo ∙ (ap (told_first t) lists ∙ sym (wake-first t p.todo))) (wake-times t now.todo ∙ (ap (told_times t) lists ∙ sym (wake-times t p.todo))) here

  pub elsewhere : (q : Todo) (todo : Todos) → p.todo ≡ q ∷ todo → is_scheduling q ≡ false → told_at (scheduler later) t ≡ told_at (scheduler f) t
  elsewhere q todo at off = ap (λ (z : Scheduler). told_at z t) (sched-else f m e law (ap (λ i. same_site i Site.scheduler) (made-at f m e law (q ∷ todo) at) ∙ todo-elsewhere f.image p q todo off (is-placed f m e law q todo at)))

  -- a step that wakes some who wait in a cell: nothing was told to them yet, and the step tells each of them once
  pub wakes-some : (s : State) (ws : List (ThreadIx × Told)) (y : ℕ) → wakings t ws ≤ times t (cell m y) → (thread_at s t).told ≡ told_last t ws (thread_at m t).told → wakers now.todo ≡ named ws → wakers p.todo ≡ []
      → told_at (scheduler later) t ≡ told_at (scheduler f) t → ToldIs later s t
  wakes-some s ws y fewer machine lists bare here = by (told_times t (named ws)) refl
    where
      often : told_times t (named ws) ≤ times t (cell m y)
      often = let least = fewer in let same = wakings-named t ws in omega (arith, least, same)

      once : told_times t (named ws) ≤ 1
      once = let most = kept.once y t in let less = often in omega (arith, most, less)

      by : (n : ℕ) → told_times t (named ws) ≡ n → ToldIs later s t
      by zero none =
          same-tellers s (machine ∙ (last-first t ws (thread_at m t).told once ∙ ap (λ (o : Option Told). first_told o (thread_at m t).told) (none-first t (named ws) none)))
          (wake-first t now.todo ∙ (ap (told_first t) lists ∙ (none-first t (named ws) none ∙ sym (wake-first t p.todo ∙ ap (told_first t) bare))))
          (wake-times t now.todo ∙ (ap (told_times t) lists ∙ (none ∙ sym (wake-times t p.todo ∙ ap (told_times t) bare)))) here
      by (suc n) some =
          let less = often in
          let waits = kept.waits y t (omega (arith, some, less)) in
          let none = untold f m law.rel t few waits.1 in
          let first = some-is (told_first t (named ws)) (some-first t (named ws) (omega (arith, some))) in
          let times-now = wake-times t now.todo ∙ ap (told_times t) lists in
          let times-was = wake-times t p.todo ∙ ap (told_times t) bare in
          let sum = sums in
          let most = once in
          let stood = ap (λ (o : Option Told). one_if (is_some o)) here in
          let single : tellers later t ≤ 1 = omega (arith, none, times-now, times-was, sum, most, stood) in
          record {
            told = machine ∙ (last-first t ws (thread_at m t).told once ∙ (ap (λ (o : Option Told). first_told o (thread_at m t).told) first.1
                ∙ sym (wake-is-told later t first.0 e.cpu law.by.named (ap (λ (z : Processor). wake_of t z.todo) at-cpu ∙ (wake-first t now.todo ∙ (ap (told_first t) lists ∙ first.1)))
                (let same = ap (λ (z : Processor). counted (is_wake t) z.todo) at-cpu in omega (arith, same, times-now, some)) single)));
            once = single;
          }
