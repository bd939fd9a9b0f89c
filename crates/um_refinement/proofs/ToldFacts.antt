-- What a thread is told stands in one place, which is what the relation says of it; and what a step of the machine tells threads.
use Rattle.um_refinement.proofs.Words.{◌≡◌, ℕ, zero, suc, ◌+◌, ◌<◌, ◌≤◌, Bool, true, false, List, [], ◌∷◌, length, Option, Some, None, refl, sym, ap, ◌∙◌, subst, arith, ◌==◌, if◌then◌else◌, is_some, slice_index_or, slice_set, eqb-false, eqb-true, true≢false, Told, THREADS, ThreadIx, Thread, State, nobody, thread_at, with_thread, told_at, Fine, one_if, scheduler, counted, is_wake, wake_of, Rel, first_told, told_by, tellers}
use Rattle.um_machine.specs.Table as T
use Rattle.um_refinement.proofs.DomainFacts.{two-parts}
use Rattle.um_refinement.proofs.HeldRows.{some-part}
use Rattle.um_refinement.proofs.ListWakes.{Wakes, named, told_first, told_times, wake-first, wake-times, wakers}
use Rattle.um_refinement.proofs.MemorySteps.{part-total}
use Rattle.um_refinement.proofs.PlacesFacts.{wake-told}
use Rattle.um_refinement.proofs.ResumeSteps.{told-some}
use Rattle.um_refinement.proofs.ThreadLists.{at-here, set-else, set-long}

-- Lists.

pub none-first : (t : ℕ) (ws : Wakes) → told_times t ws ≡ 0 → told_first t ws ≡ None
none-first t [] h = refl
none-first t (w ∷ ws) h = by (w.0 == t) h (none-first t ws)
  where
    by : (b : Bool) → (if b then told_times t ws + 1 else told_times t ws) ≡ 0 → (told_times t ws ≡ 0 → told_first t ws ≡ None) → (if b then Some w.1 else told_first t ws) ≡ None
    by true h more = absurd (omega (arith, h))
    by false h more = more h

pub some-first : (t : ℕ) (ws : Wakes) → 0 < told_times t ws → is_some (told_first t ws) ≡ true
some-first t [] h = absurd (omega (arith, h))
some-first t (w ∷ ws) h = by (w.0 == t) h (some-first t ws)
  where
    by : (b : Bool) → 0 < (if b then told_times t ws + 1 else told_times t ws) → (0 < told_times t ws → is_some (told_first t ws) ≡ true) → is_some (if b then Some w.1 else told_first t ws) ≡ true
    by true h more = refl
    by false h more = more h

module _ (g : Fine) (t : ℕ) where
  no-wake : (k : ℕ) → counted (is_wake t) (g.processors k).todo ≡ 0 → wake_of t (g.processors k).todo ≡ None
  no-wake k h = wake-first t (g.processors k).todo ∙ none-first t (wakers (g.processors k).todo) (sym (wake-times t (g.processors k).todo) ∙ h)

  pub none-told : tellers g t ≡ 0 → told_by g t g.cpus ≡ None
  none-told h = by g.cpus (λ k l. no-wake k (let part = part-total (λ j. counted (is_wake t) (g.processors j).todo) g.cpus k l in omega (arith, part, h))) (gone (told_at (scheduler g) t) refl)
    where
      gone : (o : Option Told) → told_at (scheduler g) t ≡ o → o ≡ None
      gone None q = refl
      gone (Some w) q = let one : one_if (is_some (told_at (scheduler g) t)) ≡ 1 = ap (λ (o : Option Told). one_if (is_some o)) q in absurd (omega (arith, one, h))

      by : (n : ℕ) → ((k : ℕ) → k < n → wake_of t (g.processors k).todo ≡ None) → told_at (scheduler g) t ≡ None → told_by g t n ≡ None
      by zero none here = here
      by (suc n) none here = ap (λ (o : Option Told). first_told o (told_by g t n)) (none n (omega arith)) ∙ by n (λ k l. none k (omega (arith, l))) here

  -- by the scheduler
  pub scheduler-told : (w : Told) → told_at (scheduler g) t ≡ Some w → tellers g t ≤ 1 → told_by g t g.cpus ≡ Some w
  scheduler-told w here once =
      by g.cpus
      (λ k l.
      let part = part-total (λ j. counted (is_wake t) (g.processors j).todo) g.cpus k l in
      let one : one_if (is_some (told_at (scheduler g) t)) ≡ 1 = ap (λ (o : Option Told). one_if (is_some o)) here in
      no-wake k (omega (arith, part, one, once)))
    where
      by : (n : ℕ) → ((k : ℕ) → k < n → wake_of t (g.processors k).todo ≡ None) → told_by g t n ≡ Some w
      by zero none = here
      by (suc n) none = ap (λ (o : Option Told). first_told o (told_by g t n)) (none n (omega arith)) ∙ by n (λ k l. none k (omega (arith, l)))

  -- by a processor that wakes it
  pub wake-is-told : (w : Told) (k : ℕ) → k < g.cpus → wake_of t (g.processors k).todo ≡ Some w → 0 < counted (is_wake t) (g.processors k).todo → tellers g t ≤ 1 → told_by g t g.cpus ≡ Some w
  wake-is-told w k l here some once =
      by g.cpus l
      (λ j r apart.
      let sum = two-parts (λ i. counted (is_wake t) (g.processors i).todo) g.cpus j k r l apart in
      no-wake j (omega (arith, sum, some, once)))
    where
      by : (n : ℕ) → k < n → ((j : ℕ) → j < n → (j ≡ k → ⊥) → wake_of t (g.processors j).todo ≡ None) → told_by g t n ≡ Some w
      by zero l none = absurd (omega (arith, l))
      by (suc n) l none = which (n == k) refl (by n)
        where
          which : (b : Bool) → (n == k) ≡ b → (k < n → ((j : ℕ) → j < n → (j ≡ k → ⊥) → wake_of t (g.processors j).todo ≡ None) → told_by g t n ≡ Some w) → told_by g t (suc n) ≡ Some w
          which true e more = ap (λ (o : Option Told). first_told o (told_by g t n)) (ap (λ j. wake_of t (g.processors j).todo) (eqb-true n k e) ∙ here)
          which false e more =
              let apart = eqb-false n k e in
              ap (λ (o : Option Told). first_told o (told_by g t n)) (none n (omega arith) apart) ∙ more (below apart) (λ j r. none j (omega (arith, r)))
            where
              below : (n ≡ k → ⊥) → k < n
              below apart = omega (arith, l, apart)

  -- the same as another's, where the same stands everywhere
  pub told-alike : (h : Fine) → g.cpus ≡ h.cpus → ((k : ℕ) → wake_of t (g.processors k).todo ≡ wake_of t (h.processors k).todo) → told_at (scheduler g) t ≡ told_at (scheduler h) t
      → told_by g t g.cpus ≡ told_by h t h.cpus
  told-alike h cpus wakes here = by g.cpus ∙ ap (told_by h t) cpus
    where
      by : (n : ℕ) → told_by g t n ≡ told_by h t n
      by zero = here
      by (suc n) = λ i. first_told (wakes n i) (by n i)

module _ (f : Fine) (m : State) (rel : Rel f m) (t : ℕ) (few : t < THREADS) where
  -- who is told nothing by the machine is told nothing anywhere
  pub untold : (thread_at m t).told ≡ None → tellers f t ≡ 0
  untold none = by (tellers f t) refl
    where
      silent : is_some (told_by f t f.cpus) ≡ true → ⊥
      silent h = true≢false (sym h ∙ ap is_some (sym (rel.threads t few).told.told ∙ none))

      by : (n : ℕ) → tellers f t ≡ n → n ≡ 0
      by zero q = refl
      by (suc n) q = absurd (which (is_some (told_at (scheduler f) t)) refl)
        where
          which : (b : Bool) → is_some (told_at (scheduler f) t) ≡ b → ⊥
          which true h = silent (told-some f m rel t f.cpus h)
          which false h =
              let lacks : one_if (is_some (told_at (scheduler f) t)) ≡ 0 = ap one_if h in
              let k = some-part (λ j. counted (is_wake t) (f.processors j).todo) f.cpus (omega (arith, q, lacks)) in
              let wakes : is_some (wake_of t (f.processors k.0).todo) ≡ true =
              ap is_some (wake-first t (f.processors k.0).todo) ∙ some-first t (wakers (f.processors k.0).todo) (subst (λ n. 0 < n) (wake-times t (f.processors k.0).todo) k.2) in
              true≢false (sym (wake-told f m rel t few k.0 k.1 wakes) ∙ ap is_some none)

-- What the machine tells those that it wakes.

abbrev pub told_last : ℕ → List (ThreadIx × Told) → Option Told → Option Told
told_last t [] o = o
told_last t (w ∷ ws) o = told_last t ws (if w.0.0 == t then Some w.1 else o)

pub woken-told : (ws : List (ThreadIx × Told)) (s : State) (t : ℕ) → t < length s.threads → (thread_at (T.all_woken ws s) t).told ≡ told_last t ws (thread_at s t).told
woken-told [] s t few = refl
woken-told (w ∷ ws) s t few =
    let th = record (thread_at s w.0.0) { told = Some w.1 } in
    let long = set-long s.threads w.0.0 th in
    woken-told ws (with_thread s w.0.0 th) t (omega (arith, few, long)) ∙ ap (told_last t ws) (by (w.0.0 == t) refl)
  where
    by : (b : Bool) → (w.0.0 == t) ≡ b → (thread_at (with_thread s w.0.0 (record (thread_at s w.0.0) { told = Some w.1 })) t).told ≡ (if b then Some w.1 else (thread_at s t).told)
    by true e =
        let same = eqb-true w.0.0 t e in
        ap (λ n. (slice_index_or (slice_set s.threads w.0.0 (record (thread_at s w.0.0) { told = Some w.1 })) n nobody).told) (sym same)
        ∙ ap (λ (th : Thread). th.told) (at-here s.threads w.0.0 (record (thread_at s w.0.0) { told = Some w.1 }) (omega (arith, few, same)))
    by false e = ap (λ (th : Thread). th.told) (set-else s.threads w.0.0 t (record (thread_at s w.0.0) { told = Some w.1 }) (eqb-false w.0.0 t e))

none-last : (t : ℕ) (ws : List (ThreadIx × Told)) (o : Option Told) → told_times t (named ws) ≡ 0 → told_last t ws o ≡ o
none-last t [] o h = refl
none-last t (v ∷ vs) o h = which (v.0.0 == t) h (none-last t vs)
  where
    which : (b : Bool) → (if b then told_times t (named vs) + 1 else told_times t (named vs)) ≡ 0 → ((o : Option Told) → told_times t (named vs) ≡ 0 → told_last t vs o ≡ o)
        → told_last t vs (if b then Some v.1 else o) ≡ o
    which true h more = absurd (omega (arith, h))
    which false h more = more o h

-- who is woken at most once is told the same first and last
pub last-first : (t : ℕ) (ws : List (ThreadIx × Told)) (o : Option Told) → told_times t (named ws) ≤ 1 → told_last t ws o ≡ first_told (told_first t (named ws)) o
last-first t [] o few = refl
last-first t (w ∷ ws) o few = by (w.0.0 == t) few (last-first t ws)
  where
    by : (b : Bool) → (if b then told_times t (named ws) + 1 else told_times t (named ws)) ≤ 1
        → ((o : Option Told) → told_times t (named ws) ≤ 1 → told_last t ws o ≡ first_told (told_first t (named ws)) o)
        → told_last t ws (if b then Some w.1 else o) ≡ first_told (if b then Some w.1 else told_first t (named ws)) o
    by true h more = none-last t ws (Some w.1) (omega (arith, h))
    by false h more = more o h
