-- A thread's own part lies in one place at most, so one that a processor runs, or that is still to be added, isn't parked; and whom a wake
-- on a list tells something, the machine has told something, and the scheduler hasn't yet.
use Rattle.um_refinement.proofs.Words.{◌≡◌, inl, inr, ℕ, zero, suc, ◌+◌, ◌<◌, ◌≤◌, Bool, true, false, List, [], ◌∷◌, Option, Some, None, refl, sym, ap, ◌∙◌, subst, arith, eq-eqb, ◌==◌, is_some, slice_index_or, slice_set, if◌then◌else◌, eqb-false, eqb-true, false≢true, Told, THREADS, State, thread_at, Context, Todo, Todos, parked_at, told_at, Fine, one_if, scheduler, Adds, adders, counted, is_wake, of_thread, wake_of, Rel, first_told, runs_on, told_by}
use Rattle.um_fine.specs.Joins.{asleep_at}
use Rattle.um_refinement.specs.Fine.{joins}
use Rattle.um_refinement.proofs.DomainFacts.{two-parts}
use Rattle.um_refinement.proofs.MemorySteps.{part-total}
use Rattle.um_refinement.proofs.Sums.{one-none}

-- nothing stands where nothing was written
pub set-none : {A : Type 0} (xs : List (Option A)) (t : ℕ) → slice_index_or (slice_set xs t None) t None ≡ None
set-none [] t = refl
set-none (x ∷ xs) zero = refl
set-none (x ∷ xs) (suc t) = set-none xs t

first-some : (a b : Option Told) → is_some a ≡ true → is_some (first_told a b) ≡ true
first-some None b h = absurd (false≢true h)
first-some (Some w) b h = refl

second-some : (a b : Option Told) → is_some b ≡ true → is_some (first_told a b) ≡ true
second-some None b h = h
second-some (Some w) b h = refl

-- a step that adds a thread is one of its adders
pub adds-count : (c : Context) (todo : Todos) → Adds c todo → 0 < of_thread c.thread (adders todo)
adds-count c [] h = absurd h
adds-count c (Todo.show q rest ∷ todo) h = absurd h
adds-count c (Todo.add d ∷ todo) (inl e) =
    let one = ap (λ b. if b then of_thread c.thread (adders todo) + 1 else of_thread c.thread (adders todo)) (eq-eqb d.thread c.thread (ap (λ (z : Context). z.thread) (sym e))) in omega (arith, one)
adds-count c (Todo.add d ∷ todo) (inr h) = by (d.thread == c.thread) (adds-count c todo h)
  where
    by : (b : Bool) → 0 < of_thread c.thread (adders todo) → 0 < (if b then of_thread c.thread (adders todo) + 1 else of_thread c.thread (adders todo))
    by true some = omega arith
    by false some = some
adds-count c (q ∷ todo) h = adds-count c todo h

module _ (f : Fine) (m : State) (rel : Rel f m) (t : ℕ) (few : t < THREADS) where
  -- whether it lies with a processor
  abbrev pub part : ℕ → ℕ
  part k = one_if (runs_on t (f.processors k)) + of_thread t (adders (f.processors k).todo)

  pub running-unparked : (k : ℕ) → k < f.cpus → runs_on t (f.processors k) ≡ true → is_some (parked_at (scheduler f) t) ≡ false
  running-unparked k l runs =
      let sum = part-total part f.cpus k l in
      let one : one_if (runs_on t (f.processors k)) ≡ 1 = ap one_if runs in
      let once = rel.contexts.once t few in
      one-none (is_some (parked_at (scheduler f) t)) (omega (arith, sum, one, once))

  pub added-unparked : (k : ℕ) → k < f.cpus → 0 < of_thread t (adders (f.processors k).todo) → is_some (parked_at (scheduler f) t) ≡ false
  added-unparked k l some =
      let sum = part-total part f.cpus k l in
      let once = rel.contexts.once t few in
      one-none (is_some (parked_at (scheduler f) t)) (omega (arith, sum, some, once))

  pub lies-unparked : (k : ℕ) → k < f.cpus → 0 < part k → is_some (parked_at (scheduler f) t) ≡ false
  lies-unparked k l some =
      let sum = part-total part f.cpus k l in
      let once = rel.contexts.once t few in
      one-none (is_some (parked_at (scheduler f) t)) (omega (arith, sum, some, once))

  -- nor asleep
  pub lies-unslept : (k : ℕ) → k < f.cpus → 0 < part k → is_some (asleep_at (joins f) t) ≡ false
  lies-unslept k l some =
      let sum = part-total part f.cpus k l in
      let once = rel.contexts.once t few in
      one-none (is_some (asleep_at (joins f) t)) (omega (arith, sum, some, once))

  pub parked-unslept : is_some (parked_at (scheduler f) t) ≡ true → is_some (asleep_at (joins f) t) ≡ false
  parked-unslept there =
      let one : one_if (is_some (parked_at (scheduler f) t)) ≡ 1 = ap one_if there in
      let once = rel.contexts.once t few in
      one-none (is_some (asleep_at (joins f) t)) (omega (arith, one, once))

  -- not with two
  pub lies-once : (k j : ℕ) → k < f.cpus → j < f.cpus → (k ≡ j → ⊥) → 0 < part k → 0 < part j → ⊥
  lies-once k j l r apart some other =
      let sum = two-parts part f.cpus k j l r apart in
      let once = rel.contexts.once t few in
      omega (arith, sum, some, other, once)

  -- nor in two places of one
  pub lies-here : (k : ℕ) → k < f.cpus → part k ≤ 1
  lies-here k l =
      let sum = part-total part f.cpus k l in
      let once = rel.contexts.once t few in
      omega (arith, sum, once)

  -- a wake on a list is one that the machine has made
  wakes-tell : (n k : ℕ) → k < n → is_some (wake_of t (f.processors k).todo) ≡ true → is_some (told_by f t n) ≡ true
  wakes-tell zero k l h = absurd (omega (arith, l))
  wakes-tell (suc n) k l h = by (k == n) refl (wakes-tell n k)
    where
      by : (b : Bool) → (k == n) ≡ b → (k < n → is_some (wake_of t (f.processors k).todo) ≡ true → is_some (told_by f t n) ≡ true) → is_some (told_by f t (suc n)) ≡ true
      by true e more =
          first-some (wake_of t (f.processors n).todo) (told_by f t n) (subst (λ j. is_some (wake_of t (f.processors j).todo) ≡ true) (eqb-true k n e) h)
      by false e more =
          let apart = eqb-false k n e in
          second-some (wake_of t (f.processors n).todo) (told_by f t n) (more (below apart) h)
        where
          below : (k ≡ n → ⊥) → k < n
          below apart = omega (arith, l, apart)

  pub wake-told : (k : ℕ) → k < f.cpus → is_some (wake_of t (f.processors k).todo) ≡ true → is_some (thread_at m t).told ≡ true
  wake-told k l h = ap is_some (rel.threads t few).told.told ∙ wakes-tell f.cpus k l h

  pub wake-untold : (k : ℕ) → k < f.cpus → 0 < counted (is_wake t) (f.processors k).todo → is_some (told_at (scheduler f) t) ≡ false
  wake-untold k l some =
      let sum = part-total (λ j. counted (is_wake t) (f.processors j).todo) f.cpus k l in
      let once = (rel.threads t few).told.once in
      one-none (is_some (told_at (scheduler f) t)) (omega (arith, sum, some, once))
