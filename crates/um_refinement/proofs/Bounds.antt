-- What bounds processors and sites of a fine run beside the relation.
use Rattle.um_refinement.proofs.Words.{nat_lt, list_all, THREADS, Context, parked_at, Fine, scheduler, word, Adds, counted, is_end_call, runs}
use Rattle.std.specs.Prelude.{◌≡◌, ℕ, ◌<◌, ◌≤◌, true, false, Some}
use Rattle.um_fine.specs.Joins.{asleep_at}
use Rattle.um_refinement.specs.Fine.{joins}
use Rattle.um_refinement.specs.Threads.{cutters}
use Rattle.um_refinement.proofs.CallBoundsKept.{IsBounded}
use Rattle.um_refinement.proofs.ListSingles.{AreSingle}
use Rattle.um_refinement.proofs.ListWakes.{Wakes, wakers}

-- those that are woken are threads
abbrev pub AreThreads : Wakes → Type 0
AreThreads ws = list_all (λ w. nat_lt w.0 THREADS) ws ≡ true

-- the ready list names thread indices
abbrev pub ReadyThreads : Fine → Type 0
ReadyThreads f = list_all (λ t. nat_lt t THREADS) (scheduler f).ready ≡ true

-- Each list shows single steps alone, has the ends of two claims of a row at most, and wakes threads; own parts keep within the bounds of
-- calls; no thread beyond the last index is held or was cut, and the ready list names thread indices.
pub record AreBounded (f : Fine) : Type 0 where
  pub single : (k : ℕ) → k < f.cpus → AreSingle (f.processors k).todo
  pub ends : (k x : ℕ) → k < f.cpus → counted (is_end_call x) (f.processors k).todo ≤ 2
  pub wakes : (k : ℕ) → k < f.cpus → AreThreads (wakers (f.processors k).todo)
  pub running : (k : ℕ) → k < f.cpus → runs (f.processors k) ≡ true → IsBounded f.image (f.processors k).context
  pub parked : (t : ℕ) (c : Context) → parked_at (scheduler f) t ≡ Some c → IsBounded f.image c
  pub asleep : (t : ℕ) (c : Context) → asleep_at (joins f) t ≡ Some c → IsBounded f.image c
  pub added : (k : ℕ) (c : Context) → k < f.cpus → Adds c (f.processors k).todo → IsBounded f.image c
  pub uncut : (t : ℕ) → nat_lt t THREADS ≡ false → cutters f t ≡ 0
  pub inside : (t : ℕ) → nat_lt t THREADS ≡ false → (word f t).held ≡ false
  pub ready : ReadyThreads f
