-- When processors have nothing left to do, and what is known of priorities.
use Rattle.std.specs.Prelude.{◌≡◌, ℕ, ℤ, ◌<◌, [], IsTrue}
use Rattle.um_machine.specs.State.{State, is_started, thread_at}
use Rattle.um_refinement.specs.Fine.{Fine}
use Rattle.um_refinement.specs.Lists.{adders, of_thread}

-- no processor has still to add this thread
abbrev pub IsAdded : Fine → ℕ → Type 0
IsAdded f t = (k : ℕ) → k < f.cpus → of_thread t (adders (f.processors k).todo) ≡ 0

-- no processor has a step left, and so none has a thread
abbrev pub AreIdle : Fine → Type 0
AreIdle f = (k : ℕ) → k < f.cpus → (f.processors k).todo ≡ []

-- these are the priorities of the threads that were started
abbrev pub KnowsPriorities : State → (ℕ → ℤ) → Type 0
KnowsPriorities s priorities = (t : ℕ) → IsTrue (is_started (thread_at s t).life) → priorities t ≡ (thread_at s t).priority
