-- What a processor has to do before its thread's next step: clean objects, end claims, wake threads.
use Rattle.std.specs.Prelude.{◌≡◌, ℕ, false, List, [], ◌∷◌, ◌++◌, drop}
use Rattle.um_base.specs.declared.ask.Told.{Told}
use Rattle.um_base.specs.declared.names.ThreadIx.{ThreadIx}
use Rattle.um_fine.specs.Follows.{end_calls, wakes}
use Rattle.um_fine.specs.Places.{Todo, Todos}
use Rattle.um_fine.specs.Processor.{Processor}
use Rattle.um_processor.specs.declared.processor.Processor.{Processor as Kept}
use Rattle.um_processor.specs.Phases.{is_idle}
use Rattle.um_processor.specs.Processors.{processor_of}

-- put before the steps of a processor with a thread; one without a thread has no steps
abbrev pub before : Todos → List ℕ → List (ThreadIx × Told) → Todos → Todos
before cleans ends woken [] = []
before cleans ends woken (q ∷ todo) = cleans ++ end_calls ends (wakes woken (q ∷ todo))

abbrev pub standing : Todos → List ℕ → List (ThreadIx × Told) → Processor → Processor
standing cleans ends woken p = record p { todo = before cleans ends woken p.todo }

abbrev pub whole : Kept → Processor
whole p = standing p.cleans p.ends.items (drop p.told p.outcome.woken) (processor_of p.running)

-- with a thread, this step of cleaning is the first
pub record CleansNext (p : Kept) (q : Todo) : Type 0 where
  pub runs : is_idle p.running.phase ≡ false
  pub first : p.cleans ≡ q ∷ drop 1 p.cleans

-- nothing stands before
pub record IsClear (p : Kept) : Type 0 where
  pub cleans : p.cleans ≡ []
  pub ends : p.ends.items ≡ []
  pub woken : drop p.told p.outcome.woken ≡ []
