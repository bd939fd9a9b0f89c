-- What a processor that can't step waits for.
use Rattle.std.specs.Prelude.{◌≡◌, ℕ, ◌<◌, ◌⊎◌, true, [], ◌∷◌, Option, None}
use Rattle.um_base.specs.declared.names.ThreadIx.{ThreadIx}
use Rattle.um_machine.specs.declared.pending.Pending.{Pending}
use Rattle.um_machine.specs.Order.{Steps}
use Rattle.um_fine.specs.Asks.{claimed_domain}
use Rattle.um_fine.specs.Clock.{first_due, later}
use Rattle.um_fine.specs.Places.{Todo, Todos}
use Rattle.um_refinement.specs.Fine.{Fine, clock, domain, scheduler, word}

-- It has no thread, none is ready, no mark is due, and no deadline is to come; it moves a thread that another one holds; or it claims a domain: to read it, where someone writes it, or to write it, where someone
-- writes or reads it.
pub data WaitsFor (f : Fine) (k : ℕ) : Type 0 where
  ready_thread : (f.processors k).todo ≡ [] → (scheduler f).ready ≡ [] → first_due (clock f).now (clock f).marks ≡ None → later (clock f) ≡ None
      → WaitsFor f k
  held_thread : (d : ℕ) (who : ThreadIx) (rest : Steps) (todo : Todos) → (f.processors k).todo ≡ Todo.show (Pending.DomMove d who) rest ∷ todo
      → (word f who.0).held ≡ true → WaitsFor f k
  writer : (which : Option ℕ) (todo : Todos) → (f.processors k).todo ≡ Todo.read_claim which ∷ todo
      → (domain f (claimed_domain f.image (f.processors k) which)).writer ≡ true → WaitsFor f k
  readers : (d : ℕ) (todo : Todos) → (f.processors k).todo ≡ Todo.write_claim d ∷ todo
      → ((domain f d).writer ≡ true) ⊎ (0 < (domain f d).readers) → WaitsFor f k
