-- What a processor was told for the event that it makes next.
use Rattle.std.specs.Prelude.{◌≡◌, ℕ, Some}
use Rattle.um_base.specs.declared.names.Addr.{Addr}
use Rattle.um_machine.specs.State.{State, object_at}
use Rattle.um_machine.specs.Table.{domain_at, message_size, move_reply}
use Rattle.um_fine.specs.Addresses.{row_named}
use Rattle.um_refinement.specs.Fine.{Fine}
use Rattle.um_refinement.specs.Lists.{looked, moving}

-- the size of a queue's messages is that of the machine
abbrev pub IsSized : Fine → State → ℕ → Type 0
IsSized f m k = (a : Addr) → looked (f.processors k).todo ≡ Some a → (f.processors k).size ≡ message_size (object_at m (row_named f.image a)).contents

-- The size of a queue's messages, and what a move to a domain answers, are those of the machine.
pub record LooksAre (f : Fine) (m : State) (k : ℕ) : Type 0 where
  pub size : IsSized f m k
  pub reply : (d : ℕ) → moving (f.processors k).todo ≡ Some d → (f.processors k).reply ≡ move_reply (domain_at m d)
