-- A string whose first byte is the last one of the partitions' area, and whose second is the first one of the stacks'.
use Rattle.std.specs.Prelude.{◌≡◌, ℕ, List, [], ◌∷◌, ◌++◌, refl}
use Rattle.um_machine.specs.State.{State}
use Rattle.um_machine.specs.Memory.{string_bytes}

-- each byte comes from its own area
pub bytes_are : (s : State) (b : ℕ) (rest : List ℕ) → string_bytes (record s { stacks = b ∷ rest }) 0x2007ffff 2 ≡ string_bytes s 0x2007ffff 1 ++ b ∷ []
bytes_are s b rest = refl
