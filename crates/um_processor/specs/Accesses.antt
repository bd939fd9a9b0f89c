-- How a thread goes on after an access to memory, which its region table allows or not.
use Rattle.std.specs.Prelude.{ℕ, Bool, if◌then◌else◌}
use Rattle.um_machine.specs.Goes.{Change, Next, Way, no_access}

-- after a load of this number into a register
abbrev pub loaded : Bool → ℕ → ℕ → Next
loaded allowed to value = Next.on (if allowed then Change.register to value else Change.nothing) (if allowed then Way.rest else no_access)
