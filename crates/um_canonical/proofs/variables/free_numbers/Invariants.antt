use Rattle.std.proofs.Common.{◌≡◌, ◌+◌, ◌-◌, ◌++◌, length}
use Rattle.um_canonical.specs.Fresh.{free_numbers}
use Rattle.um_canonical.proofs.FreeNumbers.{wanted}
use Rattle.um_canonical.proofs.variables.free_numbers.Given as goal

abbrev pub invariant-loop-number : goal.invariant-loop-number
invariant-loop-number l = l.numbers.items ++ wanted l.taken l.count l.numbers.items l.number (l.count + length l.taken - l.number) ≡ free_numbers l.taken l.count
