use Rattle.std.proofs.Common.{◌≡◌, length}
use Rattle.um_description.proofs.resolve.ranges.nowhere.Given as goal

abbrev pub invariant-loop : goal.invariant-loop
invariant-loop l = length l.ranges.items ≡ l.counter
