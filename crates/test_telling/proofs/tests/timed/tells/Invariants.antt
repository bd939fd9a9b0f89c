use Rattle.std.proofs.Common.{◌≤◌, length}
use Rattle.test_telling.proofs.tests.timed.tells.Given as goal

-- an event at most in each round
abbrev pub invariant-loop : goal.invariant-loop
invariant-loop g l = length l.events.items ≤ l.counter
