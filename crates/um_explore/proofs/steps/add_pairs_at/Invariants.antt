use Rattle.std.proofs.Common.{ℕ, ◌<◌}
use Rattle.um_machine.specs.Order.{to_thread}
use Rattle.um_explore.specs.Steps.{GoesOn, HasPair}
use Rattle.um_explore.proofs.steps.add_pairs_at.Given as goal

abbrev pub invariant-loop-who : goal.invariant-loop-who
invariant-loop-who l = record {
  goes : GoesOn l.tables l.fn.events.items l.events.items;
  has : (who : ℕ) → who < l.who → HasPair l.tables l.t l.events.items (to_thread who) l.x;
}
