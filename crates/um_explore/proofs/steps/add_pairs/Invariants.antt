use Rattle.std.proofs.Common.{ℕ, ◌<◌}
use Rattle.um_base.specs.declared.names.ThreadIx.{ThreadIx}
use Rattle.um_explore.specs.Steps.{GoesOn, HasPair}
use Rattle.um_explore.proofs.steps.add_pairs.Given as goal

abbrev pub invariant-loop-x : goal.invariant-loop-x
invariant-loop-x l = record {
  goes : GoesOn l.tables l.fn.events.items l.events.items;
  has : (x : ℕ) → x < l.x → (who : ThreadIx) → HasPair l.tables l.t l.events.items who x;
}
