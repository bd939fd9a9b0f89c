use Rattle.std.proofs.Common.{◌≡◌, ℕ, ◌<◌, length}
use Rattle.um_core.specs.CoreSteps.{Halts}
use Rattle.um_core.specs.PickedRun.{behind}
use Rattle.um_core.proofs.processors.Core.next.Given as goal

abbrev pub invariant-loop-n : goal.invariant-loop-n
invariant-loop-n l = record {
  same : l.self ≡ l.initial.self;
  halts : (m : ℕ) → m < l.n → Halts l.image l.initial.self (behind (length l.initial.self.processors) l.first m);
}
