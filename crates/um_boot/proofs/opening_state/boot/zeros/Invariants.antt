use Rattle.std.proofs.Common.{◌≡◌, ◌*◌, ℕ, replicate}
use Rattle.um_boot.specs.declared.opening_state.boot.TheConstants.{PAGE}
use Rattle.um_boot.proofs.opening_state.boot.zeros.Given as goal

abbrev pub invariant-loop : goal.invariant-loop
invariant-loop l = l.bytes.items ≡ replicate {A = ℕ} (PAGE * l.counter) 0
