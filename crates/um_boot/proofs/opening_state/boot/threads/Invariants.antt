use Rattle.std.proofs.Common.{◌≡◌, replicate}
use Rattle.um_machine.specs.State.{nobody}
use Rattle.um_boot.proofs.opening_state.boot.threads.Given as goal

abbrev pub invariant-loop : goal.invariant-loop
invariant-loop l = l.all.items ≡ replicate l.counter nobody
