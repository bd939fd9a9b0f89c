use Rattle.std.proofs.Common.{◌≡◌, map, take, slice_get, ℕ}
use Rattle.um_machine.specs.Domains.{part_at}
use Rattle.um_boot.proofs.opening_state.boot.parts_numbered.Given as goal

abbrev pub invariant-loop-i : goal.invariant-loop-i
invariant-loop-i l = l.parts ≡ map (λ (i : ℕ). part_at (slice_get l.image.partitions i)) (take l.i-index l.numbers)
