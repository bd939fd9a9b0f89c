use Rattle.std.proofs.Common.{◌≡◌, drop}
use Rattle.um_machine.specs.Run.{loaded}
use Rattle.um_boot.proofs.opening_state.OpeningState.load_all.Given as goal

abbrev pub invariant-loop-partition : goal.invariant-loop-partition
invariant-loop-partition l = loaded (drop l.partition-index l.partitions) l.self ≡ loaded l.partitions l.fn.self
