use Rattle.std.proofs.Common.{◌≡◌, ◌++◌, drop}
use Rattle.um_canonical.specs.Pieces.{partitions_text}
use Rattle.um_canonical.proofs.partitions.put_partitions.Given as goal

abbrev pub invariant-loop-partition : goal.invariant-loop-partition
invariant-loop-partition l = l.text.items ++ partitions_text l.left (drop l.partition-index l.partitions) ≡ l.fn.text.items ++ partitions_text l.numbers l.partitions
