use Rattle.std.proofs.Common.{◌≡◌, drop}
use Rattle.um_description.specs.Limits.{size_named}
use Rattle.um_description.proofs.limits.size_named.Given as goal

abbrev pub invariant-loop-partition : goal.invariant-loop-partition
invariant-loop-partition l = size_named l.text l.partitions ≡ size_named l.text (drop l.partition-index l.partitions)
