use Rattle.std.proofs.Common.{◌≡◌, map, take}
use Rattle.um_document.specs.declared.description.PartitionEntry.{PartitionEntry}
use Rattle.um_description.proofs.duplicates.partition_names.Given as goal

abbrev pub invariant-loop-partition : goal.invariant-loop-partition
invariant-loop-partition l = l.found.items ≡ map (λ (p : PartitionEntry). p.name) (take l.partition-index l.partitions)
