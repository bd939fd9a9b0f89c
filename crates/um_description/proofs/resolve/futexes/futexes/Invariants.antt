use Rattle.std.proofs.Common.{◌≡◌, map, take}
use Rattle.um_document.specs.declared.description.PartitionEntry.{PartitionEntry}
use Rattle.um_description.specs.Resolve.{futex_of}
use Rattle.um_description.proofs.resolve.futexes.futexes.Given as goal

abbrev pub invariant-loop-entry : goal.invariant-loop-entry
invariant-loop-entry l = l.all ≡ map (futex_of (map (λ (p : PartitionEntry). p.name) l.partitions)) (take l.entry-index l.entries)
