use Rattle.std.proofs.Common.{◌≡◌, map, take}
use Rattle.um_document.specs.declared.description.PartitionEntry.{PartitionEntry}
use Rattle.um_description.specs.Resolve.{number_named}
use Rattle.um_description.proofs.resolve.domains.numbers.Given as goal

abbrev pub invariant-loop-text : goal.invariant-loop-text
invariant-loop-text l = l.all ≡ map (number_named (map (λ (p : PartitionEntry). p.name) l.partitions)) (take l.text-index l.texts)
