use Rattle.std.proofs.Common.{◌≡◌, drop}
use Rattle.um_document.specs.First.{first_of}
use Rattle.um_description.specs.Duplicates.{SameTexts, partitions_again, added}
use Rattle.um_description.specs.Names.{names_within}
use Rattle.um_description.proofs.duplicates.partitions_again.Given as goal

abbrev pub invariant-loop-partition : goal.invariant-loop-partition
invariant-loop-partition l = record {
  rest : first_of (partitions_again l.seen l.index (drop l.partition-index l.partitions)) ≡ first_of (partitions_again l.fn.seen 0 l.partitions);
  all : SameTexts (added l.seen (names_within (drop l.partition-index l.partitions))) (added l.fn.seen (names_within l.partitions));
  index : l.index ≡ l.partition-index;
}
