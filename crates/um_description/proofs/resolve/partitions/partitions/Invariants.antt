use Rattle.std.proofs.Common.{◌≡◌, ◌++◌, drop, length}
use Rattle.um_description.specs.Resolve.{placed_partitions}
use Rattle.um_description.proofs.resolve.partitions.partitions.Given as goal

abbrev pub invariant-loop-i : goal.invariant-loop-i
invariant-loop-i l = record {
  whole : l.all ++ placed_partitions (drop l.i l.ranges) (drop l.i l.entries) ≡ placed_partitions l.ranges l.entries;
  count : length l.all ≡ l.i;
}
