use Rattle.std.proofs.Common.{◌≡◌, map, take, All}
use Rattle.um_description.specs.InLimits.{IsSize}
use Rattle.um_description.specs.Packing.{asked_size}
use Rattle.um_description.proofs.resolve.ranges.asked_partitions.Given as goal

abbrev pub invariant-loop-entry : goal.invariant-loop-entry
invariant-loop-entry l = record {
  items : l.sizes.items ≡ map asked_size (take l.entry-index l.d.partitions);
  asked : All IsSize l.sizes.items;
}
