use Rattle.std.proofs.Common.{◌≡◌, ℕ, List, drop}
use Rattle.um_description.specs.Spots.{or_else, spot_of, spot_in}
use Rattle.um_description.proofs.spots.spots_of.Given as goal

abbrev pub invariant-loop-partition : goal.invariant-loop-partition
invariant-loop-partition l = record {
  rest : (text : List ℕ) → or_else (spot_in l.spots text) (spot_of text l.index (drop l.partition-index l.partitions)) ≡ spot_of text 0 l.partitions;
  index : l.index ≡ l.partition-index;
}
