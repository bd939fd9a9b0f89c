use Rattle.std.proofs.Common.{◌≡◌, map, take}
use Rattle.um_description.specs.Names.{partition_names}
use Rattle.um_description.specs.Resolve.{part_of}
use Rattle.um_description.proofs.resolve.lines.part_refs.Given as goal

abbrev pub invariant-loop-part : goal.invariant-loop-part
invariant-loop-part l = l.all ≡ map (part_of (partition_names l.d)) (take l.part-index l.parts)
