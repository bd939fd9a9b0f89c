use Rattle.std.proofs.Common.{◌≡◌, drop}
use Rattle.um_description.specs.Resolve.{start_named}
use Rattle.um_description.proofs.resolve.lines.start_named.Given as goal

abbrev pub invariant-loop-p : goal.invariant-loop-p
invariant-loop-p l = start_named l.name l.other l.partitions ≡ start_named l.name l.other (drop l.p-index l.partitions)
