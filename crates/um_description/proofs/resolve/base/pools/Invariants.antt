use Rattle.std.proofs.Common.{◌≡◌, map, take}
use Rattle.um_description.specs.Resolve.{pool_of}
use Rattle.um_description.proofs.resolve.base.pools.Given as goal

abbrev pub invariant-loop-entry : goal.invariant-loop-entry
invariant-loop-entry l = l.all ≡ map pool_of (take l.entry-index l.entries)
