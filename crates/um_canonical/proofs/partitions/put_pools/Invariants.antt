use Rattle.std.proofs.Common.{◌≡◌, ◌++◌, take}
use Rattle.std.specs.List.{flat_map}
use Rattle.um_canonical.specs.Pieces.{pool_text}
use Rattle.um_canonical.proofs.partitions.put_pools.Given as goal

abbrev pub invariant-loop-pool : goal.invariant-loop-pool
invariant-loop-pool l = l.text.items ≡ l.fn.text.items ++ flat_map pool_text (take l.pool-index l.pools)
