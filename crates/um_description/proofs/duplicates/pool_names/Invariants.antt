use Rattle.std.proofs.Common.{◌≡◌, map, take}
use Rattle.um_document.specs.declared.description.PoolEntry.{PoolEntry}
use Rattle.um_description.proofs.duplicates.pool_names.Given as goal

abbrev pub invariant-loop-pool : goal.invariant-loop-pool
invariant-loop-pool l = l.found.items ≡ map (λ (p : PoolEntry). p.name) (take l.pool-index l.pools)
