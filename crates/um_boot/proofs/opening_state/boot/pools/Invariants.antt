use Rattle.std.proofs.Common.{◌≡◌, map, take}
use Rattle.um_base.specs.declared.image.Pool.{Pool}
use Rattle.um_boot.proofs.opening_state.boot.pools.Given as goal

abbrev pub invariant-loop-pool : goal.invariant-loop-pool
invariant-loop-pool l = l.all.items ≡ map (λ (p : Pool). p.size) (take l.pool-index l.pool-items)
