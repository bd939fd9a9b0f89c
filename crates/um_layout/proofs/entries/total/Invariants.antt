use Rattle.std.proofs.Common.{◌≡◌, ◌*◌, ◌≤◌, take}
use Rattle.um_layout.specs.Sizes.{needed}
use Rattle.um_layout.proofs.entries.total.Given as goal

abbrev pub invariant-loop-size : goal.invariant-loop-size
invariant-loop-size l = (l.bytes ≡ needed l.mpu (take l.size-index l.sizes)) × (l.bytes ≤ l.size-index * 65536)
