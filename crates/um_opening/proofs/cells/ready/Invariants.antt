use Rattle.std.proofs.Common.{◌≡◌, map, take}
use Rattle.um_fine.specs.Opening.{boot_index}
use Rattle.um_opening.proofs.cells.ready.Given as goal

abbrev pub invariant-loop-boot : goal.invariant-loop-boot
invariant-loop-boot l = l.ready.items ≡ map (boot_index l.state) (take l.boot-index l.boot-items)
