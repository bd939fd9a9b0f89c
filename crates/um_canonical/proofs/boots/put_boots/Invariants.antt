use Rattle.std.proofs.Common.{◌≡◌, ◌++◌, take}
use Rattle.std.specs.List.{flat_map}
use Rattle.um_canonical.specs.Tables.{boot_by}
use Rattle.um_canonical.proofs.boots.put_boots.Given as goal

abbrev pub invariant-loop-boot : goal.invariant-loop-boot
invariant-loop-boot l = l.text.items ≡ l.fn.text.items ++ flat_map (boot_by l.names) (take l.boot-index l.boots)
