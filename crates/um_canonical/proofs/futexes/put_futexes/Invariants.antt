use Rattle.std.proofs.Common.{◌≡◌, ◌++◌, take}
use Rattle.std.specs.List.{flat_map}
use Rattle.um_canonical.specs.Pieces.{futex_text}
use Rattle.um_canonical.proofs.futexes.put_futexes.Given as goal

abbrev pub invariant-loop-futex : goal.invariant-loop-futex
invariant-loop-futex l = l.text.items ≡ l.fn.text.items ++ flat_map (futex_text l.partitions) (take l.futex-index l.futexes)
