use Rattle.std.proofs.Common.{◌≡◌, ◌++◌, true, drop}
use Rattle.um_canonical.specs.Entries.{names_at}
use Rattle.um_canonical.specs.Printed.{items_text}
use Rattle.um_canonical.proofs.domains.put_names.Given as goal

abbrev pub invariant-loop-number : goal.invariant-loop-number
invariant-loop-number l = l.text.items ++ items_text l.is_first (names_at l.partitions (drop l.number-index l.numbers)) ≡ l.fn.text.items ++ items_text true (names_at l.partitions l.numbers)
