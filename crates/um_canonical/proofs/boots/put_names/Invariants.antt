use Rattle.std.proofs.Common.{◌≡◌, ◌++◌, true, drop}
use Rattle.um_canonical.specs.Entries.{row_names}
use Rattle.um_canonical.specs.Printed.{items_text}
use Rattle.um_canonical.proofs.boots.put_names.Given as goal

abbrev pub invariant-loop-row : goal.invariant-loop-row
invariant-loop-row l = l.text.items ++ items_text l.is_first (row_names l.objects (drop l.row-index l.rows)) ≡ l.fn.text.items ++ items_text true (row_names l.objects l.rows)
