use Rattle.std.proofs.Common.{◌≡◌, ◌++◌, true, drop}
use Rattle.um_canonical.specs.Tables.{shown_lines}
use Rattle.um_canonical.specs.Printed.{items_text}
use Rattle.um_canonical.proofs.scripts.put_lines.Given as goal

abbrev pub invariant-loop-line : goal.invariant-loop-line
invariant-loop-line l = l.text.items ++ items_text l.is_first (shown_lines l.names (drop l.line-index l.lines)) ≡ l.fn.text.items ++ items_text true (shown_lines l.names l.lines)
