use Rattle.std.proofs.Common.{◌≡◌, map, take}
use Rattle.um_description.specs.Lines.{bracket_at}
use Rattle.um_description.proofs.blocks.brackets.Given as goal

abbrev pub invariant-loop-line : goal.invariant-loop-line
invariant-loop-line l = l.found.items ≡ map bracket_at (take l.line-index l.lines)
