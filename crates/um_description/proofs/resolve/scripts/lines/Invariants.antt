use Rattle.std.proofs.Common.{◌≡◌, ◌≤◌, take, length}
use Rattle.std.specs.List.{flat_map}
use Rattle.um_description.specs.Resolve.{read_line}
use Rattle.um_description.proofs.resolve.scripts.lines.Given as goal

abbrev pub invariant-loop-line : goal.invariant-loop-line
invariant-loop-line l = record {
  items : l.all ≡ flat_map (read_line l.image l.d) (take l.line-index l.read);
  few : length l.all ≤ l.line-index;
}
