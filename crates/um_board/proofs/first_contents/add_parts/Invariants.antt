use Rattle.std.specs.Prelude.{◌≡◌, ◌+◌, ◌++◌, length}
use Rattle.std.specs.Vec.Iter.{into_iter_items}
use Rattle.um_base.specs.declared.limits.TheConstants.{ROWS}
use Rattle.um_board.specs.Opening.{AreFirst}
use Rattle.um_board.proofs.first_contents.add_parts.Given as goal

abbrev pub invariant-loop-cell : goal.invariant-loop-cell
invariant-loop-cell l = record {
  split : l.fn.cells.items ≡ l.yielded ++ into_iter_items l.cell-iterator;
  first : AreFirst l.image l.all.items;
  long : length l.all.items ≡ ROWS + length l.yielded;
}
