use Rattle.std.proofs.Common.{◌≡◌, ℕ, ◌+◌, ◌<◌, ◌≤◌, ◌++◌, length, List}
use Rattle.um_site.specs.Calls.{SameSeat}
use Rattle.um_site.specs.Cells.{AmongCells}
use Rattle.um_cell.specs.Contents.{SameView}
use Rattle.um_cell.proofs.cells.Cells.make.Given as goal

abbrev pub invariant-loop-last : goal.invariant-loop-last
invariant-loop-last g l = record {
  same : SameSeat l.initial.seat l.seat;
  view : SameView l.initial.seat.token.me.0 l.seat.token.me.0;
  slots : l.seat.token.me.1 ≡ l.initial.seat.token.me.1;
  left : (done : List g.row.T.Denot) × (l.initial.contents.items ≡ l.contents.items ++ done);
  filled : (i : ℕ) → l.first + length l.contents.items ≤ i → i < l.first + length l.initial.contents.items → AmongCells l.seat.token.me.0.filled i;
}

abbrev pub decreases-loop-last : goal.decreases-loop-last
decreases-loop-last g l = length l.contents.items
