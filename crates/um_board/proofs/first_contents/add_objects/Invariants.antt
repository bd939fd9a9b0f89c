use Rattle.std.specs.Prelude.{◌≡◌, length}
use Rattle.um_board.specs.Opening.{AreFirst}
use Rattle.um_board.proofs.FirstCells.{AreObjectsFrom}
use Rattle.um_board.proofs.first_contents.add_objects.Given as goal

abbrev pub invariant-loop-x : goal.invariant-loop-x
invariant-loop-x l = record {
  left : AreObjectsFrom l.image l.x l.objects;
  first : AreFirst l.image l.all.items;
  long : length l.all.items ≡ l.x;
}
