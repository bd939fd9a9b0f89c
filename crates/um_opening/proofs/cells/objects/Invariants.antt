use Rattle.std.proofs.Common.{◌≡◌, length}
use Rattle.um_opening.proofs.Lists.{AreOpenTo}
use Rattle.um_opening.proofs.cells.objects.Given as goal

abbrev pub invariant-loop-x : goal.invariant-loop-x
invariant-loop-x l = record {
  open_to : AreOpenTo l.image.boots l.image.objects l.x l.cells;
  all : length l.cells ≡ 128;
}
