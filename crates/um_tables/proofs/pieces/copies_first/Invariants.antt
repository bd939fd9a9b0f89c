use Rattle.std.proofs.Common.{◌≡◌, take, length}
use Rattle.um_tables.proofs.pieces.copies_first.Given as goal

abbrev pub invariant-loop-i : goal.invariant-loop-i
invariant-loop-i l = record {
  so_far : l.to ≡ take l.i l.front;
  count : length l.to ≡ l.i;
}
