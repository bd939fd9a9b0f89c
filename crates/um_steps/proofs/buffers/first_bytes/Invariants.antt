use Rattle.std.proofs.Common.{◌≡◌, take, length}
use Rattle.um_steps.proofs.buffers.first_bytes.Given as goal

abbrev pub invariant-loop-i : goal.invariant-loop-i
invariant-loop-i l = record {
  so_far : l.piece ≡ take l.i l.front;
  count : length l.piece ≡ l.i;
}
