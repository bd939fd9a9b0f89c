use Rattle.std.proofs.Common.{◌≡◌, ◌+◌, ◌≤◌, ◌++◌, length, vec_len, vec_capacity}
use Rattle.um_trace.proofs.room.put_short.Given as goal

abbrev pub invariant-fours : goal.invariant-fours
invariant-fours l = record {
  items : l.room.items ++ l.left ≡ l.fn.room.items ++ l.piece;
  len : vec_len l.room + length l.left ≤ vec_len l.fn.room + length l.piece;
  capacity : vec_capacity l.fn.room ≤ vec_capacity l.room;
}

abbrev pub decreases-fours : goal.decreases-fours
decreases-fours l = length l.left
