use Rattle.std.proofs.Common.{◌≡◌, ◌≤◌, length, take, vec_capacity}
use Rattle.um_matrix.proofs.tables.same.copy_numbers.Given as goal

abbrev pub invariant-loop-number : goal.invariant-loop-number
invariant-loop-number l = record {
  items : l.copy.items ≡ take l.number-index l.numbers;
  room : length l.numbers ≤ vec_capacity l.copy;
}
