use Rattle.std.proofs.Common.{◌≡◌, take, vec_capacity}
use Rattle.um_matrix.proofs.clock.refill.Given as goal

abbrev pub invariant-loop-number : goal.invariant-loop-number
invariant-loop-number l = record {
  items : l.list.items ≡ take l.number-index l.numbers;
  room : vec_capacity l.list ≡ vec_capacity l.fn.list;
}
