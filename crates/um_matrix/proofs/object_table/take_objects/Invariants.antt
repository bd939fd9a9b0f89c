use Rattle.std.proofs.Common.{◌≡◌, ◌<◌, ◌-◌, ◌+◌, ℕ, length, slice_index_or, vec_capacity}
use Rattle.um_machine.specs.State.{vacant}
use Rattle.um_matrix.proofs.object_table.take_objects.Given as goal

abbrev pub invariant-loop-x : goal.invariant-loop-x
invariant-loop-x l = record {
  long : length l.own.items ≡ length l.fn.own.items + (length l.other - length l.fn.own.items);
  same : (j : ℕ) → j < l.x → slice_index_or l.own.items j vacant ≡ slice_index_or l.other j vacant;
  room : vec_capacity l.own ≡ vec_capacity l.fn.own;
}
