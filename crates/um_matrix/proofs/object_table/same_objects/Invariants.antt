use Rattle.std.proofs.Common.{◌≡◌, ◌<◌, ℕ, slice_index_or}
use Rattle.um_machine.specs.State.{vacant}
use Rattle.um_matrix.proofs.object_table.same_objects.Given as goal

abbrev pub invariant-loop-x : goal.invariant-loop-x
invariant-loop-x l = (j : ℕ) → j < l.x → slice_index_or l.a j vacant ≡ slice_index_or l.b j vacant
