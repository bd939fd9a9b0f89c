use Rattle.std.proofs.Common.{◌≡◌, ◌≤◌, ◌++◌, drop, length, vec_capacity}
use Rattle.um_machine.specs.Run.{objects_from}
use Rattle.um_matrix.proofs.object_table.statics.Given as goal

abbrev pub invariant-loop-x : goal.invariant-loop-x
invariant-loop-x l = record {
  whole : l.all.items ++ objects_from l.image.boots l.x (drop l.x l.image.objects) ≡ objects_from l.image.boots 0 l.image.objects;
  count : length l.all.items ≡ l.x;
  room : 96 ≤ vec_capacity l.all;
}
