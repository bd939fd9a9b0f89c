use Rattle.std.proofs.Common.{◌≡◌, ◌++◌, replicate, vec_capacity}
use Rattle.um_machine.specs.State.{vacant}
use Rattle.um_matrix.proofs.object_table.fill.Given as goal

abbrev pub invariant-rows : goal.invariant-rows
invariant-rows l = record {
  items : l.rows.items ≡ l.fn.rows.items ++ replicate l.counter vacant;
  room : vec_capacity l.rows ≡ vec_capacity l.fn.rows;
}
