use Rattle.std.proofs.Common.{◌≡◌, take, map, false, ◌&&◌, not, slice_index_or, List, Bool, length}
use Rattle.um_base.specs.declared.limits.TheConstants.{ROWS}
use Rattle.um_matrix.proofs.tables.moves.rows_to_pass.Given as goal

abbrev pub invariant-loop-x : goal.invariant-loop-x
invariant-loop-x l = record {
  so_far : take l.x l.rows ≡ map (λ (holders : List Bool). slice_index_or holders l.t false && not (slice_index_or holders l.who false)) (take l.x l.pairs);
  whole : length l.rows ≡ ROWS;
}
