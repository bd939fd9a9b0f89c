use Rattle.std.proofs.Common.{◌≡◌, take, map, false, slice_index_or, List, Bool, length}
use Rattle.um_base.specs.declared.limits.TheConstants.{ROWS}
use Rattle.um_matrix.proofs.tables.moves.rows_held.Given as goal

abbrev pub invariant-loop-x : goal.invariant-loop-x
invariant-loop-x l = record {
  so_far : take l.x l.rows ≡ map (λ (flags : List Bool). slice_index_or flags l.t false) (take l.x l.pairs);
  whole : length l.rows ≡ ROWS;
}
