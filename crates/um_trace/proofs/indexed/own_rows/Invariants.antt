use Rattle.std.proofs.Common.{◌≡◌, length}
use Rattle.um_trace.specs.Rows.{OwnRows}
use Rattle.um_trace.proofs.indexed.own_rows.Given as goal

abbrev pub invariant-loop-t : goal.invariant-loop-t
invariant-loop-t l = record { rows : OwnRows l.image l.found l.t; size : length l.found ≡ 32 }
