use Rattle.std.proofs.Common.{◌≡◌, ◌≤◌, length, vec_capacity}
use Rattle.um_cpu.specs.Ended.{Begins, EachAt}
use Rattle.um_cpu.proofs.seats.seats.Given as goal

-- this many processors have their seats
abbrev pub invariant-loop-number : goal.invariant-loop-number
invariant-loop-number l =
    record {
      some : 1 ≤ l.number;
      count : length l.all.items ≡ l.number;
      room : l.cpus ≤ vec_capacity l.all;
      begins : EachAt (Begins l.image l.board.table.shared.table_id l.number) l.all.items;
    }
