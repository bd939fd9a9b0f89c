use Rattle.std.proofs.Common.{◌≤◌, ◌+◌, length, vec_capacity}
use Rattle.std.specs.Prelude.{reverse}
use Rattle.um_cpu.proofs.Gathers.{AreGathering}
use Rattle.um_cpu.proofs.run.gather.Given as goal

-- the first of the processors that are left has taken in the others
abbrev pub invariant-loop-cpus : goal.invariant-loop-cpus
invariant-loop-cpus l =
    record {
      gathering : AreGathering l.image l.board.table.shared.table_id (length l.initial.cpus.items) l.cpus.items (reverse l.logs.items);
      room : length l.cpus.items + length l.logs.items ≤ vec_capacity l.logs;
    }

abbrev pub decreases-loop-cpus : goal.decreases-loop-cpus
decreases-loop-cpus l = length l.cpus.items
