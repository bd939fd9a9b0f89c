use Rattle.std.proofs.Common.{◌≡◌, ◌++◌, take, drop}
use Rattle.um_machine.specs.Table.{with_dues}
use Rattle.um_matrix.proofs.tables.moves.settle.Given as goal

abbrev pub invariant-loop-t : goal.invariant-loop-t
invariant-loop-t l = take l.t l.threads ++ with_dues l.x l.t l.holders (drop l.t l.threads) ≡ with_dues l.x 0 l.holders l.fn.threads
