use Rattle.std.proofs.Common.{take}
use Rattle.um_machine.specs.Run.{Runs}
use Rattle.um_matrix.proofs.matrix.Matrix.judge.Given as goal

abbrev pub invariant-loop-k : goal.invariant-loop-k
invariant-loop-k l = Runs l.initial.self (take l.k l.events) l.self
