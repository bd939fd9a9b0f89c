use Rattle.std.proofs.Common.{◌≡◌, drop}
use Rattle.um_machine.specs.Objects.{any_holds}
use Rattle.um_matrix.proofs.tables.checks.any_holds.Given as goal

abbrev pub invariant-loop-t : goal.invariant-loop-t
invariant-loop-t l = any_holds l.image l.x 0 l.threads ≡ any_holds l.image l.x l.t (drop l.t l.threads)
