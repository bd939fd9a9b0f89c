use Rattle.std.proofs.Common.{◌≡◌, ◌+◌, ◌-◌}
use Rattle.um_machine.specs.Memory.{string_from}
use Rattle.um_matrix.proofs.tables.Tables.string_read.Given as goal

abbrev pub invariant-loop-before : goal.invariant-loop-before
invariant-loop-before l = string_from l.self l.t (l.a + l.before) (32 - l.before) l.before ≡ string_from l.self l.t l.a 32 0
