use Rattle.std.proofs.Common.{◌≡◌, ◌+◌, ◌-◌, ◌++◌, length}
use Rattle.um_machine.specs.Memory.{string_bytes}
use Rattle.um_matrix.proofs.tables.Tables.string_bytes.Given as goal

abbrev pub invariant-loop-before : goal.invariant-loop-before
invariant-loop-before l = record {
  whole : l.bytes ++ string_bytes l.self (l.a + l.before) (l.n - l.before) ≡ string_bytes l.self l.a l.n;
  count : length l.bytes ≡ l.before;
}
