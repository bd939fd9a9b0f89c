use Rattle.std.proofs.Common.{◌≡◌, ◌≤◌, drop}
use Rattle.um_script.specs.Numbers.{value_from}
use Rattle.um_script.proofs.numbers.value.Given as goal

abbrev pub invariant-loop-byte : goal.invariant-loop-byte
invariant-loop-byte l = record {
  rest : value_from l.hexadecimal l.number (drop l.byte-index l.digits) ≡ value_from l.hexadecimal 0 l.digits;
  small : l.number ≤ l.limit;
}
