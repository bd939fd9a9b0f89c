use Rattle.std.proofs.Common.{◌≡◌, ◌<◌, ◌^◌, drop}
use Rattle.um_question.specs.Numbers.{value_from}
use Rattle.um_question.proofs.numbers.value.Given as goal

abbrev pub invariant-loop-byte : goal.invariant-loop-byte
invariant-loop-byte l = record {
  rest : value_from l.hexadecimal l.number (drop l.byte-index l.word) ≡ value_from l.hexadecimal 0 l.word;
  small : l.number < 2 ^ 32;
}
