use Rattle.std.proofs.Common.{◌≡◌, ◌-◌, length}
use Rattle.um_script.specs.Cursor.{words_left}
use Rattle.um_script.specs.Operands.{parts}
use Rattle.um_script.proofs.PartLoop.{with_front}
use Rattle.um_script.proofs.words.Words.parts.Given as goal

abbrev pub invariant-loop : goal.invariant-loop
invariant-loop l = record {
  read : with_front l.parts (parts (4 - l.counter) (words_left l.self)) ≡ parts 4 (words_left l.fn.self);
  count : length l.parts ≡ l.counter;
}
