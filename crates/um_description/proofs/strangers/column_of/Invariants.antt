use Rattle.std.proofs.Common.{◌≡◌, ◌+◌, drop}
use Rattle.um_script.specs.Words.{words_from}
use Rattle.um_description.specs.Mentions.{column_at, column_of}
use Rattle.um_description.proofs.strangers.column_of.Given as goal

abbrev pub invariant-loop-byte : goal.invariant-loop-byte
invariant-loop-byte l = record {
  rest : column_at (words_from l.inside l.column (drop l.byte-index l.line)) l.words ≡ column_of l.line l.word;
  column : l.column ≡ l.byte-index + 1;
}
