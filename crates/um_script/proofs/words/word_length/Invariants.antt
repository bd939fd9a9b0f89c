use Rattle.std.proofs.Common.{◌≡◌, ◌+◌, drop}
use Rattle.std.specs.List.{prefix_len}
use Rattle.um_script.specs.Words.{is_word_byte}
use Rattle.um_script.proofs.words.word_length.Given as goal

abbrev pub invariant-loop-index : goal.invariant-loop-index
invariant-loop-index l = prefix_len is_word_byte l.bytes ≡ l.index + prefix_len is_word_byte (drop l.index l.bytes)
