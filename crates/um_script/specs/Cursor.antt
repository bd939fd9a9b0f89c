-- What is left of a line while it is read.
use Rattle.std.specs.Prelude.{false}
use Rattle.um_script.specs.declared.words.Words.{Words}
use Rattle.um_script.specs.Words as spec

-- the words that are still to be read
abbrev pub words_left : Words → spec.Words
words_left words = spec.words_from false words.column words.rest.now
