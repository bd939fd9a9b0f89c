-- What acts say in a word.
use Rattle.std.specs.Prelude.{ℕ, List}
use Rattle.um_trace.specs.declared.words.Said.{Said}
use Rattle.um_trace.specs.Words.{verdict_word, reach_word, pool_word, given_word, done_word, leftover_word, set_word}

abbrev pub said_word : Said → List ℕ
said_word (Said.Verdict verdict) = verdict_word verdict
said_word (Said.Reach fits) = reach_word fits
said_word (Said.Pool fits) = pool_word fits
said_word (Said.Given given) = given_word given
said_word (Said.Done done) = done_word done
said_word (Said.Left left) = leftover_word left
said_word (Said.Set said) = set_word said
