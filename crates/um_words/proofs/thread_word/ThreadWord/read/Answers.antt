use Rattle.std.proofs.Common.{ap, ◌∙◌}
use Rattle.um_words.specs.Packed.{packed_thread, thread_in}
use Rattle.um_words.specs.Inverse.{thread-read}
use Rattle.um_words.proofs.thread_word.ThreadWord.read.Goals as goal

pub returns-clause-back : goal.returns-clause-back
returns-clause-back c =
    ap packed_thread (λ i. record (thread_in c.args.word) { life = c.life_of.ensures i; mode = c.mode_of.ensures i; note = c.note_of.ensures i }) ∙ thread-read c.args.word c.requires
