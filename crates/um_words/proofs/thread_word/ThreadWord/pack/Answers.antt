use Rattle.std.proofs.Common.{rules, ◌≡◌, ◌+◌, ◌*◌, ap, ◌∙◌}
use Rattle.um_words.specs.Packed.{packed_thread, thread_of}
use Rattle.um_words.specs.Inverse.{thread-back}
use Rattle.um_words.proofs.thread_word.ThreadWord.pack.Goals as goal

pub returns-clause-back : goal.returns-clause-back
returns-clause-back c =
    let whole : c.life_code.result + 4 * c.from.result + 8 * c.from-2.result + 16 * c.from-3.result + (32 * c.from-4.result + 256 * c.from-5.result + 512 * c.from-6.result) + 1024 * c.note_code.result + 68719476736 * c.from-7.result ≡ packed_thread c.args.self.now = search rules in
    ap thread_of whole ∙ thread-back c.args.self.now c.requires
