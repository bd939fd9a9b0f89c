use Rattle.std.proofs.Common.{ap, ◌∙◌}
use Rattle.um_words.specs.Packed.{packed_row, row_of}
use Rattle.um_words.specs.Inverse.{row-whole}
use Rattle.um_words.proofs.row_word.RowWord.read.Goals as goal

pub returns-clause-back : goal.returns-clause-back
returns-clause-back c =
    ap packed_row (λ i. record (row_of c.args.word) { permissions = c.from_bits.ensures i; stage = c.of.ensures i }) ∙ row-whole c.args.word
