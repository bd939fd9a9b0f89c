use Rattle.std.proofs.Common.{rules, ◌≡◌, ◌+◌, ◌*◌, ap, ◌∙◌}
use Rattle.um_words.specs.Packed.{packed_row, row_of}
use Rattle.um_words.specs.Inverse.{row-back}
use Rattle.um_words.proofs.row_word.RowWord.pack.Goals as goal

pub returns-clause-back : goal.returns-clause-back
returns-clause-back c =
    let whole : c.from.result + 4294967296 * c.from-2.result + 8589934592 * c.from-3.result + 17179869184 * c.from-4.result + 34359738368 * c.code.result + 137438953472 * c.from-5.result + 17592186044416 * c.from-6.result ≡ packed_row c.args.self.now = search rules in
    ap row_of whole ∙ row-back c.args.self.now c.bits.result c.bits.ensures.value c.bits.ensures.back (search rules) c.requires
