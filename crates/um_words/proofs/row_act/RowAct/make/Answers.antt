use Rattle.std.proofs.Common.{rules, arith, ◌≡◌, ◌+◌, ◌<◌, ap, ◌∙◌}
use Rattle.um_words.specs.declared.row_word.RowWord.{RowWord}
use Rattle.um_words.specs.RowActs.{row_act_at}
use Rattle.um_words.proofs.RowsLeft.{row-number-kept}
use Rattle.um_words.proofs.row_act.RowAct.make.Goals as goal

pub overflow_add-next : goal.overflow_add-next
overflow_add-next c =
    let w = c.args.word.now in
    let same : c.take-said.new.word.number ≡ w.number = ap (λ (r : RowWord). r.number) c.take-said.ensures.word ∙ row-number-kept w (row_act_at w c.args.self.now) in
    let less = c.if-word-ge-LAST.false in
    let small : c.take-said.new.word.number + 1 < 4294967296 = omega arith in search rules
