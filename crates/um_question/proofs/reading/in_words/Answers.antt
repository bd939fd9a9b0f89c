use Rattle.um_question.proofs.TextLemmas.{too-many}
use Rattle.um_question.proofs.reading.in_words.Goals as goal

pub returns-then-four-clause-asked : goal.returns-then-four-clause-asked
returns-then-four-clause-asked c =
    let f = c.first_word-two in
    let s = c.first_word-three in
    let t = c.first_word-four in
    too-many c.args.image.now c.args.text.now f.result.0.now f.result.1.now s.result.0.now s.result.1.now t.result.0.now t.result.1.now f.result.2 s.result.2 t.result.2 f.ensures s.ensures t.ensures c.if-not-two.false c.if-not-three.false c.if-four.true
