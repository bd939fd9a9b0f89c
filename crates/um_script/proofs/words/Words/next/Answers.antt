use Rattle.std.proofs.Common.{◌∙◌}
use Rattle.um_script.proofs.WordLemmas.{from_place, at_end, at_word}
use Rattle.um_script.proofs.words.Words.next.Goals as goal

pub returns-then-count-eq0 : goal.returns-then-count-eq0
returns-then-count-eq0 c =
    let spaces = from_place c.args.self.now.column _ _ c.args.self.now.rest.now _ c.leading_spaces.ensures.value c.skip.ensures.column c.skip.ensures.rest in
    let end = at_end _ _ _ spaces.1 c.word_length-count.ensures.value c.if-count-eq0.true in
    (spaces.0 ∙ end, end)

pub returns : goal.returns
returns c =
    let spaces = from_place c.args.self.now.column _ _ c.args.self.now.rest.now _ c.leading_spaces.ensures.value c.skip.ensures.column c.skip.ensures.rest in
    spaces.0 ∙ at_word _ _ _ _ _ spaces.1 c.word_length-count.ensures.value c.if-count-eq0.false c.skip-2.ensures.column c.skip-2.ensures.rest
