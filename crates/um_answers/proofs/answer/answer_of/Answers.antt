use Rattle.std.proofs.Common.{List, ℕ, ◌≤◌, length, subst}
use Rattle.um_image.specs.Meaning.{Refuses}
use Rattle.um_answers.specs.Inputs.{most_described}
use Rattle.um_answers.proofs.answer.answer_of.Goals as goal

pub returns-in-Err : goal.returns-in-Err
returns-in-Err c = λ input is traced short.
    c.not_read.ensures c.args.command c.args.event.now input c.args.trace.now (subst (λ (text : List ℕ). length text ≤ most_described) is short) traced
    (λ known. subst (λ (text : List ℕ). Refuses text c.in-Err.fault) is (c.in-Err.ensures.refused known))
