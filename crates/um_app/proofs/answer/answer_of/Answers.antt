use Rattle.std.proofs.Common.{List, ℕ, ◌≤◌, length, subst}
use Rattle.um_image.specs.Meaning.{Refuses}
use Rattle.um_app.specs.Inputs.{most_described}
use Rattle.um_app.proofs.answer.answer_of.Goals as goal

pub returns : goal.returns
returns c = λ input is traced short.
    c.not_read.ensures.answered c.args.command input c.args.trace.now (subst (λ (text : List ℕ). length text ≤ most_described) is short) traced
    (λ known. subst (λ (text : List ℕ). Refuses text c.in-Err.fault) is (c.in-Err.ensures.refused known))
