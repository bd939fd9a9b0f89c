use Rattle.um_answers.proofs.answer.answer_about.Goals as goal

pub returns-in-Find : goal.returns-in-Find
returns-in-Find c = rw c.in-Find.is (λ input is. c.answer_to_event.ensures input c.args.trace.now is)
