use Rattle.um_app.proofs.OneAnswer.{one_answer, one_pick, one_thread}
use Rattle.um_app.proofs.laws.one_answer.Goals as goal

pub returns-clause-one : goal.returns-clause-one
returns-clause-one c = one_answer

pub returns-clause-pick : goal.returns-clause-pick
returns-clause-pick c = one_pick

pub returns-clause-thread : goal.returns-clause-thread
returns-clause-thread c = one_thread
