use Rattle.um_matrix.specs.Offered.{event_of}
use Rattle.um_explore.proofs.StepLemmas.{has-last, pushed}
use Rattle.um_explore.proofs.steps.add.Goals as goal

pub returns-clause-goes : goal.returns-clause-goes
returns-clause-goes c = rw c.in_ok-push.ensures.items (pushed c.args.tables.now c.args.events.now.items (event_of c.args.t c.args.act.now) c.requires.step)

pub returns-clause-has : goal.returns-clause-has
returns-clause-has c = rw c.in_ok-push.ensures.items (has-last c.args.events.now.items (event_of c.args.t c.args.act.now))
