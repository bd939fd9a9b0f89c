use Rattle.um_explore.proofs.StepLemmas.{tending-offer}
use Rattle.um_explore.proofs.steps.add_tending.Goals as goal

pub add_rows-requires-clause-offered : goal.add_rows-requires-clause-offered
add_rows-requires-clause-offered c = tending-offer c.args.tables.now c.args.t c.args.step.now c.requires.tends c.requires.started
