use Rattle.std.proofs.Common.{sym, ◌∙◌}
use Rattle.um_explore.proofs.StepLemmas.{leaving-offer}
use Rattle.um_explore.proofs.steps.add_leaving.Goals as goal

pub add_rows-requires-clause-offered : goal.add_rows-requires-clause-offered
add_rows-requires-clause-offered c = leaving-offer c.args.tables.now c.args.t (sym c.is_ending.ensures ∙ c.if-not-is_ending.false)
