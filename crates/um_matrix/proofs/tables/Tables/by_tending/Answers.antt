use Rattle.std.proofs.Common.{rules}
use Rattle.um_matrix.proofs.OfferLemmas.{step-tends}
use Rattle.um_matrix.proofs.tables.Tables.by_tending.Goals as goal

pub returns-in-Some-row_for-clause-some : goal.returns-in-Some-row_for-clause-some
returns-in-Some-row_for-clause-some c =
    let found = c.in-Some-row_for.ensures.found in (
      c.in-Some.ensures.tends,
      c.in-Some-row_for.ensures.inside,
      step-tends c.args.self.now c.args.t c.in-Some-row_for.row c.args.act.now c.in-Some.step c.in-Some.ensures.tends (search rules) found.0 found.1,
    )
