use Rattle.std.proofs.Common.{sym, arith}
use Rattle.um_matrix.proofs.OfferLemmas.{step-second}
use Rattle.um_matrix.proofs.tables.Tables.by_second.Goals as goal

pub returns-clause-some : goal.returns-clause-some
returns-clause-some c =
    let found = c.in_ok-row.ensures.found in (
      c.in_ok-step.ensures.sound,
      c.in_ok-row.ensures.inside,
      omega arith,
      step-second c.args.self.now c.args.t c.in_ok-row.row c.args.act.now c.in_ok-step.step (sym c.in_ok-step.ensures.value) found.0 found.1,
    )
