use Rattle.std.proofs.Common.{sym, arith}
use Rattle.um_matrix.proofs.OfferLemmas.{step-first}
use Rattle.um_matrix.proofs.tables.Tables.by_first.Goals as goal

pub returns-clause-some : goal.returns-clause-some
returns-clause-some c =
    let found = c.in_ok-row.ensures.found in (
      c.in-Some.ensures.sound,
      c.in_ok-row.ensures.inside,
      omega arith,
      step-first c.args.self.now c.args.t c.in_ok-row.row c.args.act.now c.in-Some.step (sym c.in-Some.ensures.value) found.0 found.1,
    )
