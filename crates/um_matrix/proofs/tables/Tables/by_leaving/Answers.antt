use Rattle.std.proofs.Common.{◌∙◌, sym}
use Rattle.um_matrix.proofs.OfferLemmas.{step-leaves}
use Rattle.um_matrix.proofs.tables.Tables.by_leaving.Goals as goal

pub returns-in-Some-clause-some : goal.returns-in-Some-clause-some
returns-in-Some-clause-some c =
    let found = c.in-Some.ensures.found in
    step-leaves c.args.self.now c.args.t c.in-Some.field-0 c.args.act.now (sym c.is_ending.ensures ∙ c.if-not-is_ending.false) found.0 found.1
