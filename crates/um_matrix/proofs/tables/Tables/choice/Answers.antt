use Rattle.um_matrix.proofs.OfferLemmas.{refused-step}
use Rattle.um_matrix.proofs.tables.Tables.choice.Goals as goal

pub returns-in-None-by_other-clause-none : goal.returns-in-None-by_other-clause-none
returns-in-None-by_other-clause-none c =
    refused-step c.args.self.now c.args.event.now c.in-None.ensures.first c.in-None.ensures.second c.in-None-by_other.ensures.leaves c.in-None-by_other.ensures.tends
