use Rattle.um_matrix.proofs.OfferLemmas.{idle-thread}
use Rattle.um_matrix.proofs.tables.Tables.act_by.Goals as goal

pub returns-in-None-other_act-clause-none : goal.returns-in-None-other_act-clause-none
returns-in-None-other_act-clause-none c =
    idle-thread c.args.self.now c.args.t c.in-None.ensures.first c.in-None.ensures.second c.in-None-other_act.ensures.leaves c.in-None-other_act.ensures.tends
