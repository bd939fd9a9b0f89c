use Rattle.um_matrix.proofs.OfferLemmas.{none-tends}
use Rattle.um_matrix.proofs.tables.Tables.tending_act.Goals as goal

pub returns-in-None-clock_act-clause-none : goal.returns-in-None-clock_act-clause-none
returns-in-None-clock_act-clause-none c = λ started.
    none-tends c.args.self.now c.args.t (c.in-None.ensures.pairs started) (c.in-None.ensures.objects started) c.in-None-waking_act.ensures.times c.in-None-waking_act.ensures.cuts c.in-None-clock_act.ensures.ticks c.in-None-clock_act.ensures.timers
