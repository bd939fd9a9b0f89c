use Rattle.um_audit.proofs.StepLemmas.{none-tends}
use Rattle.um_audit.proofs.tending.by_any.Goals as goal

pub returns-in-None-by_time-clause-none : goal.returns-in-None-by_time-clause-none
returns-in-None-by_time-clause-none c = λ started.
    let time = c.in-None-by_time.ensures in
    none-tends c.args.image.now c.args.line.now c.args.tables.now c.args.t c.in-None.ensures.pairs c.in-None.ensures.objects time.times time.cuts time.ticks time.timers
