use Rattle.um_audit.proofs.StepLemmas.{none-says}
use Rattle.um_audit.proofs.steps.by_thread.Goals as goal

pub returns-in-None-by_other-clause-none : goal.returns-in-None-by_other-clause-none
returns-in-None-by_other-clause-none c =
    none-says c.args.image.now c.args.line.now c.args.tables.now c.args.t c.in-None.ensures.first c.in-None.ensures.second c.in-None-by_other.ensures.leaves c.in-None-by_other.ensures.tends
