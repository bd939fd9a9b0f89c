use Rattle.um_audit.proofs.StepLemmas.{tends-choice}
use Rattle.um_audit.proofs.tending.by_tending.Goals as goal

pub returns-in-Some-clause-some : goal.returns-in-Some-clause-some
returns-in-Some-clause-some c =
    tends-choice c.args.image.now c.args.line.now c.args.tables.now c.args.t c.in-Some.row c.args.step.now c.requires.tends c.requires.started c.in-Some.ensures.inside c.in-Some.ensures.found
