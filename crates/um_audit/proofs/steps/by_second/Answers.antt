use Rattle.std.proofs.Common.{sym}
use Rattle.um_audit.proofs.StepLemmas.{second-choice}
use Rattle.um_audit.proofs.steps.by_second.Goals as goal

pub returns-in-Some-row_for-clause-some : goal.returns-in-Some-row_for-clause-some
returns-in-Some-row_for-clause-some c =
    let found = c.in-Some-row_for.ensures in
    second-choice c.args.image.now c.args.line.now c.args.tables.now c.args.t c.in-Some-row_for.row c.in-Some.step (sym c.in-Some.ensures.value) c.in-Some.ensures.sound found.inside found.found
