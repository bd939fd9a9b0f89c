use Rattle.std.proofs.Common.{◌∙◌, sym}
use Rattle.um_audit.proofs.StepLemmas.{leaves-choice}
use Rattle.um_audit.proofs.tending.by_leaving.Goals as goal

pub returns-in-Some-clause-some : goal.returns-in-Some-clause-some
returns-in-Some-clause-some c =
    leaves-choice c.args.image.now c.args.line.now c.args.tables.now c.args.t c.in-Some.field-0 (sym c.is_ending.ensures ∙ c.if-not-is_ending.false) c.in-Some.ensures.found
