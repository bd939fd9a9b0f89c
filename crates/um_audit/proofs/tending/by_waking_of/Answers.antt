use Rattle.std.proofs.Common.{◌∙◌, sym}
use Rattle.um_audit.proofs.StepLemmas.{no-cut, no-late}
use Rattle.um_audit.proofs.tending.by_waking_of.Goals as goal

pub returns-then-not-is_waiting-clause-times : goal.returns-then-not-is_waiting-clause-times
returns-then-not-is_waiting-clause-times c = no-late c.args.image.now c.args.line.now c.args.tables.now c.args.t c.args.who (sym c.is_waiting.ensures ∙ c.if-not-is_waiting.true)

pub returns-then-not-is_waiting-clause-cuts : goal.returns-then-not-is_waiting-clause-cuts
returns-then-not-is_waiting-clause-cuts c = no-cut c.args.image.now c.args.line.now c.args.tables.now c.args.t c.args.who (sym c.is_waiting.ensures ∙ c.if-not-is_waiting.true)
