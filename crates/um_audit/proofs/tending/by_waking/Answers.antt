use Rattle.std.proofs.Common.{◌∙◌, ap, arith, length, List, sym}
use Rattle.um_machine.specs.declared.thread.Thread.{Thread}
use Rattle.um_audit.proofs.StepLemmas.{all-cut, all-late}
use Rattle.um_audit.proofs.tending.by_waking.Goals as goal

pub returns-clause-times : goal.returns-clause-times
returns-clause-times c =
    all-late c.args.image.now c.args.line.now c.args.tables.now c.args.t (ap (λ (ts : List Thread). length ts) (sym c.threads-who-end.ensures.value) ∙ c.threads-who-end.ensures.all) (λ w below. c.loop-who.invariant.times w (omega (arith, c.threads-who-end.ensures.all)))

pub returns-clause-cuts : goal.returns-clause-cuts
returns-clause-cuts c =
    all-cut c.args.image.now c.args.line.now c.args.tables.now c.args.t (ap (λ (ts : List Thread). length ts) (sym c.threads-who-end.ensures.value) ∙ c.threads-who-end.ensures.all) (λ w below. c.loop-who.invariant.cuts w (omega (arith, c.threads-who-end.ensures.all)))
