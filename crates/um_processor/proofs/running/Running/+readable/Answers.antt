use Rattle.std.proofs.Common.{sym, arith}
use Rattle.um_processor.specs.declared.phase.Phase.TheVariants as Phase
use Rattle.um_processor.specs.Processors.{in_phase}
use Rattle.um_processor.proofs.Readable.{last-readable}
use Rattle.um_processor.proofs.running.Running.+readable.Goals as goal

pub returns-in-None-clause-value : goal.returns-in-None-clause-value
returns-in-None-clause-value t c =
    let p = in_phase Phase.Park c.args.self.now in
    last-readable c.args.image.now p c.args.a c.args.n c.if-n-eq0.false (sym c.if-not-allows.ensures) (omega (arith, c.in-None.ensures))
