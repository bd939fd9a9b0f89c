use Rattle.std.proofs.Common.{refl, sym, subst, Bool}
use Rattle.um_core.specs.CoreSteps.{HasMoved}
use Rattle.um_core.specs.CoreSteps as C
use Rattle.um_core.proofs.CoreMoves.{has-moved}
use Rattle.um_core.proofs.processors.Core.tend_if_idle.Goals as goal

pub returns-then-is_idle-clause-moves : goal.returns-then-is_idle-clause-moves
returns-then-is_idle-clause-moves c =
    has-moved c.args.image.now c.args.cpu c.args.self.now c.tend.new.self c.requires.refused.0 (c.is_idle.ensures.idle c.if-is_idle.true) c.requires.refused.1 c.tend.result c.tend.ensures.tends

pub returns-else-is_idle-clause-moves : goal.returns-else-is_idle-clause-moves
returns-else-is_idle-clause-moves c =
    subst (λ (b : Bool). HasMoved b c.args.image.now c.args.cpu c.args.self.now c.args.self.now) (sym c.if-is_idle.false)
    (refl, C.Halts.refused c.requires.refused.0 (c.is_idle.ensures.busy c.if-is_idle.false) c.requires.refused.1.1)
