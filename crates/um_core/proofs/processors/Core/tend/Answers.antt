use Rattle.um_core.proofs.CoreMoves.{has-tended}
use Rattle.um_core.proofs.processors.Core.tend.Goals as goal

pub returns-in-Busy-clause-tends : goal.returns-in-Busy-clause-tends
returns-in-Busy-clause-tends c =
    has-tended c.args.image.now c.args.cpu c.args.self.now c.give.new.self c.pass.new.self c.requires.idle c.in-Busy.ensures.turn c.pass.result c.pass.ensures.passes
