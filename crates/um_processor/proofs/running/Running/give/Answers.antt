use Rattle.std.proofs.Common.{refl}
use Rattle.um_processor.proofs.Timed.{give-goes}
use Rattle.um_processor.proofs.running.Running.give.Goals as goal

pub returns : goal.returns
returns g c =
    let h = c.in-Made.ensures.said in
    let goes = give-goes c.args.here.now.image.now c.args.here.now.cpu c.args.self.now h.0 h.1 _ _ h.3 in
    record { turn = (c.in-Made.ensures.image, tt, (_, (refl, h.2), goes)) }
