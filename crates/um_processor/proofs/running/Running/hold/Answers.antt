use Rattle.std.proofs.Common.{refl}
use Rattle.um_processor.proofs.Requests.{held}
use Rattle.um_processor.proofs.running.Running.hold.Goals as goal

pub returns-in-Busy : goal.returns-in-Busy
returns-in-Busy g c =
    let h = c.in-Busy.ensures.said in
    record { turn = (c.in-Busy.ensures.image, refl, (_, (h.1, h.2), (held c.args.here.now.cpu c.args.here.now.image.now c.args.self.now c.args.next c.requires.holds c.thread-thread.result.0 c.thread-thread.ensures.value h.0 _ refl).asks)) }

pub returns : goal.returns
returns g c =
    let h = c.in-Made.ensures.said in
    record { turn = (c.in-Made.ensures.image, tt, (_, h.1, held c.args.here.now.cpu c.args.here.now.image.now c.args.self.now c.args.next c.requires.holds c.thread-thread.result.0 c.thread-thread.ensures.value h.0 c.in-Made.said h.2)) }
