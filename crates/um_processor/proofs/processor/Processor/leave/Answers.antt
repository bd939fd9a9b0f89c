use Rattle.std.proofs.Common.{drop}
use Rattle.um_processor.specs.Standing.{standing}
use Rattle.um_processor.proofs.Lifted.{goes-as, woken-stand}
use Rattle.um_processor.proofs.processor.Processor.leave.Goals as goal

pub returns : goal.returns
returns g c =
    let h = c.in-Made.ensures.turn in
    let clear = c.requires.clear in
    let goes = goes-as c.args.here.now.cpu c.args.here.now.image.now _ _ _ h.0 (woken-stand c.leave.new.self c.in-Made.ensures.runs _ _ _ clear.cleans clear.ends) h.2 in
    record { turn = (c.in-Made.ensures.image, tt, (h.0, h.1, goes)) }

pub returns-in-Busy : goal.returns-in-Busy
returns-in-Busy g c =
    let k = c.args.self.now in
    record { turn = (c.in-Busy.ensures.image, λ i. standing k.cleans k.ends.items (drop k.told (c.in-Busy.ensures.outcome i)) (c.in-Busy.ensures.same i), c.in-Busy.ensures.turn) }

pub returns-in-Changed : goal.returns-in-Changed
returns-in-Changed g c =
    let k = c.args.self.now in
    record { turn = (c.in-Changed.ensures.image, λ i. standing k.cleans k.ends.items (drop k.told (c.in-Changed.ensures.outcome i)) (c.in-Changed.ensures.same i), c.in-Changed.ensures.turn) }

pub returns-in-Stuck : goal.returns-in-Stuck
returns-in-Stuck g c =
    let k = c.args.self.now in
    record { turn = (c.in-Stuck.ensures.image, λ i. standing k.cleans k.ends.items (drop k.told (c.in-Stuck.ensures.outcome i)) (c.in-Stuck.ensures.same i), c.in-Stuck.ensures.turn) }
