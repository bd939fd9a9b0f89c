use Rattle.std.proofs.Common.{◌≡◌, drop, ap, ◌∙◌}
use Rattle.um_processor.specs.Cleanings.{behind_first}
use Rattle.um_processor.proofs.Wholes.{recycle-goes}
use Rattle.um_processor.proofs.processor.Processor.recycle.Goals as goal

pub returns : goal.returns
returns g c =
    let h = c.in-Made.ensures.said in
    let k = c.args.self.now in
    let rest = drop 1 k.cleans in
    let after : c.advance.new.self ≡ rest = c.advance.ensures.rest ∙ ap behind_first c.requires.next.first in
    let goes =
    recycle-goes c.args.here.now.image.now c.args.here.now.cpu k.running c.requires.next.runs k.cleans c.advance.new.self rest k.ends.items (drop k.told k.outcome.woken) c.args.row h.0 c.cleaner-thread.result.0 c.addr_of.result h.1 _ c.requires.next.first after c.cleaner-thread.ensures c.addr_of.ensures c.charge.ensures c.acts.new.self (c.acts.ensures) in
    record { turn = (c.in-Made.ensures.image, tt, (_, h.2, goes)) }
