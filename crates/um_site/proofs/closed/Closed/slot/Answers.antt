use Rattle.std.proofs.Common.{arith, ◌<◌}
use Rattle.std.specs.Mem.Slots.{slots_items, slots_len, slots_counts}
use Rattle.atomic_table.proofs.Lists.{at_index}
use Rattle.um_site.proofs.closed.Closed.slot.Goals as goal

pub returns : goal.returns
returns g c =
    let row = c.args.self.now.table.slots in
    let near : c.args.slot < slots_len row = c.requires in
    let long = (slots_counts row).0 in
    at_index (slots_items row) c.args.slot c.get.result.now (omega (arith, near, long)) c.get.ensures
