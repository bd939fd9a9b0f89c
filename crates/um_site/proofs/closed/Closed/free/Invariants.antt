use Rattle.std.proofs.Common.{◌≡◌, ℕ, ◌-◌, ◌<◌, false, get_or}
use Rattle.std.specs.Mem.Slots.{slots_filled, slots_len}
use Rattle.std.specs.Mem.Slots.Ownership.{Filled}
use Rattle.um_site.proofs.closed.Closed.free.Given as goal

abbrev pub invariant-loop-slot : goal.invariant-loop-slot
invariant-loop-slot g l = record { rest : Filled (slots_filled l.table.slots) l.slot (slots_len l.table.slots); taken : (k : ℕ) → k < l.slot → get_or (slots_filled l.table.slots) k false ≡ false }

abbrev pub decreases-loop-slot : goal.decreases-loop-slot
decreases-loop-slot g l = slots_len l.table.slots - l.slot
