use Rattle.std.proofs.Common.{ℕ, ◌≡◌, ◌<◌, ◌≤◌, length, slice_index, slice_index_or}
use Rattle.um_base.specs.Layout.{rounded}
use Rattle.um_layout.specs.Entries.{entry_at}
use Rattle.um_layout.specs.Sizes.{IsLeastSize}
use Rattle.um_layout.specs.declared.entries.Entry.{Entry}
use Rattle.um_layout.proofs.entries.entries_of.Given as goal

abbrev pub invariant-loop-number : goal.invariant-loop-number
invariant-loop-number l =
    (length l.entries.items ≡ l.number) × ((k : ℕ) (d : Entry) → k < l.number → slice_index_or l.entries.items k d ≡ entry_at l.mpu l.sizes k)
    × ((k : ℕ) → k < l.number → IsLeastSize l.mpu (slice_index l.sizes k) (rounded l.mpu (slice_index l.sizes k)))
    × ((k : ℕ) → k < l.number → rounded l.mpu (slice_index l.sizes k) ≤ 65536)
