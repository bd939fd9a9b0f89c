use Rattle.std.proofs.Common.{ℕ, ◌≡◌, ◌<◌, length, take, slice_index_or}
use Rattle.um_base.specs.declared.names.Range.{Range}
use Rattle.um_layout.specs.Entries.{bytes_of, range_of}
use Rattle.um_layout.specs.declared.entries.Entry.{Entry}
use Rattle.um_layout.proofs.placing.stand.Given as goal

abbrev pub invariant-loop-entry : goal.invariant-loop-entry
invariant-loop-entry l =
    (length l.ranges.items ≡ length l.entries) × (l.offset ≡ bytes_of (take l.entry-index l.entries))
    × ((k : ℕ) (d : Entry) (e : Range) → k < l.entry-index → slice_index_or l.ranges.items (slice_index_or l.entries k d).number e ≡ range_of l.start.0 l.entries k d)
