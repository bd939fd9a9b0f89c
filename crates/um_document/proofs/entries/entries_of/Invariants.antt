use Rattle.std.proofs.Common.{◌≡◌, ◌++◌, drop}
use Rattle.toml.specs.View.{items_view}
use Rattle.um_document.specs.Reading.{entries_of}
use Rattle.um_document.proofs.entries.entries_of.Given as goal

abbrev pub invariant-loop-item : goal.invariant-loop-item
invariant-loop-item g l = l.entries ++ entries_of g.E.Entry.of (items_view (drop l.item-index l.item-items)) ≡ entries_of g.E.Entry.of (items_view l.items.items)
