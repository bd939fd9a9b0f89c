use Rattle.std.proofs.Common.{◌≡◌, ◌++◌, drop}
use Rattle.toml.specs.View.{items_view}
use Rattle.um_document.specs.Reading.{texts_of}
use Rattle.um_document.proofs.texts.copies.Given as goal

abbrev pub invariant-loop-item : goal.invariant-loop-item
invariant-loop-item l = l.texts ++ texts_of (items_view (drop l.item-index l.item-items)) ≡ texts_of (items_view l.items.items)
