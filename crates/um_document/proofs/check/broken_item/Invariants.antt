use Rattle.std.proofs.Common.{◌≡◌, drop}
use Rattle.toml.specs.View.{items_view}
use Rattle.um_document.specs.First.{first_place}
use Rattle.um_document.specs.Parts.{item_parts}
use Rattle.um_document.proofs.check.broken_item.Given as goal

abbrev pub invariant-loop-item : goal.invariant-loop-item
invariant-loop-item l = record {
  rest : first_place l.check (item_parts l.section l.entry l.key l.index (items_view (drop l.item-index l.item-items))) ≡ first_place l.check (item_parts l.section l.entry l.key 0 (items_view l.items.items));
  index : l.index ≡ l.item-index;
}
