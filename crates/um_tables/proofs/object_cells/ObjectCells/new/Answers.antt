use Rattle.std.proofs.Common.{List, arith, length, subst, sym}
use Rattle.um_tables.specs.Placed.{ArePlaces}
use Rattle.um_tables.specs.declared.object_cell.ObjectCell.{ObjectCell}
use Rattle.um_tables.proofs.PlacedLemmas.{no-items}
use Rattle.um_tables.proofs.object_cells.ObjectCells.new.Goals as goal

pub invariant_of-result : goal.invariant_of-result
invariant_of-result c = (
  omega (arith, c.in_ok-places.places.ok.0, c.in_ok-places.ensures.len),
  omega (arith, c.in_ok-cells.ensures.capacity),
  subst (λ (cells : List ObjectCell). ArePlaces (length cells) c.in_ok-places.places.items) (sym c.in_ok-cells.ensures.items)
      (subst (ArePlaces 0) (sym (c.in_ok-places.ensures.items_if_clones_equal (λ y same. same))) (no-items 128)),
)
