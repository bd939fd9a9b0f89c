use Rattle.std.proofs.Common.{◌≡◌, ◌∙◌, ℕ, List, ap, arith, refl, length, slice_index_or, slice_set, sym}
use Rattle.std.proofs.lemmas.List.{get_or_read}
use Rattle.um_tables.specs.ObjectCells.{cleared}
use Rattle.um_tables.specs.Placed.{placed}
use Rattle.um_tables.specs.declared.object_cell.ObjectCell.{ObjectCell}
use Rattle.um_tables.proofs.PlacedLemmas.{no-more, placed-at, placed-set}
use Rattle.um_tables.proofs.object_cells.ObjectCells.row_mut.Goals as goal

pub returns : goal.returns
returns c =
    let x = c.args.x in
    let cells = c.place-place.new.cells.items in
    let places = c.place-place.new.places.items in
    let given = c.place-place.ensures in
    let most = no-more (length cells) places given.places in
    let is : placed (cleared 0) cells places ≡ c.args.self.now = given.same ∙ c.self.view_is in (
      (
        refl,
        λ (w : ObjectCell). ap (λ (n : ℕ). placed (cleared 0) (slice_set cells n w) places) given.place
            ∙ placed-set (cleared 0) cells places x w (omega arith) given.places (omega arith) (omega arith) ∙ ap (λ (all : List ObjectCell). slice_set all x w) is,
      ),
      record {
        lends = record {};
        value = get_or_read cells c.place-place.result c.index_mut.result.now given.cell c.index_mut.ensures.value (cleared 0)
            ∙ ap (λ (n : ℕ). slice_index_or cells n (cleared 0)) given.place
            ∙ sym (placed-at (cleared 0) cells places x (omega arith)) ∙ ap (λ (all : List ObjectCell). slice_index_or all x (cleared 0)) is;
      },
    )
