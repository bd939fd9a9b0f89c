use Rattle.std.proofs.Common.{◌≡◌, ◌∙◌, ◌++◌, ℕ, [], ◌∷◌, List, ap, arith, length, slice_set, sym}
use Rattle.std.proofs.lemmas.List.{get_or_read}
use Rattle.um_tables.specs.ObjectCells.{cleared}
use Rattle.um_tables.specs.Placed.{item_at, placed}
use Rattle.um_tables.specs.declared.object_cell.ObjectCell.{ObjectCell}
use Rattle.um_tables.proofs.PlacedLemmas.{placed-more, room-left}
use Rattle.um_tables.proofs.object_cells.place.Goals as goal

pub push_reserved-requires : goal.push_reserved-requires
push_reserved-requires c =
    let x = c.args.x in
    let places = c.args.places.now.items in
    let none : item_at places x ≡ 255 = sym (get_or_read places x c.index-place.result.now (omega arith) c.index-place.ensures 255) ∙ c.if-place.false in
    omega (arith, room-left (length c.args.cells.now.items) x places c.requires.places (omega arith) none, c.args.cells.now.ok.0)

pub returns-clause-same : goal.returns-clause-same
returns-clause-same c =
    let x = c.args.x in
    let places = c.args.places.now.items in
    let cells = c.args.cells.now.items in
    let none : item_at places x ≡ 255 = sym (get_or_read places x c.index-place.result.now (omega arith) c.index-place.ensures 255) ∙ c.if-place.false in
    let last : c.len-last.result ≡ length cells = omega (arith, c.args.cells.now.ok.0) in
    let left = room-left (length cells) x places c.requires.places (omega arith) none in
    ap (λ (all : List ObjectCell). placed (cleared 0) all (slice_set places x c.len-last.result)) (c.push_reserved.ensures.items ∙ ap (λ (cell : ObjectCell). cells ++ cell ∷ []) c.empty.ensures)
    ∙ ap (λ (n : ℕ). placed (cleared 0) (cells ++ cleared 0 ∷ []) (slice_set places x n)) last
    ∙ placed-more (cleared 0) cells places x (omega arith) (omega arith) none
