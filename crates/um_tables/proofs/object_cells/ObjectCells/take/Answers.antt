use Rattle.std.proofs.Common.{◌≡◌, ◌≤◌, ◌∙◌, ℕ, List, ap, arith, refl, length, slice_index_or, slice_set, sym}
use Rattle.std.proofs.lemmas.List.{get_or_past, get_or_read, set-get_or}
use Rattle.um_tables.specs.ObjectCells.{cleared}
use Rattle.um_tables.specs.Placed.{item_at, placed}
use Rattle.um_tables.specs.declared.object_cell.ObjectCell.{ObjectCell}
use Rattle.um_tables.specs.declared.object_cells.ObjectCells.TheInside.{Inside}
use Rattle.um_tables.proofs.PlacedLemmas.{no-more, placed-at, placed-set}
use Rattle.um_tables.proofs.object_cells.ObjectCells.take.Goals as goal
use Rattle.um_tables.proofs.object_cells.ObjectCells.take.Goals.{in-Some, in-None}

pub returns-clause-left : goal.returns-clause-left
returns-clause-left c =
    let x = c.args.x in
    let cells = c.self.inside.cells.items in
    let places = c.self.inside.places.items in
    let most = no-more (length cells) places c.self.invariant.2 in
    let there : c.index.result.now ≡ item_at places x = get_or_read places x c.index.result.now (omega arith) c.index.ensures 255 in
    elim c.match-get_mut.branch [
      | in-Some w ↦ ap (λ (t : Inside). placed (cleared 0) t.cells.items t.places.items) w.self-inside-is
          ∙ ap (λ (cell : ObjectCell). placed (cleared 0) (slice_set cells c.index.result.now cell) places) (w.replace.ensures.after ∙ w.empty.ensures)
          ∙ ap (λ (n : ℕ). placed (cleared 0) (slice_set cells n (cleared 0)) places) there
          ∙ placed-set (cleared 0) cells places x (cleared 0) (omega arith) c.self.invariant.2 (omega arith) (omega (arith, w.in-Some.ensures.variant.0 refl, there, c.self.inside.cells.ok.0))
          ∙ ap (λ (all : List ObjectCell). slice_set all x (cleared 0)) c.self.view_is
      | in-None w ↦
          let past : length cells ≤ item_at places x = let h = w.in-None.ensures.variant.1 in grind (arith, h, there, c.self.inside.cells.ok.0) in
          let none : slice_index_or c.args.self.now x (cleared 0) ≡ cleared 0 =
          ap (λ (all : List ObjectCell). slice_index_or all x (cleared 0)) (sym c.self.view_is) ∙ placed-at (cleared 0) cells places x (omega arith)
          ∙ get_or_past cells (item_at places x) (cleared 0) past in
          ap (λ (t : Inside). placed (cleared 0) t.cells.items t.places.items) w.self-inside-is ∙ c.self.view_is
          ∙ sym (ap (slice_set c.args.self.now x) (sym none) ∙ set-get_or c.args.self.now x (cleared 0))
    ]
