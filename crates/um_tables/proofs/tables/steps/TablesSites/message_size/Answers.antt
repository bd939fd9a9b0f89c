use Rattle.std.proofs.Common.{arith, ap, refl, sym}
use Rattle.um_words.specs.declared.fine.FineAct.{FineAct}
use Rattle.um_words.specs.declared.fine.Unseen.{Unseen}
use Rattle.um_fine.specs.Cells.{Cell}
use Rattle.um_fine.specs.Steps.{Exchange, Site}
use Rattle.um_tables.specs.ObjectCells.{kept_in}
use Rattle.um_tables.specs.Sited.{object_state}
use Rattle.um_tables.proofs.Celled.{cell-taken, object-ends}
use Rattle.um_tables.proofs.tables.steps.TablesSites.message_size.Goals as goal

pub returns-clause-said : goal.returns-clause-said
returns-clause-said c =
    let d = c.row_mut-cell.result.now in
    let here = ap object_state c.row_mut-cell.ensures.value in (
      d.steps,
      kept_in d,
      cell-taken c.args.here.now.image.now _ _ c.self.view_is c.args.here.now.cpu (Site.object c.args.row.0) d.steps (Cell.object (kept_in d)) (Cell.object (kept_in d)) (FineAct.Unseen Unseen.SizeLook) Exchange.nothing here (omega arith) refl refl _ _ refl refl,
      ap Exchange.size (sym c.message_size-size.ensures),
    )

pub returns-then-cell-ge-LAST-clause-said : goal.returns-then-cell-ge-LAST-clause-said
returns-then-cell-ge-LAST-clause-said c =
    let d = c.row_mut-cell.result.now in
    let ends = object-ends c.args.here.now.image.now _ _ c.self.view_is c.args.here.now.cpu c.args.row.0 d (FineAct.Unseen Unseen.SizeLook) Exchange.nothing c.row_mut-cell.ensures.value (search arith) in
    (d.steps, kept_in d, ends.0, ends.1)
