use Rattle.std.proofs.Common.{arith, ◌∙◌, ap}
use Rattle.um_fine.specs.Cells.{Cell}
use Rattle.um_fine.specs.Steps.{Site}
use Rattle.um_tables.specs.Looks.{left_by, look_act, look_sent}
use Rattle.um_tables.specs.ObjectCells.{kept_in}
use Rattle.um_tables.specs.Sited.{logged, object_state}
use Rattle.um_tables.proofs.Celled.{cell-taken, object-ends}
use Rattle.um_tables.proofs.Looked.{looked-at-object}
use Rattle.um_tables.proofs.tables.Tables.look_at_object.Goals as goal

pub returns-clause-said : goal.returns-clause-said
returns-clause-said c =
    let d = c.row_mut-cell.result.now in
    let here = ap object_state c.row_mut-cell.ensures.value in
    let look = c.args.look.now in
    let comes = looked-at-object (kept_in d) look c.look-found.result c.look-found.ensures.found in
    rw c.look-found.ensures.left (
      d.steps,
      kept_in d,
      cell-taken c.args.here.now.image.now _ _ c.self.view_is c.args.here.now.cpu (Site.object c.args.row.0) d.steps (Cell.object (kept_in d)) (Cell.object (kept_in (record d { waiters = left_by c.look-found.result look d.waiters }))) (look_act look) (look_sent look) here (omega arith) comes.takes_it
          (ap Cell.object comes.leaves)
          _
          _
          (c.note.ensures.events ∙ ap (logged c.self.inside.log.items) (c.event.ensures ∙ comes.event_is))
          c.note.ensures.room,
      comes.found_is,
    )

pub returns-then-cell-ge-LAST-clause-said : goal.returns-then-cell-ge-LAST-clause-said
returns-then-cell-ge-LAST-clause-said c =
    let d = c.row_mut-cell.result.now in
    let ends = object-ends c.args.here.now.image.now _ _ c.self.view_is c.args.here.now.cpu c.args.row.0 d (look_act c.args.look.now) (look_sent c.args.look.now) c.row_mut-cell.ensures.value (search arith) in
    (d.steps, kept_in d, ends.0, ends.1)
