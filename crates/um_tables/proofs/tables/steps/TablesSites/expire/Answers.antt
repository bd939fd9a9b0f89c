use Rattle.std.proofs.Common.{arith, ◌∙◌, ap, refl}
use Rattle.um_machine.specs.Order.{to_row}
use Rattle.um_words.specs.declared.fine.Mark.{Mark}
use Rattle.um_fine.specs.Cells.{Cell}
use Rattle.um_fine.specs.Steps.{Exchange, Site}
use Rattle.um_tables.specs.ObjectCells.{expiry, kept_in}
use Rattle.um_tables.specs.Sited.{logged, object_state}
use Rattle.um_tables.proofs.Celled.{cell-taken, object-ends}
use Rattle.um_tables.proofs.Looked.{expired-at-timer}
use Rattle.um_tables.proofs.tables.steps.TablesSites.expire.Goals as goal

pub returns-clause-said : goal.returns-clause-said
returns-clause-said c =
    let d = c.row_mut-cell.result.now in
    let here = ap object_state c.row_mut-cell.ensures.value in
    let t = c.args.thread in
    let a = c.args.addr in
    let x = c.args.row.0 in
    let e = c.expire-found.ensures in
    let comes = expired-at-timer d t a x c.args.deadline c.expire-found.new.self c.expire-found.new.woken c.expire-found.result e.found e.left e.kept in
    rw comes.steps_same (
      d.steps,
      kept_in d,
      cell-taken c.args.here.now.image.now _ _ c.self.view_is c.args.here.now.cpu (Site.object x) d.steps (Cell.object (kept_in d)) (Cell.object (kept_in c.expire-found.new.self)) (expiry t a) (Exchange.mark c.args.deadline (Mark.Timer (to_row x))) here (omega arith) comes.comes.takes_it
          (ap Cell.object comes.comes.leaves)
          _
          _
          (c.note.ensures.events ∙ ap (logged c.self.inside.log.items) (c.expired.ensures ∙ comes.comes.event_is))
          c.note.ensures.room,
      (comes.comes.found_is, comes.woken_is),
    )

pub returns-then-cell-ge-LAST-clause-said : goal.returns-then-cell-ge-LAST-clause-said
returns-then-cell-ge-LAST-clause-said c =
    let d = c.row_mut-cell.result.now in
    let ends = object-ends c.args.here.now.image.now _ _ c.self.view_is c.args.here.now.cpu c.args.row.0 d (expiry c.args.thread c.args.addr) (Exchange.mark c.args.deadline (Mark.Timer (to_row c.args.row.0))) c.row_mut-cell.ensures.value (search arith) in
    (d.steps, kept_in d, ends.0, ends.1, refl)
