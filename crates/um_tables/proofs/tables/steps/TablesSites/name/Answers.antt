use Rattle.std.proofs.Common.{arith, ◌∙◌, Some, ap, refl}
use Rattle.um_fine.specs.Cells.{Cell}
use Rattle.um_fine.specs.Steps.{Exchange, Site}
use Rattle.um_tables.specs.ObjectCells.{kept_in, named_as}
use Rattle.um_tables.specs.Sited.{logged, object_state}
use Rattle.um_tables.proofs.Celled.{cell-taken, object-ends}
use Rattle.um_base.specs.declared.act.Act.{Act}
use Rattle.um_base.specs.declared.act.Event.{Event}
use Rattle.um_words.specs.declared.fine.More.{More}
use Rattle.um_tables.specs.Asked.{shown}
use Rattle.um_tables.proofs.tables.steps.TablesSites.name.Goals as goal

pub returns-clause-said : goal.returns-clause-said
returns-clause-said c =
    let d = c.row_mut-cell.result.now in
    let here = ap object_state c.row_mut-cell.ensures.value in
    rw c.name.ensures (
      d.steps,
      kept_in d,
      cell-taken c.args.here.now.image.now _ _ c.self.view_is c.args.here.now.cpu (Site.object c.args.row.0) d.steps (Cell.object (kept_in d)) (Cell.object (kept_in (named_as d c.args.bytes.now))) (shown c.args.thread (Act.Named c.args.who) More.Nothing) (Exchange.bytes c.args.bytes.now) here (omega arith) refl refl
          _
          _
          (c.note.ensures.events ∙ ap (λ (event : Event). logged c.self.inside.log.items (Some event)) c.named.ensures)
          c.note.ensures.room,
    )

pub returns-then-cell-ge-LAST-clause-said : goal.returns-then-cell-ge-LAST-clause-said
returns-then-cell-ge-LAST-clause-said c =
    let d = c.row_mut-cell.result.now in
    let ends = object-ends c.args.here.now.image.now _ _ c.self.view_is c.args.here.now.cpu c.args.row.0 d (shown c.args.thread (Act.Named c.args.who) More.Nothing) (Exchange.bytes c.args.bytes.now) c.row_mut-cell.ensures.value (search arith) in
    (d.steps, kept_in d, ends.0, ends.1)
