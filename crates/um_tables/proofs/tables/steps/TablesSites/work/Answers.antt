use Rattle.std.proofs.Common.{arith, ◌∙◌, ℕ, List, Some, ap, refl, slice_set, sym}
use Rattle.um_fine.specs.Cells.{Cell}
use Rattle.um_fine.specs.Steps.{Exchange, Site}
use Rattle.um_tables.specs.ObjectCells.{kept_in}
use Rattle.um_tables.specs.Sited.{logged, object_state}
use Rattle.um_tables.proofs.Celled.{cell-taken, object-ends}
use Rattle.um_base.specs.declared.act.Act.{Act}
use Rattle.um_base.specs.declared.act.Event.{Event}
use Rattle.um_machine.specs.Services.{Acted}
use Rattle.um_machine.specs.Table.{buffer_cost, replies_of}
use Rattle.um_tables.specs.Asked.{by_thread}
use Rattle.um_fine.specs.Answers.{no_outcome}
use Rattle.um_fine.specs.Objects.{outcome_of}
use Rattle.um_tables.specs.ObjectCells.{work_act}
use Rattle.um_tables.proofs.tables.steps.TablesSites.work.Goals as goal

pub returns-clause-said : goal.returns-clause-said
returns-clause-said c =
    let d = c.row_mut-cell.result.now in
    let here = ap object_state c.row_mut-cell.ensures.value in
    let who = c.args.who.now in
    rw c.work.ensures.steps (
      d.steps,
      kept_in d,
      cell-taken c.args.here.now.image.now _ _ c.self.view_is c.args.here.now.cpu (Site.object c.args.row.0) d.steps (Cell.object (kept_in d)) (Cell.object (kept_in c.work.new.self)) (work_act c.args.addr who) (Exchange.asked who c.args.noted no_outcome) here (omega arith) refl
          (rw c.work.ensures.buffer
          (ap (λ (noted : List ℕ). Cell.object (record { contents = c.work.new.self.contents; waiters = c.work.new.self.waiters; noted = noted; buffer = buffer_cost who.ask c.work.new.outcome.answer d.buffer })) c.work.ensures.noted
          ∙ ap (λ (w : Acted). Cell.object (record { contents = w.contents; waiters = w.waiters; noted = slice_set d.noted who.thread.0 c.args.noted; buffer = buffer_cost who.ask w.answer d.buffer })) (sym c.work.ensures.work)))
          _
          _
          (c.note.ensures.events
          ∙ (ap (λ (event : Event). logged c.self.inside.log.items (Some event)) c.worked.ensures
          ∙ ap (λ (w : Acted). logged c.self.inside.log.items (Some (by_thread who.thread (Act.Work c.args.addr w.answer (replies_of w.woken))))) (sym c.work.ensures.work)))
          c.note.ensures.room,
      ap (λ (w : Acted). Exchange.asked who c.args.noted (outcome_of w)) c.work.ensures.work,
    )

pub returns-then-cell-ge-LAST-clause-said : goal.returns-then-cell-ge-LAST-clause-said
returns-then-cell-ge-LAST-clause-said c =
    let d = c.row_mut-cell.result.now in
    let ends = object-ends c.args.here.now.image.now _ _ c.self.view_is c.args.here.now.cpu c.args.row.0 d (work_act c.args.addr c.args.who.now) (Exchange.asked c.args.who.now c.args.noted no_outcome) c.row_mut-cell.ensures.value (search arith) in
    (d.steps, kept_in d, ends.0, ends.1, refl)
