use Rattle.std.proofs.Common.{rules, ◌≡◌, ◌∙◌, ap, arith, refl, subst, sym, Some, slice_set}
use Rattle.um_fine.specs.Cells.{Cell}
use Rattle.um_fine.specs.Steps.{Exchange, Site}
use Rattle.um_base.specs.declared.act.Act.{Act}
use Rattle.um_base.specs.declared.act.Event.{Event}
use Rattle.um_base.specs.declared.ask.Waiter.{Waiter}
use Rattle.um_machine.specs.Services.{Acted, acted}
use Rattle.um_machine.specs.Table.{buffer_cost, replies_of}
use Rattle.um_fine.specs.Answers.{no_outcome}
use Rattle.um_fine.specs.Objects.{outcome_of}
use Rattle.um_tables.specs.Asked.{by_thread}
use Rattle.um_tables.specs.ObjectCells.{kept_in, work_act}
use Rattle.um_tables.specs.declared.object_cell.ObjectCell.{ObjectCell}
use Rattle.um_board.proofs.CellKinds.{object-kind}
use Rattle.um_board.proofs.CellSteps.{cell-takes}
use Rattle.um_board.proofs.Keeping.{noted-then}
use Rattle.um_board.proofs.NextRuns.{next-then}
use Rattle.um_board.proofs.sites.SeatedSites.work.Goals as goal

-- what the object answers, as of the cell that was kept
work-of : (who : Waiter) (o d : ObjectCell) (l : Acted) → o ≡ d → acted o.contents o.waiters who ≡ l → acted d.contents d.waiters who ≡ l
work-of who o d l was = subst (λ (x : ObjectCell). acted x.contents x.waiters who ≡ l) was

pub turn-requires-clause-site : goal.turn-requires-clause-site
turn-requires-clause-site c = (omega arith, let low = c.requires.row in omega (arith, low), object-kind c.args.row.0 c.requires.row)

pub leave_cell-requires-clause-takes : goal.leave_cell-requires-clause-takes
leave_cell-requires-clause-takes c =
    let d = c.in-Some.turn.before.value in
    let was : c.in-Some.cell ≡ d = search rules in
    let who = c.args.who.now in
    let z = c.work.new.self in
    let answer = c.work.new.outcome.answer in
    let work = work-of who c.in-Some.cell d _ was c.work.ensures.work in
    let buffer : z.buffer ≡ buffer_cost who.ask answer d.buffer = c.work.ensures.buffer ∙ ap (λ (o : ObjectCell). buffer_cost who.ask answer o.buffer) was in
    let noted : z.noted ≡ slice_set d.noted who.thread.0 c.args.noted = c.work.ensures.noted ∙ ap (λ (o : ObjectCell). slice_set o.noted who.thread.0 c.args.noted) was in
    cell-takes c.args.here.now.image.now c.args.here.now.cpu (Site.object c.args.row.0) c.in-Some.turn.number (Cell.object (kept_in d)) _ (work_act c.args.addr who) (Exchange.asked who c.args.noted no_outcome) c.in-Some.ensures.turn.1.turn.room refl
    ((λ i. Cell.object (record { contents = z.contents; waiters = z.waiters; noted = noted i; buffer = buffer i }))
    ∙ ap (λ (w : Acted). Cell.object (record { contents = w.contents; waiters = w.waiters; noted = slice_set d.noted who.thread.0 c.args.noted; buffer = buffer_cost who.ask w.answer d.buffer })) (sym work))

pub leave_cell-requires-clause-event : goal.leave_cell-requires-clause-event
leave_cell-requires-clause-event c =
    let work = work-of c.args.who.now c.in-Some.cell c.in-Some.turn.before.value _ (search rules) c.work.ensures.work in
    ap (λ (e : Event). Some e) c.worked.ensures ∙ ap (λ (w : Acted). Some (by_thread c.args.who.now.thread (Act.Work c.args.addr w.answer (replies_of w.woken)))) (sym work)

pub leave_cell-requires-clause-goes : goal.leave_cell-requires-clause-goes
leave_cell-requires-clause-goes c = next-then _ _ _ _ _ _ c.in-Some.ensures.unnoted (c.requires.goes c.in-Some.turn.number (kept_in c.in-Some.turn.before.value))

pub returns-clause-said : goal.returns-clause-said
returns-clause-said c =
    let work = work-of c.args.who.now c.in-Some.cell c.in-Some.turn.before.value _ (search rules) c.work.ensures.work in
    (c.in-Some.turn.number, kept_in c.in-Some.turn.before.value, noted-then _ _ _ _ _ _ _ c.in-Some.ensures.unnoted c.leave_cell.ensures.made, ap (λ (w : Acted). Exchange.asked c.args.who.now c.args.noted (outcome_of w)) work)

pub returns-in_default-clause-said : goal.returns-in_default-clause-said
returns-in_default-clause-said c = (c.turn.ensures.unnoted, c.in_default.ensures.turn.1, refl)
