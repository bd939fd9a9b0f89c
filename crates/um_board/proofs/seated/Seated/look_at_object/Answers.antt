use Rattle.std.proofs.Common.{rules, arith, ◌≡◌, ◌∙◌, ap}
use Rattle.um_fine.specs.Cells.{Cell}
use Rattle.um_fine.specs.Seeking.{finds}
use Rattle.um_fine.specs.Steps.{Site}
use Rattle.um_tables.proofs.Looked.{looked-at-object}
use Rattle.um_tables.specs.Looks.{left_by, look_act, look_sent}
use Rattle.um_tables.specs.ObjectCells.{kept_in}
use Rattle.um_tables.specs.declared.object_cell.ObjectCell.{ObjectCell}
use Rattle.um_board.proofs.CellKinds.{object-kind}
use Rattle.um_board.proofs.CellSteps.{cell-takes}
use Rattle.um_board.proofs.Keeping.{noted-then}
use Rattle.um_board.proofs.NextRuns.{next-then}
use Rattle.um_board.proofs.seated.Seated.look_at_object.Goals as goal

pub turn-requires-clause-site : goal.turn-requires-clause-site
turn-requires-clause-site c = (omega arith, let low = c.requires.row in omega (arith, low), object-kind c.args.row.0 c.requires.row)

pub leave_cell-requires-clause-takes : goal.leave_cell-requires-clause-takes
leave_cell-requires-clause-takes c =
    let d = c.in-Some.turn.before.value in
    let was : c.in-Some.cell ≡ d = search rules in
    let look = c.args.look.now in
    let found = c.look-found.result in
    let comes = looked-at-object (kept_in d) look found (c.look-found.ensures.found ∙ ap (λ (x : ObjectCell). finds x.waiters x.noted (look_sent look)) was) in
    cell-takes c.args.here.now.image.now c.args.here.now.cpu (Site.object c.args.row.0) c.in-Some.turn.number (Cell.object (kept_in d)) _ (look_act look) (look_sent look) c.in-Some.ensures.turn.1.turn.room comes.takes_it (ap (λ (x : ObjectCell). (Cell.object (kept_in x))) (c.look-found.ensures.left ∙ ap (λ (x : ObjectCell). record x { waiters = left_by found look x.waiters }) was) ∙ ap Cell.object comes.leaves)

pub leave_cell-requires-clause-event : goal.leave_cell-requires-clause-event
leave_cell-requires-clause-event c =
    let d = c.in-Some.turn.before.value in
    let was : c.in-Some.cell ≡ d = search rules in
    let look = c.args.look.now in
    let comes = looked-at-object (kept_in d) look c.look-found.result (c.look-found.ensures.found ∙ ap (λ (x : ObjectCell). finds x.waiters x.noted (look_sent look)) was) in
    c.event-event.ensures ∙ comes.event_is

pub leave_cell-requires-clause-goes : goal.leave_cell-requires-clause-goes
leave_cell-requires-clause-goes c = next-then _ _ _ _ _ _ c.in-Some.ensures.unnoted (c.requires.goes c.in-Some.turn.number (kept_in c.in-Some.turn.before.value))

pub returns-clause-said : goal.returns-clause-said
returns-clause-said c =
    let d = c.in-Some.turn.before.value in
    let was : c.in-Some.cell ≡ d = search rules in
    let look = c.args.look.now in
    let comes = looked-at-object (kept_in d) look c.look-found.result (c.look-found.ensures.found ∙ ap (λ (x : ObjectCell). finds x.waiters x.noted (look_sent look)) was) in
    (c.in-Some.turn.number, kept_in d, noted-then _ _ _ _ _ _ _ c.in-Some.ensures.unnoted c.leave_cell.ensures.made, comes.found_is)

pub returns-in_default-clause-said : goal.returns-in_default-clause-said
returns-in_default-clause-said c = (c.turn.ensures.unnoted, c.in_default.ensures.turn.1)
