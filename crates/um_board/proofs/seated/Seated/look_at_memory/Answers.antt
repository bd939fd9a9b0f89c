use Rattle.std.proofs.Common.{rules, ◌≡◌, ◌∙◌, ap}
use Rattle.um_fine.specs.Cells.{Cell}
use Rattle.um_fine.specs.Memory.{Bytes}
use Rattle.um_fine.specs.Seeking.{finds}
use Rattle.um_fine.specs.Steps.{Site}
use Rattle.um_tables.proofs.Looked.{looked-at-memory}
use Rattle.um_tables.specs.Looks.{left_by, look_act, look_sent}
use Rattle.um_board.proofs.CellSteps.{cell-takes}
use Rattle.um_board.proofs.Keeping.{noted-then}
use Rattle.um_board.proofs.NextRuns.{next-then}
use Rattle.um_board.proofs.seated.Seated.look_at_memory.Goals as goal

pub leave_cell-requires-clause-takes : goal.leave_cell-requires-clause-takes
leave_cell-requires-clause-takes c =
    let d = c.in-Some.turn.before.value.value in
    let was : c.deref_mut.result.now ≡ d = search rules in
    let look = c.args.look.now in
    let found = c.look-found.result in
    let comes = looked-at-memory c.args.here.now.image.now d look found (c.look-found.ensures.found ∙ ap (λ (x : Bytes). finds x.futexes x.noted (look_sent look)) was) in
    cell-takes c.args.here.now.image.now c.args.here.now.cpu Site.memory c.in-Some.turn.number (Cell.memory d) _ (look_act look) (look_sent look) c.in-Some.ensures.turn.1.turn.room comes.takes_it (ap (λ (x : Bytes). (Cell.memory x)) (c.look-found.ensures.left ∙ ap (λ (x : Bytes). record x { futexes = left_by found look x.futexes }) was) ∙ ap Cell.memory comes.leaves)

pub leave_cell-requires-clause-event : goal.leave_cell-requires-clause-event
leave_cell-requires-clause-event c =
    let d = c.in-Some.turn.before.value.value in
    let was : c.deref_mut.result.now ≡ d = search rules in
    let look = c.args.look.now in
    let comes = looked-at-memory c.args.here.now.image.now d look c.look-found.result (c.look-found.ensures.found ∙ ap (λ (x : Bytes). finds x.futexes x.noted (look_sent look)) was) in
    c.event-event.ensures ∙ comes.event_is

pub leave_cell-requires-clause-goes : goal.leave_cell-requires-clause-goes
leave_cell-requires-clause-goes c = next-then _ _ _ _ _ _ c.in-Some.ensures.unnoted (c.requires.goes c.in-Some.turn.number c.in-Some.turn.before.value.value)

pub returns-clause-said : goal.returns-clause-said
returns-clause-said c =
    let d = c.in-Some.turn.before.value.value in
    let was : c.deref_mut.result.now ≡ d = search rules in
    let look = c.args.look.now in
    let comes = looked-at-memory c.args.here.now.image.now d look c.look-found.result (c.look-found.ensures.found ∙ ap (λ (x : Bytes). finds x.futexes x.noted (look_sent look)) was) in
    (c.in-Some.turn.number, d, noted-then _ _ _ _ _ _ _ c.in-Some.ensures.unnoted c.leave_cell.ensures.made, comes.found_is)

pub returns-in_default-clause-said : goal.returns-in_default-clause-said
returns-in_default-clause-said c = (c.turn.ensures.unnoted, c.in_default.ensures.turn.1)
