use Rattle.std.proofs.Common.{rules, refl, ◌≡◌, ◌∙◌, ap, sym}
use Rattle.um_words.specs.declared.fine.FineAct.{FineAct}
use Rattle.um_words.specs.declared.fine.Unseen.{Unseen}
use Rattle.um_fine.specs.Cells.{Cell}
use Rattle.um_fine.specs.Steps.{Exchange, Site}
use Rattle.um_tables.specs.ObjectCells.{kept_in, wiped}
use Rattle.um_tables.specs.declared.object_cell.ObjectCell.{ObjectCell}
use Rattle.um_board.proofs.CellSteps.{cell-takes}
use Rattle.um_board.proofs.Keeping.{noted-then}
use Rattle.um_board.proofs.NextRuns.{next-then}
use Rattle.um_board.proofs.sites.SeatedSites.clear.Goals as goal

pub leave_cell-requires-clause-takes : goal.leave_cell-requires-clause-takes
leave_cell-requires-clause-takes c =
    let d = c.in-Some.turn.before.value in
    let was : c.in-Some.cell ≡ d = search rules in
    cell-takes c.args.here.now.image.now c.args.here.now.cpu (Site.object c.args.row.0) c.in-Some.turn.number (Cell.object (kept_in d)) _ (FineAct.Unseen Unseen.Wipe) Exchange.nothing c.in-Some.ensures.turn.1.turn.room refl
    (ap (λ (o : ObjectCell). Cell.object (kept_in o)) (c.clear-buffer.ensures.left ∙ ap wiped was))

pub leave_cell-requires-clause-goes : goal.leave_cell-requires-clause-goes
leave_cell-requires-clause-goes c = next-then _ _ _ _ _ _ c.in-Some.ensures.unnoted (c.requires.goes c.in-Some.turn.number (kept_in c.in-Some.turn.before.value))

pub returns-clause-said : goal.returns-clause-said
returns-clause-said c =
    let d = c.in-Some.turn.before.value in
    let was : c.in-Some.cell ≡ d = search rules in
    (c.in-Some.turn.number, kept_in d, noted-then _ _ _ _ _ _ _ c.in-Some.ensures.unnoted c.leave_cell.ensures.made, ap Exchange.charge (sym (c.clear-buffer.ensures.cost ∙ ap (λ (o : ObjectCell). o.buffer) was)))

pub returns-in_default-clause-said : goal.returns-in_default-clause-said
returns-in_default-clause-said c = (c.turn.ensures.unnoted, c.in_default.ensures.turn.1)
