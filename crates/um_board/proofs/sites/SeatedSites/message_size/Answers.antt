use Rattle.std.proofs.Common.{rules, ◌≡◌, ◌∙◌, ap, sym}
use Rattle.um_machine.specs.Table.{message_size}
use Rattle.um_fine.specs.Steps.{Exchange}
use Rattle.um_tables.specs.ObjectCells.{kept_in}
use Rattle.um_tables.specs.declared.object_cell.ObjectCell.{ObjectCell}
use Rattle.um_board.proofs.Keeping.{noted-then}
use Rattle.um_board.proofs.NextRuns.{next-then}
use Rattle.um_board.proofs.sites.SeatedSites.message_size.Goals as goal

pub leave_cell-requires-clause-goes : goal.leave_cell-requires-clause-goes
leave_cell-requires-clause-goes c = next-then _ _ _ _ _ _ c.in-Some.ensures.unnoted (c.requires.goes c.in-Some.turn.number (kept_in c.in-Some.turn.before.value))

pub returns-clause-said : goal.returns-clause-said
returns-clause-said c =
    let d = c.in-Some.turn.before.value in
    let was : c.in-Some.cell ≡ d = search rules in
    (c.in-Some.turn.number, kept_in d, noted-then _ _ _ _ _ _ _ c.in-Some.ensures.unnoted c.leave_cell.ensures.made, ap Exchange.size (sym (c.message_size-size.ensures ∙ ap (λ (o : ObjectCell). message_size o.contents) was)))

pub returns-in_default-clause-said : goal.returns-in_default-clause-said
returns-in_default-clause-said c = (c.turn.ensures.unnoted, c.in_default.ensures.turn.1)
