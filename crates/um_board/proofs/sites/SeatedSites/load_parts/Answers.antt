use Rattle.std.proofs.Common.{rules, refl, ◌≡◌, ◌∙◌, ap, sym}
use Rattle.um_machine.specs.Memory.{parts_or_none}
use Rattle.um_fine.specs.Steps.{Exchange}
use Rattle.um_tables.specs.declared.domain_cell.DomainCell.{DomainCell}
use Rattle.um_board.proofs.Keeping.{noted-then}
use Rattle.um_board.proofs.NextRuns.{next-then}
use Rattle.um_board.proofs.sites.SeatedSites.load_parts.Goals as goal

pub leave_cell-requires-clause-goes : goal.leave_cell-requires-clause-goes
leave_cell-requires-clause-goes c = next-then _ _ _ _ _ _ c.in-Some.ensures.unnoted (c.requires.goes c.in-Some.turn.number c.in-Some.turn.before.value.value.parts)

pub returns-clause-said : goal.returns-clause-said
returns-clause-said c =
    let d = c.in-Some.turn.before.value.value in
    let was : c.deref.result.now ≡ d = search rules in
    (c.in-Some.turn.number, d.parts, noted-then _ _ _ _ _ _ _ c.in-Some.ensures.unnoted c.leave_cell.ensures.made, ap Exchange.parts (sym (c.load.ensures ∙ ap (λ (o : DomainCell). parts_or_none o.parts) was)))

pub returns-in_default-clause-said : goal.returns-in_default-clause-said
returns-in_default-clause-said c = (c.turn.ensures.unnoted, c.in_default.ensures.turn.1, refl)
