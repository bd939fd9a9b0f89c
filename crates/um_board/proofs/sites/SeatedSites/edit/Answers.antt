use Rattle.std.proofs.Common.{rules, ◌≡◌, ◌∙◌, ap, arith, refl, None, Option}
use Rattle.um_fine.specs.Cells.{Cell}
use Rattle.um_fine.specs.Steps.{Exchange, Site}
use Rattle.um_base.specs.Regions.{Partitions}
use Rattle.um_machine.specs.Domains.{domain_after, reply_to}
use Rattle.um_fine.specs.Processor.{edit_of}
use Rattle.um_words.specs.declared.fine.FineAct.{FineAct}
use Rattle.um_words.specs.declared.fine.Unseen.{Unseen}
use Rattle.um_tables.specs.declared.domain_cell.DomainCell.{DomainCell}
use Rattle.um_board.proofs.CellKinds.{parts-kind}
use Rattle.um_board.proofs.CellSteps.{cell-takes}
use Rattle.um_board.proofs.Keeping.{noted-then}
use Rattle.um_board.proofs.NextRuns.{next-then}
use Rattle.um_board.proofs.sites.SeatedSites.edit.Goals as goal

pub turn-requires-clause-site : goal.turn-requires-clause-site
turn-requires-clause-site c = (omega arith, let low = c.requires.domain in omega (arith, low), parts-kind c.args.domain c.requires.domain)

pub leave_cell-requires-clause-takes : goal.leave_cell-requires-clause-takes
leave_cell-requires-clause-takes c =
    let d = c.in-Some.turn.before.value.value in
    let was : c.deref.result.now ≡ d = search rules in
    let made = λ (p : Option Partitions). domain_after p (edit_of c.args.here.now.image.now c.args.call.now p) in
    cell-takes c.args.here.now.image.now c.args.here.now.cpu (Site.parts c.args.domain) c.in-Some.turn.number (Cell.parts d.parts) _ (FineAct.Unseen Unseen.Edit) (Exchange.edited None (made d.parts)) c.in-Some.ensures.turn.1.turn.room refl (ap Cell.parts (c.edited-parts.ensures.parts ∙ ap (λ (o : DomainCell). made o.parts) was))

pub leave_cell-requires-clause-goes : goal.leave_cell-requires-clause-goes
leave_cell-requires-clause-goes c = next-then _ _ _ _ _ _ c.in-Some.ensures.unnoted (c.requires.goes c.in-Some.turn.number c.in-Some.turn.before.value.value.parts)

pub returns-clause-said : goal.returns-clause-said
returns-clause-said c =
    let d = c.in-Some.turn.before.value.value in
    let was : c.deref.result.now ≡ d = search rules in
    (c.in-Some.turn.number, d.parts, noted-then _ _ _ _ _ _ _ c.in-Some.ensures.unnoted c.leave_cell.ensures.made, c.edited-parts.ensures.reply ∙ ap (λ (o : DomainCell). reply_to (edit_of c.args.here.now.image.now c.args.call.now o.parts)) was)

pub returns-in_default-clause-said : goal.returns-in_default-clause-said
returns-in_default-clause-said c = (c.turn.ensures.unnoted, c.in_default.ensures.turn.1)
