use Rattle.std.proofs.Common.{arith, ap, refl, None}
use Rattle.um_machine.specs.Domains.{domain_after}
use Rattle.um_words.specs.declared.fine.FineAct.{FineAct}
use Rattle.um_words.specs.declared.fine.Unseen.{Unseen}
use Rattle.um_fine.specs.Cells.{Cell}
use Rattle.um_fine.specs.Processor.{edit_of}
use Rattle.um_fine.specs.Steps.{Exchange, Site}
use Rattle.um_tables.proofs.Celled.{cell-taken, domain-ends, domain-read}
use Rattle.um_tables.proofs.tables.steps.TablesSites.edit.Goals as goal

pub returns-clause-said : goal.returns-clause-said
returns-clause-said c =
    let d = c.index_mut-cell.result.now in
    let here = domain-read c.self.inside.domain_cells.items c.args.domain d (omega arith) c.index_mut-cell.ensures.value in (
      d.steps,
      d.parts,
      cell-taken c.args.here.now.image.now _ _ c.self.view_is c.args.here.now.cpu (Site.parts c.args.domain) d.steps (Cell.parts d.parts) (Cell.parts c.edited-parts.result.0) (FineAct.Unseen Unseen.Edit) (Exchange.edited None (domain_after d.parts (edit_of c.args.here.now.image.now c.args.call.now d.parts))) here (omega arith) refl (ap Cell.parts c.edited-parts.ensures.parts) _ _ refl refl,
      c.edited-parts.ensures.reply,
    )

pub returns-then-cell-ge-LAST-clause-said : goal.returns-then-cell-ge-LAST-clause-said
returns-then-cell-ge-LAST-clause-said c =
    let d = c.index_mut-cell.result.now in
    let ends = domain-ends c.args.here.now.image.now _ _ c.self.view_is c.args.here.now.cpu c.args.domain d (FineAct.Unseen Unseen.Edit) (Exchange.edited None (domain_after d.parts (edit_of c.args.here.now.image.now c.args.call.now d.parts))) (omega arith) c.index_mut-cell.ensures.value (search arith) in
    (d.steps, d.parts, ends.0, ends.1)
