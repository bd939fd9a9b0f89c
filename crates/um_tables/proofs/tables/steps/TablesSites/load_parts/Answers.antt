use Rattle.std.proofs.Common.{arith, ap, refl, sym}
use Rattle.um_words.specs.declared.fine.FineAct.{FineAct}
use Rattle.um_words.specs.declared.fine.Unseen.{Unseen}
use Rattle.um_fine.specs.Cells.{Cell}
use Rattle.um_fine.specs.Steps.{Exchange, Site}
use Rattle.um_tables.proofs.Celled.{cell-taken, domain-ends, domain-read}
use Rattle.um_tables.proofs.tables.steps.TablesSites.load_parts.Goals as goal

pub returns-clause-said : goal.returns-clause-said
returns-clause-said c =
    let d = c.index_mut-cell.result.now in
    let here = domain-read c.self.inside.domain_cells.items c.args.domain d (omega arith) c.index_mut-cell.ensures.value in (
      d.steps,
      d.parts,
      cell-taken c.args.here.now.image.now _ _ c.self.view_is c.args.here.now.cpu (Site.parts c.args.domain) d.steps (Cell.parts d.parts) (Cell.parts d.parts) (FineAct.Unseen Unseen.RegionLoad) Exchange.nothing here (omega arith) refl refl _ _ refl refl,
      ap Exchange.parts (sym c.load.ensures),
    )

pub returns-then-cell-ge-LAST-clause-said : goal.returns-then-cell-ge-LAST-clause-said
returns-then-cell-ge-LAST-clause-said c =
    let d = c.index_mut-cell.result.now in
    let ends = domain-ends c.args.here.now.image.now _ _ c.self.view_is c.args.here.now.cpu c.args.domain d (FineAct.Unseen Unseen.RegionLoad) Exchange.nothing (omega arith) c.index_mut-cell.ensures.value (search arith) in
    (d.steps, d.parts, ends.0, ends.1, refl)
