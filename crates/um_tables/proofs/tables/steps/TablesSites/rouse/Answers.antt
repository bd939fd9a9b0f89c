use Rattle.std.proofs.Common.{arith, ap, refl, sym}
use Rattle.um_fine.specs.Cells.{Cell}
use Rattle.um_fine.specs.Steps.{Exchange, Site}
use Rattle.um_words.specs.declared.fine.FineAct.{FineAct}
use Rattle.um_words.specs.declared.fine.Unseen.{Unseen}
use Rattle.um_tables.specs.Sited.{logged}
use Rattle.um_tables.proofs.Celled.{cell-ends, cell-taken}
use Rattle.um_tables.proofs.Parting.{rouses}
use Rattle.um_tables.proofs.tables.steps.TablesSites.rouse.Goals as goal

pub returns-clause-said : goal.returns-clause-said
returns-clause-said c =
    let kept = c.self.inside.joins in
    let e = c.rouse-found.ensures in
    let comes = rouses kept c.args.who c.rouse-found.new.self c.rouse-found.new.context.value c.rouse-found.result e.found e.taken e.left in (
      c.self.inside.joins_steps,
      kept,
      cell-taken c.args.here.now.image.now _ _ c.self.view_is c.args.here.now.cpu Site.joins c.self.inside.joins_steps (Cell.joins kept) (Cell.joins c.rouse-found.new.self) (FineAct.Unseen (Unseen.Rouse c.args.who)) (Exchange.nothing) refl (omega arith) comes.takes_it
          (ap Cell.joins comes.leaves)
          _
          _
          (sym (ap (logged c.self.inside.log.items) comes.no_event))
          refl,
      (comes.found_is, comes.roused),
    )

pub returns-then-self-ge-LAST-clause-said : goal.returns-then-self-ge-LAST-clause-said
returns-then-self-ge-LAST-clause-said c = (
  c.self.inside.joins_steps,
  c.self.inside.joins,
  refl,
  cell-ends c.args.here.now.image.now _ _ c.self.view_is c.args.here.now.cpu Site.joins c.self.inside.joins_steps (Cell.joins c.self.inside.joins) (FineAct.Unseen (Unseen.Rouse c.args.who)) (Exchange.nothing) refl (search arith),
  refl,
)
