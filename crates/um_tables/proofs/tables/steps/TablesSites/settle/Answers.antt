use Rattle.std.proofs.Common.{arith, ap, refl}
use Rattle.um_fine.specs.Cells.{Cell}
use Rattle.um_fine.specs.Steps.{Exchange, Site}
use Rattle.um_words.specs.declared.fine.FineAct.{FineAct}
use Rattle.um_words.specs.declared.fine.Unseen.{Unseen}
use Rattle.um_tables.proofs.Celled.{cell-ends, cell-taken}
use Rattle.um_tables.specs.Timed.{Timed}
use Rattle.um_tables.proofs.tables.steps.TablesSites.settle.Goals as goal

pub returns-clause-said : goal.returns-clause-said
returns-clause-said c =
    let kept = c.self.inside.clock.clock in
    let e = c.settle.ensures.left in (
      c.self.inside.clock_steps,
      kept,
      cell-taken c.args.here.now.image.now _ _ c.self.view_is c.args.here.now.cpu Site.clock c.self.inside.clock_steps (Cell.clock kept) (Cell.clock c.settle.new.self.clock) (FineAct.Unseen Unseen.Settle) (Exchange.mark c.args.deadline c.args.mark) refl (omega arith) refl
          (ap (λ (t : Timed). Cell.clock t.clock) e)
          _
          _
          refl
          refl,
    )

pub returns-then-self-ge-LAST-clause-said : goal.returns-then-self-ge-LAST-clause-said
returns-then-self-ge-LAST-clause-said c = (
  c.self.inside.clock_steps,
  c.self.inside.clock.clock,
  refl,
  cell-ends c.args.here.now.image.now _ _ c.self.view_is c.args.here.now.cpu Site.clock c.self.inside.clock_steps (Cell.clock c.self.inside.clock.clock) (FineAct.Unseen Unseen.Settle) (Exchange.mark c.args.deadline c.args.mark) refl (search arith),
)
