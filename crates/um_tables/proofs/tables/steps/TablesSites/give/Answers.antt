use Rattle.std.proofs.Common.{arith, ap, refl}
use Rattle.um_fine.specs.Cells.{Cell}
use Rattle.um_fine.specs.Steps.{Exchange, Site}
use Rattle.um_words.specs.declared.fine.FineAct.{FineAct}
use Rattle.um_words.specs.declared.fine.Unseen.{Unseen}
use Rattle.um_tables.proofs.Celled.{cell-ends, cell-refused, cell-taken, clock-kept}
use Rattle.um_fine.specs.Clock.{first_due}
use Rattle.um_tables.specs.Timed.{Timed}
use Rattle.um_tables.proofs.Timing.{given-is, none-given}
use Rattle.um_tables.proofs.tables.steps.TablesSites.give.Goals as goal

pub returns-clause-said : goal.returns-clause-said
returns-clause-said c =
    let kept = c.self.inside.clock.clock in
    let e = c.in-Some.ensures in
    let is = given-is (first_due kept.now kept.marks) c.in-Some.given e.given in (
      c.self.inside.clock_steps,
      kept,
      cell-taken c.args.here.now.image.now _ _ c.self.view_is c.args.here.now.cpu Site.clock c.self.inside.clock_steps (Cell.clock kept) (Cell.clock c.give.new.self.clock) (FineAct.Unseen Unseen.Due) (Exchange.nothing) refl (omega arith) is.0
          (ap (λ (t : Timed). Cell.clock t.clock) e.left)
          _
          _
          refl
          refl,
      is.1,
    )

pub returns-in-None-clause-said : goal.returns-in-None-clause-said
returns-in-None-clause-said c =
    let kept = c.self.inside.clock.clock in (
      c.self.inside.clock_steps,
      kept,
      clock-kept _ _ c.self.view_is _ (ap (λ (t : Timed). t.clock) (c.in-None.ensures.none refl)),
      cell-refused c.args.here.now.image.now _ _ c.self.view_is c.args.here.now.cpu Site.clock c.self.inside.clock_steps (Cell.clock kept) (FineAct.Unseen Unseen.Due) (Exchange.nothing) refl (none-given (first_due kept.now kept.marks) c.in-None.ensures.given),
    )

pub returns-then-self-ge-LAST-clause-said : goal.returns-then-self-ge-LAST-clause-said
returns-then-self-ge-LAST-clause-said c = (
  c.self.inside.clock_steps,
  c.self.inside.clock.clock,
  refl,
  cell-ends c.args.here.now.image.now _ _ c.self.view_is c.args.here.now.cpu Site.clock c.self.inside.clock_steps (Cell.clock c.self.inside.clock.clock) (FineAct.Unseen Unseen.Due) (Exchange.nothing) refl (search arith),
)
