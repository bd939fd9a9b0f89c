use Rattle.std.proofs.Common.{arith, refl, Bool, false, ap, ◌∙◌}
use Rattle.um_words.specs.declared.fine.Unseen.{Unseen}
use Rattle.um_fine.specs.Steps.{Exchange}
use Rattle.um_tables.specs.Parked.{awake}
use Rattle.um_tables.proofs.Scheduled.{kept, scheduler-ends, scheduler-refused, scheduler-taken}
use Rattle.um_tables.proofs.tables.steps.TablesSites.wake.Goals as goal

pub returns-clause-said : goal.returns-clause-said
returns-clause-said c =
    let s = c.self.inside.scheduler in let e = c.in-Some.ensures in (
      c.self.inside.scheduler_steps,
      s,
      scheduler-taken c.args.here.now.image.now _ _ c.self.view_is c.args.here.now.cpu _ (Unseen.Wake c.args.who false) (Exchange.told c.args.told.now) (omega arith) (e.0) (e.2 ∙ ap (λ (b : Bool). awake s b c.args.who.0 c.args.told.now) e.1) _ _ refl refl,
    )

pub returns-in-None-clause-said : goal.returns-in-None-clause-said
returns-in-None-clause-said c =
    let s = c.self.inside.scheduler in let e = c.in-None.ensures in (
      c.self.inside.scheduler_steps,
      s,
      kept _ _ c.self.view_is _ e.0,
      scheduler-refused c.args.here.now.image.now _ _ c.self.view_is c.args.here.now.cpu (Unseen.Wake c.args.who false) (Exchange.told c.args.told.now) (e.1),
    )

pub returns-then-self-ge-LAST-clause-said : goal.returns-then-self-ge-LAST-clause-said
returns-then-self-ge-LAST-clause-said c =
    (_, c.self.inside.scheduler, refl, scheduler-ends c.args.here.now.image.now _ _ c.self.view_is c.args.here.now.cpu (Unseen.Wake c.args.who false) (Exchange.told c.args.told.now) (search arith))
