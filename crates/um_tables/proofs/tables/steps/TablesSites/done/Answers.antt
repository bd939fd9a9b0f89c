use Rattle.std.proofs.Common.{arith, refl, ap, nat_lt}
use Rattle.std.proofs.lemmas.Bool.{lt-ltb}
use Rattle.um_words.specs.declared.fine.Unseen.{Unseen}
use Rattle.um_fine.specs.Steps.{Exchange}
use Rattle.um_tables.proofs.Scheduled.{kept, scheduler-ends, scheduler-refused, scheduler-taken}
use Rattle.um_tables.proofs.tables.steps.TablesSites.done.Goals as goal

pub returns-clause-said : goal.returns-clause-said
returns-clause-said c =
    let s = c.self.inside.scheduler in let e = c.if-not-done.ensures.made refl in (
      c.self.inside.scheduler_steps,
      s,
      scheduler-taken c.args.here.now.image.now _ _ c.self.view_is c.args.here.now.cpu _ (Unseen.Done) (Exchange.nothing) (omega arith) (lt-ltb 0 _ e.0) (e.1) _ _ refl refl,
    )

pub returns-then-not-done-clause-said : goal.returns-then-not-done-clause-said
returns-then-not-done-clause-said c =
    let s = c.self.inside.scheduler in let e = c.if-not-done.ensures.refused refl in (
      c.self.inside.scheduler_steps,
      s,
      kept _ _ c.self.view_is _ e.0,
      scheduler-refused c.args.here.now.image.now _ _ c.self.view_is c.args.here.now.cpu (Unseen.Done) (Exchange.nothing) (ap (nat_lt 0) e.1),
    )

pub returns-then-self-ge-LAST-clause-said : goal.returns-then-self-ge-LAST-clause-said
returns-then-self-ge-LAST-clause-said c =
    (_, c.self.inside.scheduler, refl, scheduler-ends c.args.here.now.image.now _ _ c.self.view_is c.args.here.now.cpu (Unseen.Done) (Exchange.nothing) (search arith))
