use Rattle.std.proofs.Common.{subst, sym}
use Rattle.um_machine.specs.Run.{Step}
use Rattle.um_machine.specs.State.{State}
use Rattle.um_matrix.specs.Offered.{IsChoice, IsNoStep}
use Rattle.um_matrix.proofs.ReachLemmas.{choice-step}
use Rattle.um_matrix.proofs.matrix.Matrix.apply.Goals as goal

pub make-requires-clause-chosen : goal.make-requires-clause-chosen
make-requires-clause-chosen c =
    let event = c.args.event.now in (event.act, subst (λ (s : State). IsChoice s event.thread.0 event.act c.in-Some.choice) c.self.view_is c.in-Some.ensures.some)

pub returns-in-None-clause-refused : goal.returns-in-None-clause-refused
returns-in-None-clause-refused c = subst (λ (s : State). IsNoStep s c.args.event.now) c.self.view_is c.in-None.ensures.none

pub returns-in-Some-clause-ok : goal.returns-in-Some-clause-ok
returns-in-Some-clause-ok c =
    let s = c.args.self.now in
    let event = c.args.event.now in
    let chosen = subst (λ (u : State). IsChoice u event.thread.0 event.act c.in-Some.choice) c.self.view_is c.in-Some.ensures.some in
    subst (λ (to : State). Step s event to) (sym c.make.ensures) (choice-step s event.thread.0 event.act c.in-Some.choice chosen)
