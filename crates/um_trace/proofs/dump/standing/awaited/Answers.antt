use Rattle.std.proofs.Common.{◌∙◌, true, false, ap, arith, sym}
use Rattle.std.proofs.lemmas.Iterator.Adapters.{position_from-zero}
use Rattle.std.proofs.lemmas.List.{at_drop_all}
use Rattle.std.specs.List.{list_any, position_from}
use Rattle.um_machine.specs.declared.object.Object.{Object}
use Rattle.um_trace.specs.Dump.{is_waiter}
use Rattle.um_trace.proofs.WaitingLemmas.{position-more}
use Rattle.um_trace.proofs.dump.standing.awaited.Goals as goal

pub loop-x-init : goal.loop-x-init
loop-x-init g c = sym (position_from-zero (λ (o : Object). list_any (is_waiter c.args.thread) o.waiters) (g.D.Dumped.state c.args.last.now).objects)

pub loop-x-preserved : goal.loop-x-preserved
loop-x-preserved g c =
    let p = λ (o : Object). list_any (is_waiter c.args.thread) o.waiters in
    sym (position-more p (g.D.Dumped.state c.args.last.now).objects c.loop-x.x false (omega arith) (ap (list_any (is_waiter c.args.thread)) (sym c.waiters.ensures) ∙ sym c.is_awaited.ensures ∙ c.if-is_awaited.false)) ∙ c.loop-x.invariant

pub returns-then-is_awaited-clause-value : goal.returns-then-is_awaited-clause-value
returns-then-is_awaited-clause-value g c =
    let p = λ (o : Object). list_any (is_waiter c.args.thread) o.waiters in
    sym (position-more p (g.D.Dumped.state c.args.last.now).objects c.loop-x.x true (omega arith) (ap (list_any (is_waiter c.args.thread)) (sym c.waiters.ensures) ∙ sym c.is_awaited.ensures ∙ c.if-is_awaited.true)) ∙ c.loop-x.invariant

pub returns-clause-value : goal.returns-clause-value
returns-clause-value g c =
    let p = λ (o : Object). list_any (is_waiter c.args.thread) o.waiters in
    sym (at_drop_all (position_from p c.loop-x.x) (g.D.Dumped.state c.args.last.now).objects c.loop-x.x (omega arith)) ∙ c.loop-x.invariant
