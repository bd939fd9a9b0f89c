use Rattle.std.proofs.Common.{◌≤◌, ◌∙◌, refl, arith, sym, ap, length, length-append}
use Rattle.um_base.specs.declared.limits.TheConstants.{THREADS}
use Rattle.um_machine.specs.Services.{in_order}
use Rattle.um_machine.specs.Serving.{served}
use Rattle.um_machine.proofs.ServingLemmas.{served-few, unserved-all}
use Rattle.um_service.proofs.WakingLemmas.{failed, one_woken, all_woken}
use Rattle.um_service.proofs.waking.wake_all.Goals as goal

pub waiting-init : goal.waiting-init
waiting-init c =
    let few : length c.args.waiters.now ≤ THREADS = omega arith in
    record { woken = rw c.clear.ensures refl; room = rw c.clear.ensures (omega (arith, served-few c.args.which c.args.waiters.now THREADS few)); others = refl }

pub push-requires : goal.push-requires
push-requires c =
    let first = rw c.in-Some.is at c.take_first.ensures in
    let fewer = ap length first.0 in
    omega (arith, c.waiting.invariant.room)

pub waiting-preserved : goal.waiting-preserved
waiting-preserved c =
    let first = rw c.in-Some.is at c.take_first.ensures in
    let fewer = ap length first.0 in
    let before = in_order (served c.args.which c.waiting.waiters) in
    let after = in_order (served c.args.which c.take_first.new.self) in
    record {
      woken = rw (c.push.ensures, c.new.ensures) (one_woken c.args.error c.waiting.woken (failed c.args.error (in_order (served c.args.which c.args.waiters.now))) before after c.in-Some.first first.0 c.waiting.invariant.woken);
      room = rw (c.push.ensures, length-append) (omega (arith, c.waiting.invariant.room));
      others = first.1 ∙ c.waiting.invariant.others;
    }

pub waiting-smaller : goal.waiting-smaller
waiting-smaller c =
    let first = rw c.in-Some.is at c.take_first.ensures in
    let fewer = ap length first.0 in
    omega arith

pub returns-in-None-clause-woken : goal.returns-in-None-clause-woken
returns-in-None-clause-woken c =
    let none = rw c.in-None.is at c.take_first.ensures in
    all_woken c.args.error c.waiting.woken (failed c.args.error (in_order (served c.args.which c.args.waiters.now))) (in_order (served c.args.which c.waiting.waiters)) none.0 c.waiting.invariant.woken

pub returns-in-None-clause-others : goal.returns-in-None-clause-others
returns-in-None-clause-others c =
    let none = rw c.in-None.is at c.take_first.ensures in
    none.1 ∙ sym (unserved-all c.args.which c.waiting.waiters none.0) ∙ c.waiting.invariant.others
