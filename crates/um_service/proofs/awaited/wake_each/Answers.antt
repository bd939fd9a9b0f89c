use Rattle.std.proofs.Common.{[], ◌≤◌, refl, sym, arith, ap, length, length-append}
use Rattle.um_base.specs.declared.limits.TheConstants.{THREADS}
use Rattle.um_base.specs.declared.names.Reply.TheVariants as Reply
use Rattle.um_machine.specs.declared.served.Served.TheVariants as Served
use Rattle.um_machine.specs.Services.{in_order, told}
use Rattle.um_machine.proofs.ServingLemmas.{served-few}
use Rattle.um_service.specs.Awaits.{all_well}
use Rattle.um_service.proofs.AwaitLemmas.{one-well, all-well}
use Rattle.um_service.proofs.PipeLemmas.{left_out, still_waiting-none}
use Rattle.um_service.proofs.awaited.wake_each.Goals as goal

pub waiting-init : goal.waiting-init
waiting-init c =
    let few : length c.args.those.now ≤ THREADS = omega arith in
    record {
      woken = rw c.clear.ensures refl;
      room = rw c.clear.ensures (omega (arith, served-few Served.All c.args.those.now THREADS few));
      left = rw c.clear.ensures (sym (still_waiting-none c.args.waiters.now));
    }

pub wake-requires : goal.wake-requires
wake-requires c =
    let first = rw c.in-Some.is at c.take_first.ensures in
    let fewer = ap length first.0 in
    omega (arith, c.waiting.invariant.room)

pub waiting-preserved : goal.waiting-preserved
waiting-preserved c =
    let first = rw c.in-Some.is at c.take_first.ensures in
    let fewer = ap length first.0 in
    let one = told c.in-Some.first (Reply.Num 0) [] in
    record {
      woken = rw c.wake.ensures.woken (one-well c.waiting.woken (all_well (in_order c.args.those.now)) (in_order c.waiting.those) (in_order c.take_first.new.self) c.in-Some.first first.0 c.waiting.invariant.woken);
      room = rw (c.wake.ensures.woken, length-append) (omega (arith, c.waiting.invariant.room));
      left = left_out c.waiting.woken c.wake.new.woken one c.args.waiters.now c.waiting.waiters c.wake.new.waiters c.wake.ensures.left c.waiting.invariant.left c.wake.ensures.woken;
    }

pub waiting-smaller : goal.waiting-smaller
waiting-smaller c =
    let first = rw c.in-Some.is at c.take_first.ensures in
    let fewer = ap length first.0 in
    omega arith

pub returns-in-None-clause-woken : goal.returns-in-None-clause-woken
returns-in-None-clause-woken c =
    let none = rw c.in-None.is at c.take_first.ensures in
    all-well c.waiting.woken (all_well (in_order c.args.those.now)) (in_order c.waiting.those) none.0 c.waiting.invariant.woken
