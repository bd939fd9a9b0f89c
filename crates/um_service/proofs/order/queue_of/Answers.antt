use Rattle.std.proofs.Common.{◌≡◌, ◌∙◌, ◌+◌, ◌-◌, ◌<◌, length, arith}
use Rattle.um_machine.specs.Serving.{serves}
use Rattle.um_machine.proofs.ServingLemmas.{served-filter}
use Rattle.um_service.specs.Preview.{queued}
use Rattle.um_service.proofs.OrderLemmas.{joined, few_joined}
use Rattle.um_service.proofs.order.queue_of.Goals as goal

pub loop-i-preserved : goal.loop-i-preserved
loop-i-preserved c =
    let all = c.as_slice-all.result.now in
    let w = c.index-all-i.result in
    let inside : c.loop-i.i - 1 < length all = omega arith in
    let next : c.loop-i.i - 1 + 1 ≡ c.loop-i.i = omega arith in
    record {
      so_far = c.join.ensures ∙ joined c.args.which all (c.loop-i.i - 1) w c.loop-i.queue.items inside c.index-all-i.is (rw next c.loop-i.invariant.so_far);
      room = rw c.join.ensures (omega (arith, few_joined (serves c.args.which w) (queued c.args.which w) c.loop-i.queue.items, c.loop-i.invariant.room));
    }

pub returns : goal.returns
returns c =
    let none : c.loop-i.i ≡ 0 = omega arith in
    let h = rw (none, c.as_slice-all.ensures.value) at c.loop-i.invariant.so_far in
    rw (served-filter c.args.which c.args.waiters.now) h
