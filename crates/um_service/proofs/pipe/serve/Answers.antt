use Rattle.std.proofs.Common.{◌≡◌, ◌≤◌, false, true, refl, sym, ap, ◌∙◌, arith, length, length-append}
use Rattle.um_base.specs.declared.limits.TheConstants.{THREADS}
use Rattle.um_machine.specs.Contents.{Pipe}
use Rattle.um_machine.specs.Services.{in_order}
use Rattle.um_machine.specs.Serving.{served}
use Rattle.um_machine.proofs.ServingLemmas.{served-few}
use Rattle.um_service.specs.Sides.{served_on, side_served, is_idle, bytes_after, told_first}
use Rattle.um_service.proofs.PipeLemmas.{SoFar-start, SoFar-done, side-idle, side-more, still_waiting-none, other_bytes, same_bytes, left_out}
use Rattle.um_service.proofs.pipe.serve.Goals as goal

pub serving-init : goal.serving-init
serving-init c =
    let ws = c.args.waiters.now in
    let few : length ws ≤ THREADS = omega arith in
    let fits : length (in_order (served (served_on c.args.side) ws)) ≤ THREADS = served-few (served_on c.args.side) ws THREADS few in
    record {
      so_far = rw c.clear.ensures (SoFar-start (side_served c.args.side c.args.pipe.now.size (in_order (served (served_on c.args.side) ws)) c.args.pipe.now.bytes));
      pipe = refl;
      waiting = rw c.clear.ensures (sym (still_waiting-none ws));
      room = rw c.clear.ensures (omega arith);
    }

pub serving-preserved : goal.serving-preserved
serving-preserved c =
    let side = c.args.side in
    let first = rw (c.in-Some.is, c.served.ensures) at c.take_first.ensures in
    let fewer = ap length first.0 in
    let size : c.serving.pipe.size ≡ c.args.pipe.now.size = ap (λ (p : Pipe). p.size) c.serving.invariant.pipe in
    let whole = side_served side c.args.pipe.now.size (in_order (served (served_on side) c.args.waiters.now)) c.args.pipe.now.bytes in
    let before = in_order (served (served_on side) c.serving.waiters) in
    let after = in_order (served (served_on side) c.take_first.new.self) in
    let one = told_first side c.args.pipe.now.size c.in-Some.first c.serving.pipe.bytes in
    let busy : is_idle side c.args.pipe.now.size c.serving.pipe.bytes ≡ false = ap (λ n. is_idle side n c.serving.pipe.bytes) (sym size) ∙ sym c.is_idle.ensures ∙ c.if-is_idle.false in
    record {
      so_far = rw (c.serve_one.ensures.left, c.serve_one.ensures.woken, size) (side-more side whole c.args.pipe.now.size before after c.in-Some.first c.serving.pipe.bytes c.serving.woken first.0 busy c.serving.invariant.so_far);
      pipe = rw c.serve_one.ensures.left (other_bytes c.serving.pipe c.args.pipe.now (bytes_after side c.serving.pipe.size c.in-Some.first c.serving.pipe.bytes) c.serving.invariant.pipe);
      waiting = left_out c.serving.woken c.serve_one.new.woken one c.args.waiters.now c.serving.waiters c.take_first.new.self first.2 c.serving.invariant.waiting (rw (c.serve_one.ensures.woken, size) refl);
      room = rw (c.serve_one.ensures.woken, length-append) (omega (arith, c.serving.invariant.room));
    }

-- where nobody is served, those who were woken are all
all-served : (c : goal.Then-is_idle)
    → let whole = side_served c.args.side c.args.pipe.now.size (in_order (served (served_on c.args.side) c.args.waiters.now)) c.args.pipe.now.bytes in (c.serving.pipe.bytes ≡ whole.0) × (c.serving.woken ≡ whole.1)
all-served c =
    let side = c.args.side in
    let size : c.serving.pipe.size ≡ c.args.pipe.now.size = ap (λ (p : Pipe). p.size) c.serving.invariant.pipe in
    let idle : is_idle side c.args.pipe.now.size c.serving.pipe.bytes ≡ true = ap (λ n. is_idle side n c.serving.pipe.bytes) (sym size) ∙ sym c.is_idle.ensures ∙ c.if-is_idle.true in
    let waiting = in_order (served (served_on side) c.serving.waiters) in
    SoFar-done _ (side_served side c.args.pipe.now.size waiting c.serving.pipe.bytes) c.serving.woken c.serving.pipe.bytes (side-idle side c.args.pipe.now.size waiting c.serving.pipe.bytes idle) c.serving.invariant.so_far

pub returns-then-is_idle-clause-bytes : goal.returns-then-is_idle-clause-bytes
returns-then-is_idle-clause-bytes c = same_bytes c.serving.pipe c.args.pipe.now _ c.serving.invariant.pipe (all-served c).0

pub returns-then-is_idle-clause-woken : goal.returns-then-is_idle-clause-woken
returns-then-is_idle-clause-woken c = (all-served c).1
