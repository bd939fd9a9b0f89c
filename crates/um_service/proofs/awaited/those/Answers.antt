use Rattle.std.proofs.Common.{◌≡◌, ◌<◌, ◌∙◌, true, false, ap, sym, arith, length, subst, ℕ}
use Rattle.um_base.specs.declared.ask.Waiter.{Waiter}
use Rattle.um_base.specs.declared.limits.TheConstants.{THREADS}
use Rattle.um_service.specs.Awaits.{chosen}
use Rattle.um_service.proofs.AwaitLemmas.{below-at, one-found, none-found}
use Rattle.um_service.proofs.awaited.those.Goals as goal
use Rattle.um_service.proofs.awaited.those.Goals.{then-chooses, else-chooses}

pub wait-requires : goal.wait-requires
wait-requires c =
    let all = c.as_slice-all.result.now in
    let waiter = c.index-all-i.result in
    let inside : c.loop-i.i < length all = omega (arith, c.loop-i-test.true) in
    subst (λ (w : Waiter). w.thread.0 < THREADS) (sym c.index-all-i.is) (below-at THREADS all c.loop-i.i waiter c.as_slice-all.ensures.distinct inside)

pub loop-i-preserved : goal.loop-i-preserved
loop-i-preserved c =
    let all = c.as_slice-all.result.now in
    let waiter = c.index-all-i.result in
    let inside : c.loop-i.i < length all = omega (arith, c.loop-i-test.true) in
    let p = chosen c.args.awaited c.args.wanted in
    elim c.if-chooses.branch [
      | then-chooses w ↦ record {
        so_far =
            w.those-is ∙ w.wait.ensures
            ∙ one-found THREADS p all c.loop-i.i waiter c.loop-i.those c.as_slice-all.ensures.distinct inside c.index-all-i.is (sym c.chooses.ensures ∙ w.if-chooses.true) c.loop-i.invariant.so_far;
      }
      | else-chooses w ↦ record {
        so_far = w.those-is ∙ c.loop-i.invariant.so_far ∙ none-found p all c.loop-i.i waiter inside c.index-all-i.is (sym c.chooses.ensures ∙ w.if-chooses.false);
      }
    ]
