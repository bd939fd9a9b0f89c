use Rattle.std.proofs.Common.{◌≡◌, ◌∙◌, ◌+◌, ◌*◌, ◌++◌, ap, arith, replicate, ℕ, List}
use Rattle.std.proofs.Math.Nat.{mul-add}
use Rattle.std.proofs.lemmas.List.{replicate-append-replicate}
use Rattle.um_base.specs.declared.limits.TheConstants.{AREA_SIZE}
use Rattle.um_boot.specs.declared.opening_state.boot.TheConstants.{PAGE}
use Rattle.um_boot.proofs.opening_state.boot.zeros.Goals as goal

pub loop-preserved : goal.loop-preserved
loop-preserved c =
    let more : PAGE * c.loop.counter + PAGE ≡ PAGE * (c.loop.counter + 1) = omega (arith, mul-add PAGE c.loop.counter 1) in
    c.in_ok-extend_from_slice.ensures.items ∙ ap (λ (bytes : List ℕ). bytes ++ replicate {A = ℕ} PAGE 0) c.loop.invariant
    ∙ replicate-append-replicate {A = ℕ} (PAGE * c.loop.counter) PAGE 0 ∙ ap (λ (n : ℕ). replicate {A = ℕ} n 0) more

pub returns-clause-items : goal.returns-clause-items
returns-clause-items c =
    let all : PAGE * c.loop.counter ≡ AREA_SIZE = omega arith in
    c.loop.invariant ∙ ap (λ (n : ℕ). replicate {A = ℕ} n 0) all
