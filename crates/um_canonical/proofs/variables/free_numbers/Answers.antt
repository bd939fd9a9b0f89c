use Rattle.std.proofs.Common.{◌≡◌, ℕ, suc, ◌+◌, ◌-◌, ◌++◌, length, sym, ap, ◌∙◌, arith}
use Rattle.um_canonical.proofs.FreeNumbers.{wanted, kept}
use Rattle.um_canonical.proofs.variables.free_numbers.Goals as goal

pub loop-number-preserved : goal.loop-number-preserved
loop-number-preserved c =
    let taken = c.args.taken.now in
    let count = c.args.count in
    let old = c.loop-number.numbers.items in
    let number = c.loop-number.number in
    let m = count + length taken - (number + 1) in
    let more : count + length taken - number ≡ suc m = omega (arith, c.loop-number-test.true) in
    rw c.in_ok-push_free.ensures (kept taken count old number m ∙ ap (λ (k : ℕ). old ++ wanted taken count old number k) (sym more) ∙ c.loop-number.invariant)
