use Rattle.std.proofs.Common.{ℕ, List, ◌-◌, ◌<◌, ◌≤◌, length, take, drop, arith, length-drop, length-take, rules}
use Rattle.um_steps.proofs.ByteLemmas.{few_bytes}
use Rattle.um_steps.proofs.bytes.+le_value.Goals as goal

pub overflow_mul-result : goal.overflow_mul-result
overflow_mul-result t c =
    let rest : List ℕ = take (length c.args.bytes.now - 1) (drop 1 c.args.bytes.now) in
    let short : length rest ≤ 3 = simp (length-take, length-drop) (omega arith) in
    let small : c.le_value.result < 16777216 = few_bytes c.le_value.result (length rest) c.le_value.ensures.bound short in search rules

pub overflow_add-result : goal.overflow_add-result
overflow_add-result t c =
    let rest : List ℕ = take (length c.args.bytes.now - 1) (drop 1 c.args.bytes.now) in
    let short : length rest ≤ 3 = simp (length-take, length-drop) (omega arith) in
    let small : c.le_value.result < 16777216 = few_bytes c.le_value.result (length rest) c.le_value.ensures.bound short in search rules
