-- What digits spell.
use Rattle.std.proofs.Common.{◌≡◌, ℕ, suc, ◌+◌, ◌*◌, ◌^◌, ◌≤◌, ◌<◌, Bool, true, false, List, [], ◌∷◌, length, get_or, drop, None, refl, sym, arith, drop-cons}
use Rattle.um_question.specs.Numbers.{value_from, base, digit_value, below_limit}

base-grows : (hexadecimal : Bool) (high d : ℕ) → high ≤ base hexadecimal * high + d
base-grows true high d = omega arith
base-grows false high d = omega arith

-- a number is no smaller than its front
value_from-grows : (hexadecimal : Bool) (high : ℕ) (bs : List ℕ) → high ≤ value_from hexadecimal high bs
value_from-grows hexadecimal high [] = omega arith
value_from-grows hexadecimal high (b ∷ bs) =
    omega (arith, base-grows hexadecimal high (digit_value b), value_from-grows hexadecimal (base hexadecimal * high + digit_value b) bs)

below_limit-past : (n : ℕ) → 2 ^ 32 ≤ n → below_limit n ≡ None
below_limit-past n past = grind (arith)

-- a front past the limit puts the number past it
pub past_limit : (hexadecimal : Bool) (high k : ℕ) (bs : List ℕ) (total : ℕ) → k < length bs → 2 ^ 32 ≤ base hexadecimal * high + digit_value (get_or bs k 0) → value_from hexadecimal high (drop k bs) ≡ total
    → None ≡ below_limit total
past_limit hexadecimal high k bs total lt over is =
    let split : value_from hexadecimal high (drop k bs) ≡ value_from hexadecimal (base hexadecimal * high + digit_value (get_or bs k 0)) (drop (suc k) bs) = rw (drop-cons bs k 0 lt) refl in
    let grows = value_from-grows hexadecimal (base hexadecimal * high + digit_value (get_or bs k 0)) (drop (suc k) bs) in
    sym (below_limit-past total (omega (arith, split, grows, is)))
