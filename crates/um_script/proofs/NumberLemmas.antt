-- What digits spell.
use Rattle.std.proofs.Common.{◌≡◌, ℕ, suc, ◌+◌, ◌*◌, ◌≤◌, ◌<◌, Bool, true, false, List, [], ◌∷◌, length, get_or, drop, Err, refl, sym, arith, drop-cons}
use Rattle.um_script.specs.declared.fault.LineKind.{LineKind}
use Rattle.um_script.specs.Numbers.{value_from, base, digit_value, in_range}

base-grows : (hexadecimal : Bool) (high d : ℕ) → high ≤ base hexadecimal * high + d
base-grows true high d = omega arith
base-grows false high d = omega arith

-- a number is no smaller than its front
pub value_from-grows : (hexadecimal : Bool) (high : ℕ) (bs : List ℕ) → high ≤ value_from hexadecimal high bs
value_from-grows hexadecimal high [] = omega arith
value_from-grows hexadecimal high (b ∷ bs) =
    omega (arith, base-grows hexadecimal high (digit_value b), value_from-grows hexadecimal (base hexadecimal * high + digit_value b) bs)

pub in_range-past : (limit n : ℕ) → limit < n → in_range 0 limit n ≡ Err LineKind.Range
in_range-past limit n lt = grind (arith)

-- a front past the limit puts the number past it
pub past_limit : (hexadecimal : Bool) (limit high k : ℕ) (bs : List ℕ) (total : ℕ) → k < length bs → limit < base hexadecimal * high + digit_value (get_or bs k 0) → value_from hexadecimal high (drop k bs) ≡ total
    → Err LineKind.Range ≡ in_range 0 limit total
past_limit hexadecimal limit high k bs total lt over is =
    let split : value_from hexadecimal high (drop k bs) ≡ value_from hexadecimal (base hexadecimal * high + digit_value (get_or bs k 0)) (drop (suc k) bs) = rw (drop-cons bs k 0 lt) refl in
    let grows = value_from-grows hexadecimal (base hexadecimal * high + digit_value (get_or bs k 0)) (drop (suc k) bs) in
    sym (in_range-past limit total (omega (arith, split, grows, is)))
