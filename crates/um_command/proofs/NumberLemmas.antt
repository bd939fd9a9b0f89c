-- What std reads of digits.
use Rattle.std.proofs.Common.{◌≡◌, ℕ, ◌<◌, Bool, true, false, ◌&&◌, List, length, refl, arith, rules}
use Rattle.std.specs.List.{list_all}
use Rattle.std.specs.Str.Parse.{IsNumeral, digits_value, without_leading_plus}
use Rattle.std.proofs.lemmas.Str.Parse.{IsNumeralModel, numerals_by_weight, without_leading_plus_none, not_in_digits}
use Rattle.um_base.specs.Lawful.{is_within}
use Rattle.um_command.specs.Words.{is_digit, value, are_digits}

own : IsNumeralModel (λ ds. list_all is_digit ds ≡ true) value
own = numerals_by_weight _ (search rules) value (search rules)

second : (a b : Bool) → (a && b) ≡ true → b ≡ true
second true true h = refl
second true false h = h
second false true h = refl
second false false h = h

some_length : (word : List ℕ) → are_digits word ≡ true → 0 < length word
some_length word h = grind (arith)

-- digits are a numeral without a sign, and spell its value
pub digits_are : (word : List ℕ) → are_digits word ≡ true → IsNumeral 10 (without_leading_plus word) × (value word ≡ digits_value 10 (without_leading_plus word))
digits_are word h =
    let digits = second (is_within 1 20 (length word)) (list_all is_digit word) h in
    let all = own.to word digits in
    let no_plus = without_leading_plus_none word (not_in_digits own word 43 digits (λ in_range. omega (arith, in_range.0)) 0 (some_length word h)) in
    rw no_plus ((some_length word h, all), own.same word all)
