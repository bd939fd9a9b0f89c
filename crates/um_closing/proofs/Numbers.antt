-- Lists that say something of each number below n.
use Rattle.std.proofs.Common.{◌≡◌, ℕ, ◌+◌, ◌<◌, ◌≤◌, length, map, sym, ◌∙◌, arith}
use Rattle.std.specs.Prelude.{slice_index_or}
use Rattle.std.proofs.lemmas.List.{ext_get_or, get_or_past}
use Rattle.std.proofs.lemmas.List.FromFn.{get_or-map-range_with_len, length-map-range_with_len}
use Rattle.um_closing.specs.ReadOff.{numbers}

module _ {A : Type 0} (g : ℕ → A) (n : ℕ) where
  pub at_number : (i : ℕ) (d : A) → i < n → slice_index_or (map g (numbers n)) i d ≡ g i
  unfolding numbers
  at_number i d l = let here : 0 + i ≡ i = omega arith in get_or-map-range_with_len g 0 n i i d l here

  pub many_numbers : length (map g (numbers n)) ≡ n
  unfolding numbers
  many_numbers = length-map-range_with_len g 0 n

  pub past_numbers : (i : ℕ) (d : A) → n ≤ i → slice_index_or (map g (numbers n)) i d ≡ d
  past_numbers i d l = get_or_past (map g (numbers n)) i d (omega (arith, l, many_numbers))

-- two such lists that say the same of each of them are the same
pub same_numbers : {A : Type 0} (g h : ℕ → A) (n : ℕ) → ((i : ℕ) → i < n → g i ≡ h i) → map g (numbers n) ≡ map h (numbers n)
same_numbers g h n same =
    ext_get_or (g 0) (map g (numbers n)) (map h (numbers n)) (many_numbers g n ∙ sym (many_numbers h n))
    (λ i l. let few : i < n = omega (arith, l, many_numbers g n) in at_number g n i (g 0) few ∙ (same i few ∙ sym (at_number h n i (g 0) few)))

-- what is read of such a list
pub ruleset readings = (at_number, many_numbers, past_numbers)
