-- Items by place: each place has the number of its item, or 255 where nothing was put.
use Rattle.std.specs.Prelude.{ℕ, ◌≡◌, ◌<◌, List, count_by, map, nat_lt, slice_index_or}

-- the number of the item at a place
abbrev pub item_at : List ℕ → ℕ → ℕ
item_at places x = slice_index_or places x 255

-- what stands at the places
abbrev pub placed : {A : Type 0} → A → List A → List ℕ → List A
placed blank items places = map (λ p. slice_index_or items p blank) places

-- places of so many items: there are as many items as places with a number, each number is that of an item, and no two places have the
-- same one
pub record ArePlaces (n : ℕ) (places : List ℕ) : Type 0 where
  pub counted : n ≡ count_by (λ p. nat_lt p 255) places
  pub within : (x : ℕ) → item_at places x < 255 → item_at places x < n
  pub apart : (x y : ℕ) → item_at places x < 255 → item_at places x ≡ item_at places y → x ≡ y
