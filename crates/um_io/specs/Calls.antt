-- Calls that are counted, some of which are to fail.
use Rattle.std.specs.Prelude.{◌≡◌, ℕ, ◌+◌, ◌-◌, ◌^◌, ◌==◌, min, Bool, List}
use Rattle.std.specs.List.{list_any}
use Rattle.um_io.specs.declared.calls.Calls.{Calls}

-- No call was made yet, of those with this greatest piece and these numbers of calls that fail.
pub record IsAtStart (calls : Calls) (piece : ℕ) (fails : List ℕ) : Type 0 where
  pub piece_is : calls.piece ≡ piece
  pub fails_are : calls.fails.items ≡ fails
  pub none_made : calls.made ≡ 0

-- The next call is to fail: its number, counted from 0, is listed.
abbrev pub is_next_listed : Calls → Bool
is_next_listed calls = list_any (λ number. number == calls.made) calls.fails.items

-- One more call was made. A count of 64 bits stays at its last value.
abbrev pub after_call : Calls → Calls
after_call calls = record calls { made = min (calls.made + 1) (2 ^ 64 - 1) }
