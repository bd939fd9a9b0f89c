-- How far two texts have been compared.
use Rattle.std.specs.Prelude.{◌≡◌, ℕ, ◌+◌, ◌≤◌, List, ◌++◌, length}
use Rattle.um_audit.specs.Lines.{pieces}

-- The first pieces of two texts, this many, are the same, and these rests follow.
pub record AreAlike (text other rest others : List ℕ) (lines : ℕ) : Type 0 where
  pub done : List (List ℕ)
  pub first : pieces text ≡ done ++ pieces rest
  pub second : pieces other ≡ done ++ pieces others
  pub count : length done ≡ lines
  pub short : lines + length rest ≤ length text
