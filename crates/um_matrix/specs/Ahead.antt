-- The deadlines that lie ahead, beside all that were armed.
use Rattle.std.specs.Prelude.{◌≡◌, ◌<◌, ◌≤◌, ◌*◌, ◌==◌, ℕ, nat_lt, if◌then◌else◌, List, [], ◌∷◌, get_or, length}
use Rattle.um_machine.specs.Time.{next_deadline}

-- Deadlines ascend. All are above a low one, and none is above a greatest one.
abbrev pub Ascend : ℕ → ℕ → List ℕ → Type 0
Ascend low most [] = Unit {0}
Ascend low most (d ∷ ds) = (low < d) × (d ≤ most) × Ascend d most ds

abbrev pub AreAscending : List ℕ → Type 0
AreAscending ds = (i j : ℕ) → i ≤ j → j < length ds → get_or ds i 0 ≤ get_or ds j 0

-- ascending deadlines with one more at its place, unless it is among them
abbrev pub with_deadline : ℕ → List ℕ → List ℕ
with_deadline d [] = d ∷ []
with_deadline d (e ∷ ds) = if nat_lt e d then e ∷ with_deadline d ds else if e == d then e ∷ ds else d ∷ e ∷ ds

-- The deadlines ahead of a moment ascend, and are no more than all that were armed. From that moment on, the next one of them is the next one of all.
pub record IsAhead (now : ℕ) (armed ahead : List ℕ) : Type 0 where
  pub few : length ahead ≤ length armed
  pub ascend : Ascend now (length armed * 4294967296) ahead
  pub same : (later : ℕ) → now ≤ later → next_deadline later ahead ≡ next_deadline later armed
