-- When a source or a sink may say that it failed.
use Rattle.std.specs.Prelude.{◌≡◌, ℕ, ◌+◌, ◌-◌, ◌^◌, ◌≤◌, min, Result, OnErr, MatchResult}

-- A count of 64 bits has risen, or stands at its last value.
abbrev pub Rose : ℕ → ℕ → Type 0
Rose before now = min (before + 1) (2 ^ 64 - 1) ≤ now

-- The count of faults has not fallen, and an error comes only where it has risen.
pub record HasCause {T E : Type 0} (before now : ℕ) (result : Result T E) : Type 0 where
  pub later : before ≤ now
  pub failed : OnErr result (Rose before now)

-- The count is one more after an error, up to its last value, and as before after a success.
abbrev pub CountsErrors : {T E : Type 0} → ℕ → ℕ → Result T E → Type 0
CountsErrors before now result =
    MatchResult result (λ _. now ≡ before) (λ _. now ≡ min (before + 1) (2 ^ 64 - 1))
