-- Weights as numbers that stand still at their greatest value.
use Rattle.std.specs.Prelude.{◌≡◌, ℕ, ◌+◌, ◌-◌, ◌^◌, min, List, slice_index}
use Rattle.um_base.specs.declared.image.Script.{Script}
use Rattle.um_base.specs.Weight.{weights_from}

-- a weight as it is counted
abbrev pub counted : ℕ → ℕ
counted n = min n (2 ^ 64 - 1)

-- from a place on, these numbers are weights as they are counted
abbrev pub AreCounted : List ℕ → ℕ → List ℕ → Type 0
AreCounted weights i later = (k : ℕ) → slice_index weights (i + k) ≡ counted (slice_index later k)

-- the weights of scripts, each in the place of its number
abbrev pub StandFrom : List ℕ → ℕ → List Script → Type 0
StandFrom weights i scripts = AreCounted weights i (weights_from i scripts)
