-- What goes into a sink.
use Rattle.std.specs.Prelude.{ℕ, ◌≤◌, List, length, take, Option, Result, MatchResult}
use Rattle.std.specs.Io.KnownBytes.{Appends}

-- The sink took the front of the piece.
abbrev pub AppendsFront : Option (List ℕ) → Option (List ℕ) → List ℕ → Type 0
AppendsFront old new piece = (k : ℕ) × (k ≤ length piece) × Appends old new (take k piece)

-- A write that succeeded took the bytes that it counts, and one that failed a front of the piece.
abbrev pub TakesFront : {E : Type 0} → Option (List ℕ) → Option (List ℕ) → Result ℕ E → List ℕ
    → Type 0
TakesFront old new result piece =
    MatchResult result (λ n. Appends old new (take n piece)) (λ _. AppendsFront old new piece)
