-- What a site is asked for, and what it answers. `asked` is the step as the site makes it in a state of its sort. `took` and `shut` say of a
-- step that the site made it or refuses it, `kept` that none was made, `contended` that others are at the site or the log is full.
use Rattle.std.specs.Prelude.{ℕ}
use Rattle.um_fine.specs.Steps.{FineStep}
use Rattle.um_tables.specs.declared.said.Said.{Said}
use Rattle.um_tables.specs.Sited.{MatchSaid}

-- whatever word stands at the site, the processor may make the step
abbrev pub CanAsk : {W : Type 0} → (FineStep → Type 0) → (W → FineStep) → Type 0
CanAsk {W = W} may asked = (w : W) → may (asked w)

-- whatever the cell keeps, after however many steps, the processor may make the step
abbrev pub CanAskCell : {K : Type 0} → (FineStep → Type 0) → (ℕ → K → FineStep) → Type 0
CanAskCell {K = K} may asked = (n : ℕ) (c : K) → may (asked n c)

-- a word answers
abbrev pub Answers : {W A : Type 0} → Said A → (W → FineStep) → (took shut : FineStep → Type 0) (kept contended : Type 0)
    (tells : FineStep → A → Type 0) → Type 0
Answers {W = W} said asked took shut kept contended tells =
    MatchSaid said
    (λ answer. (w : W) × took (asked w) × tells (asked w) answer)
    ((w : W) × kept × shut (asked w))
    (kept × contended)

-- a cell answers
abbrev pub CellAnswers : {K A : Type 0} → Said A → (ℕ → K → FineStep) → (took shut : FineStep → Type 0) (kept contended : Type 0)
    (tells : K → FineStep → A → Type 0) → Type 0
CellAnswers {K = K} said asked took shut kept contended tells =
    MatchSaid said
    (λ answer. (n : ℕ) × (c : K) × took (asked n c) × tells c (asked n c) answer)
    ((n : ℕ) × (c : K) × kept × shut (asked n c))
    (kept × contended)

-- a cell answers only that it made the step
abbrev pub CellTakes : {K A : Type 0} → Said A → (ℕ → K → FineStep) → (took shut : FineStep → Type 0) (kept contended : Type 0) → Type 0
CellTakes {K = K} said asked took shut kept contended =
    MatchSaid said
    (λ answer. (n : ℕ) × (c : K) × took (asked n c))
    ((n : ℕ) × (c : K) × kept × shut (asked n c))
    (kept × contended)

-- the same, and what was handed in is as before unless the step was made
abbrev pub CellKeeps : {K A : Type 0} → Said A → (ℕ → K → FineStep) → (took shut : FineStep → Type 0) (kept contended same : Type 0) → Type 0
CellKeeps {K = K} said asked took shut kept contended same =
    MatchSaid said
    (λ answer. (n : ℕ) × (c : K) × took (asked n c))
    ((n : ℕ) × (c : K) × kept × shut (asked n c) × same)
    (kept × contended × same)

-- the same, and the cell writes its answer where it is told to
abbrev pub CellWrites : {K A : Type 0} → Said A → (ℕ → K → FineStep) → (took shut : FineStep → Type 0) (kept contended : Type 0)
    (tells : FineStep → A → Type 0) (same : Type 0) → Type 0
CellWrites {K = K} said asked took shut kept contended tells same =
    MatchSaid said
    (λ answer. (n : ℕ) × (c : K) × took (asked n c) × tells (asked n c) answer)
    ((n : ℕ) × (c : K) × kept × shut (asked n c) × same)
    (kept × contended × same)
