-- Pieces of texts, and their lines.
use Rattle.std.proofs.Common.{◌≡◌, ◌⊎◌, inl, inr, ℕ, zero, suc, ◌+◌, ◌<◌, ◌≤◌, Bool, true, false, not, ◌==◌, List, [], ◌∷◌, ◌++◌, length, take, drop, get_or, refl, sym, ap, ◌∙◌, subst, arith}
use Rattle.std.proofs.Math.Numerals.{add-one}
use Rattle.std.proofs.Math.Seq.{take-suc}
use Rattle.std.specs.List.{list_all, flat_map}
use Rattle.std.proofs.lemmas.Bool.Decides.{nat_tests, leb_tells}
use Rattle.std.proofs.lemmas.Slice.Eq.{bytes_eq-Decides}
use Rattle.std.specs.Prelude.{bytes_eq}
use Rattle.std.proofs.lemmas.Bool.{and_from, and_parts, not-true}
use Rattle.um_audit.specs.Lines.{led, pieces, line_of}

abbrev pub no_newline : ℕ → Bool
no_newline b = not (b == 10)

differs : (b : ℕ) → (b ≡ 10 → ⊥) → no_newline b ≡ true
differs b apart = by (b == 10) refl
  where
    by : (same : Bool) → (b == 10) ≡ same → no_newline b ≡ true
    by true e = absurd (apart (grind (arith, nat_tests)))
    by false e = rw e refl

-- a newline ends a piece
newline_first : (rest : List ℕ) → pieces (10 ∷ rest) ≡ (10 ∷ []) ∷ pieces rest
unfolding pieces
newline_first rest = refl

byte_first : (b : ℕ) (rest : List ℕ) → (b == 10) ≡ false → pieces (b ∷ rest) ≡ led b (pieces rest)
unfolding pieces
byte_first b rest h = rw h refl

-- a piece that a newline ends, and what follows it
pub pieces-ended : (line rest : List ℕ) → list_all no_newline line ≡ true → pieces (line ++ 10 ∷ rest) ≡ (line ++ 10 ∷ []) ∷ pieces rest
pieces-ended [] rest h = newline_first rest
pieces-ended (b ∷ line) rest h =
    byte_first b (line ++ 10 ∷ rest) (not-true (b == 10) (and_parts (no_newline b) (list_all no_newline line) h).0)
    ∙ ap (led b) (pieces-ended line rest (and_parts (no_newline b) (list_all no_newline line) h).1)

-- what stands after the last newline
pub pieces-last : (b : ℕ) (line : List ℕ) → list_all no_newline (b ∷ line) ≡ true → pieces (b ∷ line) ≡ (b ∷ line) ∷ []
unfolding pieces
pieces-last b [] h = byte_first b [] (not-true (b == 10) (and_parts (no_newline b) true h).0)
pieces-last b (d ∷ line) h =
    byte_first b (d ∷ line) (not-true (b == 10) (and_parts (no_newline b) (list_all no_newline (d ∷ line)) h).0)
    ∙ ap (led b) (pieces-last d line (and_parts (no_newline b) (list_all no_newline (d ∷ line)) h).1)

line_byte : (b : ℕ) (rest : List ℕ) → (b == 10) ≡ false → line_of (b ∷ rest) ≡ b ∷ line_of rest
unfolding line_of
line_byte b rest h = rw h refl

pub line-ended : (line rest : List ℕ) → list_all no_newline line ≡ true → line_of (line ++ 10 ∷ rest) ≡ line
unfolding line_of
line-ended [] rest h = refl
line-ended (b ∷ line) rest h =
    line_byte b (line ++ 10 ∷ rest) (not-true (b == 10) (and_parts (no_newline b) (list_all no_newline line) h).0)
    ∙ ap (λ (bytes : List ℕ). b ∷ bytes) (line-ended line rest (and_parts (no_newline b) (list_all no_newline line) h).1)

pub line-last : (line : List ℕ) → list_all no_newline line ≡ true → line_of line ≡ line
unfolding line_of
line-last [] h = refl
line-last (b ∷ line) h =
    line_byte b line (not-true (b == 10) (and_parts (no_newline b) (list_all no_newline line) h).0)
    ∙ ap (λ (bytes : List ℕ). b ∷ bytes) (line-last line (and_parts (no_newline b) (list_all no_newline line) h).1)

-- the pieces one after another are the text
join : List (List ℕ) → List ℕ
join ps = flat_map (λ p. p) ps

joined-led : (b : ℕ) (ps : List (List ℕ)) → flat_map (λ p. p) (led b ps) ≡ b ∷ flat_map (λ p. p) ps
joined-led b [] = refl
joined-led b (p ∷ ps) = refl

joined-by : (b : ℕ) (bytes : List ℕ) (newline : Bool) → (b == 10) ≡ newline → flat_map (λ p. p) (pieces bytes) ≡ bytes → flat_map (λ p. p) (pieces (b ∷ bytes)) ≡ b ∷ bytes
unfolding pieces
joined-by b bytes true e h = let ten : b ≡ 10 = grind (arith, nat_tests) in rw e (ap (λ (rest : List ℕ). b ∷ rest) h)
joined-by b bytes false e h = rw e (joined-led b (pieces bytes) ∙ ap (λ (rest : List ℕ). b ∷ rest) h)

pub pieces-joined : (bytes : List ℕ) → flat_map (λ p. p) (pieces bytes) ≡ bytes
unfolding pieces
pieces-joined [] = refl
pieces-joined (b ∷ bytes) = joined-by b bytes (b == 10) refl (pieces-joined bytes)

-- all pieces but the last end with a newline
abbrev pub AreEnded : List (List ℕ) → Type 0
AreEnded [] = Unit {0}
AreEnded (p ∷ []) = Unit {0}
AreEnded (p ∷ q ∷ more) = (p ≡ line_of p ++ 10 ∷ []) × AreEnded (q ∷ more)

ended-led : (b : ℕ) (ps : List (List ℕ)) → (b == 10) ≡ false → AreEnded ps → AreEnded (led b ps)
ended-led b [] e h = tt
ended-led b (p ∷ []) e h = tt
ended-led b (p ∷ q ∷ more) e h = (ap (λ (bytes : List ℕ). b ∷ bytes) h.0 ∙ ap (λ (bytes : List ℕ). bytes ++ 10 ∷ []) (sym (line_byte b p e)), h.1)

ended-newline : (ps : List (List ℕ)) → AreEnded ps → AreEnded ((10 ∷ []) ∷ ps)
unfolding line_of
ended-newline [] h = tt
ended-newline (q ∷ more) h = (refl, h)

ended-by : (b : ℕ) (bytes : List ℕ) (newline : Bool) → (b == 10) ≡ newline → AreEnded (pieces bytes) → AreEnded (pieces (b ∷ bytes))
ended-by b bytes true e h =
    let ten : 10 ≡ b = grind (arith, nat_tests) in
    subst (λ (d : ℕ). AreEnded (pieces (d ∷ bytes))) ten (subst AreEnded (sym (newline_first bytes)) (ended-newline (pieces bytes) h))
ended-by b bytes false e h = subst AreEnded (sym (byte_first b bytes e)) (ended-led b (pieces bytes) e h)

pub pieces-end : (bytes : List ℕ) → AreEnded (pieces bytes)
unfolding pieces
pieces-end [] = tt
pieces-end (b ∷ bytes) = ended-by b bytes (b == 10) refl (pieces-end bytes)

-- by the place of the first newline
pub cut-at : (bytes : List ℕ) (i : ℕ) → i < length bytes → get_or bytes i 0 ≡ 10 → ((k : ℕ) → k < i → get_or bytes k 0 ≡ 10 → ⊥)
    → (list_all no_newline (take i bytes) ≡ true) × (bytes ≡ take i bytes ++ 10 ∷ drop (suc i) bytes)
cut-at [] i inside found before = absurd (omega (arith, inside))
cut-at (b ∷ bytes) zero inside found before = (refl, ap (λ (d : ℕ). d ∷ bytes) found)
cut-at (b ∷ bytes) (suc i) inside found before =
    let more = cut-at bytes i (omega (arith, inside)) found (λ k below. before (suc k) (omega (arith, below))) in
    let here : no_newline b ≡ true = (let apart = before 0 (omega arith) in differs b apart) in
    (and_from _ _ here more.0, ap (λ (rest : List ℕ). b ∷ rest) more.1)

pub none-at : (bytes : List ℕ) → ((k : ℕ) → k < length bytes → get_or bytes k 0 ≡ 10 → ⊥) → list_all no_newline bytes ≡ true
none-at [] before = refl
none-at (b ∷ bytes) before =
    let more = none-at bytes (λ k below. before (suc k) (omega (arith, below))) in
    let here : no_newline b ≡ true = (let apart = before 0 (omega arith) in differs b apart) in and_from _ _ here more

-- what a search for the first newline has found
pub piece-found : (bytes : List ℕ) (i : ℕ) → i < length bytes → get_or bytes i 0 ≡ 10 → ((k : ℕ) → k < i → get_or bytes k 0 ≡ 10 → ⊥)
    → pieces bytes ≡ take (i + 1) bytes ∷ pieces (drop (i + 1) bytes)
piece-found bytes i inside found before =
    let cut = cut-at bytes i inside found before in
    let piece : take (suc i) bytes ≡ take i bytes ++ 10 ∷ [] = take-suc bytes i 0 inside ∙ ap (λ (d : ℕ). take i bytes ++ d ∷ []) found in
    rw add-one (ap pieces cut.1 ∙ pieces-ended (take i bytes) (drop (suc i) bytes) cut.0 ∙ ap (λ (p : List ℕ). p ∷ pieces (drop (suc i) bytes)) (sym piece))

pub piece-last : (bytes : List ℕ) → 0 < length bytes → ((k : ℕ) → k < length bytes → get_or bytes k 0 ≡ 10 → ⊥) → pieces bytes ≡ bytes ∷ pieces []
unfolding pieces
piece-last [] some none = absurd (omega (arith, some))
piece-last (b ∷ bytes) some none = pieces-last b bytes (none-at (b ∷ bytes) none)

pub line-found : (bytes : List ℕ) (i : ℕ) → i < length bytes → get_or bytes i 0 ≡ 10 → ((k : ℕ) → k < i → get_or bytes k 0 ≡ 10 → ⊥) → take i bytes ≡ line_of bytes
line-found bytes i inside found before =
    let cut = cut-at bytes i inside found before in sym (ap line_of cut.1 ∙ line-ended (take i bytes) (drop (suc i) bytes) cut.0)

-- the line of the piece that is cut off there
pub line-cut : (bytes : List ℕ) (i : ℕ) → i < length bytes → get_or bytes i 0 ≡ 10 → ((k : ℕ) → k < i → get_or bytes k 0 ≡ 10 → ⊥)
    → take i bytes ≡ line_of (take (i + 1) bytes)
line-cut bytes i inside found before =
    let cut = cut-at bytes i inside found before in
    let piece : take (suc i) bytes ≡ take i bytes ++ 10 ∷ [] = take-suc bytes i 0 inside ∙ ap (λ (d : ℕ). take i bytes ++ d ∷ []) found in
    rw add-one (sym (ap line_of piece ∙ line-ended (take i bytes) [] cut.0))

pub line-none : (bytes : List ℕ) → ((k : ℕ) → k < length bytes → get_or bytes k 0 ≡ 10 → ⊥) → bytes ≡ line_of bytes
line-none bytes none = sym (line-last bytes (none-at bytes none))

empty-not : (xs : List ℕ) → [] ≡ xs ++ 10 ∷ [] → ⊥
empty-not [] h = cc
empty-not (x ∷ xs) h = cc

-- a line and its newline are known by each other
pub snoc-same : (xs ys : List ℕ) → xs ++ 10 ∷ [] ≡ ys ++ 10 ∷ [] → xs ≡ ys
snoc-same [] [] h = refl
snoc-same [] (y ∷ ys) h = absurd (empty-not ys (let k : [] ≡ ys ++ 10 ∷ [] = cc in k))
snoc-same (x ∷ xs) [] h = absurd (empty-not xs (let k : [] ≡ xs ++ 10 ∷ [] = cc in k))
snoc-same (x ∷ xs) (y ∷ ys) h =
    let here : x ≡ y = cc in
    let rest : xs ++ 10 ∷ [] ≡ ys ++ 10 ∷ [] = cc in
    ap (λ (d : ℕ). d ∷ xs) here ∙ ap (λ (zs : List ℕ). y ∷ zs) (snoc-same xs ys rest)

pub holds-line : (room front line : List ℕ) (last : ℕ) (b : Bool) → room ≡ front ++ last ∷ [] → last ≡ 10 → b ≡ bytes_eq front line → (b ≡ true → room ≡ line ++ 10 ∷ []) × (room ≡ line ++ 10 ∷ [] → b ≡ true)
holds-line room front line last b cut ten e =
    let whole : room ≡ front ++ 10 ∷ [] = cut ∙ ap (λ (d : ℕ). front ++ d ∷ []) ten in (
      λ h. whole ∙ ap (λ (xs : List ℕ). xs ++ 10 ∷ []) ((bytes_eq-Decides front line).0 (sym e ∙ h)),
      λ h. e ∙ (bytes_eq-Decides front line).1 (snoc-same front line (sym whole ∙ h)),
    )

pub le-or-lt : (a b : ℕ) → (a < b) ⊎ (b ≤ a)
le-or-lt a b = elim (leb_tells b a) [ inl past ↦ inr past.1 | inr within ↦ inl within.1 ]
