-- Texts that begin with the same pieces.
use Rattle.std.proofs.Common.{◌≡◌, ◌≢◌, ℕ, ◌+◌, ◌<◌, Bool, true, false, List, [], ◌∷◌, ◌++◌, length, take, refl, sym, ap, ◌∙◌, subst, arith, append_assoc, Some, None, slice_get, length-append}
use Rattle.std.specs.Prelude.{◌==◌, bytes_eq, not}
use Rattle.std.proofs.lemmas.Bool.Decides.{nat_tests, Decides-eqb}
use Rattle.std.proofs.lemmas.Slice.Eq.{bytes_eq-Decides}
use Rattle.um_audit.specs.Lines.{led, pieces}
use Rattle.um_audit.specs.Alike.{AreAlike}
use Rattle.um_audit.specs.Verdict.{DiffersAt}

pub alike-none : (text other : List ℕ) → AreAlike text other text other 0
alike-none text other = record { done = []; first = refl; second = refl; count = refl; short = omega arith }

pub alike-more : (text other rest others : List ℕ) (lines : ℕ) (p : List ℕ) (behind others_behind : List ℕ) → AreAlike text other rest others lines → pieces rest ≡ p ∷ pieces behind → pieces others ≡ p ∷ pieces others_behind
    → length behind < length rest → AreAlike text other behind others_behind (lines + 1)
alike-more text other rest others lines p behind others_behind alike e f less =
    record {
      done = alike.done ++ p ∷ [];
      first = alike.first ∙ ap (λ (ps : List (List ℕ)). alike.done ++ ps) e ∙ sym (append_assoc alike.done (p ∷ []) (pieces behind));
      second = alike.second ∙ ap (λ (ps : List (List ℕ)). alike.done ++ ps) f ∙ sym (append_assoc alike.done (p ∷ []) (pieces others_behind));
      count = length-append alike.done (p ∷ []) ∙ ap (λ (n : ℕ). n + 1) alike.count;
      short = (let s = alike.short in omega (arith, s, less));
    }

take-front : (done xs : List (List ℕ)) → take (length done) (done ++ xs) ≡ done
take-front [] xs = refl
take-front (p ∷ done) xs = ap (λ (ps : List (List ℕ)). p ∷ ps) (take-front done xs)

get-behind : (done xs : List (List ℕ)) → slice_get (done ++ xs) (length done) ≡ slice_get xs 0
get-behind [] xs = refl
get-behind (p ∷ done) xs = get-behind done xs

pub alike-differs : (text other rest others : List ℕ) (lines : ℕ) → AreAlike text other rest others lines → slice_get (pieces rest) 0 ≢ slice_get (pieces others) 0 → DiffersAt (pieces text) (pieces other) lines
alike-differs text other rest others lines alike apart =
    subst (λ (n : ℕ). DiffersAt (pieces text) (pieces other) n) alike.count
    (subst (λ (xs : List (List ℕ)). DiffersAt xs (pieces other) (length alike.done)) (sym alike.first)
    (subst (λ (ys : List (List ℕ)). DiffersAt (alike.done ++ pieces rest) ys (length alike.done)) (sym alike.second) (
      take-front alike.done (pieces rest) ∙ sym (take-front alike.done (pieces others)),
      λ same. apart (sym (get-behind alike.done (pieces rest)) ∙ same ∙ get-behind alike.done (pieces others)),
    )))

led-some : (b : ℕ) (ps : List (List ℕ)) → (p : List ℕ) × (more : List (List ℕ)) × (led b ps ≡ p ∷ more)
led-some b [] = (b ∷ [], [], refl)
led-some b (p ∷ ps) = (b ∷ p, ps, refl)

pieces-by : (b : ℕ) (bytes : List ℕ) (newline : Bool) → (b == 10) ≡ newline → (p : List ℕ) × (more : List (List ℕ)) × (pieces (b ∷ bytes) ≡ p ∷ more)
unfolding pieces
pieces-by b bytes true e = (b ∷ [], pieces bytes, rw e refl)
pieces-by b bytes false e = let some = led-some b (pieces bytes) in (some.0, some.1, rw e some.2)

pub pieces-some : (bytes : List ℕ) → 0 < length bytes → (p : List ℕ) × (more : List (List ℕ)) × (pieces bytes ≡ p ∷ more)
pieces-some [] h = absurd (omega (arith, h))
pieces-some (b ∷ bytes) h = pieces-by b bytes (b == 10) refl

pub pieces-none : (bytes : List ℕ) → length bytes ≡ 0 → pieces bytes ≡ []
unfolding pieces
pieces-none [] h = refl
pieces-none (b ∷ bytes) h = absurd (omega (arith, h))

pub head-apart : (xs ys : List (List ℕ)) (p q : List ℕ) (ps qs : List (List ℕ)) → xs ≡ p ∷ ps → ys ≡ q ∷ qs → p ≢ q → slice_get xs 0 ≢ slice_get ys 0
head-apart xs ys p q ps qs e f apart same =
    let here : slice_get xs 0 ≡ Some p = ap (λ (zs : List (List ℕ)). slice_get zs 0) e in
    let there : slice_get ys 0 ≡ Some q = ap (λ (zs : List (List ℕ)). slice_get zs 0) f in
    apart (let s : Some p ≡ Some q = sym here ∙ same ∙ there in cc)

none-some : (xs ys : List (List ℕ)) (p : List ℕ) (ps : List (List ℕ)) → xs ≡ [] → ys ≡ p ∷ ps → slice_get xs 0 ≡ slice_get ys 0 → ⊥
none-some xs ys p ps e f same =
    let here : slice_get xs 0 ≡ None = ap (λ (zs : List (List ℕ)). slice_get zs 0) e in
    let there : slice_get ys 0 ≡ Some p = ap (λ (zs : List (List ℕ)). slice_get zs 0) f in
    let s : None ≡ Some p = sym here ∙ same ∙ there in cc

-- one of two rests has ended
pub ends-apart : (rest others : List ℕ) → length rest ≡ 0 → 0 < length others → slice_get (pieces rest) 0 ≢ slice_get (pieces others) 0
ends-apart rest others none some same =
    let s = pieces-some others some in none-some (pieces rest) (pieces others) s.0 s.1 (pieces-none rest none) s.2 same

pub ends-apart-other : (rest others : List ℕ) → 0 < length rest → length others ≡ 0 → slice_get (pieces rest) 0 ≢ slice_get (pieces others) 0
ends-apart-other rest others some none same = ends-apart others rest none some (sym same)

pub alike-ends : (text other rest others : List ℕ) (lines : ℕ) → AreAlike text other rest others lines → length rest ≡ 0 → length others ≡ 0 → pieces text ≡ pieces other
alike-ends text other rest others lines alike none nothing =
    alike.first ∙ ap (λ (ps : List (List ℕ)). alike.done ++ ps) (pieces-none rest none ∙ sym (pieces-none others nothing)) ∙ sym alike.second

-- what tests tell
pub tells-none : (n : ℕ) (b : Bool) → b ≡ (n == 0) → b ≡ true → n ≡ 0
tells-none n b e h = (Decides-eqb n 0).0 (sym e ∙ h)

pub tells-some : (n : ℕ) (b : Bool) → b ≡ (n == 0) → b ≡ false → 0 < n
tells-some n b e h = grind (arith, nat_tests, sym e ∙ h)

pub tells-same : (xs ys : List ℕ) (b : Bool) → b ≡ not (bytes_eq xs ys) → b ≡ false → xs ≡ ys
tells-same xs ys b e h = (bytes_eq-Decides xs ys).0 (by (bytes_eq xs ys) (sym e ∙ h))
  where
    by : (same : Bool) → not same ≡ false → same ≡ true
    by true k = refl
    by false k = cc

pub tells-apart : (xs ys : List ℕ) (b : Bool) → b ≡ not (bytes_eq xs ys) → b ≡ true → xs ≢ ys
tells-apart xs ys b e h same = let yes : bytes_eq xs ys ≡ true = (bytes_eq-Decides xs ys).1 same in let no : not (bytes_eq xs ys) ≡ true = sym e ∙ h in cc

pub alike-later : (text other rest others : List ℕ) (lines : ℕ) (p q : List ℕ) (behind others_behind : List ℕ) → AreAlike text other rest others lines → pieces rest ≡ p ∷ pieces behind → pieces others ≡ q ∷ pieces others_behind
    → length behind < length rest → p ≡ q → AreAlike text other behind others_behind (lines + 1)
alike-later text other rest others lines p q behind others_behind alike e f less same =
    alike-more text other rest others lines p behind others_behind alike e (f ∙ ap (λ (x : List ℕ). x ∷ pieces others_behind) (sym same)) less
