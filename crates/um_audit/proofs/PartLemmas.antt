-- The lines of a text before its dump, and those of the dump.
use Rattle.std.proofs.Common.{◌≡◌, ◌≢◌, ℕ, zero, suc, ◌<◌, Bool, true, false, List, [], ◌∷◌, ◌++◌, length, take, refl, sym, ap, ◌∙◌, subst, arith, Some, slice_get}
use Rattle.std.proofs.lemmas.Bool.{and_parts, not-true}
use Rattle.std.specs.List.{list_all, flat_map}
use Rattle.um_base.specs.declared.image.Image.{Image}
use Rattle.um_machine.specs.State.{State}
use Rattle.um_audit.specs.Lines.{line_of, is_dump, before_dump, from_dump}
use Rattle.um_audit.specs.Steps.{IsStepLine, AreStepLines}
use Rattle.um_audit.specs.Progress.{is_events}
use Rattle.um_audit.proofs.LineLemmas.{AreEnded}

before_here : (p : List ℕ) (ps : List (List ℕ)) → is_dump p ≡ true → before_dump (p ∷ ps) ≡ []
unfolding before_dump
before_here p ps h = rw h refl

before_on : (p : List ℕ) (ps : List (List ℕ)) → is_dump p ≡ false → before_dump (p ∷ ps) ≡ p ∷ before_dump ps
unfolding before_dump
before_on p ps h = rw h refl

from_here : (p : List ℕ) (ps : List (List ℕ)) → is_dump p ≡ true → from_dump (p ∷ ps) ≡ p ∷ ps
unfolding from_dump
from_here p ps h = rw h refl

from_on : (p : List ℕ) (ps : List (List ℕ)) → is_dump p ≡ false → from_dump (p ∷ ps) ≡ from_dump ps
unfolding from_dump
from_on p ps h = rw h refl

-- after lines that aren't `dump`
pub before-behind : (done more : List (List ℕ)) → list_all is_events done ≡ true → before_dump (done ++ more) ≡ done ++ before_dump more
before-behind [] more h = refl
before-behind (p ∷ done) more h =
    before_on p (done ++ more) (not-true (is_dump p) (and_parts (is_events p) (list_all is_events done) h).0)
    ∙ ap (λ (ps : List (List ℕ)). p ∷ ps) (before-behind done more (and_parts (is_events p) (list_all is_events done) h).1)

pub from-behind : (done more : List (List ℕ)) → list_all is_events done ≡ true → from_dump (done ++ more) ≡ from_dump more
from-behind [] more h = refl
from-behind (p ∷ done) more h =
    from_on p (done ++ more) (not-true (is_dump p) (and_parts (is_events p) (list_all is_events done) h).0) ∙ from-behind done more (and_parts (is_events p) (list_all is_events done) h).1

pub before-nothing : before_dump [] ≡ []
unfolding before_dump
before-nothing = refl

pub from-nothing : from_dump [] ≡ []
unfolding from_dump
from-nothing = refl

pub before-dump : (p : List ℕ) (ps : List (List ℕ)) → is_dump p ≡ true → before_dump (p ∷ ps) ≡ []
before-dump p ps h = before_here p ps h

pub before-more : (p : List ℕ) (ps : List (List ℕ)) → is_dump p ≡ false → before_dump (p ∷ ps) ≡ p ∷ before_dump ps
before-more p ps h = before_on p ps h

pub from-dump : (p : List ℕ) (ps : List (List ℕ)) → is_dump p ≡ true → from_dump (p ∷ ps) ≡ p ∷ ps
from-dump p ps h = from_here p ps h

pub from-more : (p : List ℕ) (ps : List (List ℕ)) → is_dump p ≡ false → from_dump (p ∷ ps) ≡ from_dump ps
from-more p ps h = from_on p ps h

-- both parts are all pieces
parts_by : (p : List ℕ) (ps : List (List ℕ)) (b : Bool) → is_dump p ≡ b → before_dump ps ++ from_dump ps ≡ ps → before_dump (p ∷ ps) ++ from_dump (p ∷ ps) ≡ p ∷ ps
parts_by p ps true e h = ap (λ (xs : List (List ℕ)). xs ++ from_dump (p ∷ ps)) (before_here p ps e) ∙ from_here p ps e
parts_by p ps false e h =
    ap (λ (xs : List (List ℕ)). xs ++ from_dump (p ∷ ps)) (before_on p ps e) ∙ ap (λ (ys : List (List ℕ)). p ∷ (before_dump ps ++ ys)) (from_on p ps e) ∙ ap (λ (xs : List (List ℕ)). p ∷ xs) h

pub parts-whole : (ps : List (List ℕ)) → before_dump ps ++ from_dump ps ≡ ps
unfolding before_dump from_dump
parts-whole [] = refl
parts-whole (p ∷ ps) = parts_by p ps (is_dump p) refl (parts-whole ps)

-- each line before a dump has its newline
abbrev pub all_ended : List (List ℕ) → List ℕ
all_ended ps = flat_map (λ p. line_of p ++ 10 ∷ []) ps

abbrev pub all_joined : List (List ℕ) → List ℕ
all_joined ps = flat_map (λ p. p) ps

ended_last : (p : List ℕ) (b : Bool) → is_dump p ≡ b → from_dump (p ∷ []) ≢ [] → all_ended (before_dump (p ∷ [])) ≡ all_joined (before_dump (p ∷ []))
ended_last p true e some = ap all_ended (before_here p [] e) ∙ sym (ap all_joined (before_here p [] e))
ended_last p false e some = absurd (some (from_on p [] e ∙ from-nothing))

ended_more : (p : List ℕ) (ps : List (List ℕ)) (b : Bool) → is_dump p ≡ b → p ≡ line_of p ++ 10 ∷ [] → (from_dump ps ≢ [] → all_ended (before_dump ps) ≡ all_joined (before_dump ps))
    → from_dump (p ∷ ps) ≢ [] → all_ended (before_dump (p ∷ ps)) ≡ all_joined (before_dump (p ∷ ps))
ended_more p ps true e h more some = ap all_ended (before_here p ps e) ∙ sym (ap all_joined (before_here p ps e))
ended_more p ps false e h more some =
    ap all_ended (before_on p ps e) ∙ ap (λ (xs : List ℕ). xs ++ all_ended (before_dump ps)) (sym h) ∙ ap (λ (xs : List ℕ). p ++ xs) (more (λ none. some (from_on p ps e ∙ none)))
    ∙ sym (ap all_joined (before_on p ps e))

pub ended-joined : (ps : List (List ℕ)) → AreEnded ps → from_dump ps ≢ [] → all_ended (before_dump ps) ≡ all_joined (before_dump ps)
ended-joined [] ended some = absurd (some from-nothing)
ended-joined (p ∷ []) ended some = ended_last p (is_dump p) refl some
ended-joined (p ∷ q ∷ more) ended some = ended_more p (q ∷ more) (is_dump p) refl ended.0 (ended-joined (q ∷ more) ended.1) some

-- Lines of steps.

pub steps-more : (image : Image) (s : State) (ps : List (List ℕ)) (p : List ℕ) (mid s2 : State) → AreStepLines image s ps mid → IsStepLine image (line_of p) mid s2 → AreStepLines image s (ps ++ p ∷ []) s2
steps-more image s [] p mid s2 led step = (s2, subst (λ (now : State). IsStepLine image (line_of p) now s2) led step, refl)
steps-more image s (q ∷ ps) p mid s2 (next, first, led) step = (next, first, steps-more image next ps p mid s2 led step)

-- the step of one of these lines
pub step-at : (image : Image) (ps : List (List ℕ)) (s s2 : State) (k : ℕ) (p : List ℕ) → AreStepLines image s ps s2 → slice_get ps k ≡ Some p
    → (mid : State) × (next : State) × AreStepLines image s (take k ps) mid × IsStepLine image (line_of p) mid next
step-at image [] s s2 k p led at = cc
step-at image (q ∷ ps) s s2 zero p (next, first, led) at =
    let same : q ≡ p = cc in (s, next, refl, subst (λ (x : List ℕ). IsStepLine image (line_of x) s next) same first)
step-at image (q ∷ ps) s s2 (suc k) p (next, first, led) at =
    let r = step-at image ps next s2 k p led at in (r.0, r.1, (next, first, r.2), r.3)

-- parts of lists
pub get-take : {A : Type 0} (xs : List A) (i j : ℕ) → i < j → slice_get (take j xs) i ≡ slice_get xs i
get-take [] i zero h = absurd (omega (arith, h))
get-take [] i (suc j) h = refl
get-take (x ∷ xs) i zero h = absurd (omega (arith, h))
get-take (x ∷ xs) zero (suc j) h = refl
get-take (x ∷ xs) (suc i) (suc j) h = get-take xs i j (omega (arith, h))

pub take-take : {A : Type 0} (xs : List A) (i j : ℕ) → i < j → take i (take j xs) ≡ take i xs
take-take [] zero zero h = refl
take-take [] zero (suc j) h = refl
take-take [] (suc i) zero h = refl
take-take [] (suc i) (suc j) h = refl
take-take (x ∷ xs) i zero h = absurd (omega (arith, h))
take-take (x ∷ xs) zero (suc j) h = refl
take-take (x ∷ xs) (suc i) (suc j) h = ap (λ ys. x ∷ ys) (take-take xs i j (omega (arith, h)))

pub get-within : {A : Type 0} (xs : List A) (i : ℕ) (x : A) → slice_get xs i ≡ Some x → i < length xs
get-within [] i x h = cc
get-within (y ∷ xs) zero x h = omega arith
get-within (y ∷ xs) (suc i) x h = let more = get-within xs i x h in omega (arith, more)

pub take-front : {A : Type 0} (xs ys : List A) → take (length xs) (xs ++ ys) ≡ xs
take-front [] ys = refl
take-front (x ∷ xs) ys = ap (λ zs. x ∷ zs) (take-front xs ys)

pub get-front : {A : Type 0} (xs ys : List A) (y : A) → slice_get (xs ++ y ∷ ys) (length xs) ≡ Some y
get-front [] ys y = refl
get-front (x ∷ xs) ys y = get-front xs ys y
