-- The first of what each entry of a list gives.
use Rattle.std.proofs.Common.{◌≡◌, ℕ, ◌+◌, ◌<◌, suc, length, get_or, drop, add-one, drop-cons, true, false, List, [], ◌∷◌, ◌++◌, Option, Some, None, is_some, sym, refl, ap, ◌∙◌}
use Rattle.um_document.specs.First.{first_of}
use Rattle.um_description.specs.Names.{each}

pub cut_at : {A : Type 0} (xs : List A) (k : ℕ) (x : A) → k < length xs → x ≡ get_or xs k x → drop k xs ≡ x ∷ drop (k + 1) xs
cut_at xs k x lt is = rw add-one (drop-cons xs k x lt ∙ ap (λ w. w ∷ drop (suc k) xs) (sym is))

front : {B : Type 0} (xs ys : List B) (found : Option B) → found ≡ first_of xs → is_some found ≡ true → first_of (xs ++ ys) ≡ found
front [] ys found is there = let gone : found ≡ None = is in cc (gone, there)
front (x ∷ xs) ys found is there = sym is

behind : {B : Type 0} (xs ys : List B) (found : Option B) → found ≡ first_of xs → is_some found ≡ false → first_of (xs ++ ys) ≡ first_of ys
behind [] ys found is gone = refl
behind (x ∷ xs) ys found is gone = let there : found ≡ Some x = is in cc (gone, there)

-- an entry that gives nothing
pub each_step : {A B : Type 0} (f : ℕ → A → List B) (xs : List A) (i k : ℕ) (x : A) (found total : Option B) → k < length xs → x ≡ get_or xs k x
    → found ≡ first_of (f i x) → is_some found ≡ false → first_of (each f i (drop k xs)) ≡ total → first_of (each f (i + 1) (drop (k + 1) xs)) ≡ total
each_step f xs i k x found total lt at is gone so_far =
    sym (behind (f i x) (each f (i + 1) (drop (k + 1) xs)) found is gone) ∙ ap (λ ys. first_of (each f i ys)) (sym (cut_at xs k x lt at)) ∙ so_far

-- one that gives the first
pub each_here : {A B : Type 0} (f : ℕ → A → List B) (xs : List A) (i k : ℕ) (x : A) (found total : Option B) → k < length xs → x ≡ get_or xs k x
    → found ≡ first_of (f i x) → is_some found ≡ true → first_of (each f i (drop k xs)) ≡ total → found ≡ total
each_here f xs i k x found total lt at is there so_far =
    sym (front (f i x) (each f (i + 1) (drop (k + 1) xs)) found is there) ∙ ap (λ ys. first_of (each f i ys)) (sym (cut_at xs k x lt at)) ∙ so_far
