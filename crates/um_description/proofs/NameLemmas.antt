-- Numbers of names in lists.
use Rattle.std.proofs.Common.{◌≡◌, ℕ, ◌+◌, ◌<◌, ◌≤◌, true, false, List, [], ◌∷◌, map, length, get_or, drop, bytes_eq, Option, Some, None, is_some, refl, sym, ap, ◌∙◌, arith}
use Rattle.std.specs.Prelude.{option_map}
use Rattle.std.proofs.lemmas.List.{drop_all}
use Rattle.um_description.specs.Names.{Text, named, is_among}
use Rattle.um_description.proofs.EachLemmas.{cut_at}

option_map_add : (n : ℕ) (o : Option ℕ) → option_map (λ k. n + k) (option_map (λ i. i + 1) o) ≡ option_map (λ k. n + 1 + k) o
option_map_add n None = refl
option_map_add n (Some k) = ap Some (omega arith)

option_map_none : (o : Option ℕ) → option_map (λ k. 0 + k) o ≡ o
option_map_none None = refl
option_map_none (Some k) = ap Some (omega arith)

-- the number of the entry with this name among those from the i-th on
pub named_from : {A : Type 0} → (A → Text) → List A → Text → ℕ → Option ℕ
named_from f xs text i = option_map (λ k. i + k) (named (map f (drop i xs)) text)

pub named_start : {A : Type 0} (f : A → Text) (xs : List A) (text : Text) → named (map f xs) text ≡ named_from f xs text 0
unfolding named_from
named_start f xs text = sym (option_map_none (named (map f xs) text))

pub named_here : {A : Type 0} (f : A → Text) (xs : List A) (text : Text) (i : ℕ) (x : A) → i < length xs → x ≡ get_or xs i x → bytes_eq text (f x) ≡ true
    → named_from f xs text i ≡ Some i
unfolding named_from
named_here f xs text i x lt at is = rw (cut_at xs i x lt at, is) (ap Some (omega arith))

pub named_step : {A : Type 0} (f : A → Text) (xs : List A) (text : Text) (i : ℕ) (x : A) → i < length xs → x ≡ get_or xs i x → bytes_eq text (f x) ≡ false
    → named_from f xs text i ≡ named_from f xs text (i + 1)
unfolding named_from
named_step f xs text i x lt at is = rw (cut_at xs i x lt at, is) (option_map_add i (named (map f (drop (i + 1) xs)) text))

pub named_end : {A : Type 0} (f : A → Text) (xs : List A) (text : Text) (i : ℕ) → length xs ≤ i → named_from f xs text i ≡ None
unfolding named_from
named_end f xs text i past = ap (λ ys. option_map (λ k. i + k) (named (map f ys) text)) (drop_all i xs past)

next_is_some : (o : Option ℕ) → is_some (option_map (λ i. i + 1) o) ≡ is_some o
next_is_some None = refl
next_is_some (Some i) = refl

-- a text is a name exactly where it has a number
pub is_some_named : (names : List Text) (text : Text) → is_some (named names text) ≡ is_among text names
is_some_named [] text = refl
is_some_named (name ∷ names) text =
    elim (bytes_eq text name) as (λ b. bytes_eq text name ≡ b → is_some (named (name ∷ names) text) ≡ is_among text (name ∷ names)) [
      | true ↦ λ is. rw is refl
      | false ↦ λ is. rw is (next_is_some (named names text) ∙ is_some_named names text)
    ] refl
