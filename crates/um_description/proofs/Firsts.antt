-- The first of two lists, one behind the other.
use Rattle.std.proofs.Common.{◌≡◌, ℕ, true, false, List, [], ◌∷◌, ◌++◌, map, Option, refl, sym, ap, ◌∙◌}
use Rattle.std.specs.Prelude.{filter}
use Rattle.std.specs.Option.{option_or}
use Rattle.um_document.specs.declared.description.Description.{Description}
use Rattle.um_document.specs.First.{first_of}
use Rattle.um_description.specs.Mentions.{Mention, is_stranger, strangers}

pub first_or : {A : Type 0} (xs ys : List A) → first_of (xs ++ ys) ≡ option_or (first_of xs) (first_of ys)
first_or [] ys = refl
first_or (x ∷ xs) ys = refl

-- what is found in the first list, or else in the second
pub or_two : {A : Type 0} (xs ys : List A) {a b r : Option A} → a ≡ first_of xs → b ≡ first_of ys → r ≡ option_or a b → r ≡ first_of (xs ++ ys)
or_two xs ys is_a is_b is = is ∙ rw (is_a, is_b) (sym (first_or xs ys))

strangers_append : (d : Description) (xs ys : List Mention) → strangers d (xs ++ ys) ≡ strangers d xs ++ strangers d ys
unfolding strangers
strangers_append d [] ys = refl
strangers_append d (x ∷ xs) ys =
    elim (is_stranger d x) as (λ b. is_stranger d x ≡ b → map (λ (m : Mention). m.at) (filter (is_stranger d) ((x ∷ xs) ++ ys)) ≡ map (λ (m : Mention). m.at) (filter (is_stranger d) (x ∷ xs)) ++ map (λ (m : Mention). m.at) (filter (is_stranger d) ys)) [
      | true ↦ λ is. rw is (ap (λ (r : List ℕ). x.at ∷ r) (strangers_append d xs ys))
      | false ↦ λ is. rw is (strangers_append d xs ys)
    ] refl

-- the first stranger of some names, or else of others
pub or_strangers : (d : Description) (xs ys : List Mention) {a b r : Option ℕ} → a ≡ first_of (strangers d xs) → b ≡ first_of (strangers d ys) → r ≡ option_or a b → r ≡ first_of (strangers d (xs ++ ys))
or_strangers d xs ys is_a is_b is = or_two (strangers d xs) (strangers d ys) is_a is_b is ∙ ap (first_of {A = ℕ}) (sym (strangers_append d xs ys))

pub strangers_none : (d : Description) → strangers d [] ≡ []
unfolding strangers
strangers_none d = refl
