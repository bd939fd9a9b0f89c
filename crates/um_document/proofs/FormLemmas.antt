-- The first of lists of faults, and texts beside the documents that they are.
use Rattle.std.proofs.Common.{◌≡◌, ℕ, true, false, List, [], ◌∷◌, ◌++◌, map, Some, None, option_map, Result, Ok, Err, refl, inr}
use Rattle.std.specs.Prelude.{filter}
use Rattle.toml.specs.Data.{Members}
use Rattle.um_document.specs.declared.check.Check.{Check}
use Rattle.um_document.specs.declared.description.Description.{Description}
use Rattle.um_document.specs.declared.fault.ImageFault.{ImageFault}
use Rattle.um_document.specs.declared.place.Place.{Place}
use Rattle.um_document.specs.Broken.{is_broken}
use Rattle.um_document.specs.Faults.{IsFirst, Describes, ReadsDocument, IsDocument}
use Rattle.um_document.specs.First.{first_of, first_place}
use Rattle.um_document.specs.Parts.{Part}
use Rattle.um_document.specs.Places.{place_text}

pub first_map : {A B : Type 0} (f : A → B) (xs : List A) → first_of (map f xs) ≡ option_map f (first_of xs)
first_map f [] = refl
first_map f (x ∷ xs) = refl

-- what has no first is empty
pub no_first : {A : Type 0} (xs : List A) → None ≡ first_of xs → xs ≡ []
no_first [] h = refl
no_first (x ∷ xs) h = cc

-- the first of what is told of broken parts is told of the first of them
pub first_told : (f : List ℕ → ImageFault) (check : Check) (ps : List Part)
    → first_of (map f (map (λ (p : Part). place_text p.place) (filter (is_broken check) ps))) ≡ option_map (λ (place : Place). f (place_text place)) (first_place check ps)
first_told f check [] = refl
first_told f check (p ∷ ps) =
    elim (is_broken check p) as (λ b. is_broken check p ≡ b
    → first_of (map f (map (λ (p : Part). place_text p.place) (filter (is_broken check) (p ∷ ps)))) ≡ option_map (λ (place : Place). f (place_text place)) (first_place check (p ∷ ps))) [
      | true ↦ λ is. rw is refl
      | false ↦ λ is. rw is (first_told f check ps)
    ] refl

-- the first of a list is the first of it and another behind it
pub in_front : (e : ImageFault) (xs ys : List ImageFault) → IsFirst e xs → IsFirst e (xs ++ ys)
in_front e [] ys h = λ other. absurd (none_some (h other))
  where
    none_some : None ≡ Some e → ⊥
    none_some is = cc
in_front e (x ∷ xs) ys h = h

-- what a document describes, and so does its text
pub of_text : (r : Result Description ImageFault) (text : List ℕ) (t : Members) → IsDocument text t → Describes r t → ReadsDocument r text
of_text (Ok d) text t is h = (t, is, h.0, h.1)
of_text (Err e) text t is h = λ other. inr (t, is, h other)
