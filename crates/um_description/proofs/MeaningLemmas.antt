-- What is told of an image is the first of its flaws.
use Rattle.std.proofs.Common.{◌≡◌, ℕ, ◌≤◌, ◌<◌, Bool, true, false, refl, ap, ◌∙◌, arith, sum, List, [], ◌∷◌, ◌++◌, Option, Some, None, Ok, if◌then◌else◌}
use Rattle.std.specs.Prelude.{nat_lt, IfSome, IfNone}
use Rattle.std.proofs.lemmas.Bool.Decides.{nat_tests}
use Rattle.um_base.specs.declared.image.Image.{Image}
use Rattle.um_base.specs.declared.names.Range.{Range}
use Rattle.um_base.specs.declared.limits.TheConstants.{AREA_SIZE, MOST_WEIGHT, PARTITION_AREA, STACK_AREA}
use Rattle.um_base.specs.Weight.{weight}
use Rattle.um_document.specs.declared.description.Description.{Description}
use Rattle.um_description.specs.declared.flaw.Flaw.{Flaw}
use Rattle.um_description.specs.Flaws.{too_large, image_flaws, meaning_by}
use Rattle.um_description.specs.Resolve.{image_of, image_in, placed, partition_sizes, stack_sizes}
use Rattle.um_description.proofs.SameWeight.{weight_same}
use Rattle.um_description.specs.Told.{told}

-- bytes that an area has, or too few of
pub record Needs (need : Option ℕ) (bytes : ℕ) : Type 0 where
  pub fits : IfNone need (bytes ≤ AREA_SIZE)
  pub full : IfSome need (λ n. (n ≡ bytes) × (AREA_SIZE < n))

none_large : (stacks : Bool) (bytes : ℕ) → bytes ≤ AREA_SIZE → too_large stacks bytes ≡ []
none_large stacks bytes h = let no : nat_lt AREA_SIZE bytes ≡ false = grind (arith, nat_tests) in rw no refl

one_large : (stacks : Bool) (n bytes : ℕ) → n ≡ bytes → AREA_SIZE < n → too_large stacks bytes ≡ Flaw.Layout stacks n AREA_SIZE ∷ []
one_large stacks n bytes e h = let yes : nat_lt AREA_SIZE bytes ≡ true = grind (arith, nat_tests) in rw (yes, e) refl

by_parts : (d : Description) (image : Image) (heavy : Bool) (p s : Option ℕ) (m n : ℕ) → Needs p m → Needs s n
    → (p ≡ None → s ≡ None → image ≡ image_of d)
    → told heavy p s image ≡ meaning_by d ((if heavy then Flaw.Weight ∷ [] else []) ++ too_large false m ++ too_large true n)
by_parts d image true p s m n hp hs same = refl
by_parts d image false (Some need) s m n hp hs same = rw (one_large false need m hp.full.0 hp.full.1) refl
by_parts d image false None (Some need) m n hp hs same = rw (none_large false m hp.fits, one_large true need n hs.full.0 hs.full.1) refl
by_parts d image false None None m n hp hs same = rw (none_large false m hp.fits, none_large true n hs.fits) (ap Ok (same refl refl))

none_gives : {X : Type 0} (o : Option ℕ) → IfNone o X → o ≡ None → X
none_gives None x e = x
none_gives (Some n) x e = cc

from_none : {X Y : Type 0} (o : Option ℕ) → (X → Y) → IfNone o X → IfNone o Y
from_none None f x = f x
from_none (Some n) f x = tt

-- the weight of an image is that of the description's, in whatever ranges it stands
heavy_same : (d : Description) (image : Image) (heavy : Bool) (p s : List Range) → heavy ≡ nat_lt MOST_WEIGHT (weight image) → image ≡ image_in d p s
    → heavy ≡ nat_lt MOST_WEIGHT (weight (image_of d))
heavy_same d image heavy p s e same =
    e ∙ ap (λ (i : Image). nat_lt MOST_WEIGHT (weight i)) same
    ∙ ap (nat_lt MOST_WEIGHT) (weight_same d p s (placed d.mpu PARTITION_AREA (partition_sizes d)) (placed d.mpu STACK_AREA (stack_sizes d)))

pub whole : (d : Description) (image : Image) (heavy : Bool) (p s : Option ℕ) (ps ss : List Range)
    → heavy ≡ nat_lt MOST_WEIGHT (weight image) → image ≡ image_in d ps ss
    → IfNone p ((ps ≡ placed d.mpu PARTITION_AREA (partition_sizes d)) × (sum (partition_sizes d) ≤ AREA_SIZE))
    → IfSome p (λ n. (n ≡ sum (partition_sizes d)) × (AREA_SIZE < n))
    → IfNone s ((ss ≡ placed d.mpu STACK_AREA (stack_sizes d)) × (sum (stack_sizes d) ≤ AREA_SIZE))
    → IfSome s (λ n. (n ≡ sum (stack_sizes d)) × (AREA_SIZE < n))
    → told heavy p s image ≡ meaning_by d (image_flaws d)
whole d image heavy p s ps ss h i pfits pfull sfits sfull =
    by_parts d image heavy p s (sum (partition_sizes d)) (sum (stack_sizes d))
    (record { fits = from_none p (λ x. x.1) pfits; full = pfull })
    (record { fits = from_none s (λ x. x.1) sfits; full = sfull })
    (λ pe se. i ∙ ap (λ (rs : List Range). image_in d rs ss) (none_gives p pfits pe).0 ∙ ap (λ (rs : List Range). image_in d (placed d.mpu PARTITION_AREA (partition_sizes d)) rs) (none_gives s sfits se).0)
    ∙ ap (λ (b : Bool). meaning_by d ((if b then Flaw.Weight ∷ [] else []) ++ too_large false (sum (partition_sizes d)) ++ too_large true (sum (stack_sizes d)))) (heavy_same d image heavy ps ss h i)
